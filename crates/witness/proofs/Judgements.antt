-- Which refusal of both calls is met where, in their order; and what is known where none is.
--   check_short, long_enough, by_division    what memory a check needs, told without a product that could be large
--   square_small, cube_small                 the station's rows are few
--   CheckLent, ShowLent                      what is lent where nothing is refused
--   show_known                               what is known then
--   check_again                              what was shown can be checked, with memory for its rows
use mathlib.Core.Path.{◌≡◌, refl, sym, ap, ◌∙◌}
use mathlib.Core.Bool.{Bool, true, false}
use mathlib.Core.Logic.{◌↔◌}
use mathlib.Core.List.{List}
use Prim.Native.Nat.{ℕ, suc, ◌+◌, ◌-◌, ◌*◌, ◌/◌, ◌≤◌, ◌<◌}
use native.Mathlib.Omega.{arith}
use native.Mathlib.Nat.{div-lt_iff_lt-mul, mul_comm, mul-le-mul}
use native.Mathlib.Numerals.{add-one}
use native.Mathlib.Decide.{dec_lt}
use borrow.Author.Tests.{ne_eqb, eqb-true, le-leb, lt-leb, lt-ltb, le-ltb, leb-true, ltb-true, ltb-false}
use lib.Dec.{eqb, ltb, leb}
use Rattle.std.specs.Prelude.{Ok, Err}
use Rattle.el.specs.Lists.{pick}
use Rattle.release.specs.Files.{most_names}
use Rattle.release.specs.Readings.{checked}
use Rattle.release.specs.Refusals.{Numbers, answer}
use Rattle.release.proofs.Refusing.{is_refused}
use Rattle.signature.specs.Bytes.{signature_fault}
use Rattle.marks.specs.Memory.{size}
use Rattle.meanings.specs.declared.Compared.{Compared}
use Rattle.meanings.specs.Comparing.{work_length, refused, agreed}
use Rattle.meanings.proofs.Judging.{work_length_lem}
use Rattle.meanings.proofs.Promise.{Agree, agree, split}
use Rattle.concept_rows.specs.Lent.{rows_needed}
use Rattle.witness.specs.Lent.{check_length, most_rows_needed}
use Rattle.witness.specs.Showing.{lent_to_show, judged_to_show, showing}
use Rattle.witness.specs.Checking.{lent_to_check, judged_to_check, checking}

-- memory that is shorter than a comparison needs is shorter than a check needs
pub check_short : (w n k : ℕ) → true ≡ ltb w (work_length n) → true ≡ ltb w (check_length n k)
unfolding check_length
check_short w n k short = let h : w < work_length n = ltb-true _ _ (sym short) in sym (lt-ltb w (work_length n + 2 * suc n * k) (omega arith))

module _ (w n k : ℕ) {q : ℕ} (is : q ≡ 4 * size n) (enough : false ≡ ltb w (work_length n)) where
  pub long_enough : q ≤ w
  long_enough = omega (arith, work_length_lem n q is, ltb-false w (work_length n) (sym enough))

  pub by_division : ltb ((w - q) / (2 * (n + 1))) k ≡ ltb w (check_length n k)
  unfolding check_length
  by_division = by_test (ltb ((w - q) / (2 * (n + 1))) k) refl (div-lt_iff_lt-mul {k = 2 * (n + 1)} {x = w - q} {y = k} (omega arith))
    where
      whole : q + k * (2 * (n + 1)) ≡ work_length n + 2 * suc n * k
      whole = rw (add-one n, mul_comm k (2 * suc n)) (ap (λ (z : ℕ). z + 2 * suc n * k) (work_length_lem n q is))

      by_test : (z : Bool) → ltb ((w - q) / (2 * (n + 1))) k ≡ z → ((w - q) / (2 * (n + 1)) < k) ↔ (w - q < k * (2 * (n + 1)))
          → ltb ((w - q) / (2 * (n + 1))) k ≡ ltb w (work_length n + 2 * suc n * k)
      by_test true e law = e ∙ sym (lt-ltb w (work_length n + 2 * suc n * k) (omega (arith, law.0 (ltb-true ((w - q) / (2 * (n + 1))) k e), long_enough, whole)))
      by_test false e law = e ∙ sym (le-ltb w (work_length n + 2 * suc n * k) (elim (dec_lt (w - q) (k * (2 * (n + 1)))) [
        | yes h ↦ absurd (omega (arith, law.1 h, ltb-false ((w - q) / (2 * (n + 1))) k e))
        | no h ↦ omega (arith, long_enough, whole)
      ]))

-- the station's rows
pub square_small : (n : ℕ) → n ≤ most_names → (n + 2) * (n + 2) ≤ 1050625
square_small n h = mul-le-mul {n₂ = 1025} {m₂ = 1025} (omega arith) (omega arith)

pub cube_small : (n : ℕ) → n ≤ most_names → (n + 2) * (n + 2) * (n + 2) ≤ most_rows_needed
cube_small n h = mul-le-mul {n₂ = 1050625} {m₂ = 1025} (square_small n h) (omega arith)

pub rows_few : (n : ℕ) → n ≤ most_names → rows_needed n ≤ most_rows_needed
unfolding rows_needed
rows_few n h = cube_small n h

-- the refusals of a check
module _ (g : List ℕ) (k w : ℕ) (c : Compared) where
  pub check_signature : {names roles : ℕ} (n : Numbers) → names ≡ c.names → roles ≡ c.roles → Err n ≡ answer 0 (signature_fault names roles g) (tt {0}) → Err n ≡ lent_to_check g k w c
  unfolding lent_to_check
  check_signature n e f h =
      let r = is_refused 0 (signature_fault c.names c.roles g) (tt {0}) n (rw (e, f) at h) in
      rw r.0 (simp (lent_to_check, ne_eqb (signature_fault c.names c.roles g) 0 (λ z. omega (arith, r.1))))

  module _ (none : signature_fault c.names c.roles g ≡ 0) where
    pub check_work : w < check_length c.names k → refused 32 0 ≡ lent_to_check g k w c
    unfolding lent_to_check
    check_work l = simp (lent_to_check, none, lt-leb _ _ l)

    pub check_accepted : check_length c.names k ≤ w → Ok c ≡ lent_to_check g k w c
    unfolding lent_to_check
    check_accepted l = simp (lent_to_check, none, le-leb _ _ l)

-- of the station
module _ (g : List ℕ) (k w : ℕ) (c : Compared) where
  pub show_signature : {names roles : ℕ} (n : Numbers) → names ≡ c.names → roles ≡ c.roles → Err n ≡ answer 0 (signature_fault names roles g) (tt {0}) → Err n ≡ lent_to_show g k w c
  unfolding lent_to_show
  show_signature n e f h =
      let r = is_refused 0 (signature_fault c.names c.roles g) (tt {0}) n (rw (e, f) at h) in
      rw r.0 (simp (lent_to_show, ne_eqb (signature_fault c.names c.roles g) 0 (λ z. omega (arith, r.1))))

  module _ (none : signature_fault c.names c.roles g ≡ 0) where
    pub show_work : w < work_length c.names → refused 32 0 ≡ lent_to_show g k w c
    unfolding lent_to_show
    show_work l = simp (lent_to_show, none, lt-leb _ _ l)

    module _ (enough : work_length c.names ≤ w) where
      pub show_rows : k < rows_needed c.names → refused 44 0 ≡ lent_to_show g k w c
      unfolding lent_to_show
      show_rows l = simp (lent_to_show, none, le-leb _ _ enough, lt-leb _ _ l)

      pub show_accepted : rows_needed c.names ≤ k → Ok c ≡ lent_to_show g k w c
      unfolding lent_to_show
      show_accepted l = simp (lent_to_show, none, le-leb _ _ enough, le-leb _ _ l)

-- what an accepted check has been lent
pub record CheckLent (g : List ℕ) (k w : ℕ) (c : Compared) : Type 0 where
  pub signature : signature_fault c.names c.roles g ≡ 0
  pub work : check_length c.names k ≤ w

pub check_lent : (g : List ℕ) (k w : ℕ) (d c : Compared) → lent_to_check g k w d ≡ Ok c → (d ≡ c) × CheckLent g k w d
unfolding lent_to_check
check_lent g k w d c h = by_tests (eqb (signature_fault d.names d.roles g) 0) (leb (check_length d.names k) w) refl refl h
  where
    by_tests : (q u : Bool) → eqb (signature_fault d.names d.roles g) 0 ≡ q → leb (check_length d.names k) w ≡ u
        → pick q (pick u (Ok d) (refused 32 0)) (refused (signature_fault d.names d.roles g) 0) ≡ Ok c → (d ≡ c) × CheckLent g k w d
    by_tests false u f i z = absurd (cc)
    by_tests true false f i z = absurd (cc)
    by_tests true true f i z = let y : d ≡ c = cc in (y, record { signature = eqb-true _ _ f; work = leb-true _ _ i })

-- what an accepted station's call has been lent
pub record ShowLent (g : List ℕ) (k w : ℕ) (c : Compared) : Type 0 where
  pub signature : signature_fault c.names c.roles g ≡ 0
  pub work : work_length c.names ≤ w
  pub rows : rows_needed c.names ≤ k

pub show_lent : (g : List ℕ) (k w : ℕ) (d c : Compared) → lent_to_show g k w d ≡ Ok c → (d ≡ c) × ShowLent g k w d
unfolding lent_to_show
show_lent g k w d c h = by_tests (eqb (signature_fault d.names d.roles g) 0) (leb (work_length d.names) w) (leb (rows_needed d.names) k) refl refl refl h
  where
    by_tests : (q u v : Bool) → eqb (signature_fault d.names d.roles g) 0 ≡ q → leb (work_length d.names) w ≡ u → leb (rows_needed d.names) k ≡ v
        → pick q (pick u (pick v (Ok d) (refused 44 0)) (refused 32 0)) (refused (signature_fault d.names d.roles g) 0) ≡ Ok c → (d ≡ c) × ShowLent g k w d
    by_tests false u v f i j z = absurd (cc)
    by_tests true false v f i j z = absurd (cc)
    by_tests true true false f i j z = absurd (cc)
    by_tests true true true f i j z = let y : d ≡ c = cc in (y, record { signature = eqb-true _ _ f; work = leb-true _ _ i; rows = leb-true _ _ j })

show_split : (s t g : List ℕ) (k w : ℕ) (c : Compared) → showing s t g k w ≡ Ok c → (agreed (checked s) (checked t) ≡ Ok c) × ShowLent g k w c
unfolding judged_to_show
show_split s t g k w c h =
    let z = split (agreed (checked s) (checked t)) h in
    let e = show_lent g k w z.0 c z.2 in
    rw (← e.0) (z.1, e.1)

pub show_known : (s t g : List ℕ) (k w : ℕ) (c : Compared) → showing s t g k w ≡ Ok c → Agree s t c × ShowLent g k w c
show_known s t g k w c h = let z = show_split s t g k w c h in (agree s t c z.0, z.1)

pub check_again : (s t g : List ℕ) (k w : ℕ) {c : Compared} → showing s t g k w ≡ Ok c → (j v : ℕ) → check_length c.names j ≤ v → checking s t g j v ≡ Ok c
unfolding judged_to_check lent_to_check
check_again s t g k w {c} e j v h =
    let z = show_split s t g k w c e in
    simp (judged_to_check, z.0, lent_to_check, z.1.signature, le-leb _ _ h)
