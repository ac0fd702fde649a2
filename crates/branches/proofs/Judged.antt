-- Which refusal of a sheet is met where, in their order; and what is known where none is.
use mathlib.Core.Path.{◌≡◌, refl}
use mathlib.Core.Bool.{Bool, true, false}
use mathlib.Core.List.{List}
use Prim.Native.Nat.{ℕ, ◌+◌, ◌*◌, ◌≤◌, ◌<◌}
use native.Mathlib.Omega.{arith}
use borrow.Author.Tests.{ne_eqb, le-leb, lt-leb, eqb-true, leb-true}
use lib.Dec.{eqb, leb}
use Rattle.std.specs.Prelude.{Ok, Err}
use Rattle.el.specs.Lists.{pick}
use Rattle.release.specs.Readings.{checked}
use Rattle.release.specs.Refusals.{Numbers, answer}
use Rattle.release.proofs.Refusing.{is_refused}
use Rattle.signature.specs.Bytes.{signature_fault}
use Rattle.meanings.specs.declared.Compared.{Compared}
use Rattle.meanings.specs.Comparing.{work_length, refused, agreed}
use Rattle.meanings.proofs.Judging.{signature_accepted}
use Rattle.meanings.proofs.Promise.{Agree, agree, split}
use Rattle.branches.specs.Shares.{is_rule}
use Rattle.branches.specs.Sheets.{most_branches, lent_sheet, ruled_sheet, judged, sheet}

-- no condition of a refusal holds
pub record Enough (gs : List ℕ) (q rule rows w : ℕ) (c : Compared) : Type 0 where
  pub ruled : is_rule rule ≡ true
  pub few : q ≤ most_branches
  pub signatures : signature_fault (q * (c.names + c.roles)) 0 gs ≡ 0
  pub rows_lent : q ≤ rows
  pub work : work_length c.names ≤ w

pub enough : {rule : ℕ} (gs : List ℕ) (q rows w : ℕ) (d c : Compared) → is_rule rule ≡ true → lent_sheet gs q rows w d ≡ Ok c → (d ≡ c) × Enough gs q rule rows w d
unfolding lent_sheet
enough {rule} gs q rows w d c ruled h = by_tests (leb q most_branches) (eqb (signature_fault (q * (d.names + d.roles)) 0 gs) 0) (leb q rows) (leb (work_length d.names) w) refl refl refl refl h
  where
    by_tests : (x y z u : Bool) → leb q most_branches ≡ x → eqb (signature_fault (q * (d.names + d.roles)) 0 gs) 0 ≡ y → leb q rows ≡ z → leb (work_length d.names) w ≡ u
        → pick x (pick y (pick z (pick u (Ok d) (refused 32 0)) (refused 43 0)) (refused (signature_fault (q * (d.names + d.roles)) 0 gs) 0)) (refused 42 0) ≡ Ok c
        → (d ≡ c) × Enough gs q rule rows w d
    by_tests false y z u e f i j k = absurd (cc)
    by_tests true false z u e f i j k = absurd (cc)
    by_tests true true false u e f i j k = absurd (cc)
    by_tests true true true false e f i j k = absurd (cc)
    by_tests true true true true e f i j k =
        let same : d ≡ c = cc in
        (same, record { ruled = ruled; few = leb-true _ _ e; signatures = eqb-true _ _ f; rows_lent = leb-true _ _ i; work = leb-true _ _ j })

-- what is known of an accepted sheet
ruled_enough : (gs : List ℕ) (q rule rows w : ℕ) (d c : Compared) → ruled_sheet gs q rule rows w d ≡ Ok c → (d ≡ c) × Enough gs q rule rows w d
unfolding ruled_sheet
ruled_enough gs q rule rows w d c h = by_rule (is_rule rule) refl h
  where
    by_rule : (x : Bool) → is_rule rule ≡ x → pick x (lent_sheet gs q rows w d) (refused 53 0) ≡ Ok c → (d ≡ c) × Enough gs q rule rows w d
    by_rule false e k = absurd (cc)
    by_rule true e k = enough gs q rows w d c e k

pub known : {s t gs : List ℕ} {q rule rows w : ℕ} {c : Compared} → sheet s t gs q rule rows w ≡ Ok c → Agree s t c × Enough gs q rule rows w c
unfolding judged
known {s} {t} {gs} {q} {rule} {rows} {w} {c} h =
    let z = split (agreed (checked s) (checked t)) h in
    let e = ruled_enough gs q rule rows w z.0 c z.2 in
    rw (← e.0) (agree s t z.0 z.1, e.1)

-- the signatures' test, of numbers that are those of the counts
pub signatures_accepted : {n m names roles : ℕ} (gs : List ℕ) (q : ℕ) → names ≡ n → roles ≡ m → Ok (tt {0}) ≡ answer 0 (signature_fault (q * (names + roles)) 0 gs) (tt {0})
    → signature_fault (q * (n + m)) 0 gs ≡ 0
signatures_accepted gs q e f h = signature_accepted gs (rw (e, f) refl) refl h

-- the refusals
module _ (gs : List ℕ) (q rows w : ℕ) (c : Compared) where
  pub many_branches : most_branches < q → refused 42 0 ≡ lent_sheet gs q rows w c
  unfolding lent_sheet
  many_branches l = simp (lent_sheet, lt-leb _ _ l)

  module _ (few : q ≤ most_branches) where
    pub signatures_refused : {names roles : ℕ} (n : Numbers) → names ≡ c.names → roles ≡ c.roles → Err n ≡ answer 0 (signature_fault (q * (names + roles)) 0 gs) (tt {0})
        → Err n ≡ lent_sheet gs q rows w c
    unfolding lent_sheet
    signatures_refused n e f h =
        let r = is_refused 0 (signature_fault (q * (c.names + c.roles)) 0 gs) (tt {0}) n (rw (e, f) at h) in
        rw r.0 (simp (lent_sheet, le-leb _ _ few, ne_eqb (signature_fault (q * (c.names + c.roles)) 0 gs) 0 (λ z. omega (arith, r.1))))

    module _ (none : signature_fault (q * (c.names + c.roles)) 0 gs ≡ 0) where
      pub few_rows : rows < q → refused 43 0 ≡ lent_sheet gs q rows w c
      unfolding lent_sheet
      few_rows l = simp (lent_sheet, le-leb _ _ few, none, lt-leb _ _ l)

      pub work_short : q ≤ rows → w < work_length c.names → refused 32 0 ≡ lent_sheet gs q rows w c
      unfolding lent_sheet
      work_short lends l = simp (lent_sheet, le-leb _ _ few, none, le-leb _ _ lends, lt-leb _ _ l)

      pub accepted : q ≤ rows → work_length c.names ≤ w → Ok c ≡ lent_sheet gs q rows w c
      unfolding lent_sheet
      accepted lends l = simp (lent_sheet, le-leb _ _ few, none, le-leb _ _ lends, le-leb _ _ l)
