-- Which refusal of a comparison is met where, in their order; and what is known where none is.
use mathlib.Core.Path.{◌≡◌, refl, ap}
use mathlib.Core.Bool.{Bool, true, false, ◌&&◌}
use mathlib.Core.List.{List}
use mathlib.Core.Logic.{◌⊎◌, inl, inr}
use Prim.Native.Nat.{ℕ, ◌*◌, ◌≤◌, ◌<◌}
use native.Mathlib.Omega.{arith}
use borrow.Author.Tests.{eq-eqb, ne_eqb, eqb-true, le-leb, lt-leb, leb-true}
use lib.Dec.{eqb, leb}
use Rattle.std.specs.Prelude.{Result, Ok, Err, MatchResult, IsErrAnd, IfOk}
use Rattle.el.specs.Lists.{pick}
use Rattle.el.proofs.Tests.{and_left, and_right}
use Rattle.marks.specs.Memory.{size}
use Rattle.release.specs.Files.{most_names, most_roles}
use Rattle.release.proofs.Limits.{limits}
use Rattle.release.specs.Refusals.{Numbers, file_refusal, told, answer}
use Rattle.release.proofs.Refusing.{is_refused, is_accepted}
use Rattle.release.specs.Tables.{Release, ReleaseRead}
use Rattle.release.specs.declared.Counts.{Counts}
use Rattle.release.specs.declared.refusals.FileRefusal.{FileRefusal}
use Rattle.release.specs.declared.table.Table.{Table}
use Rattle.release.proofs.Checks.{is_release}
use Rattle.signature.specs.Bytes.{signature_fault}
use Rattle.meanings.specs.declared.Compared.{Compared}
use Rattle.meanings.specs.declared.refusals.CompareRefusal.{CompareRefusal}
use Rattle.meanings.specs.declared.refusals.CompareRefusal.TheVariants.{First, Second, DifferentCounts}
use Rattle.meanings.specs.Comparing.{work_length, refused, same_counts, agreed, lent}
use Rattle.meanings.specs.Reading.{BothRead}
use Rattle.meanings.specs.Refusals.{compare_refusal}

pub work_length_lem : (n q : ℕ) → q ≡ 4 * size n → q ≡ work_length n
unfolding size
work_length_lem n q e = rw e

-- what is told of a value is told of that value alone
pub told_value : {A E : Type 0} (f : E → Numbers) (r : Result A E) (a : A) → told f r ≡ Ok a → r ≡ Ok a
told_value f (Ok b) a h = cc
told_value f (Err e) a h = absurd (cc)

-- what was a refusal before `map_err` put it into one of its own, and what a value
pub mapped_refusal : {A E D : Type 0} (wrap : E → D) (r : Result A E) {d : D}
    → MatchResult r (λ x. ◌≡◌ {A = Result A D} (Err d) (Ok x)) (λ e. IsErrAnd {T = A} (Err d) (λ z. z ≡ wrap e))
    → (e : E) × (r ≡ Err e) × (d ≡ wrap e)
mapped_refusal wrap (Ok x) h = absurd (cc)
mapped_refusal wrap (Err e) h = (e, refl, h)

pub mapped_value : {A E D : Type 0} (wrap : E → D) (r : Result A E) {a : A}
    → MatchResult r (λ x. ◌≡◌ {A = Result A D} (Ok a) (Ok x)) (λ e. IsErrAnd {T = A} {E = D} (Ok a) (λ z. z ≡ wrap e)) → r ≡ Ok a
mapped_value wrap (Ok x) h = cc
mapped_value wrap (Err e) h = absurd h

-- accepted counts are the same in both releases
pub record SameCounts (a b : Counts) (c : Compared) : Type 0 where
  pub names : a.names ≡ b.names
  pub roles : a.roles ≡ b.roles
  pub counts_names : a.names ≡ c.names
  pub counts_roles : a.roles ≡ c.roles

pub same_counts_lem : (a b : Counts) (c : Compared) → same_counts a b ≡ Ok c → SameCounts a b c
unfolding same_counts
same_counts_lem a b c h = by_test (eqb a.names b.names && eqb a.roles b.roles) refl h
  where
    by_test : (p : Bool) → (eqb a.names b.names && eqb a.roles b.roles) ≡ p → pick p (Ok (record { names = a.names; roles = a.roles })) (refused 16 0) ≡ Ok c → SameCounts a b c
    by_test false e z = absurd (cc)
    by_test true e z =
        let y : record { names = a.names; roles = a.roles } ≡ c = cc in
        record {
          names = eqb-true _ _ (and_left (eqb a.names b.names) _ e);
          roles = eqb-true _ _ (and_right (eqb a.names b.names) _ e);
          counts_names = ap (λ (k : Compared). k.names) y;
          counts_roles = ap (λ (k : Compared). k.roles) y;
        }

-- what two releases share, by what checking each answers
module _ {one : Result Counts FileRefusal} (two : Result Counts FileRefusal) where
  pub first_refused : {e : FileRefusal} → one ≡ Err e → Err (compare_refusal (First e)) ≡ agreed (told file_refusal one) (told file_refusal two)
  unfolding agreed
  first_refused is = rw is refl

module _ {one two : Result Counts FileRefusal} where
  module _ {x : Counts} (read : one ≡ Ok x) where
    pub second_refused : {e : FileRefusal} → two ≡ Err e → Err (compare_refusal (Second e)) ≡ agreed (told file_refusal one) (told file_refusal two)
    unfolding agreed
    second_refused is = rw (read, is) refl

    module _ {y : Counts} (also : two ≡ Ok y) where
      pub differ : (x.names ≡ y.names → ⊥) ⊎ ((x.names ≡ y.names) × (x.roles ≡ y.roles → ⊥)) → Err (compare_refusal DifferentCounts) ≡ agreed (told file_refusal one) (told file_refusal two)
      unfolding agreed same_counts
      differ (inl d) = rw (read, also, agreed) (simp (same_counts, ne_eqb _ _ d))
      differ (inr (n, d)) = rw (read, also, agreed) (simp (same_counts, eq-eqb _ _ n, ne_eqb _ _ d))

      pub counts_same : x.names ≡ y.names → x.roles ≡ y.roles → Ok (record { names = x.names; roles = x.roles }) ≡ agreed (told file_refusal one) (told file_refusal two)
      unfolding agreed same_counts
      counts_same n m = rw (read, also, agreed) (simp (same_counts, eq-eqb _ _ n, eq-eqb _ _ m))

-- releases that were read: accepted ones are small, and where the two share their counts, both are accepted
pub limited : {s : List ℕ} {a : Table} (r : Result Counts FileRefusal) → ReleaseRead s a r → IfOk r (λ c. (c.names ≤ most_names) × (c.roles ≤ most_roles))
limited {s} (Ok x) read = limits s x read.answer
limited (Err e) read = tt

pub both_read : {s t : List ℕ} {a b : Table} {one two : Result Counts FileRefusal} {r : Result Compared CompareRefusal} → ReleaseRead s a one → ReleaseRead t b two
    → told compare_refusal r ≡ agreed (told file_refusal one) (told file_refusal two) → BothRead s t a b r
unfolding agreed
both_read {s} {t} {a} {b} {one} {two} {r} first second is = record {
  answer = rw (← first.answer, ← second.answer) is;
  first = λ {c} e. accepted_first one two (rw e at is) first;
  second = λ {c} e. accepted_second one two (rw e at is) second;
}
  where
    accepted_first : (x y : Result Counts FileRefusal) {c : Compared} → Ok c ≡ agreed (told file_refusal x) (told file_refusal y) → ReleaseRead s a x → Release s a
    accepted_first (Ok x) y e read = is_release read
    accepted_first (Err x) y e read = absurd (cc)

    accepted_second : (x y : Result Counts FileRefusal) {c : Compared} → Ok c ≡ agreed (told file_refusal x) (told file_refusal y) → ReleaseRead t b y → Release t b
    accepted_second x (Ok y) e read = is_release read
    accepted_second (Ok x) (Err y) e read = absurd (cc)
    accepted_second (Err x) (Err y) e read = absurd (cc)

-- what is lent, where it is refused and where it is enough
pub record LentEnough (g : List ℕ) (o p w : ℕ) (c : Compared) : Type 0 where
  pub signature : signature_fault c.names c.roles g ≡ 0
  pub result : c.names ≤ o
  pub role_result : c.roles * c.roles ≤ p
  pub work : work_length c.names ≤ w

pub lent_enough : (g : List ℕ) (o p w : ℕ) (d c : Compared) → lent g o p w d ≡ Ok c → (d ≡ c) × LentEnough g o p w d
unfolding lent
lent_enough g o p w d c h =
    by_tests (eqb (signature_fault d.names d.roles g) 0) (leb d.names o) (leb (d.roles * d.roles) p) (leb (work_length d.names) w) refl refl refl refl h
  where
    by_tests : (q u x v : Bool) → eqb (signature_fault d.names d.roles g) 0 ≡ q → leb d.names o ≡ u → leb (d.roles * d.roles) p ≡ x → leb (work_length d.names) w ≡ v
        → pick q (pick u (pick x (pick v (Ok d) (refused 32 0)) (refused 50 0)) (refused 31 0)) (refused (signature_fault d.names d.roles g) 0) ≡ Ok c
        → (d ≡ c) × LentEnough g o p w d
    by_tests false u x v f i k j z = absurd (cc)
    by_tests true false x v f i k j z = absurd (cc)
    by_tests true true false v f i k j z = absurd (cc)
    by_tests true true true false f i k j z = absurd (cc)
    by_tests true true true true f i k j z =
        let y : d ≡ c = cc in (y, record { signature = eqb-true _ _ f; result = leb-true _ _ i; role_result = leb-true _ _ k; work = leb-true _ _ j })

-- the signature's test, of numbers that are those of the counts
pub signature_accepted : {n m names roles : ℕ} (g : List ℕ) → names ≡ n → roles ≡ m → Ok (tt {0}) ≡ answer 0 (signature_fault names roles g) (tt {0}) → signature_fault n m g ≡ 0
signature_accepted {names = names} {roles = roles} g e f h = rw (e, f) at (is_accepted 0 (signature_fault names roles g) (tt {0}) (tt {0}) h).0

module _ (g : List ℕ) (o p w : ℕ) (c : Compared) where
  pub signature_refused : {names roles : ℕ} (n : Numbers) → names ≡ c.names → roles ≡ c.roles → Err n ≡ answer 0 (signature_fault names roles g) (tt {0}) → Err n ≡ lent g o p w c
  unfolding lent
  signature_refused n e f h =
      let r = is_refused 0 (signature_fault c.names c.roles g) (tt {0}) n (rw (e, f) at h) in
      rw r.0 (simp (lent, ne_eqb (signature_fault c.names c.roles g) 0 (λ z. omega (arith, r.1))))

  module _ (none : signature_fault c.names c.roles g ≡ 0) where
    pub result_short : o < c.names → refused 31 0 ≡ lent g o p w c
    unfolding lent
    result_short l = simp (lent, none, lt-leb _ _ l)

    pub role_result_short : c.names ≤ o → p < c.roles * c.roles → refused 50 0 ≡ lent g o p w c
    unfolding lent
    role_result_short long l = simp (lent, none, le-leb _ _ long, lt-leb _ _ l)

    pub work_short : c.names ≤ o → c.roles * c.roles ≤ p → w < work_length c.names → refused 32 0 ≡ lent g o p w c
    unfolding lent
    work_short long squares l = simp (lent, none, le-leb _ _ long, le-leb _ _ squares, lt-leb _ _ l)

    pub accepted : c.names ≤ o → c.roles * c.roles ≤ p → work_length c.names ≤ w → Ok c ≡ lent g o p w c
    unfolding lent
    accepted long squares l = simp (lent, none, le-leb _ _ long, le-leb _ _ squares, le-leb _ _ l)
