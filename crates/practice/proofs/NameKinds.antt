-- Kinds: each is below 5, and below 3 where there is no role; which have an axiom.
--   IsKind m kind      a kind that a name can draw where there are m roles
use mathlib.Core.Path.{◌≡◌, refl, sym, ap, ◌∙◌}
use mathlib.Core.Bool.{Bool, true, false, not, ◌&&◌, true≢false, false≢true}
use mathlib.Core.List.{[], ◌∷◌}
use Prim.Native.Nat.{ℕ, zero, suc, ◌+◌, ◌-◌, ◌≤◌, ◌<◌}
use native.Mathlib.Omega.{arith}
use borrow.Author.Tests.{leb-false, lt-ltb, ltb-true, ne_eqb}
use lib.Dec.{eqb, ltb, leb}
use lib.ListN.{length}
use Rattle.el.specs.Lists.{pick}
use Rattle.release.specs.Files.{joins, restricts}
use Rattle.release.specs.Kinds.{kind_number}
use Rattle.release.specs.declared.kinds.Kind.{Kind}
use Rattle.release.specs.declared.kinds.Kind.TheVariants.{PrimitiveConjunction, DefinedConjunction, PrimitiveRestriction, DefinedRestriction}
use Rattle.practice.specs.Draws.{next, drawn}
use Rattle.practice.specs.Practice.{kind_from, kinds, has_axiom}
use Rattle.practice.proofs.Choices.{drawn_below}

-- a kind is below 5, and needs a role from 3 on
pub record IsKind (m kind : ℕ) : Type 0 where
  pub below : kind < 5
  pub role : 3 ≤ kind → 0 < m

pub kind_is : (m s : ℕ) → IsKind m (kind_from m s)
unfolding kind_from
kind_is m s = by_tests (eqb m 0) (leb 3 (drawn s 5)) refl refl
  where
    by_tests : (a b : Bool) → eqb m 0 ≡ a → leb 3 (drawn s 5) ≡ b → IsKind m (kind_from m s)
    by_tests true true e f = rw (e, f, kind_from) (record { below = omega arith; role = λ h. absurd (omega arith) })
    by_tests true false e f = let l = leb-false 3 (drawn s 5) f in rw (e, f, kind_from) (record { below = omega arith; role = λ h. absurd (omega arith) })
    by_tests false b e f = rw (e, kind_from) (record { below = drawn_below s 5 (omega arith); role = λ h. some m e })
      where
        some : (k : ℕ) → eqb k 0 ≡ false → 0 < k
        some zero z = absurd (true≢false z)
        some (suc k) z = omega arith

-- a kind as the code reads it: from a number that it has, if any
module _ (m s : ℕ) where
  pub no_kind_drawn : joins (drawn s 5) ≡ false → restricts (drawn s 5) ≡ false → 0 ≡ kind_from m s
  unfolding kind_from
  no_kind_drawn j r = by_value (drawn s 5) (eqb m 0) (drawn_below s 5 (omega arith)) j r
    where
      by_value : (d : ℕ) (b : Bool) → d < 5 → joins d ≡ false → restricts d ≡ false → 0 ≡ pick (b && leb 3 d) 0 d
      by_value zero true h i k = refl
      by_value zero false h i k = refl
      by_value (suc zero) b h i k = absurd (true≢false i)
      by_value (suc (suc zero)) b h i k = absurd (true≢false i)
      by_value (suc (suc (suc zero))) b h i k = absurd (true≢false k)
      by_value (suc (suc (suc (suc zero)))) b h i k = absurd (true≢false k)
      by_value (suc (suc (suc (suc (suc d))))) b h i k = absurd (omega arith)

  pub no_role_for : (k : Kind) → kind_number k ≡ drawn s 5 → m ≡ 0 → restricts (kind_number k) ≡ true → 0 ≡ kind_from m s
  unfolding kind_from
  no_role_for k e none r = rw (none, ← e) (by_kind k r)
    where
      by_kind : (i : Kind) → restricts (kind_number i) ≡ true → 0 ≡ pick (leb 3 (kind_number i)) 0 (kind_number i)
      by_kind PrimitiveConjunction h = absurd (false≢true h)
      by_kind DefinedConjunction h = absurd (false≢true h)
      by_kind PrimitiveRestriction h = refl
      by_kind DefinedRestriction h = refl

  pub kind_kept : (k : Kind) → kind_number k ≡ drawn s 5 → (m ≡ 0 → restricts (kind_number k) ≡ false) → kind_number k ≡ kind_from m s
  unfolding kind_from
  kind_kept k e joined = rw (← e) (by_roles m k joined)
    where
      by_roles : (j : ℕ) (i : Kind) → (j ≡ 0 → restricts (kind_number i) ≡ false) → kind_number i ≡ pick (eqb j 0 && leb 3 (kind_number i)) 0 (kind_number i)
      by_roles zero PrimitiveConjunction h = refl
      by_roles zero DefinedConjunction h = refl
      by_roles zero PrimitiveRestriction h = absurd (true≢false (h refl))
      by_roles zero DefinedRestriction h = absurd (true≢false (h refl))
      by_roles (suc j) i h = rw (ne_eqb (suc j) 0 (λ z. omega arith)) refl

-- one kind and then those of the names left
pub kinds_more : (m n x s : ℕ) → x < n → kinds m (n - x) s ≡ kind_from m (next s) ∷ kinds m (n - (x + 1)) (next s)
unfolding kinds
kinds_more m n x s h = let more : n - x ≡ suc (n - (x + 1)) = omega arith in ap (λ (k : ℕ). kinds m k s) more

pub kinds_none : (m n x s : ℕ) → n ≤ x → kinds m (n - x) s ≡ []
unfolding kinds
kinds_none m n x s h = let none : n - x ≡ 0 = omega arith in rw none

pub kinds_length : (m k s : ℕ) → length (kinds m k s) ≡ k
unfolding kinds
kinds_length m zero s = refl
kinds_length m (suc k) s = ap suc (kinds_length m k (next s))

-- kinds that have an axiom
pub high_none : (size kind : ℕ) → 5 ≤ kind → has_axiom size kind ≡ false
unfolding has_axiom
high_none size kind h = simp (ne_eqb kind 1 (λ z. omega arith), ne_eqb kind 2 (λ z. omega arith), ne_eqb kind 3 (λ z. omega arith), ne_eqb kind 4 (λ z. omega arith))

pub restriction_has : (size : ℕ) (k : Kind) → restricts (kind_number k) ≡ true → has_axiom size (kind_number k) ≡ true
unfolding has_axiom
restriction_has size k r = rw r

some_size : (size : ℕ) → ltb 0 size ≡ not (eqb size 0)
some_size zero = refl
some_size (suc size) = rw (lt-ltb 0 (suc size) (omega arith), ne_eqb (suc size) 0 (λ z. omega arith)) refl

pub conjunction_has : (size : ℕ) (k : Kind) → restricts (kind_number k) ≡ false → has_axiom size (kind_number k) ≡ not (eqb size 0)
unfolding has_axiom
conjunction_has size PrimitiveConjunction r = some_size size
conjunction_has size DefinedConjunction r = some_size size
conjunction_has size PrimitiveRestriction r = absurd (true≢false r)
conjunction_has size DefinedRestriction r = absurd (true≢false r)

module _ (size kind : ℕ) (has : has_axiom size kind ≡ true) where
  pub has_parts : joins kind ≡ true → 0 < size
  unfolding has_axiom
  has_parts e = ltb-true 0 size (by_kind kind e has)
    where
      by_kind : (k : ℕ) → joins k ≡ true → has_axiom size k ≡ true → ltb 0 size ≡ true
      by_kind zero j h = absurd (false≢true j)
      by_kind (suc zero) j h = h
      by_kind (suc (suc zero)) j h = h
      by_kind (suc (suc (suc k))) j h = absurd (false≢true (sym (high k) ∙ j))
        where
          high : (i : ℕ) → joins (suc (suc (suc i))) ≡ false
          high i = simp (ne_eqb (suc (suc (suc i))) 1 (λ z. omega arith), ne_eqb (suc (suc (suc i))) 2 (λ z. omega arith))

  pub has_role : (m : ℕ) → IsKind m kind → joins kind ≡ false → 0 < m
  unfolding has_axiom
  has_role m k e = by_kind kind k e has
    where
      by_kind : (i : ℕ) → IsKind m i → joins i ≡ false → has_axiom size i ≡ true → 0 < m
      by_kind zero k j h = absurd (false≢true h)
      by_kind (suc zero) k j h = absurd (true≢false j)
      by_kind (suc (suc zero)) k j h = absurd (true≢false j)
      by_kind (suc (suc (suc i))) k j h = k.role (omega arith)
