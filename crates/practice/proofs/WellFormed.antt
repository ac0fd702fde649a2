-- The axioms of a practice release rise, and each can stand in a file: roles and fillers are in range, conjuncts rise.
use mathlib.Core.Path.{◌≡◌, refl}
use mathlib.Core.Bool.{Bool, true, false}
use mathlib.Core.List.{List, ◌∷◌}
use Prim.Native.Nat.{ℕ, zero, suc, ◌+◌, ◌≤◌, ◌<◌}
use native.Mathlib.Omega.{arith}
use borrow.Author.Tests.{eqb-false}
use lib.Dec.{eqb}
use lib.ListN.{length}
use Rattle.el.specs.Lists.{pick}
use Rattle.el.specs.Concepts.{everything, named}
use Rattle.el.specs.Axioms.{restriction}
use Rattle.release.specs.Files.{most_names_of, most_roles, joins}
use Rattle.splicing.proofs.Rising.{Rising, nothing, more, from_less}
use Rattle.practice.specs.Draws.{next, drawn, after_draws}
use Rattle.practice.specs.Practice.{kind_from, kinds, part_count, filler_from, conjunction_from, restriction_from, right_from}
use Rattle.practice.specs.Practice.{axiom_from, has_axiom, axioms_for, practice_pool, practice_axioms}
use Rattle.practice.proofs.Choices.{drawn_below, few_parts}
use Rattle.practice.proofs.NameKinds.{IsKind, kind_is, has_parts, has_role}
use Rattle.practice.proofs.Orders.{RisingNames, on_rises, on_length}
use Rattle.practice.proofs.Pools.{practice_rises}
use Rattle.practice.proofs.Pieces.{right_joined, right_restricted}
use Rattle.practice.proofs.Formed.{FormedRight, joined, some_thing, some_named, formed_source}

module _ (n m : ℕ) (pool : List ℕ) (rises : RisingNames n 0 pool) where
  conjunction_formed : (s : ℕ) → 0 < length pool → FormedRight n m (conjunction_from pool s)
  unfolding conjunction_from
  conjunction_formed s some =
      let k = part_count (length pool) s in
      let start = drawn (next (next s)) (length pool) in
      let few = few_parts (length pool) s some in
      let within = drawn_below (next (next s)) (length pool) some in
      joined (on_rises pool rises start k within few.within) (omega (arith, on_length pool start k within few.within, few.four))

  filler_formed : (r b : ℕ) → r < m → b < n + 1 → FormedRight n m (restriction r (filler_from n b))
  unfolding filler_from
  filler_formed r b small h = by_last (eqb b n) refl
    where
      by_last : (t : Bool) → eqb b n ≡ t → FormedRight n m (restriction r (pick t everything (named b)))
      by_last true e = some_thing small
      by_last false e = some_named small (below b n h (eqb-false b n e))
        where
          below : (x y : ℕ) → x < y + 1 → (x ≡ y → ⊥) → x < y
          below x y l d = omega arith

  restriction_formed : (s : ℕ) → 0 < m → FormedRight n m (restriction_from n m s)
  unfolding restriction_from
  restriction_formed s some = filler_formed (drawn (next s) m) (drawn (next (next s)) (n + 1)) (drawn_below (next s) m some) (drawn_below (next (next s)) (n + 1) (omega arith))

  right_formed : (kind s : ℕ) → IsKind m kind → has_axiom (length pool) kind ≡ true → FormedRight n m (right_from n m pool kind s)
  right_formed kind s is has = by_kind (joins kind) refl
    where
      by_kind : (b : Bool) → joins kind ≡ b → FormedRight n m (right_from n m pool kind s)
      by_kind true e = rw (right_joined n m pool kind s e) (conjunction_formed s (has_parts (length pool) kind has e))
      by_kind false e = rw (right_restricted n m pool kind s e) (restriction_formed s (has_role (length pool) kind has m is e))

  module _ (few : n ≤ most_names_of 1) (few_roles : m ≤ most_roles) where
    axioms_rise : (k x early s : ℕ) → x + k ≤ n → Rising n m x (axioms_for n m pool x (kinds m k early) s)
    unfolding axioms_for kinds axiom_from
    axioms_rise zero x early s h = nothing
    axioms_rise (suc k) x early s h =
        let later : suc x + k ≤ n = omega arith in
        by_has (has_axiom (length pool) (kind_from m (next early))) refl (axioms_rise k (suc x) (next early) (next (next s)) later) (axioms_rise k (suc x) (next early) s later)
      where
        by_has : (b : Bool) → has_axiom (length pool) (kind_from m (next early)) ≡ b → Rising n m (suc x) (axioms_for n m pool (suc x) (kinds m k (next early)) (next (next s)))
            → Rising n m (suc x) (axioms_for n m pool (suc x) (kinds m k (next early)) s)
            → Rising n m x (pick b (axiom_from n m pool x (kind_from m (next early)) s ∷ axioms_for n m pool (suc x) (kinds m k (next early)) (next (next s)))
            (axioms_for n m pool (suc x) (kinds m k (next early)) s))
        by_has true e f g =
            let same : x ≤ x = omega arith in
            let below : x < n = omega arith in
            more same (formed_source n m few few_roles _ below (right_formed (kind_from m (next early)) s (kind_is m (next early)) e)) f
        by_has false e f g = let l : x ≤ suc x = omega arith in from_less l g

pub practice_axioms_rise : (seed n m : ℕ) → n ≤ most_names_of 1 → m ≤ most_roles → Rising n m 0 (practice_axioms seed n m)
unfolding practice_axioms
practice_axioms_rise seed n m few few_roles = axioms_rise n m (practice_pool seed n m) (practice_rises seed n m) few few_roles n 0 seed (after_draws n seed) (omega arith)
