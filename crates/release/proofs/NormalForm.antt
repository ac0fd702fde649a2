-- Refusal 15 by the table and by the axioms: a conjunct that is itself a left name of kind 2.
use mathlib.Core.Path.{◌≡◌, refl, sym, ap, ◌∙◌}
use mathlib.Core.Bool.{Bool, true, false, true≢false, false≢true}
use mathlib.Core.List.{List}
use Prim.Native.Nat.{ℕ, zero, suc, ◌+◌, ◌<◌}
use native.Mathlib.Omega.{arith}
use lib.ListN.{get_or}
use Rattle.el.specs.Lists.{In}
use Rattle.el.specs.Axioms.{Axiom, is_conjunction, parts_of}
use Rattle.el.proofs.Lists.{Some}
use Rattle.el.proofs.Tests.{Tells, tells_true, tells_eq, tells_and, tells_any}
use Rattle.release.specs.Files.{number, width_of, first_place, joins, defines, axioms_fault, axiom_at, axioms_from, conjunct_defined}
use Rattle.release.specs.Tables.{kind_at, count_at, part_at, Stands, blank, of_axiom, Decoded, PartDefined, SomePartDefined}
use Rattle.release.specs.declared.table.Table.{Table}
use Rattle.release.proofs.Faults.{high_not_joins}
use Rattle.release.proofs.Decoding.{kind_is, count_is, part_is, sound, shaped_part, stands_in, in_stands, axiom_joins, axiom_parts, axiom_no_parts}
use Rattle.release.proofs.Numbers.{in_numbers, numbers_at}

-- the two tests that say kind 2
kind_2 : (k : ℕ) → joins k ≡ true → defines k ≡ true → k ≡ 2
kind_2 zero j d = absurd (false≢true j)
kind_2 (suc zero) j d = absurd (false≢true d)
kind_2 (suc (suc zero)) j d = refl
kind_2 (suc (suc (suc k))) j d = absurd (true≢false (sym j ∙ high_not_joins (suc (suc (suc k))) (omega arith)))

abbrev pub Defines : ℕ → Axiom → Type 0
Defines x b = (b.left ≡ x) × ((b.defined ≡ true) × (is_conjunction b ≡ true))

defines_2 : (s : List ℕ) (q x : ℕ) → number (width_of s) s q ≡ x → get_or s (q + width_of s) 0 ≡ 2 → Defines x (axiom_at (width_of s) s q)
unfolding axiom_at
defines_2 s q x e k = (e, (rw k, axiom_joins (width_of s) s q ∙ rw k))

is_2 : (s : List ℕ) (q x : ℕ) → Defines x (axiom_at (width_of s) s q) → (number (width_of s) s q ≡ x) × (get_or s (q + width_of s) 0 ≡ 2)
unfolding axiom_at
is_2 s q x w = (w.0, kind_2 (get_or s (q + width_of s) 0) (sym (axiom_joins (width_of s) s q) ∙ w.1.1) w.1.0)

-- by the axioms
abbrev pub Listed : List Axiom → Type 0
Listed al = Some al (λ a. Some (parts_of a) (λ x. Some al (Defines x)))

pub tells_listed : (al : List Axiom) → Tells (conjunct_defined al) (Listed al)
unfolding conjunct_defined
tells_listed al = tells_any _ al (λ a _. tells_any _ (parts_of a)
    (λ x _. tells_any _ al (λ b _. tells_and (tells_eq b.left x) (λ _. tells_and (tells_true b.defined) (λ _. tells_true (is_conjunction b))))))

module _ (m : ℕ) {n c : ℕ} {s : List ℕ} {t : Table} (d : Decoded n c s t) (none : axioms_fault (width_of s) n m c 0 s (first_place s) ≡ 0) where
  -- from the table to the axioms
  part_in : {q : ℕ} → Stands c s (first_place s) q → joins (kind_at t (number (width_of s) s q)) ≡ true → (j : ℕ) → j < count_at s t (number (width_of s) s q)
      → In (parts_of (axiom_at (width_of s) s q)) (part_at s t (number (width_of s) s q) j)
  part_in {q} i e j l = rw (axiom_parts (width_of s) s q (rw (kind_is m d none i) at e), part_is d i j) (in_numbers (width_of s) _ s _ j (omega (arith, l, count_is d i)))

  listed_of : {q : ℕ} → Stands c s (first_place s) q → joins (kind_at t (number (width_of s) s q)) ≡ true → PartDefined s t (number (width_of s) s q) → Listed (axioms_from c s (first_place s))
  listed_of {q} i e w =
      let x : ℕ = part_at s t (number (width_of s) s q) w.at in
      elim (d.origin x (shaped_part m d none i w.at e w.among)) [
        | blank z ↦ absurd (omega (arith, z, w.is_defined))
        | of_axiom {q = p} k z ↦ record {
          it = axiom_at (width_of s) s q;
          member = stands_in i;
          holds = record {
            it = x;
            member = part_in i e w.at w.among;
            holds = record { it = axiom_at (width_of s) s p; member = stands_in k; holds = defines_2 s p x z (sym (kind_is m d none k) ∙ (ap (kind_at t) z ∙ w.is_defined)) };
          };
        }
      ]

  to_listed : SomePartDefined n s t → Listed (axioms_from c s (first_place s))
  to_listed w = elim (d.origin w.left w.is_name) [
    | blank z ↦ absurd (false≢true (rw z at w.is_conjunctive))
    | of_axiom i z ↦ listed_of i (rw (← z) at w.is_conjunctive) (rw (← z) at w.part)
  ]

  -- and back
  joins_of : (q : ℕ) {x : ℕ} → In (parts_of (axiom_at (width_of s) s q)) x → joins (get_or s (q + width_of s) 0) ≡ true
  joins_of q h = by_kind (joins (get_or s (q + width_of s) 0)) refl
    where
      by_kind : (b : Bool) → joins (get_or s (q + width_of s) 0) ≡ b → joins (get_or s (q + width_of s) 0) ≡ true
      by_kind true e = e
      by_kind false e = elim (rw (axiom_no_parts (width_of s) s q e) at h) [ ]

  defined_at : {q p x : ℕ} → Stands c s (first_place s) q → Stands c s (first_place s) p → In (parts_of (axiom_at (width_of s) s q)) x → Defines x (axiom_at (width_of s) s p) → SomePartDefined n s t
  defined_at {q} {p} {x} i k h w =
      let e = joins_of q h in
      let r = numbers_at (width_of s) (get_or s (q + width_of s + 1) 0) s (q + width_of s + 1 + 1) (rw (axiom_parts (width_of s) s q e) at h) in
      let y = is_2 s p x w in
      let z : part_at s t (number (width_of s) s q) r.place ≡ number (width_of s) s p = part_is d i r.place ∙ (r.is ∙ sym y.0) in
      record {
        left = number (width_of s) s q;
        is_name = (sound m d none i).left;
        is_conjunctive = rw (kind_is m d none i) e;
        part = record { at = r.place; among = rw (count_is d i) r.small; is_defined = ap (kind_at t) z ∙ (kind_is m d none k ∙ y.1) };
      }

  from_listed : Listed (axioms_from c s (first_place s)) → SomePartDefined n s t
  from_listed w =
      let a = in_stands c s (first_place s) w.member in
      let v = w.holds.holds in
      let b = in_stands c s (first_place s) v.member in
      defined_at a.stands b.stands (rw (← a.is) at w.holds.member) (rw (← b.is) at v.holds)

  pub defined_parts : (r : Bool) → Tells r (SomePartDefined n s t) → r ≡ conjunct_defined (axioms_from c s (first_place s))
  defined_parts r h = same_test r (conjunct_defined (axioms_from c s (first_place s))) (λ e. (tells_listed _).complete (to_listed (h.sound e)))
      (λ e. h.complete (from_listed ((tells_listed _).sound e)))
    where
      same_test : (a b : Bool) → (a ≡ true → b ≡ true) → (b ≡ true → a ≡ true) → a ≡ b
      same_test true b f g = sym (f refl)
      same_test false true f g = g refl
      same_test false false f g = refl
