-- Terminologies: what lies below a name, and below ∃r.d, is the doing of single conjuncts.
--   OneBelow t c x        one conjunct of c lies below the name x
--   PartsBelow t c x      that, or x is defined by a conjunction and for each part one conjunct lies below it
--   below_name            c ⊑ x is derivable only where PartsBelow t c x (the terminology lemma)
--   refined_inversion     c ⊑ ∃r.d is derivable only where one conjunct of c lies below ∃r.d (OneBelowSome t c r d)
use mathlib.Core.Path.{◌≡◌, refl, sym, ap, ◌∙◌}
use mathlib.Core.Logic.{◌⊎◌, inl, inr, ◌↔◌}
use mathlib.Core.Bool.{true, false}
use Prim.Native.Nat.{ℕ}
use Rattle.el.specs.Lists.{In}
use Rattle.el.specs.Concepts.{Concept, top, name, both, some, concept_of}
use Rattle.el.specs.Axioms.{Axiom, right_of, is_conjunction, parts_of, role_of, filler_of, RolePair, Terminology}
use Rattle.el.specs.Derivability.{Under, same_role, listed, through, Derives, same, to_top, one, other, meet, under, stated, defined}
use Rattle.el.specs.Interpretations.{Interpretation, Sat, Model}
use Rattle.el.specs.Terminologies.{Joins, Normalised}
use Rattle.el.proofs.Tests.{which, not_both}
use Rattle.el.proofs.Derivations.{◌▹◌, Fills, Restricts, right_conjunction, right_restriction, fills_by, restricts_by, widened, to_part, to_filler, from_filler, has_part}
use Rattle.el.proofs.Soundness.{sound}
use Rattle.el.proofs.CanonicalModel.{Within, itself, in_one, in_other, within_derives, within_one, within_other, within_some, Edge, written, implied, edge_derives, edge_wider}
use Rattle.el.proofs.CanonicalModel.{canonical, names_hold, hold_names, within_holds, derives_holds, inversion}

-- no axiom defines x by a conjunction
pub record NotJoined (t : Terminology) (x : ℕ) : Type 0 where
  pub none : {a : Axiom} → In t.axioms a → Joins a → a.left ≡ x → ⊥

pub data OneBelow (t : Terminology) (c : Concept) (x : ℕ) : Type 0 where
  name_below : {b : ℕ} → Within c (name b) → Derives t (name b) (name x) → OneBelow t c x
  some_below : {a : Axiom} {r : ℕ} {d : Concept} → In t.axioms a → Fills t r a → a.left ≡ x → Within c (some r d) → Derives t d (concept_of (filler_of a)) → OneBelow t c x

pub data PartsBelow (t : Terminology) (c : Concept) (x : ℕ) : Type 0 where
  at_once : OneBelow t c x → PartsBelow t c x
  each_part : {a : Axiom} → In t.axioms a → Joins a → a.left ≡ x → ((z : ℕ) → In (parts_of a) z → OneBelow t c z) → PartsBelow t c x

one_of_not_joined : {t : Terminology} {c : Concept} {x : ℕ} → PartsBelow t c x → NotJoined t x → OneBelow t c x
one_of_not_joined (at_once l) not_joined = l
one_of_not_joined (each_part a_in joins e f) not_joined = absurd (not_joined.none a_in joins e)

-- a name with a restriction is not joined, and by the normal form no part is
restricted_plain : {t : Terminology} → Normalised t → {a : Axiom} → In t.axioms a → is_conjunction a ≡ false → NotJoined t a.left
restricted_plain terms a_in k = record { none = λ b_in joins e. not_both joins.is_conjunctive (rw (terms.one_axiom a_in b_in (sym e)) at k) }

pub part_not_joined : {t : Terminology} → Normalised t → {a : Axiom} {z : ℕ} → In t.axioms a → In (parts_of a) z → NotJoined t z
part_not_joined terms a_in z_in = record { none = λ b_in joins e. terms.plain_parts a_in b_in joins (rw e z_in) }

-- the canonical model with one more point, the star, which is in the names that PartsBelow allows
data Spot : Type 0 where
  star : Spot
  point : Concept → Spot

data StarEdge (t : Terminology) (r : ℕ) (c d : Concept) : Type 0 where
  own : {q : ℕ} → Within c (some q d) → Under t.roles q r → StarEdge t r c d
  put : {a : Axiom} → In t.axioms a → Restricts t a r d → PartsBelow t c a.left → StarEdge t r c d

star_wider : {t : Terminology} {r s : ℕ} {c d : Concept} → Under t.roles r s → StarEdge t r c d → StarEdge t s c d
star_wider u (own w v) = own w (through v u)
star_wider u (put a_in restricts p) = put a_in (restricts_by u restricts) p

abbrev SpotExt : Terminology → Concept → Spot → ℕ → Type 0
SpotExt t c star x = PartsBelow t c x
SpotExt t c (point d) x = Derives t d (name x)

abbrev SpotEdge : Terminology → Concept → ℕ → Spot → Spot → Type 0
SpotEdge t c r x star = ⊥
SpotEdge t c r star (point e) = StarEdge t r c e
SpotEdge t c r (point d) (point e) = Edge t r d e

abbrev starred : Terminology → Concept → Interpretation
starred t c = record { Point = Spot; ext = SpotExt t c; edge = SpotEdge t c }

module _ (t : Terminology) (c : Concept) where
  -- the other points are as in the canonical model
  point_holds : (d e : Concept) → Sat (canonical t) d e → Sat (starred t c) (point d) e
  point_holds d top s = tt
  point_holds d (name x) s = s
  point_holds d (both e f) s = (point_holds d e s.0, point_holds d f s.1)
  point_holds d (some r e) s = (point s.0, s.1, point_holds s.0 e s.2)

  point_itself : (d : Concept) → Sat (starred t c) (point d) d
  point_itself d = point_holds d d (within_holds t d d itself)

  edge_some : (r : ℕ) (d e : Concept) → ((f : Concept) → Sat (starred t c) (point f) e → Derives t f e) → (y : Spot) → SpotEdge t c r (point d) y → Sat (starred t c) y e → Derives t d (some r e)
  edge_some r d e k star g s = absurd g
  edge_some r d e k (point f) g s = edge_derives g ▹ under (k f s)

  point_derives : (d e : Concept) → Sat (starred t c) (point d) e → Derives t d e
  point_derives d top s = to_top
  point_derives d (name x) s = s
  point_derives d (both e f) s = meet (point_derives d e s.0) (point_derives d f s.1)
  point_derives d (some r e) s = edge_some r d e (λ f h. point_derives f e h) s.0 s.1 s.2

  -- and the star is in c
  star_within : (d : Concept) → Within c d → Sat (starred t c) star d
  star_within top w = tt
  star_within (name x) w = at_once (name_below w same)
  star_within (both d e) w = (star_within d (within_one w), star_within e (within_other w))
  star_within (some r d) w = (point d, own w same_role, point_itself d)

  module _ (terms : Normalised t) where
    -- the star meets the axioms: conjunctions downwards
    part_below : {a : Axiom} {x : ℕ} → In t.axioms a → PartsBelow t c x → a.left ≡ x → (z : ℕ) → In (parts_of a) z → PartsBelow t c z
    part_below a_in (at_once (name_below w p)) e z z_in = at_once (name_below w (p ▹ rw e at (to_part {t = t} a_in z_in)))
    part_below {a} a_in (at_once (some_below b_in fills e' w p)) e z z_in =
        let k : is_conjunction a ≡ false = rw (terms.one_axiom b_in a_in (cc)) at fills.is_restriction in
        absurd (not_both (has_part a z_in) k)
    part_below a_in (each_part b_in joins e' f) e z z_in = at_once (f z (rw (terms.one_axiom b_in a_in (cc)) z_in))

    star_down : {a : Axiom} → In t.axioms a → PartsBelow t c a.left → Sat (starred t c) star (right_of a)
    star_down {a} a_in l = elim (which (is_conjunction a)) [
      | inl k ↦ rw (right_conjunction a k) (names_hold (starred t c) star (parts_of a) (part_below a_in l refl))
      | inr k ↦ (
          let d = concept_of (filler_of a) in
          rw (right_restriction a k) (point d, put a_in (record { is_restriction = k; role = same_role; filler = refl }) l, point_itself d))
    ]

    -- from A ⊑ ∃r.f and f ⊑ B on to A' ≡ ∃r.B
    on_to_filled : {a b : Axiom} {r : ℕ} {f : Concept} → In t.axioms a → Restricts t a r f → In t.axioms b → Fills t r b → Derives t f (concept_of (filler_of b))
        → OneBelow t c a.left → OneBelow t c b.left
    on_to_filled a_in restricts b_in fills p (name_below w g) = name_below w (g ▹ to_filler a_in restricts ▹ from_filler b_in fills p)
    on_to_filled {a} {f = f} a_in restricts b_in fills p (some_below {a = a'} a'_in fills' e w g) =
        let same_axiom : a' ≡ a = terms.one_axiom a'_in a_in e in
        let filler : concept_of (filler_of a') ≡ f = ap (λ (b : Axiom). concept_of (filler_of b)) same_axiom ∙ restricts.filler in
        let role = through (rw same_axiom at fills'.role) restricts.role in
        some_below b_in (fills_by role fills) refl w (rw filler at g ▹ p)

    filled_up : {a : Axiom} → In t.axioms a → Fills t (role_of a) a → (y : Spot) → SpotEdge t c (role_of a) star y → Sat (starred t c) y (concept_of (filler_of a)) → OneBelow t c a.left
    filled_up a_in fills star g s = absurd g
    filled_up a_in fills (point f) (own w u) s = some_below a_in (fills_by u fills) refl w (point_derives f _ s)
    filled_up a_in fills (point f) (put b_in restricts l) s = on_to_filled b_in restricts a_in fills (point_derives f _ s) (one_of_not_joined l (restricted_plain terms b_in restricts.is_restriction))

    star_up : {a : Axiom} → In t.axioms a → a.defined ≡ true → Sat (starred t c) star (right_of a) → PartsBelow t c a.left
    star_up {a} a_in d s = elim (which (is_conjunction a)) [
      | inl k ↦ (
          let parts = hold_names (starred t c) star (parts_of a) (rw (right_conjunction a k) at s) in
          each_part a_in (record { is_defined = d; is_conjunctive = k }) refl (λ z z_in. one_of_not_joined (parts z z_in) (part_not_joined terms a_in z_in)))
      | inr k ↦ (
          let h : Sat (starred t c) star (some (role_of a) (concept_of (filler_of a))) = rw (right_restriction a k) at s in
          at_once (filled_up a_in (record { is_defined = d; is_restriction = k; role = same_role }) h.0 h.1 h.2))
    ]

    starred_model : Model t (starred t c)
    starred_model = record { down = λ h x s. down h x s; up = λ h d x s. up h d x s; wider = λ h x y e. wide h x y e }
      where
        down : {a : Axiom} → In t.axioms a → (x : Spot) → SpotExt t c x a.left → Sat (starred t c) x (right_of a)
        down h star s = star_down h s
        down {a} h (point d) s = point_holds d (right_of a) (derives_holds t (s ▹ stated h))

        up : {a : Axiom} → In t.axioms a → a.defined ≡ true → (x : Spot) → Sat (starred t c) x (right_of a) → SpotExt t c x a.left
        up h d star s = star_up h d s
        up {a} h d (point e) s = point_derives e (right_of a) s ▹ defined h d

        wide : {p : RolePair} → In t.roles p → (x y : Spot) → SpotEdge t c p.lower x y → SpotEdge t c p.upper x y
        wide h x star e = e
        wide h star (point f) e = star_wider (listed h) e
        wide h (point d) (point f) e = edge_wider (listed h) e

    star_below : {x : ℕ} → Derives t c (name x) → PartsBelow t c x
    star_below p = sound p (starred_model) star (star_within c itself)

pub below_name : {t : Terminology} → Normalised t → {c : Concept} {x : ℕ} → Derives t c (name x) → PartsBelow t c x
below_name {t} terms {c} p = star_below t c terms p

pub below_not_joined : {t : Terminology} → Normalised t → {c : Concept} {x : ℕ} → NotJoined t x → Derives t c (name x) → OneBelow t c x
below_not_joined terms not_joined p = one_of_not_joined (below_name terms p) not_joined

-- and the converse
pub one_below_derives : {t : Terminology} {c : Concept} {x : ℕ} → OneBelow t c x → Derives t c (name x)
one_below_derives (name_below w p) = within_derives w ▹ p
one_below_derives (some_below a_in fills e w p) = within_derives w ▹ rw e at (from_filler a_in fills p)

-- ∃r.d by one conjunct of c
pub data OneBelowSome (t : Terminology) (c : Concept) (r : ℕ) (d : Concept) : Type 0 where
  by_name : {b : ℕ} → Within c (name b) → Derives t (name b) (some r d) → OneBelowSome t c r d
  by_some : {q : ℕ} {e : Concept} → Within c (some q e) → Under t.roles q r → Derives t e d → OneBelowSome t c r d

pub one_below_some_derives : {t : Terminology} {c : Concept} {r : ℕ} {d : Concept} → OneBelowSome t c r d → Derives t c (some r d)
one_below_some_derives (by_name w p) = within_derives w ▹ p
one_below_some_derives (by_some w u p) = within_derives w ▹ widened u p

module _ {t : Terminology} (terms : Normalised t) where
  some_of_one : {a : Axiom} {c : Concept} {r : ℕ} {e d : Concept} → In t.axioms a → Restricts t a r e → Derives t e d → OneBelow t c a.left → OneBelowSome t c r d
  some_of_one a_in restricts p (name_below w g) = by_name w (g ▹ to_filler a_in restricts ▹ under p)
  some_of_one {a} {e = e} a_in restricts p (some_below {a = a'} a'_in fills l w g) =
      let same_axiom : a' ≡ a = terms.one_axiom a'_in a_in l in
      let filler : concept_of (filler_of a') ≡ e = ap (λ (b : Axiom). concept_of (filler_of b)) same_axiom ∙ restricts.filler in
      by_some w (through (rw same_axiom at fills.role) restricts.role) (rw filler at g ▹ p)

  some_of_edge : {c : Concept} {r : ℕ} {e d : Concept} → Edge t r c e → Derives t e d → OneBelowSome t c r d
  some_of_edge (written w u) p = by_some w u p
  some_of_edge {c} (implied a_in restricts g) p = some_of_one a_in restricts p (below_not_joined terms (restricted_plain terms a_in restricts.is_restriction) g)

  pub refined_inversion : {c : Concept} {r : ℕ} {d : Concept} → Derives t c (some r d) → OneBelowSome t c r d
  refined_inversion p = let s = inversion p in some_of_edge s.by_edge s.then

  -- so, by the form of c
  pub top_below_some : {r : ℕ} {d : Concept} → Derives t top (some r d) → ⊥
  top_below_some p = elim (refined_inversion p) [ by_name w q ↦ elim w [ ] | by_some w u q ↦ elim w [ ] ]

  pub both_below_some : {c d : Concept} {r : ℕ} {e : Concept} → Derives t (both c d) (some r e) ↔ (Derives t c (some r e) ⊎ Derives t d (some r e))
  both_below_some {c} {d} {r} {e} = (λ p. by_conjunct (refined_inversion p), λ w. elim w [ inl p ↦ one ▹ p | inr p ↦ other ▹ p ])
    where
      by_conjunct : OneBelowSome t (both c d) r e → Derives t c (some r e) ⊎ Derives t d (some r e)
      by_conjunct (by_name (in_one w) p) = inl (one_below_some_derives (by_name w p))
      by_conjunct (by_name (in_other w) p) = inr (one_below_some_derives (by_name w p))
      by_conjunct (by_some (in_one w) u p) = inl (one_below_some_derives (by_some w u p))
      by_conjunct (by_some (in_other w) u p) = inr (one_below_some_derives (by_some w u p))

  pub some_below_some : {q r : ℕ} {c d : Concept} → Derives t (some q c) (some r d) ↔ (Under t.roles q r × Derives t c d)
  some_below_some {q} {r} {c} {d} = (λ p. by_conjunct (refined_inversion p), λ w. widened w.0 w.1)
    where
      by_conjunct : OneBelowSome t (some q c) r d → Under t.roles q r × Derives t c d
      by_conjunct (by_name w p) = elim w [ ]
      by_conjunct (by_some {q = q'} {e = e} w u p) =
          let s = within_some w in
          let role : q ≡ q' = cc in
          let filler : c ≡ e = cc in
          (rw role u, rw filler p)
