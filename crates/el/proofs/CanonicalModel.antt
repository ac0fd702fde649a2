-- The canonical model of a terminology: its points are the concepts, and what holds at c is what is derivable from c.
--   Within c d         d is a conjunct of c
--   Edge t r c d       c reaches d by r: by a conjunct ∃q.d of c with q under r, or by an axiom for a name above c
--   entails_derives    what is entailed is derivable: with derives-entails, derivability is truth in all models
--   entails_under      and Under is truth of roles in all models
--   inversion          c ⊑ ∃r.d is derivable only where c reaches some e ⊑ d by r
use mathlib.Core.Path.{◌≡◌, refl}
use mathlib.Core.Logic.{inl, inr}
use mathlib.Core.List.{List, [], ◌∷◌}
use Prim.Native.Nat.{ℕ}
use Rattle.el.specs.Lists.{In, first, later}
use native.Mathlib.Omega.{arith}
use Rattle.el.specs.Concepts.{Concept, top, name, both, some, Node, everything, named, concept_of, all_of}
use Rattle.el.specs.Axioms.{Axiom, right_of, is_conjunction, parts_of, filler_of, Terminology}
use Rattle.el.specs.Derivability.{Under, same_role, listed, through, Derives, same, to_top, one, other, meet, under, defined, widen}
use Rattle.el.specs.Interpretations.{Interpretation, Sat, Model, Entails, EntailsRole}
use Rattle.el.proofs.Tests.{which}
use Rattle.el.proofs.Derivations.{◌▹◌, Restricts, restricts_by, right_conjunction, right_restriction, to_part, to_filler}
use Rattle.el.proofs.Soundness.{sound}

pub data Within : Concept → Concept → Type 0 where
  itself : {c : Concept} → Within c c
  in_one : {c d e : Concept} → Within c e → Within (both c d) e
  in_other : {c d e : Concept} → Within d e → Within (both c d) e

pub within_derives : {t : Terminology} {c e : Concept} → Within c e → Derives t c e
within_derives itself = same
within_derives (in_one w) = one ▹ within_derives w
within_derives (in_other w) = other ▹ within_derives w

pub within_one : {c d e : Concept} → Within c (both d e) → Within c d
within_one itself = in_one itself
within_one (in_one w) = in_one (within_one w)
within_one (in_other w) = in_other (within_one w)

pub within_other : {c d e : Concept} → Within c (both d e) → Within c e
within_other itself = in_other itself
within_other (in_one w) = in_one (within_other w)
within_other (in_other w) = in_other (within_other w)

pub within_some : {q r : ℕ} {c d : Concept} → Within (some q c) (some r d) → some q c ≡ some r d
within_some itself = refl

pub data Edge (t : Terminology) (r : ℕ) (c d : Concept) : Type 0 where
  written : {q : ℕ} → Within c (some q d) → Under t.roles q r → Edge t r c d
  implied : {a : Axiom} → In t.axioms a → Restricts t a r d → Derives t c (name a.left) → Edge t r c d

pub edge_derives : {t : Terminology} {r : ℕ} {c d : Concept} → Edge t r c d → Derives t c (some r d)
edge_derives (written w u) = within_derives w ▹ widen u
edge_derives (implied h q p) = p ▹ to_filler h q

pub edge_wider : {t : Terminology} {r s : ℕ} {c d : Concept} → Under t.roles r s → Edge t r c d → Edge t s c d
edge_wider u (written w v) = written w (through v u)
edge_wider u (implied h q p) = implied h (restricts_by u q) p

abbrev pub canonical : Terminology → Interpretation
canonical t = record { Point = Concept; ext = λ c a. Derives t c (name a); edge = λ r c d. Edge t r c d }

-- a point is in a conjunction of names where it is in each
pub names_hold : (i : Interpretation) (x : i.Point) (xs : List ℕ) → ((z : ℕ) → In xs z → i.ext x z) → Sat i x (all_of xs)
names_hold i x [] f = tt
names_hold i x (y ∷ []) f = f y first
names_hold i x (y ∷ (z ∷ xs)) f = (f y first, names_hold i x (z ∷ xs) (λ w h. f w (later h)))

pub hold_names : (i : Interpretation) (x : i.Point) (xs : List ℕ) → Sat i x (all_of xs) → (z : ℕ) → In xs z → i.ext x z
hold_names i x [] s z absent = elim absent [ ]
hold_names i x (y ∷ []) s z first = s
hold_names i x (y ∷ []) s z (later h) = elim h [ ]
hold_names i x (y ∷ (w ∷ xs)) s z first = s.0
hold_names i x (y ∷ (w ∷ xs)) s z (later h) = hold_names i x (w ∷ xs) s.1 z h

module _ (t : Terminology) where
  pub within_holds : (c d : Concept) → Within c d → Sat (canonical t) c d
  within_holds c top w = tt
  within_holds c (name a) w = within_derives w
  within_holds c (both d e) w = (within_holds c d (within_one w), within_holds c e (within_other w))
  within_holds c (some r d) w = (d, written w same_role, within_holds d d itself)

  pub holds_derives : (c d : Concept) → Sat (canonical t) c d → Derives t c d
  holds_derives c top s = to_top
  holds_derives c (name a) s = s
  holds_derives c (both d e) s = meet (holds_derives c d s.0) (holds_derives c e s.1)
  holds_derives c (some r d) s = edge_derives s.1 ▹ under (holds_derives s.0 d s.2)

  right_holds : {a : Axiom} → In t.axioms a → (c : Concept) → Derives t c (name a.left) → Sat (canonical t) c (right_of a)
  right_holds {a} h c p = elim (which (is_conjunction a)) [
    | inl k ↦ rw (right_conjunction a k) (names_hold (canonical t) c (parts_of a) (λ z i. p ▹ to_part h i))
    | inr k ↦ (
        let d = concept_of (filler_of a) in
        rw (right_restriction a k) (d, implied h (record { is_restriction = k; role = same_role; filler = refl }) p, within_holds d d itself))
  ]

  pub canonical_model : Model t (canonical t)
  canonical_model = record { down = right_holds; up = λ h e c s. holds_derives c _ s ▹ defined h e; wider = λ h c d. edge_wider (listed h) }

  pub derives_holds : {c d : Concept} → Derives t c d → Sat (canonical t) c d
  derives_holds {c} p = sound p (canonical_model) c (within_holds c c itself)

  pub entails_derives : {c d : Concept} → Entails t c d → Derives t c d
  entails_derives {c} {d} e = holds_derives c d (e (canonical t) (canonical_model) c (within_holds c c itself))

-- ∃r.(⊤ ⊓ ⊤) reaches ⊤ ⊓ ⊤ by the roles above r only, since no axiom has such a filler
no_filler : (x : Node) {c d : Concept} → concept_of x ≡ both c d → ⊥
no_filler everything e = let z : ◌≡◌ {A = ℕ} 0 1 = cc in omega arith
no_filler (named x) e = let z : ◌≡◌ {A = ℕ} 0 1 = cc in omega arith

pub entails_under : {t : Terminology} {r s : ℕ} → EntailsRole t r s → Under t.roles r s
entails_under {t} {r} {s} e = by_edge (e (canonical t) (canonical_model t) (some r (both top top)) (both top top) (written itself same_role))
  where
    by_edge : Edge t s (some r (both top top)) (both top top) → Under t.roles r s
    by_edge (written {q = q} w u) =
        let same_Some = within_some w in
        let role : r ≡ q = cc in
        rw role u
    by_edge (implied {a = a} h restricts p) = absurd (no_filler (filler_of a) restricts.filler)

pub record Step (t : Terminology) (r : ℕ) (c d : Concept) : Type 0 where
  pub to : Concept
  pub by_edge : Edge t r c to
  pub then : Derives t to d

pub inversion : {t : Terminology} {r : ℕ} {c d : Concept} → Derives t c (some r d) → Step t r c d
inversion {t} {d = d} p = let s = derives_holds t p in record { to = s.0; by_edge = s.1; then = holds_derives t s.0 d s.2 }
