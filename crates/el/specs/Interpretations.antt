-- Interpretations, and entailment as Konev, Walther and Wolter define it for terminologies ("The logical difference problem
-- for description logic terminologies").
--   Interpretation     points, the names that each is in, the points that it reaches by a role
--   Sat i x c          the point x of i is in the concept c
--   Model t i          i satisfies the axioms and the role pairs of t
--   Entails t c d      c ⊑ d holds in every model of t
--   EntailsRole t r s  in every model of t, what is reached by r is reached by s
use Rattle.std.specs.Prelude.{◌≡◌, true, ℕ}
use Rattle.el.specs.Lists.{In}
use Rattle.el.specs.Concepts.{Concept, top, name, both, some}
use Rattle.el.specs.Axioms.{Axiom, right_of, RolePair, Terminology}

pub record Interpretation : Type 1 where
  pub Point : Type 0
  pub ext : Point → ℕ → Type 0
  pub edge : ℕ → Point → Point → Type 0

abbrev pub Sat : (i : Interpretation) → i.Point → Concept → Type 0
Sat i x top = Unit
Sat i x (name a) = i.ext x a
Sat i x (both c d) = Sat i x c × Sat i x d
Sat i x (some r c) = (y : i.Point) × i.edge r x y × Sat i y c

pub record Model (t : Terminology) (i : Interpretation) : Type 0 where
  pub down : {a : Axiom} → In t.axioms a → (x : i.Point) → i.ext x a.left → Sat i x (right_of a)
  pub up : {a : Axiom} → In t.axioms a → a.defined ≡ true → (x : i.Point) → Sat i x (right_of a) → i.ext x a.left
  pub wider : {p : RolePair} → In t.roles p → (x y : i.Point) → i.edge p.lower x y → i.edge p.upper x y

abbrev pub Entails : Terminology → Concept → Concept → Type 1
Entails t c d = (i : Interpretation) → Model t i → (x : i.Point) → Sat i x c → Sat i x d

abbrev pub EntailsRole : Terminology → ℕ → ℕ → Type 1
EntailsRole t r s = (i : Interpretation) → Model t i → (x y : i.Point) → i.edge r x y → i.edge s x y
