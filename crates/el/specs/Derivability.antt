-- Derivability of an inclusion C ⊑ D from a terminology, by finitely many steps of the rules.
--   Under ps r s      the role r lies under s by the pairs ps; "r under r and chains count too"
--   Derives t c d     c ⊑ d is derivable from t
--   IsAnswer t c d v  v is the answer of the question c ⊑ d: 1 where it is derivable, else 0
use Rattle.std.specs.Prelude.{◌≡◌, ◌↔◌, true, List, ℕ, ◌≤◌}
use Rattle.el.specs.Lists.{In}
use Rattle.el.specs.Concepts.{Concept, top, name, both, some}
use Rattle.el.specs.Axioms.{Axiom, right_of, RolePair, Terminology}

pub data Under (ps : List RolePair) : ℕ → ℕ → Type 0 where
  same_role : {r : ℕ} → Under ps r r
  listed : {p : RolePair} → In ps p → Under ps p.lower p.upper
  through : {q r s : ℕ} → Under ps q r → Under ps r s → Under ps q s

pub data Derives (t : Terminology) : Concept → Concept → Type 0 where
  same : {c : Concept} → Derives t c c
  to_top : {c : Concept} → Derives t c top
  one : {c d : Concept} → Derives t (both c d) c
  other : {c d : Concept} → Derives t (both c d) d
  meet : {c d e : Concept} → Derives t c d → Derives t c e → Derives t c (both d e)
  under : {r : ℕ} {c d : Concept} → Derives t c d → Derives t (some r c) (some r d)
  chain : {c d e : Concept} → Derives t c d → Derives t d e → Derives t c e
  -- A ⊑ C, and for A ≡ C also C ⊑ A
  stated : {a : Axiom} → In t.axioms a → Derives t (name a.left) (right_of a)
  defined : {a : Axiom} → In t.axioms a → a.defined ≡ true → Derives t (right_of a) (name a.left)
  -- "From r under s, ∃r.C ⊑ ∃s.C"
  widen : {r s : ℕ} {c : Concept} → Under t.roles r s → Derives t (some r c) (some s c)

pub record IsAnswer (t : Terminology) (c d : Concept) (v : ℕ) : Type 0 where
  pub small : v ≤ 1
  pub derivable : (v ≡ 1) ↔ Derives t c d
