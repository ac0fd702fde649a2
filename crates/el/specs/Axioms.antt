-- A normalised terminology: axioms, for a name A, A ⊑ right or A ≡ right; and pairs of roles, one under the other.
--   Right        B1 ⊓ .. ⊓ Bk, of any number of names, or ∃r.B with a filler B that is ⊤ or a name
--   right_of a    the right side of a as a concept
--   RolePair     a role and a role that it lies under
--   Terminology  the axioms and the role pairs
use Rattle.std.specs.Prelude.{Bool, true, false, List, [], ℕ}
use Rattle.el.specs.Concepts.{Concept, some, Node, everything, concept_of, all_of}

pub data Right : Type 0 where
  conjunction : List ℕ → Right
  restriction : ℕ → Node → Right

pub record Axiom : Type 0 where
  pub left : ℕ
  -- A ≡ right; else A ⊑ right
  pub defined : Bool
  pub right : Right

abbrev pub concept : Right → Concept
concept (conjunction xs) = all_of xs
concept (restriction r b) = some r (concept_of b)

abbrev pub right_of : Axiom → Concept
right_of a = concept a.right

-- the parts of a right side; those that it does not have are empty, 0 or ⊤, and nothing asks for them
abbrev pub is_conjunction : Axiom → Bool
is_conjunction a = elim a.right [ conjunction xs ↦ true | restriction r b ↦ false ]

abbrev pub parts_of : Axiom → List ℕ
parts_of a = elim a.right [ conjunction xs ↦ xs | restriction r b ↦ [] ]

abbrev pub role_of : Axiom → ℕ
role_of a = elim a.right [ conjunction xs ↦ 0 | restriction r b ↦ r ]

abbrev pub filler_of : Axiom → Node
filler_of a = elim a.right [ conjunction xs ↦ everything | restriction r b ↦ b ]

pub record RolePair : Type 0 where
  pub lower : ℕ
  pub upper : ℕ

pub record Terminology : Type 0 where
  pub axioms : List Axiom
  pub roles : List RolePair
