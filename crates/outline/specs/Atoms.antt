-- A concept as a flat list of atoms, its conjuncts and those of each ∃'s filler. A root is the whole concept, number 0, or the filler of an
-- ∃, numbered from 1. An atom has an owner, the root that it is a conjunct of; an ∃ has a child, the root that is its filler.
--   atom_at o i                atom i of the array o;  value_at o i, owner_at o i, child_at o i: its numbers
--   value_of a                 the name or the role of the atom a
--   child_of a                 the root that is its filler, none for a name;  child_number a: 0 for a name
--   atoms_from o i left         the atoms from i on, as many as left
--   root_of atoms k             the concept that is root k, by these atoms
--   written o                  the atoms that are written of the outline o
--   Shape n o                  the ranges and the order that loops over the outline o rely on
--   Outlined n c o             o is an outline of c
use Rattle.std.specs.Prelude.{◌≡◌, List, [], ◌∷◌, Option, None, Some, ℕ, zero, suc, MatchOption, ◌≤◌, ◌<◌, eqb, length, get_or, drop}
use Rattle.el.specs.Lists.{pick}
use Rattle.el.specs.Concepts.{Concept, top, name, both, some}
use Rattle.el.specs.Axioms.{Terminology}
use Rattle.el.specs.Derivability.{Derives}
use Rattle.concept.specs.Bytes.{number, IsTextOf}
use Rattle.outline.specs.declared.Atom.{Atom}
use Rattle.outline.specs.declared.Conjunct.{Conjunct}
use Rattle.outline.specs.declared.Conjunct.TheVariants.{Name, Restriction}
use Rattle.outline.specs.declared.Outline.{Outline}

-- a conjunct of the root `owner`: a name; an ∃ of a role, its filler the root k
abbrev pub named : ℕ → ℕ → Atom
named x owner = record { owner = owner; conjunct = Name x }

abbrev pub restricted : ℕ → ℕ → ℕ → Atom
restricted r owner k = record { owner = owner; conjunct = Restriction (record { 0 = r }) k }

abbrev pub blank : Atom
blank = named 0 0

abbrev pub value_in : Conjunct → ℕ
value_in (Name x) = x
value_in (Restriction r k) = r.0

abbrev pub value_of : Atom → ℕ
value_of a = value_in a.conjunct

abbrev pub child_in : Conjunct → Option ℕ
child_in (Name x) = None
child_in (Restriction r k) = Some k

abbrev pub child_of : Atom → Option ℕ
child_of a = child_in a.conjunct

abbrev pub number_in : Conjunct → ℕ
number_in (Name x) = 0
number_in (Restriction r k) = k

abbrev pub child_number : Atom → ℕ
child_number a = number_in a.conjunct

-- the filler of an ∃ is not the whole concept
abbrev pub rooted_in : Conjunct → Type 0
rooted_in (Name x) = Unit
rooted_in (Restriction r k) = 0 < k

abbrev pub Rooted : Atom → Type 0
Rooted a = rooted_in a.conjunct

-- a child is one that is told, and its number
abbrev pub ChildGiven : Atom → Option ℕ → Type 0
ChildGiven a o = MatchOption o (child_number a ≡ 0) (λ k. (k ≡ child_number a) × (Rooted a → 0 < k))

abbrev pub atom_at : List Atom → ℕ → Atom
atom_at o i = get_or o i blank

abbrev pub value_at : List Atom → ℕ → ℕ
value_at o i = value_of (atom_at o i)

abbrev pub owner_at : List Atom → ℕ → ℕ
owner_at o i = (atom_at o i).owner

abbrev pub child_at : List Atom → ℕ → ℕ
child_at o i = child_number (atom_at o i)

-- the first w bytes of a text are the number x, and t follows them
pub record BeginsWith (w : ℕ) (s : List ℕ) (x : ℕ) (t : List ℕ) : Type 0 where
  pub long : w ≤ length s
  pub value : number w s ≡ x
  pub rest : drop w s ≡ t

unfoldable pub atoms_from : List Atom → ℕ → ℕ → List Atom
atoms_from o i zero = []
atoms_from o i (suc left) = atom_at o i ∷ atoms_from o (suc i) left

-- a name, or ∃r over the filler d
abbrev pub atom_concept : ℕ → ℕ → Concept → Concept
atom_concept zero b d = name b
atom_concept (suc k) r d = some r d

-- the filler of an ∃ is made of later atoms
unfoldable pub root_of : List Atom → ℕ → Concept
root_of [] k = top
root_of (a ∷ rest) k = pick (eqb a.owner k) (both (atom_concept (child_number a) (value_of a) (root_of rest (child_number a))) (root_of rest k)) (root_of rest k)

abbrev pub written : Outline → List Atom
written o = atoms_from o.atoms 0 o.extent.atoms

pub record Shape (n : ℕ) (o : Outline) : Type 0 where
  pub room : o.extent.atoms ≤ length o.atoms
  pub few_atoms : o.extent.atoms ≤ 128
  pub few : o.extent.roots ≤ 128
  pub whole : 0 < o.extent.roots
  pub owner : (i : ℕ) → i < o.extent.atoms → owner_at o.atoms i < o.extent.roots
  pub child : (i : ℕ) → i < o.extent.atoms → child_at o.atoms i < o.extent.roots
  pub named : (i : ℕ) → i < o.extent.atoms → child_at o.atoms i ≡ 0 → value_at o.atoms i < n
  pub rooted : (i : ℕ) → i < o.extent.atoms → Rooted (atom_at o.atoms i)
  pub later : (i j : ℕ) → i < o.extent.atoms → j ≤ i → 0 < child_at o.atoms i → owner_at o.atoms j < child_at o.atoms i

-- two concepts below each other
pub record Same (t : Terminology) (c d : Concept) : Type 0 where
  pub to : Derives t c d
  pub from : Derives t d c

pub record Outlined (n : ℕ) (c : Concept) (o : Outline) : Type 0 where
  pub shape : Shape n o
  pub means : (t : Terminology) → Same t c (root_of (written o) 0)

-- what outlining asks: the text of a concept
pub record Outlinable (w : ℕ) (s : List ℕ) : Type 0 where
  pub names : ℕ
  pub roles : ℕ
  pub concept : Concept
  pub text : IsTextOf w names roles concept s
