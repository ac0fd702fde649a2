-- Terminologies over the names below n, as a release gives them: what theorems over a terminology suppose.
--   Joins a                   the axiom a is A ≡ B1 ⊓ .. ⊓ Bk
--   Normalised t              one axiom a name, and no part of a conjunction is itself defined by a conjunction
--   IsNode n x                x is ⊤ or a name below n
--   Formed n t                all names, parts and named fillers of the axioms of t are below n
--   NamesBelow n sig          the chosen names are below n
--   RolesBelow m sig          the chosen roles are below m
--   Comparable n sig t u      two terminologies and a signature, all over the names below n
use Rattle.std.specs.Prelude.{◌≡◌, true, ℕ, ◌<◌}
use Rattle.el.specs.Lists.{In}
use Rattle.el.specs.Concepts.{Node, everything, named}
use Rattle.el.specs.Axioms.{Axiom, is_conjunction, parts_of, filler_of, Terminology}
use Rattle.el.specs.Signatures.{Signature}

pub record Joins (a : Axiom) : Type 0 where
  pub is_defined : a.defined ≡ true
  pub is_conjunctive : is_conjunction a ≡ true

pub record Normalised (t : Terminology) : Type 0 where
  pub one_axiom : {a b : Axiom} → In t.axioms a → In t.axioms b → a.left ≡ b.left → a ≡ b
  pub plain_parts : {a b : Axiom} → In t.axioms a → In t.axioms b → Joins b → In (parts_of a) b.left → ⊥

pub data IsNode (n : ℕ) : Node → Type 0 where
  top_node : IsNode n everything
  name_node : {x : ℕ} → x < n → IsNode n (named x)

pub record Formed (n : ℕ) (t : Terminology) : Type 0 where
  pub left_in : {a : Axiom} → In t.axioms a → a.left < n
  pub parts_in : {a : Axiom} {z : ℕ} → In t.axioms a → In (parts_of a) z → z < n
  pub filler_in : {a : Axiom} → In t.axioms a → IsNode n (filler_of a)

abbrev pub NamesBelow : ℕ → Signature → Type 0
NamesBelow n sig = (x : ℕ) → sig.has_name x ≡ true → x < n

abbrev pub RolesBelow : ℕ → Signature → Type 0
RolesBelow m sig = (r : ℕ) → sig.has_role r ≡ true → r < m

pub record Comparable (n : ℕ) (sig : Signature) (t u : Terminology) : Type 0 where
  pub names_in : NamesBelow n sig
  pub first_formed : Formed n t
  pub second_formed : Formed n u
  pub first_terms : Normalised t
  pub second_terms : Normalised u
