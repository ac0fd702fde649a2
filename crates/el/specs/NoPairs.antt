-- Terminologies without role pairs, and derivability as it is for them.
--   without al          the terminology with the axioms al and no role pair
--   PlainDerives al c d the rules of derivability but the one for role pairs
use Rattle.std.specs.Prelude.{◌≡◌, true, List, [], ℕ}
use Rattle.el.specs.Lists.{In}
use Rattle.el.specs.Concepts.{Concept, top, name, both, some}
use Rattle.el.specs.Axioms.{Axiom, right_of, Terminology}

abbrev pub without : List Axiom → Terminology
without al = record { axioms = al; roles = [] }

pub data PlainDerives (al : List Axiom) : Concept → Concept → Type 0 where
  p_same : {c : Concept} → PlainDerives al c c
  p_to_top : {c : Concept} → PlainDerives al c top
  p_one : {c d : Concept} → PlainDerives al (both c d) c
  p_other : {c d : Concept} → PlainDerives al (both c d) d
  p_meet : {c d e : Concept} → PlainDerives al c d → PlainDerives al c e → PlainDerives al c (both d e)
  p_under : {r : ℕ} {c d : Concept} → PlainDerives al c d → PlainDerives al (some r c) (some r d)
  p_chain : {c d e : Concept} → PlainDerives al c d → PlainDerives al d e → PlainDerives al c e
  p_stated : {a : Axiom} → In al a → PlainDerives al (name a.left) (right_of a)
  p_defined : {a : Axiom} → In al a → a.defined ≡ true → PlainDerives al (right_of a) (name a.left)
