-- Nodes by what they are in a terminology: ⊤, a conjunction by definition, or neither: plain. What lies below a node.
--   Plain t x           x is a name and not defined by a conjunction
--   Kind t x, kind      the three kinds, and which one x is
--   to_part_of, from_parts_of        a concept lies below a conjunction exactly if below all its parts, which are plain
--   top_below_plain, both_below_plain, some_below_plain      what lies below a plain node, by its form
use mathlib.Core.Path.{◌≡◌, refl, ap}
use mathlib.Core.Logic.{◌⊎◌, inl, inr, ◌↔◌}
use mathlib.Core.Bool.{◌&&◌}
use Prim.Native.Nat.{ℕ}
use Rattle.el.specs.Lists.{In, any}
use Rattle.el.specs.Concepts.{Concept, top, name, both, some, Node, everything, named, concept_of}
use Rattle.el.specs.Axioms.{Axiom, parts_of, filler_of, Terminology}
use Rattle.el.specs.Derivability.{Derives, one, other}
use Rattle.el.specs.Answers.{is_plain, is_of, is_join}
use Rattle.el.specs.Terminologies.{Joins, Normalised}
use Rattle.el.proofs.Lists.{Some}
use Rattle.el.proofs.Tests.{Tells, decided, tells_as, tells_and, tells_not, tells_any, never}
use Rattle.el.proofs.Roles.{under_equal}
use Rattle.el.proofs.Derivations.{◌▹◌, Fills, fills_by, to_part, from_parts, from_filler}
use Rattle.el.proofs.CanonicalModel.{in_one, in_other, within_some}
use Rattle.el.proofs.Terminologies.{NotJoined, part_not_joined, OneBelow, name_below, some_below, one_below_derives, below_not_joined}
use Rattle.el.proofs.Nodes.{tells_node}
use Rattle.el.proofs.Classification.{tells_joins}

pub data Plain (t : Terminology) : Node → Type 0 where
  plain_name : {x : ℕ} → NotJoined t x → Plain t (named x)

pub data Kind (t : Terminology) (x : Node) : Type 0 where
  is_everything : x ≡ everything → Kind t x
  is_joined : {a : Axiom} → In t.axioms a → named a.left ≡ x → Joins a → Kind t x
  is_plain_lem : Plain t x → Kind t x

-- an axiom that defines x by a conjunction
abbrev JoinedBy : Node → Axiom → Type 0
JoinedBy x a = (named a.left ≡ x) × Joins a

tells_joined : (t : Terminology) (x : Node) → Tells (any (λ a. is_of x a && is_join a) t.axioms) (Some t.axioms (JoinedBy x))
tells_joined t x = tells_any _ t.axioms (λ a h. tells_and (tells_node (named a.left) x) (λ _. tells_joins a))

none_joined : {t : Terminology} {x : ℕ} → ¬ Some t.axioms (JoinedBy (named x)) → Plain t (named x)
none_joined k = plain_name (record { none = λ {a} h j e. k (record { it = a; member = h; holds = (ap named e, j) }) })

plain_none : {t : Terminology} {x : ℕ} → Plain t (named x) → ¬ Some t.axioms (JoinedBy (named x))
plain_none (plain_name k) s = k.none s.member s.holds.1 (cc)

pub tells_plain : (t : Terminology) (x : Node) → Tells (is_plain t x) (Plain t x)
tells_plain t everything = never (λ p. elim p [ ])
tells_plain t (named x) = tells_as none_joined plain_none (tells_not (tells_joined t (named x)))

pub kind : (t : Terminology) (x : Node) → Kind t x
kind t everything = is_everything refl
kind t (named x) = by_search (decided (tells_joined t (named x)))
  where
    by_search : Dec (Some t.axioms (JoinedBy (named x))) → Kind t (named x)
    by_search (yes s) = is_joined s.member s.holds.0 s.holds.1
    by_search (no k) = is_plain_lem (none_joined k)

module _ {t : Terminology} {a : Axiom} {x : Node} (a_in : In t.axioms a) (a_is_x : named a.left ≡ x) where
  pub to_part_of : {c : Concept} {z : ℕ} → In (parts_of a) z → Derives t c (concept_of x) → Derives t c (name z)
  to_part_of z_in p = rw (← a_is_x) at p ▹ to_part a_in z_in

  pub from_parts_of : {c : Concept} → Joins a → ((z : ℕ) → In (parts_of a) z → Derives t c (name z)) → Derives t c (concept_of x)
  from_parts_of joins f = rw (← a_is_x) (from_parts a_in joins f)

  pub from_filler_of : {r : ℕ} {c : Concept} → Fills t r a → Derives t c (concept_of (filler_of a)) → Derives t (some r c) (concept_of x)
  from_filler_of fills p = rw (← a_is_x) (from_filler a_in fills p)

-- ∃r.c below x by an axiom
abbrev pub FilledBy : Terminology → ℕ → Concept → Node → Axiom → Type 0
FilledBy t r c x a = (named a.left ≡ x) × (Fills t r a × Derives t c (concept_of (filler_of a)))

module _ {t : Terminology} (terms : Normalised t) where
  pub part_plain : {a : Axiom} {z : ℕ} → In t.axioms a → In (parts_of a) z → Plain t (named z)
  part_plain a_in z_in = plain_name (part_not_joined terms a_in z_in)

  pub top_below_plain : {x : Node} → Plain t x → ¬ Derives t top (concept_of x)
  top_below_plain {x} (plain_name k) p = by_conjunct (below_not_joined terms k p)
    where
      by_conjunct : {y : ℕ} → OneBelow t top y → ⊥
      by_conjunct (name_below w q) = elim w [ ]
      by_conjunct (some_below g f e w q) = elim w [ ]

  pub both_below_plain : {c d : Concept} {x : Node} → Plain t x → Derives t (both c d) (concept_of x) ↔ (Derives t c (concept_of x) ⊎ Derives t d (concept_of x))
  both_below_plain {c} {d} (plain_name k) = (λ p. by_conjunct (below_not_joined terms k p), λ w. elim w [ inl p ↦ one ▹ p | inr p ↦ other ▹ p ])
    where
      by_conjunct : {y : ℕ} → OneBelow t (both c d) y → Derives t c (name y) ⊎ Derives t d (name y)
      by_conjunct (name_below (in_one w) q) = inl (one_below_derives (name_below w q))
      by_conjunct (name_below (in_other w) q) = inr (one_below_derives (name_below w q))
      by_conjunct (some_below g f e (in_one w) q) = inl (one_below_derives (some_below g f e w q))
      by_conjunct (some_below g f e (in_other w) q) = inr (one_below_derives (some_below g f e w q))

  pub some_below_plain : {r : ℕ} {c : Concept} {x : Node} → Plain t x → Derives t (some r c) (concept_of x) ↔ Some t.axioms (FilledBy t r c x)
  some_below_plain {r} {c} (plain_name k) = (λ p. by_conjunct (below_not_joined terms k p), λ s. from_filler_of s.member s.holds.0 s.holds.1.0 s.holds.1.1)
    where
      by_conjunct : {y : ℕ} → OneBelow t (some r c) y → Some t.axioms (FilledBy t r c (named y))
      by_conjunct (name_below w q) = elim w [ ]
      by_conjunct (some_below {a = a} {r = r'} {d = d} g f e w q) =
          let s = within_some w in
          let role : r ≡ r' = cc in
          let inner : c ≡ d = cc in
          record { it = a; member = g; holds = (ap named e, (fills_by (under_equal role) f, rw inner q)) }
