-- Any inclusion, decided by a table of the inclusions between nodes.
--   Scoped n c         the names in c are below n
--   tells_below        the test of specs/Answers tells of c ⊑ d, by any table
--   tells_included     and so does the answer that specs/Answers computes
use mathlib.Core.Path.{◌≡◌}
use mathlib.Core.Logic.{◌⊎◌, inl, inr}
use mathlib.Core.Bool.{Bool}
use Prim.Native.Nat.{ℕ, ◌<◌}
use Rattle.el.specs.Concepts.{Concept, top, name, both, some, Node, everything, named, concept_of}
use Rattle.el.specs.Axioms.{Axiom, parts_of, filler_of, Terminology}
use Rattle.el.specs.Derivability.{Derives, to_top}
use Rattle.el.specs.Answers.{node_below, by_plain, below_plain, below_some, below_by, is_included}
use Rattle.el.specs.Lists.{Every}
use Rattle.el.specs.Terminologies.{Joins, Normalised, IsNode, name_node, Formed}
use Rattle.el.proofs.Lists.{Some}
use Rattle.el.proofs.Tests.{Tells, tells_as, tells_iff, tells_and, tells_or, tells_any, tells_all, never, always}
use Rattle.el.proofs.Roles.{tells_under}
use Rattle.el.proofs.Derivations.{both_above}
use Rattle.el.proofs.Terminologies.{top_below_some, both_below_some, some_below_some}
use Rattle.el.proofs.Nodes.{tells_node}
use Rattle.el.proofs.Classification.{tells_link, tells_joins, tells_fills, InclusionTable, some_table, linked, links, part_node}
use Rattle.el.proofs.PlainNodes.{Plain, tells_plain, is_everything, is_joined, is_plain_lem, kind, to_part_of, from_parts_of, part_plain, top_below_plain, both_below_plain, some_below_plain}

abbrev pub Scoped : ℕ → Concept → Type 0
Scoped n top = Unit
Scoped n (name x) = x < n
Scoped n (both c d) = Scoped n c × Scoped n d
Scoped n (some r c) = Scoped n c

module _ {n : ℕ} {t : Terminology} (formed : Formed n t) (terms : Normalised t) (table : InclusionTable n t) where
  tells_nodes : {x y : Node} → IsNode n x → IsNode n y → Tells (table.says x y) (Derives t (concept_of x) (concept_of y))
  tells_nodes x_in y_in = record { sound = λ h. table.sound x_in y_in h; complete = λ p. table.complete x_in y_in p }

  tells_node_below : (d : Concept) → Scoped n d → (x : Node) → IsNode n x → Tells (node_below t table.says x d) (Derives t (concept_of x) d)
  tells_node_below top d_in x x_in = always to_top
  tells_node_below (name b) d_in x x_in = tells_nodes x_in (name_node d_in)
  tells_node_below (both d e) d_in x x_in = tells_iff both_above (tells_and (tells_node_below d d_in.0 x x_in) (λ _. tells_node_below e d_in.1 x x_in))
  tells_node_below (some r d) d_in x x_in = tells_as (λ s. linked formed table x_in s.member s.holds.0 s.holds.1) (λ p. links formed table x_in p)
      (tells_any _ t.axioms (λ b b_in. tells_and (tells_link t table.says x r b) (λ _. tells_node_below d d_in (filler_of b) (formed.filler_in b_in))))

  -- from plain nodes to all
  tells_by_plain : {c : Concept} (p : Node → Bool) → ((y : Node) → IsNode n y → Plain t y → Tells (p y) (Derives t c (concept_of y))) → (y : Node) → IsNode n y
      → Tells (by_plain t p y) (Derives t c (concept_of y))
  tells_by_plain {c} p tells y y_in = tells_as there back (tells_or (tells_node y everything) (tells_or
      (tells_any {P = Split} _ t.axioms (λ a a_in. tells_and (tells_node (named a.left) y)
      (λ _. tells_and (tells_joins a) (λ _. tells_all _ (parts_of a) (λ z z_in. tells (named z) (part_node formed a_in z_in) (part_plain terms a_in z_in))))))
      (tells_and (tells_plain t y) (λ plain. tells y y_in plain))))
    where
      Split : Axiom → Type 0
      Split a = (named a.left ≡ y) × (Joins a × Every (parts_of a) (λ z. Derives t c (name z)))

      there : (y ≡ everything) ⊎ (Some t.axioms Split ⊎ (Plain t y × Derives t c (concept_of y))) → Derives t c (concept_of y)
      there (inl e) = rw e to_top
      there (inr (inl s)) = from_parts_of s.member s.holds.0 s.holds.1.0 s.holds.1.1.at
      there (inr (inr w)) = w.1

      back : Derives t c (concept_of y) → (y ≡ everything) ⊎ (Some t.axioms Split ⊎ (Plain t y × Derives t c (concept_of y)))
      back p = elim (kind t y) [
        | is_everything e ↦ inl e
        | is_joined {a = a} a_in a_is_y joins ↦ inr (inl (record { it = a; member = a_in; holds = (a_is_y, (joins, record { at = λ z z_in. to_part_of a_in a_is_y z_in p })) }))
        | is_plain_lem plain ↦ inr (inr (plain, p))
      ]

  tells_below_plain : (c : Concept) → Scoped n c → (y : Node) → IsNode n y → Plain t y → Tells (below_plain t table.says c y) (Derives t c (concept_of y))
  tells_below_plain top c_in y y_in plain = never (top_below_plain terms plain)
  tells_below_plain (name b) c_in y y_in plain = tells_nodes (name_node c_in) y_in
  tells_below_plain (both c d) c_in y y_in plain = tells_iff (both_below_plain terms plain) (tells_or (tells_below_plain c c_in.0 y y_in plain) (tells_below_plain d c_in.1 y y_in plain))
  tells_below_plain (some r c) c_in y y_in plain = tells_iff (some_below_plain terms plain)
      (tells_any _ t.axioms (λ a a_in. tells_and (tells_node (named a.left) y)
      (λ _. tells_and (tells_fills t r a) (λ _. tells_by_plain (below_plain t table.says c) (tells_below_plain c c_in) (filler_of a) (formed.filler_in a_in)))))

  tells_below_some : (r : ℕ) (d : Concept) → Scoped n d → (p : Concept → Bool) → ((c : Concept) → Scoped n c → Tells (p c) (Derives t c d)) → (c : Concept) → Scoped n c
      → Tells (below_some t table.says r d p c) (Derives t c (some r d))
  tells_below_some r d d_in p tells top c_in = never (top_below_some terms)
  tells_below_some r d d_in p tells (name b) c_in = tells_node_below (some r d) d_in (named b) (name_node c_in)
  tells_below_some r d d_in p tells (both c e) c_in = tells_iff (both_below_some terms) (tells_or (tells_below_some r d d_in p tells c c_in.0) (tells_below_some r d d_in p tells e c_in.1))
  tells_below_some r d d_in p tells (some s c) c_in = tells_iff (some_below_some terms) (tells_and (tells_under t.roles s r) (λ _. tells c c_in))

  pub tells_below : (d : Concept) → Scoped n d → (c : Concept) → Scoped n c → Tells (below_by t table.says d c) (Derives t c d)
  tells_below top d_in c c_in = always to_top
  tells_below (name b) d_in c c_in = tells_by_plain (below_plain t table.says c) (tells_below_plain c c_in) (named b) (name_node d_in)
  tells_below (both d e) d_in c c_in = tells_iff both_above (tells_and (tells_below d d_in.0 c c_in) (λ _. tells_below e d_in.1 c c_in))
  tells_below (some r d) d_in c c_in = tells_below_some r d d_in (below_by t table.says d) (tells_below d d_in) c c_in

pub tells_included : {n : ℕ} {t : Terminology} → Formed n t → Normalised t → (c d : Concept) → Scoped n c → Scoped n d → Tells (is_included n t c d) (Derives t c d)
tells_included formed terms c d c_in d_in = tells_below formed terms (some_table formed) d d_in c c_in
