-- What lies below a column, as the rows for a right report ask it.
--   tells_under     a signature name lies below a column exactly if the table says so
--   top_lost        ⊤ doesn't lie below a plain column
--   both_lost       neither does a conjunction of what doesn't
use mathlib.Core.Path.{◌≡◌}
use mathlib.Core.Logic.{inl, inr}
use mathlib.Core.Bool.{true}
use Prim.Native.Nat.{ℕ}
use Rattle.el.specs.Concepts.{Concept, top, name, both}
use Rattle.el.specs.Axioms.{Terminology}
use Rattle.el.specs.Signatures.{Signature}
use Rattle.el.specs.Answers.{Column, nothing, node, name_under}
use Rattle.el.specs.Terminologies.{name_node, Comparable}
use Rattle.el.proofs.Tests.{Tells, never}
use Rattle.el.proofs.Nodes.{IsColumn, no_column, node_column}
use Rattle.el.proofs.Classification.{InclusionTable}
use Rattle.el.proofs.PlainNodes.{top_below_plain, both_below_plain}
use Rattle.el.proofs.BackwardMarks.{Below, PlainColumn, plain_nothing, plain_node}

module _ {n : ℕ} {sig : Signature} {t u : Terminology} (given : Comparable n sig t u) (second_table : InclusionTable n u) where
  pub tells_under : {b : ℕ} → sig.has_name b ≡ true → (y : Column) → IsColumn n y → Tells (name_under second_table.says b y) (Below u (name b) y)
  tells_under over nothing no_column = never (λ p. p)
  tells_under {b} over (node y) (node_column y_in) = record
      { sound = λ h. second_table.sound (name_node (given.names_in b over)) y_in h; complete = λ p. second_table.complete (name_node (given.names_in b over)) y_in p }

  pub top_lost : (y : Column) → PlainColumn u y → Below u top y → ⊥
  top_lost nothing plain_nothing p = p
  top_lost (node y) (plain_node k) p = top_below_plain given.second_terms k p

  pub both_lost : (c d : Concept) (y : Column) → PlainColumn u y → (Below u c y → ⊥) → (Below u d y → ⊥) → Below u (both c d) y → ⊥
  both_lost c d nothing plain_nothing f g p = p
  both_lost c d (node y) (plain_node k) f g p = elim ((both_below_plain given.second_terms k).0 p) [ inl q ↦ f q | inr q ↦ g q ]
