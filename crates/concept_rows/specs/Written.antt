-- Rows as the station writes them, one after another.
--   Formed sig rows k       the rows below k are well formed
--   Agree rows seen k       both have the same rows below k
--   kept rows i             the concept of the number i: ⊤ for 0, else that of row i - 1
--   LeftRows sig t u n rows k p f    the k rows for a left report; p is the number of each node, whose concept lies above the node by the
--                                    first release and, by the second, not above any node that f marks for it
--   Lost t u rows k x y j   row j, one of k, lies below the node x by the first release and not below the column y by the second
--   passing p k             how many of the numbers below k pass the test p. Rows are counted against it: so many for each that passes no more
use Rattle.std.specs.Prelude.{◌≡◌, Bool, ℕ, zero, suc, ◌+◌, ◌≤◌, ◌<◌}
use Rattle.el.specs.Lists.{pick}
use Rattle.el.specs.Concepts.{Concept, top, Node, concept_of}
use Rattle.el.specs.Axioms.{Terminology}
use Rattle.el.specs.Derivability.{Derives}
use Rattle.el.specs.Signatures.{Signature}
use Rattle.el.specs.Answers.{Column}
use Rattle.el.specs.Terminologies.{IsNode}
use Rattle.el.proofs.BackwardMarks.{Below}
use Rattle.concept_rows.specs.Rows.{Rows, WellFormed, concept_of_row}

pub record Formed (sig : Signature) (rows : Rows) (k : ℕ) : Type 0 where
  pub at : (i : ℕ) → i < k → WellFormed sig i (rows i)

pub record Agree (rows seen : Rows) (k : ℕ) : Type 0 where
  pub at : (i : ℕ) → i < k → rows i ≡ seen i

abbrev pub kept : Rows → ℕ → Concept
kept rows zero = top
kept rows (suc i) = concept_of_row rows i

pub record LeftRows (sig : Signature) (t u : Terminology) (n : ℕ) (rows : Rows) (k : ℕ) (p : Node → ℕ) (f : Node → Node → Type 0) : Type 0 where
  pub formed : Formed sig rows k
  pub inside : (x : Node) → IsNode n x → p x ≤ k
  pub first : (x : Node) → IsNode n x → Derives t (concept_of x) (kept rows (p x))
  pub second : (x y : Node) → IsNode n x → IsNode n y → f x y → Derives u (concept_of y) (kept rows (p x)) → ⊥

pub record Lost (t u : Terminology) (rows : Rows) (k : ℕ) (x : Node) (y : Column) (j : ℕ) : Type 0 where
  pub inside : j < k
  pub first : Derives t (concept_of_row rows j) (concept_of x)
  pub second : Below u (concept_of_row rows j) y → ⊥

unfoldable pub passing : (ℕ → Bool) → ℕ → ℕ
passing p zero = 0
passing p (suc k) = pick (p k) 1 0 + passing p k
