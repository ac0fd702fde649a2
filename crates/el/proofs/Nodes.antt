-- The nodes of a terminology over the names below n: the names and ⊤; and the columns of backward marks: the nodes, and
-- nothing, below which no concept lies.
--   IsColumn n y       a name in the column y is below n
-- Not here: IsNode, and terminologies over the names below n (specs/Terminologies).
use mathlib.Core.Path.{◌≡◌, refl, ap}
use mathlib.Core.List.{◌∷◌}
use Prim.Native.Nat.{ℕ, zero, suc, ◌<◌}
use native.Mathlib.Omega.{arith}
use native.Mathlib.Decide.{ℕ_discrete}
use Rattle.el.specs.Lists.{In, first, later}
use Rattle.el.specs.Concepts.{Node, everything, named}
use Rattle.el.specs.Axioms.{Terminology}
use Rattle.el.specs.Signatures.{Signature}
use Rattle.el.specs.Answers.{below, nodes, same_node, Column, nothing, node, columns, same_column}
use Rattle.el.specs.Terminologies.{IsNode, top_node, name_node, Comparable}
use Rattle.el.proofs.Lists.{in_map}
use Rattle.el.proofs.Tests.{Tells, tells_as, tells_eq, never, always}
use Rattle.el.proofs.Saturation.{Axis}

pub data IsColumn (n : ℕ) : Column → Type 0 where
  no_column : IsColumn n nothing
  node_column : {y : Node} → IsNode n y → IsColumn n (node y)

pub turned : {n : ℕ} {sig : Signature} {t u : Terminology} → Comparable n sig t u → Comparable n sig u t
turned given = record { names_in = given.names_in; first_formed = given.second_formed; second_formed = given.first_formed; first_terms = given.second_terms; second_terms = given.first_terms }

-- the lists of them
pub in_below : {x : ℕ} (n : ℕ) → x < n → In (below n) x
in_below {x} zero h = absurd (omega arith)
in_below {x} (suc n) h = last_or_before (ℕ_discrete x n) (λ g. in_below n g)
  where
    last_or_before : Dec (x ≡ n) → (x < n → In (below n) x) → In (n ∷ below n) x
    last_or_before (yes e) f = rw e first
    last_or_before (no k) f = later (f (omega arith))

pub in_nodes : (n : ℕ) (x : Node) → IsNode n x → In (nodes n) x
in_nodes n everything top_node = first
in_nodes n (named x) (name_node h) = later (in_map named (in_below n h))

pub in_columns : (n : ℕ) (y : Column) → IsColumn n y → In (columns n) y
in_columns n nothing no_column = first
in_columns n (node y) (node_column h) = later (in_map node (in_nodes n y h))

-- their equality is tested
pub tells_node : (x y : Node) → Tells (same_node x y) (x ≡ y)
tells_node everything everything = always refl
tells_node everything (named y) = never (λ e. let z : ◌≡◌ {A = ℕ} 0 1 = cc in omega arith)
tells_node (named x) everything = never (λ e. let z : ◌≡◌ {A = ℕ} 0 1 = cc in omega arith)
tells_node (named x) (named y) = tells_as (λ e. ap named e) (λ e. let z : x ≡ y = cc in z) (tells_eq x y)

pub tells_column : (x y : Column) → Tells (same_column x y) (x ≡ y)
tells_column nothing nothing = always refl
tells_column nothing (node y) = never (λ e. let z : ◌≡◌ {A = ℕ} 0 1 = cc in omega arith)
tells_column (node x) nothing = never (λ e. let z : ◌≡◌ {A = ℕ} 0 1 = cc in omega arith)
tells_column (node x) (node y) = tells_as (λ e. ap node e) (λ e. let z : x ≡ y = cc in z) (tells_node x y)

abbrev pub node_axis : (n : ℕ) → Axis (IsNode n)
node_axis n = record { cells = nodes n; in_cells = in_nodes n; same = same_node; tells_same = tells_node }

abbrev pub column_axis : (n : ℕ) → Axis (IsColumn n)
column_axis n = record { cells = columns n; in_cells = in_columns n; same = same_column; tells_same = tells_column }
