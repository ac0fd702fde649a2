-- Columns and their numbers, and a square's marks as a test on nodes and columns.
--   column_last, column_name, column_in      what the column of a number is
--   named_column                             the number of a column that is a name
--   by_column                                a column is ⊤, or has a number
--   says_column q w                           the marks of the square q in the memory w; the column ⊤ is never marked
--   said_column, column_marked               it says what the square marks
use mathlib.Core.Path.{◌≡◌, refl, sym, ◌∙◌}
use mathlib.Core.Bool.{Bool, true, false}
use mathlib.Core.List.{List}
use mathlib.Core.Logic.{◌⊎◌, inl, inr}
use Prim.Native.Nat.{ℕ, ◌≤◌, ◌<◌}
use native.Mathlib.Omega.{arith}
use native.Mathlib.Decide.{ℕ_discrete}
use borrow.Author.Tests.{eq-eqb, ne_eqb}
use Rattle.el.specs.Concepts.{Node, everything, named}
use Rattle.el.specs.Answers.{Column, nothing, node}
use Rattle.el.specs.Terminologies.{top_node, name_node}
use Rattle.el.proofs.Nodes.{IsColumn, no_column, node_column}
use Rattle.release.specs.Entries.{node_number}
use Rattle.marks.specs.declared.Square.{Square}
use Rattle.marks.specs.Squares.{Marked}
use Rattle.classification.specs.Inclusions.{says}
use Rattle.classification.proofs.Nodes.{said, marked}
use Rattle.backward.specs.Backward.{column_at}

pub column_last : (n k : ℕ) → k ≡ n → column_at n k ≡ nothing
unfolding column_at
column_last n k e = rw (eq-eqb k n e)

pub column_name : (n k : ℕ) → k < n → column_at n k ≡ node (named k)
unfolding column_at
column_name n k l = rw (ne_eqb k n (λ e. omega arith))

pub last_or_name : (n k : ℕ) → k ≤ n → (k ≡ n) ⊎ (k < n)
last_or_name n k h = elim (ℕ_discrete k n) [ yes e ↦ inl e | no e ↦ inr (omega arith) ]

pub column_in : (n k : ℕ) → k ≤ n → IsColumn n (column_at n k)
column_in n k h = elim (last_or_name n k h) [ inl e ↦ rw (column_last n k e) no_column | inr l ↦ rw (column_name n k l) (node_column (name_node l)) ]

pub named_column : (n k m : ℕ) → k ≤ n → node (named m) ≡ column_at n k → (k < n) × (m ≡ k)
named_column n k m h e = elim (last_or_name n k h) [
  | inl f ↦ (let p : node (named m) ≡ nothing = e ∙ column_last n k f in let z : ◌≡◌ {A = ℕ} 0 1 = cc in absurd (omega arith))
  | inr l ↦ (let p : node (named m) ≡ node (named k) = e ∙ column_name n k l in let z : m ≡ k = cc in (l, z))
]

pub record Numbered (n : ℕ) (y : Column) : Type 0 where
  pub number : ℕ
  pub small : number ≤ n
  pub is : column_at n number ≡ y

pub by_column : (n : ℕ) (y : Column) → IsColumn n y → (y ≡ node everything) ⊎ Numbered n y
by_column n nothing no_column = inr (record { number = n; small = omega arith; is = column_last n n refl })
by_column n (node everything) (node_column top_node) = inl refl
by_column n (node (named k)) (node_column (name_node l)) = inr (record { number = k; small = omega arith; is = column_name n k l })

-- nothing stands where ⊤ would
abbrev pub says_column : Square → List ℕ → Node → Column → Bool
says_column q w x nothing = says q w x everything
says_column q w x (node everything) = false
says_column q w x (node (named y)) = says q w x (named y)

module _ {q : Square} {w : List ℕ} (a : Node) {x k : ℕ} (e : node_number q.names a ≡ x) (h : k ≤ q.names) where
  pub said_column : Marked q w x k → says_column q w a (column_at q.names k) ≡ true
  said_column m = elim (last_or_name q.names k h) [
    | inl f ↦ rw (column_last q.names k f) (said a everything e (sym f) m)
    | inr l ↦ rw (column_name q.names k l) (said a (named k) e refl m)
  ]

  pub column_marked : says_column q w a (column_at q.names k) ≡ true → Marked q w x k
  column_marked s = elim (last_or_name q.names k h) [
    | inl f ↦ marked a everything e (sym f) (rw (column_last q.names k f) at s)
    | inr l ↦ marked a (named k) e refl (rw (column_name q.names k l) at s)
  ]
