-- Nodes and their numbers, and a square's marks as a test on nodes.
--   number_at, at_number       node_at and node_number undo each other
--   at_node, number_small      the numbers up to n are the nodes' numbers
--   said, marked               the test says what the square marks
use mathlib.Core.Path.{◌≡◌, refl, sym}
use mathlib.Core.Bool.{true}
use mathlib.Core.List.{List}
use Prim.Native.Nat.{ℕ, ◌≤◌, ◌<◌}
use native.Mathlib.Omega.{arith}
use native.Mathlib.Decide.{ℕ_discrete}
use borrow.Author.Tests.{eqb-true, eq-eqb, ne_eqb}
use Rattle.el.specs.Concepts.{Node, everything, named}
use Rattle.el.specs.Terminologies.{IsNode, top_node, name_node}
use Rattle.release.specs.Entries.{node_number}
use Rattle.marks.specs.declared.Square.{Square}
use Rattle.marks.specs.Squares.{Marked}
use Rattle.classification.specs.Inclusions.{node_at, says}

pub at_top : (n x : ℕ) → x ≡ n → node_at n x ≡ everything
unfolding node_at
at_top n x e = rw (eq-eqb x n e)

pub at_name : (n x : ℕ) → x < n → node_at n x ≡ named x
unfolding node_at
at_name n x l = rw (ne_eqb x n (λ e. omega arith))

pub at_node : (n x : ℕ) → x ≤ n → IsNode n (node_at n x)
at_node n x l = by_place (ℕ_discrete x n)
  where
    by_place : Dec (x ≡ n) → IsNode n (node_at n x)
    by_place (yes e) = rw (at_top n x e) top_node
    by_place (no k) = let h : x < n = omega arith in rw (at_name n x h) (name_node h)

pub number_at : (n x : ℕ) → x ≤ n → node_number n (node_at n x) ≡ x
number_at n x l = by_place (ℕ_discrete x n)
  where
    by_place : Dec (x ≡ n) → node_number n (node_at n x) ≡ x
    by_place (yes e) = rw (at_top n x e) (sym e)
    by_place (no k) = rw (at_name n x (omega arith))

pub at_number : (n : ℕ) (a : Node) → IsNode n a → node_at n (node_number n a) ≡ a
at_number n everything top_node = at_top n n refl
at_number n (named x) (name_node l) = at_name n x l

pub number_small : (n : ℕ) (a : Node) → IsNode n a → node_number n a ≤ n
number_small n everything top_node = omega arith
number_small n (named x) (name_node l) = omega arith

module _ {q : Square} {w : List ℕ} (a b : Node) {x y : ℕ} (e : node_number q.names a ≡ x) (f : node_number q.names b ≡ y) where
  pub said : Marked q w x y → says q w a b ≡ true
  unfolding says
  said m = rw (e, f) (eq-eqb _ 1 m.is)

  pub marked : says q w a b ≡ true → Marked q w x y
  unfolding says
  marked h = record { is = eqb-true _ 1 (rw (e, f) at h) }
