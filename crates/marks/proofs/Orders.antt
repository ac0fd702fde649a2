-- Laws of orders.
--   node_few, nodes_on                 a walk of an order's nodes: each node that it gives belongs to the square, and it goes on along the same one
--   node_at_lem                        what stands in an order with a node more: what stood there, or a node of the square
use mathlib.Core.Path.{◌∙◌}
use native.Mathlib.Omega.{arith}
use mathlib.Core.Path.{◌≡◌}
use mathlib.Core.Logic.{◌⊎◌, inl, inr}
use native.Mathlib.Decide.{ℕ_discrete, dec_lt}
use lib.ListN.{length, set}
use lib.Seq.{get_or-set_same, get_or-set_other, set_out}
use Rattle.std.specs.Prelude.{Option, Some, None, ℕ, ◌≤◌, ◌<◌}
use Rattle.marks.specs.declared.order.Nodes.{Nodes}
use Rattle.marks.specs.declared.order.Order.{Order}
use Rattle.marks.specs.Orders.{most_nodes, node_at, NodesPlaced, Stands, Walking, NodeGiven}

pub node_few : {n x : ℕ} {s t : Nodes} → Walking n s → NodeGiven s (Some x) t → x ≤ n
node_few w g = rw w.names at g.node

pub nodes_on : {n : ℕ} {r : Option ℕ} {s t : Nodes} → Walking n s → NodeGiven s r t → Walking n t
nodes_on w g = record { names = g.names ∙ w.names; few = w.few; within = omega (arith, g.within, w.within) }

module _ {n : ℕ} {o p : Order} (k x : ℕ) (few : x ≤ n) (nodes : NodesPlaced n o p) where
  abbrev q : Order
  q = record { nodes = set p.nodes k (Some x) }

  pub node_at_lem : (j : ℕ) → Dec (j < most_nodes) → (node_at q j ≡ node_at o j) ⊎ Stands n q j
  node_at_lem j inside = by_place (ℕ_discrete j k) (dec_lt k (length p.nodes))
    where
      same : node_at q j ≡ node_at p j → (node_at q j ≡ node_at o j) ⊎ Stands n q j
      same e = elim (nodes.at j) [ inl z ↦ inl (e ∙ z) | inr z ↦ inr (record { node = z.node; is = e ∙ z.is; few = z.few }) ]

      by_place : Dec (j ≡ k) → Dec (k < length p.nodes) → (node_at q j ≡ node_at o j) ⊎ Stands n q j
      by_place (no e) l = same (get_or-set_other p.nodes k j (Some x) None e)
      by_place (yes e) (yes l) = inr (record { node = x; is = rw e (get_or-set_same p.nodes k (Some x) None l); few = few })
      by_place (yes e) (no l) = same (rw (set_out p.nodes k (Some x) (omega arith)))
