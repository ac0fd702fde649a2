-- An order of the nodes: a hint, of which no more is promised than that nodes stand in it.
--   node_at o k             the node at place k of the order o, if there is one
--   placed o k x            the order o with the node x at place k; unchanged where one of the two is out of range
--   Stands n p k            at place k of the order p a node stands of a square of n names
--   NodesPlaced n o p       each place of the order p has what it has in o, or such a node
--   Walking n s             s is a walk of the nodes of an order that belong to a square of n names;  Walks s: of the square that it was made for
--   nodes_left s            no more nodes are left to s than this
--   NodeGiven s r t         r is a node of the square that s goes along, or none; t goes on along the same square
use Rattle.std.specs.Prelude.{◌≡◌, ◌&&◌, ◌⊎◌, ℕ, suc, ◌-◌, ◌≤◌, ltb, Option, Some, None, IfSome, get_or, set}
use Rattle.el.specs.Lists.{pick}
use Rattle.marks.specs.declared.order.Order.{Order}
use Rattle.marks.specs.declared.order.Nodes.{Nodes}

-- how many nodes an order has
abbrev pub most_nodes : ℕ
most_nodes = 1024

abbrev pub node_at : Order → ℕ → Option ℕ
node_at o k = get_or o.nodes k None

abbrev pub placed : Order → ℕ → ℕ → Order
placed o k x = pick (ltb k most_nodes && ltb x most_nodes) (record { nodes = set o.nodes k (Some x) }) o

pub record Stands (n : ℕ) (p : Order) (k : ℕ) : Type 0 where
  pub node : ℕ
  pub is : node_at p k ≡ Some node
  pub few : node ≤ n

pub record NodesPlaced (n : ℕ) (o p : Order) : Type 0 where
  pub at : (k : ℕ) → (node_at p k ≡ node_at o k) ⊎ Stands n p k

pub record Walking (n : ℕ) (s : Nodes) : Type 0 where
  pub names : s.names ≡ n
  pub few : n ≤ 65535
  pub within : s.end ≤ suc n

abbrev pub Walks : Nodes → Type 0
Walks s = Walking s.names s

abbrev pub nodes_left : Nodes → ℕ
nodes_left s = s.end - s.place

pub record NodeGiven (s : Nodes) (r : Option ℕ) (t : Nodes) : Type 0 where
  pub names : t.names ≡ s.names
  pub within : t.end ≤ s.end
  pub node : IfSome r (λ x. x ≤ s.names)
