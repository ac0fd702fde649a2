-- The nodes that lie below an atom, by the names that are idle for it. The release and the square of the inclusions between its nodes are g.
--   AxiomReaches g l r j b       the axiom of the name b is an ∃q.B where q serves for r, and row j of l has not lost B
--   Idle g l r j k               the line k has just the names whose axioms do not
--   NodeReaches g k x            a name above the node x is not in k: x lies below the ∃ that k is the line of
--   NodeBelow g b k x            x lies below the atom b, which has the line k where it is an ∃
--   NodesLost g b k l v          the row of b's owner lost the nodes that do not lie below b: the grid l became v
use Rattle.std.specs.Prelude.{◌≡◌, true, ◌⊎◌, List, Option, MatchOption, ℕ, suc, ◌≤◌, ◌<◌}
use Rattle.release.specs.Files.{restricts}
use Rattle.release.specs.Tables.{kind_at, role_at, filler_at, serves_at}
use Rattle.marks.specs.Squares.{Room}
use Rattle.marks.specs.Lines.{Has, Spans}
use Rattle.outline.specs.declared.Atom.{Atom}
use Rattle.outline.specs.Atoms.{child_number, value_of, Rooted}
use Rattle.points.specs.declared.Grid.{Grid}
use Rattle.points.specs.declared.Classified.{Classified}
use Rattle.points.specs.declared.Subsumer.{Subsumer}
use Rattle.points.specs.declared.Restriction.{Restriction}
use Rattle.points.specs.Grids.{most_nodes, Set, Adds}
use Rattle.points.specs.Above.{table_in, Includes, OwnServe, InRange}

pub record AxiomReaches (g : Classified) (l : Grid) (r j b : ℕ) : Type 0 where
  pub is_restriction : restricts (kind_at (table_in g) b) ≡ true
  pub role : serves_at (table_in g) (role_at (table_in g) b) r ≡ true
  pub kept : Set l j (filler_at (table_in g) b) → ⊥

pub record Idle (g : Classified) (l : Grid) (r j : ℕ) (k : List ℕ) : Type 0 where
  pub none : (b : ℕ) → Has k b → AxiomReaches g l r j b → ⊥
  pub all : (b : ℕ) → b < g.square.names → Has k b ⊎ AxiomReaches g l r j b

-- the same for an atom, where it is an ∃
pub record IdleOf (g : Classified) (l : Grid) (b : Atom) (k : List ℕ) : Type 0 where
  pub idle : 0 < child_number b → Idle g l (value_of b) (child_number b) k

pub record NodeReaches (g : Classified) (k : List ℕ) (x : ℕ) : Type 0 where
  pub by : ℕ
  pub is_name : by < g.square.names
  pub above : Includes g x by
  pub not_idle : Has k by → ⊥

pub data NodeBelow (g : Classified) (b : Atom) (k : List ℕ) (x : ℕ) : Type 0 where
  below_name : child_number b ≡ 0 → Includes g x (value_of b) → NodeBelow g b k x
  below_some : 0 < child_number b → NodeReaches g k x → NodeBelow g b k x

-- the ∃ that an atom is, if it is one
pub record IsRestriction (d : Subsumer) (e : Restriction) : Type 0 where
  pub is_some : Rooted d.atom → 0 < child_number d.atom
  pub role : e.role.0 ≡ value_of d.atom
  pub root : e.root ≡ child_number d.atom
  pub idle : e.idle.now ≡ d.idle.now

abbrev pub RestrictionOf : Subsumer → Option Restriction → Type 0
RestrictionOf d r = MatchOption r (child_number d.atom ≡ 0) (IsRestriction d)

-- what the functions ask: a table and a square of inclusions; a node and a line
pub record Inclusive (g : Classified) : Type 0 where
  pub fillers : (x : ℕ) → x < g.square.names → restricts (kind_at (table_in g) x) ≡ true → filler_at (table_in g) x ≤ g.square.names
  pub own : OwnServe g
  pub few : g.square.names < most_nodes
  pub room : Room g.square g.work.now

pub record Ranged (g : Classified) : Type 0 where
  pub fillers : (x : ℕ) → x < g.square.names → restricts (kind_at (table_in g) x) ≡ true → filler_at (table_in g) x < most_nodes
  pub own : OwnServe g
  pub few : g.square.names < most_nodes

pub record FromNode (g : Classified) (k : List ℕ) (x : ℕ) : Type 0 where
  pub room : Room g.square g.work.now
  pub node : x ≤ g.square.names
  pub spans : Spans g.square.names k

pub record OfAtom (g : Classified) (b : Atom) : Type 0 where
  pub inclusive : Inclusive g
  pub atom : InRange g.square.names b

pub record NodesLost (g : Classified) (b : Atom) (k : List ℕ) (l v : Grid) : Type 0 where
  pub adds : Adds most_nodes b.owner (suc g.square.names) (λ x. NodeBelow g b k x → ⊥) (NodeBelow g b k) l.rows v.rows
