-- The roots of a concept C that lie below an atom of a concept D, by the line of the names that are idle for it and by what the row of its child has
-- lost. The release and the square of the inclusions between its nodes are g; c is C, its outline with the rows above its roots.
--   AtomReaches g e i l r j         the atom e of C lies below ∃r over root j of D, whose line is i: as a name, or as an ∃ of a role that serves for r over
--                                   a root that row j of l has not lost
--   RootReaches g o i l k r j       an atom of root k does, by the outline o of C
--   Reaching g o e i l r j v        the line v has just roots of which an atom does, and all those of which one of the first e atoms does
--   UnderName g c b k               root k of C lies below the atom b of D, where that is a name
--   UnderSome g o b i l k           and where it is an ∃
--   LostNotBelow g c k y l v        row k lost the roots that do not lie below the node y
--   LostNotReaching g o k x l v     row k lost the roots that do not lie below the ∃ x
--   NamesLost g c b l v             the row of b's owner lost the roots that do not lie below b, where it is a name: the grid l became v
--   RootsLost g o b i l v           and where it is an ∃
--   PointsLost g o b ln vn l v      both the nodes and the roots that do not lie below b are lost, by a line that is right for the grid ln
use Rattle.std.specs.Prelude.{◌≡◌, true, List, ℕ, ◌≤◌, ◌<◌, length}
use Rattle.release.specs.Tables.{serves_at}
use Rattle.marks.specs.Lines.{Has, Spans}
use Rattle.outline.specs.declared.Atom.{Atom}
use Rattle.outline.specs.declared.Outline.{Outline}
use Rattle.outline.specs.Atoms.{child_number, value_of, atom_at, owner_at}
use Rattle.points.specs.declared.Grid.{Grid}
use Rattle.points.specs.declared.Pairs.{Pairs}
use Rattle.points.specs.declared.Classified.{Classified}
use Rattle.points.specs.declared.Subsumee.{Subsumee}
use Rattle.points.specs.declared.Restriction.{Restriction}
use Rattle.points.specs.Grids.{most_roots, root_bytes, Pair, Adds}
use Rattle.points.specs.Above.{table_in, Ranges, RootBelow, ValueInRange, InRange}
use Rattle.points.specs.Nodes.{Inclusive, IdleOf, NodeReaches, NodesLost}

abbrev pub outline_of : Subsumee → Outline
outline_of c = c.outline.now

pub data AtomReaches (g : Classified) (e : Atom) (i : List ℕ) (l : Pairs) (r j : ℕ) : Type 0 where
  name_reaches : child_number e ≡ 0 → NodeReaches g i (value_of e) → AtomReaches g e i l r j
  some_reaches : 0 < child_number e → serves_at (table_in g) (value_of e) r ≡ true → (Pair l j (child_number e) → ⊥) → AtomReaches g e i l r j

pub record RootReaches (g : Classified) (o : Outline) (i : List ℕ) (l : Pairs) (k r j : ℕ) : Type 0 where
  pub by : ℕ
  pub is_atom : by < o.extent.atoms
  pub owner : owner_at o.atoms by ≡ k
  pub reaches : AtomReaches g (atom_at o.atoms by) i l r j

pub record Reaching (g : Classified) (o : Outline) (e : ℕ) (i : List ℕ) (l : Pairs) (r j : ℕ) (v : List ℕ) : Type 0 where
  pub long : root_bytes ≤ length v
  pub sound : (k : ℕ) → Has v k → RootReaches g o i l k r j
  pub complete : (a : ℕ) → a < e → AtomReaches g (atom_at o.atoms a) i l r j → Has v (owner_at o.atoms a)

-- below a name by the rows of the names above the roots, and below an ∃; each says nothing of the other kind of atom
pub record UnderName (g : Classified) (c : Subsumee) (b : Atom) (k : ℕ) : Type 0 where
  pub below : child_number b ≡ 0 → RootBelow g c.above.now k (value_of b)

pub record UnderSome (g : Classified) (o : Outline) (b : Atom) (i : List ℕ) (l : Pairs) (k : ℕ) : Type 0 where
  pub reaches : 0 < child_number b → RootReaches g o i l k (value_of b) (child_number b)

-- what the functions ask
pub record FromRoot (g : Classified) (e : Atom) (x : Restriction) : Type 0 where
  pub inclusive : Inclusive g
  pub atom : ValueInRange g.square.names e
  pub row : x.root < most_roots
  pub spans : Spans g.square.names x.idle.now

-- the atoms of C
pub record AtomsInRange (n : ℕ) (o : Outline) : Type 0 where
  pub inside : o.extent.atoms ≤ length o.atoms
  pub owner : (i : ℕ) → i < o.extent.atoms → owner_at o.atoms i < most_roots
  pub each : (i : ℕ) → i < o.extent.atoms → ValueInRange n (atom_at o.atoms i)

pub record FromRoots (g : Classified) (o : Outline) (x : Restriction) : Type 0 where
  pub inclusive : Inclusive g
  pub atoms : AtomsInRange g.square.names o
  pub row : x.root < most_roots
  pub spans : Spans g.square.names x.idle.now

-- a node y and the row k of the roots that are lost
pub record OfNode (g : Classified) (c : Subsumee) (y k : ℕ) : Type 0 where
  pub ranges : Ranges g
  pub few : (outline_of c).extent.roots ≤ most_roots
  pub node : y ≤ g.square.names
  pub row : k < most_roots

pub record OfName (g : Classified) (c : Subsumee) (b : Atom) : Type 0 where
  pub ranges : Ranges g
  pub few : (outline_of c).extent.roots ≤ most_roots
  pub atom : InRange g.square.names b

pub record OfAtom (g : Classified) (o : Outline) (b : Atom) : Type 0 where
  pub inclusive : Inclusive g
  pub from : AtomsInRange g.square.names o
  pub atom : InRange g.square.names b

pub record LostNotBelow (g : Classified) (c : Subsumee) (row y : ℕ) (l v : Pairs) : Type 0 where
  pub adds : Adds most_roots row (outline_of c).extent.roots (λ k. RootBelow g c.above.now k y → ⊥) (λ k. RootBelow g c.above.now k y) l.rows v.rows

pub record LostNotReaching (g : Classified) (o : Outline) (row : ℕ) (x : Restriction) (l v : Pairs) : Type 0 where
  pub adds : Adds most_roots row most_roots (λ k. RootReaches g o x.idle.now l k x.role.0 x.root → ⊥) (λ k. RootReaches g o x.idle.now l k x.role.0 x.root) l.rows v.rows

pub record NamesLost (g : Classified) (c : Subsumee) (b : Atom) (l v : Pairs) : Type 0 where
  pub adds : Adds most_roots b.owner (outline_of c).extent.roots (λ k. UnderName g c b k → ⊥) (UnderName g c b) l.rows v.rows

pub record RootsLost (g : Classified) (o : Outline) (b : Atom) (i : List ℕ) (l v : Pairs) : Type 0 where
  pub adds : Adds most_roots b.owner most_roots (λ k. UnderSome g o b i l k → ⊥) (UnderSome g o b i l) l.rows v.rows

pub record PointsLost (g : Classified) (o : Outline) (b : Atom) (ln vn : Grid) (l v : Pairs) : Type 0 where
  pub line : List ℕ
  pub idle : IdleOf g ln b line
  pub nodes : NodesLost g b line ln vn
  pub roots : RootsLost g o b line l v
