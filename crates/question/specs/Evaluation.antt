-- What the rows of marks mean that a question is answered by. The release and the square of the inclusions between its nodes are g.
--   World g                        the release is accepted, its table is its own, and the square has its inclusions
--   content_in g                   what its file says
--   RowAbove g a k c               row k of a has the names above c, as far as they are not defined by a conjunction
--   Above g a atoms                each row does, for the root of its number
--   KeptRow c t point e l j d     row j of l, of c places, has lost, of the points below e, just those that do not lie below d
--   atom_in o i                    atom i of the outline o, with the whole of its filler
--   Sifted c t point e l o Done   the rows of l have lost only points that do not lie below their roots, by o, and all that do not lie below an atom
--                                  of which Done holds
--   ToFill, Filled, ..             what the functions ask, and what they promise
use Rattle.std.specs.Prelude.{◌≡◌, List, ℕ, ◌<◌}
use Rattle.el.specs.Concepts.{Concept, name, concept_of}
use Rattle.el.specs.Axioms.{Terminology}
use Rattle.el.specs.Derivability.{Derives}
use Rattle.release.specs.Files.{names_of, content_of}
use Rattle.release.specs.Tables.{kind_at, Release}
use Rattle.concept.specs.Bytes.{IsTextOf}
use Rattle.demands.specs.Lying.{Lies}
use Rattle.marks.specs.Squares.{Room}
use Rattle.marks.specs.Lines.{Empty}
use Rattle.classification.specs.Inclusions.{node_at, Inclusions}
use Rattle.outline.specs.declared.Outline.{Outline}
use Rattle.outline.specs.declared.Atom.{Atom}
use Rattle.outline.specs.Atoms.{value_at, owner_at, child_at, written, atom_concept, root_of, Shape}
use Rattle.points.specs.declared.Grid.{Grid}
use Rattle.points.specs.declared.Pairs.{Pairs}
use Rattle.points.specs.declared.Classified.{Classified}
use Rattle.points.specs.declared.Subsumee.{Subsumee}
use Rattle.points.specs.Grids.{most_roots, most_nodes, SetIn, Set, Blank}
use Rattle.points.specs.Above.{file_in, table_in}
use Rattle.points.specs.Roots.{outline_of}
use Rattle.question.specs.declared.position.Position.{Position}
use Rattle.question.specs.Positions.{position_number}

pub record World (g : Classified) : Type 0 where
  pub release : Release (file_in g) (table_in g)
  pub names : g.square.names ≡ names_of (file_in g)
  pub few : g.square.names < most_nodes
  pub room : Room g.square g.work.now
  pub inclusions : Inclusions (file_in g) g.square g.work.now

abbrev pub content_in : Classified → Terminology
content_in g = content_of (file_in g)

pub record RowAbove (g : Classified) (a : Grid) (k : ℕ) (c : Concept) : Type 0 where
  pub sound : (y : ℕ) → y < g.square.names → (kind_at (table_in g) y ≡ 2 → ⊥) → Set a k y → Derives (content_in g) c (name y)
  pub complete : (y : ℕ) → y < g.square.names → (kind_at (table_in g) y ≡ 2 → ⊥) → Derives (content_in g) c (name y) → Set a k y

pub record Above (g : Classified) (a : Grid) (atoms : List Atom) : Type 0 where
  pub row : (k : ℕ) → k < most_roots → RowAbove g a k (root_of atoms k)

pub record KeptRow (c : ℕ) (t : Terminology) (point : ℕ → Concept) (e : ℕ) (l : List ℕ) (j : ℕ) (d : Concept) : Type 0 where
  pub lost : (x : ℕ) → x < e → SetIn c l j x → Derives t (point x) d → ⊥
  pub kept : (x : ℕ) → x < e → (SetIn c l j x → ⊥) → Derives t (point x) d

-- the two kinds of points
abbrev pub node_point : ℕ → ℕ → Concept
node_point n x = concept_of (node_at n x)

abbrev pub root_point : Outline → ℕ → Concept
root_point o k = root_of (written o) k

pub record ToFill (g : Classified) (o : Outline) (a : Grid) : Type 0 where
  pub world : World g
  pub shape : Shape g.square.names o
  pub blank : Blank a

pub record Filled (g : Classified) (o : Outline) (a : Grid) : Type 0 where
  pub above : Above g a (written o)

abbrev pub atom_in : Outline → ℕ → Concept
atom_in o i = atom_concept (child_at o.atoms i) (value_at o.atoms i) (root_point o (child_at o.atoms i))

pub record Sifted (c : ℕ) (t : Terminology) (point : ℕ → Concept) (e : ℕ) (l : List ℕ) (o : Outline) (Done : ℕ → Type 0) : Type 0 where
  pub lost : (j x : ℕ) → j < most_roots → x < e → SetIn c l j x → Derives t (point x) (root_point o j) → ⊥
  pub kept : (i x : ℕ) → i < o.extent.atoms → Done i → x < e → (SetIn c l (owner_at o.atoms i) x → ⊥) → Derives t (point x) (atom_in o i)

-- c: C, its outline with the rows above its roots; o: the outline of D
pub record ToSift (g : Classified) (c : Subsumee) (o : Outline) (roots : Pairs) : Type 0 where
  pub world : World g
  pub from : Shape g.square.names (outline_of c)
  pub filled : Filled g (outline_of c) c.above.now
  pub shape : Shape g.square.names o
  pub blank : Empty roots.rows

-- c and o: the outlines of C and D
pub record NamesSifted (g : Classified) (c o : Outline) (roots : Pairs) : Type 0 where
  pub sifted : Sifted most_roots (content_in g) (root_point c) c.extent.roots roots.rows o (λ i. child_at o.atoms i ≡ 0)

pub record ToLose (g : Classified) (c o : Outline) (nodes : Grid) (roots : Pairs) : Type 0 where
  pub world : World g
  pub from : Shape g.square.names c
  pub shape : Shape g.square.names o
  pub blank : Blank nodes
  pub names : NamesSifted g c o roots

pub record Lost (g : Classified) (c o : Outline) (roots : Pairs) : Type 0 where
  pub kept : KeptRow most_roots (content_in g) (root_point c) c.extent.roots roots.rows 0 (root_point o 0)

-- c and o: the outlines of C and D
pub record ToDecide (g : Classified) (c o : Outline) : Type 0 where
  pub world : World g
  pub from : Shape g.square.names c
  pub shape : Shape g.square.names o

-- c and d: the texts of C and D
pub record ToPlace (g : Classified) (width : ℕ) (c d : List ℕ) : Type 0 where
  pub world : World g
  pub roles : ℕ
  pub below : Concept
  pub above : Concept
  pub below_text : IsTextOf width g.square.names roles below c
  pub above_text : IsTextOf width g.square.names roles above d

-- any concepts that the texts may be of
pub record Placed (g : Classified) (width : ℕ) (c d : List ℕ) (r : Position) : Type 0 where
  pub lies : (n m : ℕ) (a b : Concept) → IsTextOf width n m a c → IsTextOf width n m b d → Lies (content_in g) a b (position_number r)
