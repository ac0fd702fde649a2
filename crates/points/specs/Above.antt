-- What lies above the roots of an outline, by the names that are set in their rows: the names that are not defined by a conjunction. The release and
-- the square of the inclusions between its nodes are g.
--   file_in g, table_in g        its file and its table
--   Includes g x y               the node x lies below the node y
--   OwnServe g                   each role serves for itself
--   PartsSet g a k y             all conjuncts of y are set in row k of the grid a
--   RootBelow g a k y            root k lies below the node y: ⊤; all its conjuncts are set; or it is
--   AtomBelow g b a y            the atom b lies below the name y, which is not defined by a conjunction
--   Risen g b a c                the row of b's owner gained the names that lie above b: the grid a became c
use Rattle.std.specs.Prelude.{◌≡◌, true, List, ℕ, ◌<◌}
use Rattle.release.specs.Tables.{kind_at, role_at, filler_at, serves_at, count_at, part_at, Shaped}
use Rattle.release.specs.declared.table.Table.{Table}
use Rattle.marks.specs.Squares.{Room, Marked}
use Rattle.outline.specs.declared.Atom.{Atom}
use Rattle.outline.specs.Atoms.{child_number, value_of, Rooted}
use Rattle.points.specs.declared.Grid.{Grid}
use Rattle.points.specs.declared.Classified.{Classified}
use Rattle.points.specs.Grids.{most_roots, most_nodes, Set, Adds}

abbrev pub file_in : Classified → List ℕ
file_in g = g.terminology.file.now

abbrev pub table_in : Classified → Table
table_in g = g.terminology.table.now

abbrev pub Includes : Classified → ℕ → ℕ → Type 0
Includes g x y = Marked g.square g.work.now x y

pub record OwnServe (g : Classified) : Type 0 where
  pub own : (r : ℕ) → serves_at (table_in g) r r ≡ true

pub record Ranges (g : Classified) : Type 0 where
  pub shaped : Shaped g.square.names (file_in g) (table_in g)
  pub own : OwnServe g
  pub few : g.square.names < most_nodes

pub record PartsSet (g : Classified) (a : Grid) (k y : ℕ) : Type 0 where
  pub each : (i : ℕ) → i < count_at (file_in g) (table_in g) y → Set a k (part_at (file_in g) (table_in g) y i)

pub data RootBelow (g : Classified) (a : Grid) (k y : ℕ) : Type 0 where
  top_above : y ≡ g.square.names → RootBelow g a k y
  parts_above : y < g.square.names → kind_at (table_in g) y ≡ 2 → PartsSet g a k y → RootBelow g a k y
  name_above : y < g.square.names → (kind_at (table_in g) y ≡ 2 → ⊥) → Set a k y → RootBelow g a k y

pub data AtomBelow (g : Classified) (b : Atom) (a : Grid) (y : ℕ) : Type 0 where
  name_below : (kind_at (table_in g) y ≡ 2 → ⊥) → child_number b ≡ 0 → Includes g (value_of b) y → AtomBelow g b a y
  some_below : kind_at (table_in g) y ≡ 4 → 0 < child_number b → serves_at (table_in g) (value_of b) (role_at (table_in g) y) ≡ true
      → RootBelow g a (child_number b) (filler_at (table_in g) y) → AtomBelow g b a y

pub record InRow (g : Classified) (k y : ℕ) : Type 0 where
  pub ranges : Ranges g
  pub row : k < most_roots
  pub name : y < g.square.names
  pub kind : kind_at (table_in g) y ≡ 2

-- the child of an atom is a root, that of an ∃ not the whole concept, and a name's value a name; and its owner is a root before the child
pub record ValueInRange (n : ℕ) (b : Atom) : Type 0 where
  pub child : child_number b < most_roots
  pub named : child_number b ≡ 0 → value_of b < n
  pub rooted : Rooted b

pub record InRange (n : ℕ) (b : Atom) : Type 0 where
  pub value : ValueInRange n b
  pub owner : b.owner < most_roots
  pub later : 0 < child_number b → b.owner < child_number b

-- what the functions of an atom ask
pub record OfAtom (g : Classified) (b : Atom) : Type 0 where
  pub ranges : Ranges g
  pub room : Room g.square g.work.now
  pub atom : InRange g.square.names b

pub record Risen (g : Classified) (b : Atom) (a c : Grid) : Type 0 where
  pub adds : Adds most_nodes b.owner g.square.names (AtomBelow g b a) (λ y. AtomBelow g b a y → ⊥) a.rows c.rows
