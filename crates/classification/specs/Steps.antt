-- The rules of classification over the table of a release, by the marks of a square q in the memory w.
--   Of P c                  what P says of the file, the table and the square of c, a terminology with a square for its classification
--   Step s t q w x y        a rule allows the mark (x, y): x ⊑ x; x ⊑ ⊤; a conjunct of a marked name; a defined conjunction of
--                           which all conjuncts are marked; a defined ∃r.B, by a marked name below ∃r.C with (C, B) marked; what
--                           is marked in the row of a marked node
--   Grown c w v             marks that the rules allow were put in the square of c
--   Gathers s t q x y w     y is a defined conjunction, and its conjuncts are marked in row x
--   Needed s t q y z        z is marked in each row in which y is to be: its first conjunct, or ⊤
--   Fills t q b y w         y is a defined ∃r.B, and b lies below ∃r.C with (C, B) marked
--   Looked s t q x b w      nothing is left to mark in row x by b: by its axiom if it is marked, and itself by its conjuncts
--   Row s t q x w           nothing is left to mark in row x;  Settled s t q x w: what a pass finishes of it
--   AxiomSettled s t q y w  nothing is left to mark by the axiom of y, in its own row and in its column
-- Not here: what the rules mean (proofs/Bridge).
use Rattle.std.specs.Prelude.{◌≡◌, ◌↔◌, Bool, true, List, ℕ, suc, ◌≤◌, ◌<◌}
use Rattle.release.specs.Files.{joins, restricts, most_names, most_roles}
use Rattle.release.specs.Roles.{HasRole}
use Rattle.release.specs.Tables.{kind_at, role_at, filler_at, serves_at, count_at, part_at, Shaped}
use Rattle.release.specs.declared.table.Table.{Table}
use Rattle.marks.specs.declared.Square.{Square}
use Rattle.classification.specs.declared.Classification.{Classification}
use Rattle.marks.specs.Squares.{Room, Area, Marked, Within}
use Rattle.marks.specs.Passes.{Grows, Pass, Below}

abbrev pub Of : {A : Type 1} → (List ℕ → Table → Square → A) → Classification → A
Of P c = P c.terminology.file.now c.terminology.table.now c.square

-- the conjunct i of b is marked in row x
pub record PartMarked (s : List ℕ) (t : Table) (q : Square) (x b i : ℕ) (w : List ℕ) : Type 0 where
  pub is : Marked q w x (part_at s t b i)

pub record Gathers (s : List ℕ) (t : Table) (q : Square) (x y : ℕ) (w : List ℕ) : Type 0 where
  pub kind : kind_at t y ≡ 2
  pub parts : Below (PartMarked s t q x y) (count_at s t y) w

-- a column that each row has in which y is gathered and ⊤ is marked: where it is not, y need not be asked for
pub record Needed (s : List ℕ) (t : Table) (q : Square) (y z : ℕ) : Type 0 where
  pub column : z ≤ q.names
  pub marked : (x : ℕ) (w : List ℕ) → Marked q w x q.names → Gathers s t q x y w → Marked q w x z

pub record Fills (t : Table) (q : Square) (b y : ℕ) (w : List ℕ) : Type 0 where
  pub kind : kind_at t y ≡ 4
  pub role : serves_at t (role_at t b) (role_at t y) ≡ true
  pub filler : Marked q w (filler_at t b) (filler_at t y)

pub data Step (s : List ℕ) (t : Table) (q : Square) (w : List ℕ) (x y : ℕ) : Type 0 where
  to_itself : y ≡ x → Step s t q w x y
  to_top : y ≡ q.names → Step s t q w x y
  to_part : (b i : ℕ) → b < q.names → joins (kind_at t b) ≡ true → Marked q w x b → i < count_at s t b → y ≡ part_at s t b i → Step s t q w x y
  to_gathered : y < q.names → Gathers s t q x y w → Step s t q w x y
  to_filled : (b : ℕ) → b < q.names → restricts (kind_at t b) ≡ true → Marked q w x b → y < q.names → Fills t q b y w → Step s t q w x y
  through : (c : ℕ) → c ≤ q.names → Marked q w x c → Marked q w c y → Step s t q w x y

abbrev pub Grown : Classification → List ℕ → List ℕ → Type 0
Grown c = Grows (Of Step c) c.square

-- nothing left to mark: the ∃r.B that b serves for; what the axiom of b gives; b; the two cells that are marked in any row
pub record Filled (t : Table) (q : Square) (x b y : ℕ) (w : List ℕ) : Type 0 where
  pub marked : Fills t q b y w → Marked q w x y

pub record Spread (s : List ℕ) (t : Table) (q : Square) (x b : ℕ) (w : List ℕ) : Type 0 where
  pub parts : joins (kind_at t b) ≡ true → Marked q w x b → Below (PartMarked s t q x b) (count_at s t b) w
  pub fillers : restricts (kind_at t b) ≡ true → Marked q w x b → Below (Filled t q x b) q.names w

pub record Looked (s : List ℕ) (t : Table) (q : Square) (x b : ℕ) (w : List ℕ) : Type 0 where
  pub spread : Spread s t q x b w
  pub gathered : Gathers s t q x b w → Marked q w x b

pub record Seeded (q : Square) (x : ℕ) (w : List ℕ) : Type 0 where
  pub itself : Marked q w x x
  pub top : Marked q w x q.names

pub record Row (s : List ℕ) (t : Table) (q : Square) (x : ℕ) (w : List ℕ) : Type 0 where
  pub seeded : Seeded q x w
  pub looked : Below (Looked s t q x) q.names w

-- what a pass finishes of a row: the marks that its own axiom gives, the conjunctions gathered in it, and the rows above it. Where
-- all rows are so, nothing is left to mark in any (proofs/Settled)
pub record Gathered (s : List ℕ) (t : Table) (q : Square) (x y : ℕ) (w : List ℕ) : Type 0 where
  pub marked : Gathers s t q x y w → Marked q w x y

pub record Above (q : Square) (x c : ℕ) (w : List ℕ) : Type 0 where
  pub within : Marked q w x c → Within q c x w

pub record Own (s : List ℕ) (t : Table) (q : Square) (x : ℕ) (w : List ℕ) : Type 0 where
  pub spread : x < q.names → Spread s t q x x w

pub record Settled (s : List ℕ) (t : Table) (q : Square) (x : ℕ) (w : List ℕ) : Type 0 where
  pub seeded : Seeded q x w
  pub own : Own s t q x w
  pub gathered : Below (Gathered s t q x) q.names w
  pub above : Below (Above q x) (suc q.names) w

-- a pass that seeds a row, whatever the release
pub record Seeds (q : Square) (x : ℕ) (w v : List ℕ) (r : Bool) : Type 0 where
  pub pass : (s : List ℕ) (t : Table) → Pass (Step s t q) q (Seeded q x) w v r
  pub itself : Marked q v x x

-- what the axiom of y gives, by its column: y gathered in each row, and in the row of each restriction that serves for y; its
-- conjuncts in its own row. Where the rows are seeded and all axioms are so, only the rows above each row are left (proofs/Settled)
pub record GatheredAt (s : List ℕ) (t : Table) (q : Square) (y x : ℕ) (w : List ℕ) : Type 0 where
  pub marked : Gathers s t q x y w → Marked q w x y

pub record FilledAt (t : Table) (q : Square) (y b : ℕ) (w : List ℕ) : Type 0 where
  pub marked : restricts (kind_at t b) ≡ true → Fills t q b y w → Marked q w b y

pub record AxiomSettled (s : List ℕ) (t : Table) (q : Square) (y : ℕ) (w : List ℕ) : Type 0 where
  pub parts : joins (kind_at t y) ≡ true → Below (PartMarked s t q y y) (count_at s t y) w
  pub gathered : Below (GatheredAt s t q y) (suc q.names) w
  pub filled : Below (FilledAt t q y) q.names w

-- what the functions ask: a table and a square, of no more names than a release has; room for hints alone; its rows seeded; a cell of it; a marked cell
pub record Setting (s : List ℕ) (t : Table) (q : Square) (w : List ℕ) : Type 0 where
  pub shaped : Shaped q.names s t
  pub room : Room q w
  pub area : Area q w
  pub few : q.names ≤ 1023

pub record Listable (s : List ℕ) (t : Table) (q : Square) (w : List ℕ) : Type 0 where
  pub shaped : Shaped q.names s t
  pub area : Area q w

pub record SeededSetting (s : List ℕ) (t : Table) (q : Square) (w : List ℕ) : Type 0 where
  pub setting : Setting s t q w
  pub seeded : Below (Seeded q) (suc q.names) w

pub record InRow (s : List ℕ) (t : Table) (q : Square) (w : List ℕ) (x b : ℕ) : Type 0 where
  pub setting : Setting s t q w
  pub row : x ≤ q.names
  pub name : b < q.names

pub record Source (s : List ℕ) (t : Table) (q : Square) (w : List ℕ) (x b : ℕ) : Type 0 where
  pub in_row : InRow s t q w x b
  pub marked : Marked q w x b

-- what is read of a definition once for a whole column: the roles that serve for its own, as a set, and its filler
pub record DefinedRestriction (t : Table) (y set f : ℕ) : Type 0 where
  pub kind : kind_at t y ≡ 4
  pub serving : (r : ℕ) → HasRole set r ↔ (serves_at t r (role_at t y) ≡ true)
  pub filler : f ≡ filler_at t y

-- z is a defined ∃s.F with the filler f, and the role r serves for s
pub record FilledBy (t : Table) (z r f : ℕ) : Type 0 where
  pub kind : kind_at t z ≡ 4
  pub role : serves_at t r (role_at t z) ≡ true
  pub filler : f ≡ filler_at t z

-- two names whose fillers are compared, restrictions both, the second of them defined
pub record Pair (t : Table) (q : Square) (w : List ℕ) (b y set f : ℕ) : Type 0 where
  pub rows : q.names ≤ most_names
  pub room : Room q w
  pub roles : (z : ℕ) → z < q.names → restricts (kind_at t z) ≡ true → role_at t z < most_roles
  pub fillers : (z : ℕ) → z < q.names → restricts (kind_at t z) ≡ true → filler_at t z ≤ q.names
  pub left : b < q.names
  pub is_restriction : restricts (kind_at t b) ≡ true
  pub right : y < q.names
  pub defined : DefinedRestriction t y set f

-- what dealing with new marks asks: a marked cell; a restriction b with the filler x; one whose filler lies below y
pub record MarkedCell (s : List ℕ) (t : Table) (q : Square) (w : List ℕ) (x y : ℕ) : Type 0 where
  pub setting : Setting s t q w
  pub row : x ≤ q.names
  pub column : y ≤ q.names
  pub marked : Marked q w x y

pub record Restriction (s : List ℕ) (t : Table) (q : Square) (w : List ℕ) (x b : ℕ) : Type 0 where
  pub setting : Setting s t q w
  pub name : b < q.names
  pub itself : Marked q w b b
  pub is_restriction : restricts (kind_at t b) ≡ true
  pub filler : filler_at t b ≡ x

pub record Over (s : List ℕ) (t : Table) (q : Square) (w : List ℕ) (b y : ℕ) : Type 0 where
  pub setting : Setting s t q w
  pub name : b < q.names
  pub itself : Marked q w b b
  pub is_restriction : restricts (kind_at t b) ≡ true
  pub marked : Marked q w (filler_at t b) y
  pub column : y ≤ q.names
