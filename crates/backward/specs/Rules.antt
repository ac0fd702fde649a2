-- The rules of backward marks, over what a comparison is given: the two releases, the squares in the memory w, and what is handed on of a
-- signature, the bytes of its names and the edges found. Rows are nodes: the names below n, then ⊤. Columns are names, then nothing, below
-- which no concept lies.
--   PlainColumn given y            y is not defined by a conjunction
--   ColumnPart given w x y i       x is marked with the conjunct i of y;  RowPart given w x y i: the conjunct i of x is marked with y
--   NameLost given w x y           x is a signature name that is not below y by the second release
--   Restricted t n y               the name y below n is defined by a restriction;  Filled t n y r: and the role r serves for its role
--   PartnerLost given w y r z      z is marked with the filler of such a y, which is not ⊤; for another y, with nothing
--   RoleLost given w x y           so is the filler of x, for a role that x has an edge with
--   Serving given x y set          the set has the roles that x has an edge with and that serve for that of y
--   NothingLost given w x set      the filler of x is marked with nothing, and x has an edge with a role outside the set
--   FillerLost given w x y set     the filler of x is marked with that of y, which is not ⊤, and the set has a role
--   Filling given x z              x is defined by a restriction with the filler z
--   NoRule given x                 the definition of x allows no mark: it has none, or one without an edge
--   PartLost given w x y           y is a conjunction, and x is marked with one of its conjuncts
--   RowLost given w x y            the definition of x allows the mark x, y;  PlainLost given w x y: and y is a plain column
--   Defined given w x y            the definitions of x and y allow the mark x, y: one of the two
--   Own given w x y                they do, or x is such a name
--   Over given x y w p z           p is x, and z is defined by a restriction with the filler y, for whose role one serves that x has an edge with
--   FromBelow l w x y              something below x by the first release is marked with y
--   Follows given w x y            the definitions of x and y allow the mark x, y, or something below x does;  Followed given w v: w became v
--                                  by such marks
--   Step given w x y               a rule allows the mark x, y
--   Cell R l x y w                 the rule R leaves nothing to mark there;  Row R l x w: in the row x;  Column R l y w: in the column y
--   Quiet given w                  nothing is left to mark
-- Not here: what the rules mean (proofs/Meaning).
use Rattle.std.specs.Prelude.{◌≡◌, ◌↔◌, true, List, ◌⊎◌, ℕ, suc, ◌+◌, ◌≤◌, ◌<◌}
use Rattle.release.specs.declared.table.Table.{Table}
use Rattle.release.specs.Roles.{HasRole, NoRole}
use Rattle.release.specs.Tables.{kind_at, role_at, filler_at, serves_at, count_at, part_at, Shaped}
use Rattle.marks.specs.Squares.{span, Room, Marked}
use Rattle.marks.specs.Passes.{Grows, Below}
use Rattle.marks.specs.Inclusions.{Gives}
use Rattle.layout.specs.declared.Given.{Given}
use Rattle.layout.specs.declared.Layout.{Layout}
use Rattle.layout.specs.Searches.{SomeBelow, EachBelow}
use Rattle.layout.specs.Layouts as layout
use Rattle.layout.proofs.Layouts.{setting_stays as places_stay}
use Rattle.layout.specs.Tables.{edges_at, HasEdge}
use Rattle.layout.specs.Layouts.{first_square, second_square, mark_square, chosen}

-- what the functions ask: all is in its place, conjuncts too, and marks change no inclusion of the second release
pub record Setting (given : Given) (w : List ℕ) : Type 0 where
  pub places : layout.Setting given w
  pub first_shaped : Shaped given.layout.names given.first.file.now given.first.table.now
  pub second_shaped : Shaped given.layout.names given.second.file.now given.second.table.now
  pub second_apart : given.layout.second + span given.layout.names ≤ given.layout.marks

-- it stays where marks are put; the law stands here, since an impl's law may cite specs/ of its crate, and not its proofs/
pub setting_stays : {Rule : List ℕ → ℕ → ℕ → Type 0} {given : Given} {w v : List ℕ} → Grows Rule (mark_square given.layout) w v → Setting given w → Setting given v
setting_stays grows h = record
    { places = places_stay grows h.places; first_shaped = h.first_shaped; second_shaped = h.second_shaped; second_apart = h.second_apart }

-- what those ask that look at rows
pub record Rows (given : Given) (w : List ℕ) : Type 0 where
  pub places : layout.Setting given w
  pub shaped : Shaped given.layout.names given.first.file.now given.first.table.now

-- what those ask that mark names
pub record Named (given : Given) (w : List ℕ) : Type 0 where
  pub second : Room (second_square given.layout) w
  pub marks : Room (mark_square given.layout) w
  pub apart : given.layout.second + span given.layout.names ≤ given.layout.marks

-- what those ask that hand marks on
pub record Squares (l : Layout) (w : List ℕ) : Type 0 where
  pub first : Room (first_square l) w
  pub marks : Room (mark_square l) w

pub record PlainColumn (given : Given) (y : ℕ) : Type 0 where
  pub not_joined : y < given.layout.names → kind_at given.second.table.now y ≡ 2 → ⊥

pub record ColumnPart (given : Given) (w : List ℕ) (x y i : ℕ) : Type 0 where
  pub marked : Marked (mark_square given.layout) w x (part_at given.second.file.now given.second.table.now y i)

pub record RowPart (given : Given) (w : List ℕ) (x y i : ℕ) : Type 0 where
  pub marked : Marked (mark_square given.layout) w (part_at given.first.file.now given.first.table.now x i) y

pub record NameLost (given : Given) (w : List ℕ) (x y : ℕ) : Type 0 where
  pub chosen_name : (chosen given.layout given.chosen_names.now).has_name x ≡ true
  pub not_second : (y ≡ given.layout.names) ⊎ (Marked (second_square given.layout) w x y → ⊥)

pub record Restricted (t : Table) (n y : ℕ) : Type 0 where
  pub is_name : y < n
  pub kind : kind_at t y ≡ 4

pub record Filled (t : Table) (n y r : ℕ) : Type 0 where
  pub is_name : y < n
  pub kind : kind_at t y ≡ 4
  pub role : serves_at t r (role_at t y) ≡ true

pub data PartnerLost (given : Given) (w : List ℕ) (y r z : ℕ) : Type 0 where
  of_filler : Filled given.second.table.now given.layout.names y r → filler_at given.second.table.now y < given.layout.names
      → Marked (mark_square given.layout) w z (filler_at given.second.table.now y) → PartnerLost given w y r z
  of_nothing : (Filled given.second.table.now given.layout.names y r → ⊥) → Marked (mark_square given.layout) w z given.layout.names → PartnerLost given w y r z

pub record RoleLost (given : Given) (w : List ℕ) (x y : ℕ) : Type 0 where
  pub role : ℕ
  pub edge : HasEdge given.edges.now x role
  pub partner : PartnerLost given w y role (filler_at given.first.table.now x)

pub record Serving (given : Given) (x y set : ℕ) : Type 0 where
  pub tells : (r : ℕ) → HasRole set r ↔ (HasEdge given.edges.now x r × Filled given.second.table.now given.layout.names y r)

pub record NothingLost (given : Given) (w : List ℕ) (x set : ℕ) : Type 0 where
  pub role : ℕ
  pub edge : HasEdge given.edges.now x role
  pub free : HasRole set role → ⊥
  pub marked : Marked (mark_square given.layout) w (filler_at given.first.table.now x) given.layout.names

pub record FillerLost (given : Given) (w : List ℕ) (x y set : ℕ) : Type 0 where
  pub some : NoRole set → ⊥
  pub small : filler_at given.second.table.now y < given.layout.names
  pub marked : Marked (mark_square given.layout) w (filler_at given.first.table.now x) (filler_at given.second.table.now y)

pub record Filling (given : Given) (x z : ℕ) : Type 0 where
  pub is_name : x < given.layout.names
  pub kind : kind_at given.first.table.now x ≡ 4
  pub filler : filler_at given.first.table.now x ≡ z

pub record NoRule (given : Given) (x : ℕ) : Type 0 where
  pub is_name : x < given.layout.names
  pub not_joined : kind_at given.first.table.now x ≡ 2 → ⊥
  pub no_edge : kind_at given.first.table.now x ≡ 4 → NoRole (edges_at given.edges.now x)

pub record PartLost (given : Given) (w : List ℕ) (x y : ℕ) : Type 0 where
  pub is_name : y < given.layout.names
  pub kind : kind_at given.second.table.now y ≡ 2
  pub part : SomeBelow (ColumnPart given w x y) (count_at given.second.file.now given.second.table.now y)

pub data RowLost (given : Given) (w : List ℕ) (x y : ℕ) : Type 0 where
  by_top : x ≡ given.layout.names → RowLost given w x y
  by_parts : x < given.layout.names → kind_at given.first.table.now x ≡ 2 → EachBelow (RowPart given w x y) (count_at given.first.file.now given.first.table.now x) → RowLost given w x y
  by_role : x < given.layout.names → kind_at given.first.table.now x ≡ 4 → RoleLost given w x y → RowLost given w x y

pub record PlainLost (given : Given) (w : List ℕ) (x y : ℕ) : Type 0 where
  pub plain : PlainColumn given y
  pub row : RowLost given w x y

pub data Defined (given : Given) (w : List ℕ) (x y : ℕ) : Type 0 where
  by_part : PartLost given w x y → Defined given w x y
  by_row : PlainLost given w x y → Defined given w x y

pub data Own (given : Given) (w : List ℕ) (x y : ℕ) : Type 0 where
  by_definition : Defined given w x y → Own given w x y
  by_name : NameLost given w x y → Own given w x y

pub record Over (given : Given) (x y : ℕ) (w : List ℕ) (p z : ℕ) : Type 0 where
  pub row : p ≡ x
  pub role : ℕ
  pub edge : HasEdge given.edges.now x role
  pub filled : Filled given.second.table.now given.layout.names z role
  pub filler : filler_at given.second.table.now z ≡ y

pub record FromBelow (l : Layout) (w : List ℕ) (x y : ℕ) : Type 0 where
  pub lower : ℕ
  pub small : lower ≤ l.names
  pub first : Marked (first_square l) w lower x
  pub marked : Marked (mark_square l) w lower y

pub data Follows (given : Given) (w : List ℕ) (x y : ℕ) : Type 0 where
  from_definition : Defined given w x y → Follows given w x y
  from_below : FromBelow given.layout w x y → Follows given w x y

abbrev pub Followed : Given → List ℕ → List ℕ → Type 0
Followed given w v = Grows (Follows given) (mark_square given.layout) w v

pub data Step (given : Given) (w : List ℕ) (x y : ℕ) : Type 0 where
  by_own : Own given w x y → Step given w x y
  by_below : FromBelow given.layout w x y → Step given w x y

-- stands here for the same reason
pub follows_step : {given : Given} {w : List ℕ} {x y : ℕ} → Follows given w x y → Step given w x y
follows_step (from_definition d) = by_own (by_definition d)
follows_step (from_below f) = by_below f

pub record Cell (Rule : List ℕ → ℕ → ℕ → Type 0) (l : Layout) (x y : ℕ) (w : List ℕ) : Type 0 where
  pub marked : Rule w x y → Marked (mark_square l) w x y

pub record Row (Rule : List ℕ → ℕ → ℕ → Type 0) (l : Layout) (x : ℕ) (w : List ℕ) : Type 0 where
  pub cells : Below (Cell Rule l x) (suc l.names) w

pub record Column (Rule : List ℕ → ℕ → ℕ → Type 0) (l : Layout) (y : ℕ) (w : List ℕ) : Type 0 where
  pub cells : Below (λ x. Cell Rule l x y) (suc l.names) w

pub record Quiet (given : Given) (w : List ℕ) : Type 0 where
  pub rows : Below (Row (Own given) given.layout) (suc given.layout.names) w
  pub handed : Below (Gives (first_square given.layout) (mark_square given.layout)) (suc given.layout.names) w
