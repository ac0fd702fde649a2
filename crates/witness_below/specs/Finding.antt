-- What is looked for before anything is written: a conjunct, a name, the column that a filler has to be asked for with.
--   ToColumn, ToParts, ToFiller, ToName    what the functions ask of the pair x, y: y is a conjunction by the second release, x by the
--                                 first, x is a restriction by the first; or only that the inclusions are there
--   RoomFor k e ys                room for e rows more than k, whose numbers can be kept
--   AllMarked given w x y         all conjuncts of x are marked with y
--   PartFound s t n z D r         r is a conjunct of z of which D holds (PartIs), or D holds of none (NoPart)
--   LostName given w x y b        b is a chosen name that lies below x by the first release, and not below y by the second
--   NameFound given w x y r       r is such a name (NameLost), or there is none (NoneLost)
--   PartnerIs given y q r         r is the column of the filler of y by the second release, if the role q serves for y; else nothing
--   PartnerTop given y q          q serves for y, and the filler is ⊤
--   PartnerFound given x y r      r is a role of the edge of x, with its column; nothing, if some role of the edge has that (PartnerOf); or for each
--                                 of them the filler is ⊤ (NoPartner)
--   RowThere f k r ys             row r is there, one of k, and is of the form f
--   JoinedColumn given y          y is defined by a conjunction;  PlainPair given x y: neither x nor y is
--   Traced, ToFollow, NotesRoom      what following a pair to one that it waits for asks, and noting such pairs
use Rattle.std.specs.Prelude.{◌≡◌, true, Option, MatchOption, List, ℕ, ◌+◌, ◌*◌, ◌≤◌, ◌<◌, length}
use Rattle.concept_rows.specs.Lent.{row_at}
use Rattle.release.specs.Tables.{kind_at, filler_at, count_at, part_at, Shaped}
use Rattle.marks.specs.Squares.{Room, Marked}
use Rattle.classification.proofs.AxiomRows.{PartAt}
use Rattle.layout.specs.declared.Given.{Given}
use Rattle.layout.specs.Layouts.{first_square, second_square, chosen}
use Rattle.layout.specs.Tables.{HasEdge}
use Rattle.backward.specs.Rules.{Filled}
use Rattle.release.specs.declared.ConceptName.{ConceptName}
use Rattle.row_evaluation.specs.declared.rows.Form.{Form}
use Rattle.row_evaluation.specs.RowForms.{numbers_of}
use Rattle.witness_below.specs.declared.finding.Partner.{Partner}
use Rattle.witness_below.specs.Cells.{cell_at, most_value, CellRoom}
use Rattle.release.specs.declared.table.Table.{Table}

pub record ToColumn (given : Given) (w : List ℕ) (x y : ℕ) : Type 0 where
  pub shaped : Shaped given.layout.names given.second.file.now given.second.table.now
  pub cells : CellRoom given.layout w
  pub row : x ≤ given.layout.names
  pub column : y < given.layout.names
  pub kind : kind_at given.second.table.now y ≡ 2

pub record ToParts (given : Given) (w : List ℕ) (x y : ℕ) : Type 0 where
  pub shaped : Shaped given.layout.names given.first.file.now given.first.table.now
  pub cells : CellRoom given.layout w
  pub row : x < given.layout.names
  pub column : y ≤ given.layout.names
  pub kind : kind_at given.first.table.now x ≡ 2

pub record ToFiller (given : Given) (w : List ℕ) (x y : ℕ) : Type 0 where
  pub cells : CellRoom given.layout w
  pub row : x < given.layout.names
  pub column : y ≤ given.layout.names
  pub kind : kind_at given.first.table.now x ≡ 4

pub record ToName (given : Given) (w : List ℕ) (x y : ℕ) : Type 0 where
  pub first_room : Room (first_square given.layout) w
  pub second_room : Room (second_square given.layout) w
  pub row : x ≤ given.layout.names
  pub column : y ≤ given.layout.names

pub record RoomFor (k e : ℕ) (ys : List ℕ) : Type 0 where
  pub rows : 3 * (k + e) ≤ length ys
  pub small : k + e + 2 ≤ most_value

pub record AllMarked (given : Given) (w : List ℕ) (x y : ℕ) : Type 0 where
  pub at : (i : ℕ) → i < count_at given.first.file.now given.first.table.now x
      → 2 ≤ cell_at given.layout w (part_at given.first.file.now given.first.table.now x i) y

pub record PartIs (s : List ℕ) (t : Table) (n z : ℕ) (D : ℕ → Type 0) (p : ℕ) : Type 0 where
  pub part : PartAt s t z p
  pub is_name : p < n
  pub holds : D p

pub record NoPart (s : List ℕ) (t : Table) (z : ℕ) (D : ℕ → Type 0) : Type 0 where
  pub none : (i : ℕ) → i < count_at s t z → D (part_at s t z i) → ⊥

abbrev pub PartFound : List ℕ → Table → ℕ → ℕ → (ℕ → Type 0) → Option ℕ → Type 0
PartFound s t n z D r = MatchOption r (NoPart s t z D) (PartIs s t n z D)

pub record LostName (given : Given) (w : List ℕ) (x y b : ℕ) : Type 0 where
  pub chosen_name : (chosen given.layout given.chosen_names.now).has_name b ≡ true
  pub first : Marked (first_square given.layout) w b x
  pub not_second : y < given.layout.names → Marked (second_square given.layout) w b y → ⊥

pub record NameLost (given : Given) (w : List ℕ) (x y b : ℕ) : Type 0 where
  pub is_name : b < given.layout.names
  pub lost : LostName given w x y b

pub record NoneLost (given : Given) (w : List ℕ) (x y : ℕ) : Type 0 where
  pub none : (b : ℕ) → b < given.layout.names → LostName given w x y b → ⊥

abbrev pub NameFound : Given → List ℕ → ℕ → ℕ → Option ConceptName → Type 0
NameFound given w x y r = MatchOption r (NoneLost given w x y) (λ b. NameLost given w x y b.0)

pub data PartnerIs (given : Given) (y q r : ℕ) : Type 0 where
  partner_filler : Filled given.second.table.now given.layout.names y q → r ≡ filler_at given.second.table.now y → r < given.layout.names → PartnerIs given y q r
  partner_nothing : (Filled given.second.table.now given.layout.names y q → ⊥) → r ≡ given.layout.names → PartnerIs given y q r

pub record PartnerTop (given : Given) (y q : ℕ) : Type 0 where
  pub filled : Filled given.second.table.now given.layout.names y q
  pub top : given.layout.names ≤ filler_at given.second.table.now y

pub record PartnerOf (given : Given) (x y : ℕ) (p : Partner) : Type 0 where
  pub edge : HasEdge given.edges.now x p.role.0
  pub is : PartnerIs given y p.role.0 p.over
  pub all_served : p.over < given.layout.names → (r : ℕ) → HasEdge given.edges.now x r → Filled given.second.table.now given.layout.names y r

pub record NoPartner (given : Given) (x y : ℕ) : Type 0 where
  pub top : (r : ℕ) → HasEdge given.edges.now x r → PartnerTop given y r

abbrev pub PartnerFound : Given → ℕ → ℕ → Option Partner → Type 0
PartnerFound given x y r = MatchOption r (NoPartner given x y) (PartnerOf given x y)

pub record RowThere (f : Form) (k r : ℕ) (ys : List ℕ) : Type 0 where
  pub inside : r < k
  pub is : row_at ys r ≡ numbers_of f

pub record JoinedColumn (given : Given) (y : ℕ) : Type 0 where
  pub is_name : y < given.layout.names
  pub kind : kind_at given.second.table.now y ≡ 2

pub record PlainPair (given : Given) (x y : ℕ) : Type 0 where
  pub is_name : x < given.layout.names
  pub not_joined : kind_at given.first.table.now x ≡ 2 → ⊥
  pub plain : JoinedColumn given y → ⊥

pub record Traced (given : Given) (w : List ℕ) : Type 0 where
  pub first_shaped : Shaped given.layout.names given.first.file.now given.first.table.now
  pub second_shaped : Shaped given.layout.names given.second.file.now given.second.table.now
  pub cells : CellRoom given.layout w

pub record ToFollow (given : Given) (w : List ℕ) (x y : ℕ) : Type 0 where
  pub traced : Traced given w
  pub row : x ≤ given.layout.names
  pub column : y ≤ given.layout.names

-- pairs that wait are noted in blocks of so many
abbrev pub block : ℕ
block = 512

-- room for what is noted of them: two blocks, and the first pairs of twice as many blocks as a block has pairs
pub record NotesRoom (ps : List ℕ) : Type 0 where
  pub room : 4 * block ≤ length ps
