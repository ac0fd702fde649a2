-- What one look at a pair x, y does, whose number is 1: rows ys became zs, memory w became v. It keeps a row for the pair (marks it), asks
-- for another pair, or does nothing.
--   NodeRowed f k ys zs r          r is a row of the form f: an earlier one, or one written now
--   NodeMarked l x y f k ..        such a row is kept for the pair
--   ColumnLooked given x y ..      y is defined by a conjunction of the second release: by one of its conjuncts
--   Chain given w x y k ys i zs j m    m is the row of the first i conjuncts of x, all marked with y; j rows are written
--   PartsJoined given w x y k ..   so it is, for all its conjuncts;  NoneJoined: it has none
--   PartAsked given x y ..         a conjunct of x is not marked with y: it was asked for, or is now;  NoneAsked: there is none
--   PartsLooked given x y k ..     x is defined by a conjunction of the first release: by all its conjuncts, or by ⊤ where it has none
--   FillerLooked given x y k ..    x is defined by a restriction of the first release: by its filler
use Rattle.std.specs.Prelude.{◌≡◌, Bool, true, false, List, ℕ, suc, ◌+◌, ◌≤◌, ◌<◌}
use Rattle.concept_rows.specs.Rows.{row}
use Rattle.release.specs.Tables.{filler_at, count_at, part_at}
use Rattle.classification.proofs.AxiomRows.{PartAt}
use Rattle.layout.specs.declared.Layout.{Layout}
use Rattle.layout.specs.declared.Given.{Given}
use Rattle.row_evaluation.specs.declared.rows.Form.{Form}
use Rattle.row_evaluation.specs.declared.rows.Form.TheVariants.{Top}
use Rattle.row_evaluation.specs.RowForms.{numbers_of, RowPut}
use Rattle.witness_below.specs.declared.finding.Partner.{Partner}
use Rattle.witness_below.specs.declared.looking.Progress.{Progress}
use Rattle.witness_below.specs.declared.looking.Joined.{Joined}
use Rattle.witness_below.specs.declared.looking.Leaf.{Leaf}
use Rattle.witness_below.specs.Cells.{pair_of, cell_at, most_value, CellPut}
use Rattle.witness_below.specs.Finding.{AllMarked, PartnerOf, NoPartner, RowThere}

abbrev pub progress : ℕ → Bool → Progress
progress k b = record { rows = k; changed = b }

abbrev pub leaf : ℕ → Form → Leaf
leaf z f = record { node = z; form = f }

abbrev pub PairPut : Layout → ℕ → ℕ → ℕ → List ℕ → List ℕ → Type 0
PairPut l x y v w u = CellPut l.marks (pair_of l.names x y) v w u

pub data NodeRowed (f : Form) (k : ℕ) (ys zs : List ℕ) (r : ℕ) : Type 0 where
  row_there : RowThere f k r ys → zs ≡ ys → NodeRowed f k ys zs r
  row_new : r ≡ k → RowPut k (numbers_of f) ys zs → NodeRowed f k ys zs r

pub data NodeMarked (l : Layout) (x y : ℕ) (f : Form) (k : ℕ) (ys zs w v : List ℕ) (r : Progress) : Type 0 where
  marked_again : {m : ℕ} → RowThere f k m ys → zs ≡ ys → PairPut l x y (m + 2) w v → r ≡ progress k true → NodeMarked l x y f k ys zs w v r
  marked_new : RowPut k (numbers_of f) ys zs → PairPut l x y (k + 2) w v → r ≡ progress (k + 1) true → NodeMarked l x y f k ys zs w v r

pub data ColumnLooked (given : Given) (x y : ℕ) (w v : List ℕ) (r : Bool) : Type 0 where
  column_copied : {z : ℕ} → PartAt given.second.file.now given.second.table.now y z → z < given.layout.names → 2 ≤ cell_at given.layout w x z
      → PairPut given.layout x y (cell_at given.layout w x z) w v → r ≡ true → ColumnLooked given x y w v r
  column_asked : {z : ℕ} → z < given.layout.names → cell_at given.layout w x z ≡ 0 → PairPut given.layout x z 1 w v → r ≡ true → ColumnLooked given x y w v r
  column_open : ((i : ℕ) → i < count_at given.second.file.now given.second.table.now y
      → cell_at given.layout w x (part_at given.second.file.now given.second.table.now y i) ≡ 1) → v ≡ w → r ≡ false → ColumnLooked given x y w v r

pub data Chain (given : Given) (w : List ℕ) (x y k : ℕ) (ys : List ℕ) : ℕ → List ℕ → ℕ → ℕ → Type 0 where
  chain_first : {m : ℕ} → 0 < count_at given.first.file.now given.first.table.now x
      → cell_at given.layout w (part_at given.first.file.now given.first.table.now x 0) y ≡ m + 2 → Chain given w x y k ys 1 ys k m
  chain_more : {i : ℕ} {zs : List ℕ} {j m o : ℕ} {xs : List ℕ} → Chain given w x y k ys i zs j m → 0 < i → i < count_at given.first.file.now given.first.table.now x
      → cell_at given.layout w (part_at given.first.file.now given.first.table.now x i) y ≡ o + 2 → RowPut j (row 2 m o) zs xs
      → Chain given w x y k ys (suc i) xs (suc j) j

pub record NoneJoined (given : Given) (x : ℕ) (ys zs : List ℕ) : Type 0 where
  pub none : count_at given.first.file.now given.first.table.now x ≡ 0
  pub same : zs ≡ ys

pub record PartsJoined (given : Given) (w : List ℕ) (x y k : ℕ) (ys zs : List ℕ) (r : Joined) : Type 0 where
  pub chain : Chain given w x y k ys (count_at given.first.file.now given.first.table.now x) zs r.rows r.row
  pub small : r.row + 2 ≤ most_value

pub record NoneAsked (given : Given) (x y : ℕ) (w v : List ℕ) : Type 0 where
  pub all_marked : AllMarked given w x y
  pub same : v ≡ w

pub data PartAsked (given : Given) (x y : ℕ) (w v : List ℕ) (r : Bool) : Type 0 where
  part_asked : {z : ℕ} → z < given.layout.names → cell_at given.layout w z y ≡ 0 → PairPut given.layout z y 1 w v → r ≡ true → PartAsked given x y w v r
  part_open : {z : ℕ} → PartAt given.first.file.now given.first.table.now x z → cell_at given.layout w z y ≡ 1 → v ≡ w → r ≡ false → PartAsked given x y w v r

pub data PartsLooked (given : Given) (x y k : ℕ) (ys zs w v : List ℕ) (r : Progress) : Type 0 where
  parts_asked : {b : Bool} → PartAsked given x y w v b → zs ≡ ys → r ≡ progress k b → PartsLooked given x y k ys zs w v r
  parts_none : count_at given.first.file.now given.first.table.now x ≡ 0 → NodeMarked given.layout x y Top k ys zs w v r → PartsLooked given x y k ys zs w v r
  parts_joined : {j m : ℕ} → Chain given w x y k ys (count_at given.first.file.now given.first.table.now x) zs j m → PairPut given.layout x y (m + 2) w v
      → r ≡ progress j true → PartsLooked given x y k ys zs w v r

pub data FillerLooked (given : Given) (x y k : ℕ) (ys zs w v : List ℕ) (r : Progress) : Type 0 where
  filler_top : NoPartner given x y → v ≡ w → zs ≡ ys → r ≡ progress k false → FillerLooked given x y k ys zs w v r
  filler_asked : {p : Partner} → PartnerOf given x y p → cell_at given.layout w (filler_at given.first.table.now x) p.over ≡ 0
      → PairPut given.layout (filler_at given.first.table.now x) p.over 1 w v → zs ≡ ys → r ≡ progress k true → FillerLooked given x y k ys zs w v r
  filler_open : {p : Partner} → PartnerOf given x y p → cell_at given.layout w (filler_at given.first.table.now x) p.over ≡ 1 → v ≡ w → zs ≡ ys
      → r ≡ progress k false → FillerLooked given x y k ys zs w v r
  filler_marked : {p : Partner} {m : ℕ} → PartnerOf given x y p → cell_at given.layout w (filler_at given.first.table.now x) p.over ≡ m + 2
      → RowPut k (row 3 p.role.0 m) ys zs → PairPut given.layout x y (k + 2) w v → r ≡ progress (k + 1) true → FillerLooked given x y k ys zs w v r
