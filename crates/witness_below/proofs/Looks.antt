-- A look at a pair keeps a row for it, asks for another pair or does nothing: by a node, by a conjunct of the column, by the conjuncts of the row,
-- by the filler.
use mathlib.Core.Path.{◌≡◌, refl, sym, ◌∙◌}
use mathlib.Core.Bool.{true, false}
use mathlib.Core.List.{List}
use Prim.Native.Nat.{ℕ, ◌+◌, ◌-◌, ◌≤◌, ◌<◌}
use native.Mathlib.Omega.{arith}
use native.Mathlib.Numerals.{add-one}
use native.Mathlib.Decide.{ℕ_discrete}
use lib.ListN.{length}
use Rattle.concept_rows.specs.Rows.{row}
use Rattle.release.specs.Tables.{filler_at, count_at, part_at}
use Rattle.layout.specs.declared.Layout.{Layout}
use Rattle.layout.specs.declared.Given.{Given}
use Rattle.row_evaluation.specs.declared.rows.Form.{Form}
use Rattle.row_evaluation.specs.RowForms.{RowPut}
use Rattle.witness_below.specs.declared.finding.Partner.{Partner}
use Rattle.witness_below.specs.declared.looking.Progress.{Progress}
use Rattle.witness_below.specs.Cells.{pair_of, cell_at, most_value, Value}
use Rattle.witness_below.specs.Finding.{AllMarked, PartIs, PartnerOf}
use Rattle.witness_below.specs.Looking.{progress, PairPut, NodeRowed, row_there, row_new, NodeMarked, marked_again, ColumnLooked, column_copied, column_asked}
use Rattle.witness_below.specs.Looking.{Chain, chain_first, chain_more, PartAsked, part_asked, part_open, FillerLooked}
use Rattle.witness_below.specs.Looking.{filler_asked, filler_open, filler_marked}

-- by a name, or by ⊤
module _ {l : Layout} {x y k r : ℕ} {f : Form} {ys zs w v : List ℕ} (put : PairPut l x y (r + 2) w v) where
  pub by_old_row : {o : Progress} → NodeRowed f k ys zs r → (r ≡ k → ⊥) → o ≡ progress k true → NodeMarked l x y f k ys zs w v o
  by_old_row (row_there there same) d e = marked_again there same put e
  by_old_row (row_new is written) d e = absurd (d is)

-- by a conjunct of the column
module _ {given : Given} {x y r : ℕ} {w : List ℕ} (found : PartIs given.second.file.now given.second.table.now given.layout.names y (λ z. (cell_at given.layout w x z ≡ 1 → ⊥)) r) where
  pub asked_column : {kept : ℕ} {v : List ℕ} → Value w given.layout.marks (pair_of given.layout.names x r) kept → kept ≡ 0 → PairPut given.layout x r 1 w v → ColumnLooked given x y w v true
  asked_column value e put = column_asked found.is_name (sym value.is ∙ e) put refl

  pub copied_column : {kept : ℕ} {v : List ℕ} → Value w given.layout.marks (pair_of given.layout.names x r) kept → (kept ≡ 0 → ⊥) → PairPut given.layout x y kept w v → ColumnLooked given x y w v true
  copied_column {kept} value d put = column_copied found.part found.is_name (at_least (cell_at given.layout w x r) value.is found.holds) (rw value.is at put) refl
    where
      at_least : (i : ℕ) → kept ≡ i → (i ≡ 1 → ⊥) → 2 ≤ i
      at_least i e k = elim (ℕ_discrete i 1) [ yes f ↦ absurd (k f) | no f ↦ elim (ℕ_discrete i 0) [ yes f ↦ absurd (d (e ∙ f)) | no f ↦ omega arith ] ]

-- by the conjuncts of the row
pub record ChainTo (given : Given) (w : List ℕ) (x y k : ℕ) (ys : List ℕ) (i : ℕ) (zs : List ℕ) (j m : ℕ) : Type 0 where
  pub chain : Chain given w x y k ys i zs j m
  pub some : 0 < i
  pub long : length zs ≡ length ys
  pub few : j + 1 ≤ k + i
  pub small : m + 2 ≤ most_value

-- a conjunct is marked
module _ {given : Given} {w : List ℕ} {x y : ℕ} (all : AllMarked given w x y) {i p kept : ℕ} (h : i < count_at given.first.file.now given.first.table.now x)
    (part : p ≡ part_at given.first.file.now given.first.table.now x i) (value : Value w given.layout.marks (pair_of given.layout.names p y) kept) where
  here : kept ≡ cell_at given.layout w (part_at given.first.file.now given.first.table.now x i) y
  here = rw (← part) value.is

  pub marked_here : 2 ≤ kept
  marked_here = omega (arith, here, all.at i h)

  its_row : cell_at given.layout w (part_at given.first.file.now given.first.table.now x i) y ≡ kept - 2 + 2
  its_row = omega (arith, here, marked_here)

  pub joined_more : {k j m : ℕ} {ys zs : List ℕ} → ChainTo given w x y k ys i zs j m → {xs : List ℕ} → RowPut j (row 2 m (kept - 2)) zs xs → j + 2 ≤ most_value
      → ChainTo given w x y k ys (i + 1) xs (j + 1) j
  joined_more {j = j} so_far put few = record {
    chain = rw (add-one i, add-one j) (chain_more so_far.chain so_far.some h its_row put);
    some = omega arith;
    long = put.long ∙ so_far.long;
    few = omega (arith, so_far.few);
    small = few;
  }

pub joined_first : {given : Given} {w : List ℕ} {x y k : ℕ} {ys : List ℕ} → AllMarked given w x y → {p kept : ℕ} → 0 < count_at given.first.file.now given.first.table.now x
    → p ≡ part_at given.first.file.now given.first.table.now x 0 → Value w given.layout.marks (pair_of given.layout.names p y) kept
    → ChainTo given w x y k ys 1 ys k (kept - 2)
joined_first all h part value = record {
  chain = chain_first h (its_row all h part value);
  some = omega arith;
  long = refl;
  few = omega arith;
  small = omega (arith, value.small, marked_here all h part value);
}

module _ {given : Given} {x y r : ℕ} {w : List ℕ} (found : PartIs given.first.file.now given.first.table.now given.layout.names x (λ z. cell_at given.layout w z y ≤ 1) r) where
  module _ {kept : ℕ} (value : Value w given.layout.marks (pair_of given.layout.names r y) kept) where
    pub asked_part : {v : List ℕ} → kept ≡ 0 → PairPut given.layout r y 1 w v → PartAsked given x y w v true
    asked_part e put = part_asked found.is_name (sym value.is ∙ e) put refl

    pub open_part : (kept ≡ 0 → ⊥) → PartAsked given x y w w false
    open_part d = part_open found.part (one (cell_at given.layout w r y) value.is found.holds) refl refl
      where
        one : (i : ℕ) → kept ≡ i → i ≤ 1 → i ≡ 1
        one i e g = elim (ℕ_discrete i 0) [ yes f ↦ absurd (d (e ∙ f)) | no f ↦ omega arith ]

-- by the filler
module _ {given : Given} {x y k end kept : ℕ} {ys w : List ℕ} {p : Partner} (found : PartnerOf given x y p) (is_end : end ≡ filler_at given.first.table.now x)
    (value : Value w given.layout.marks (pair_of given.layout.names end p.over) kept) where
  pub asked_filler : {v : List ℕ} {o : Progress} → kept ≡ 0 → PairPut given.layout end p.over 1 w v → o ≡ progress k true → FillerLooked given x y k ys ys w v o
  asked_filler e put f =
      let there : kept ≡ cell_at given.layout w (filler_at given.first.table.now x) p.over = rw (← is_end) value.is in
      filler_asked found (sym there ∙ e) (rw is_end at put) refl f

  pub open_filler : {o : Progress} → kept ≡ 1 → o ≡ progress k false → FillerLooked given x y k ys ys w w o
  open_filler e f =
      let there : kept ≡ cell_at given.layout w (filler_at given.first.table.now x) p.over = rw (← is_end) value.is in
      filler_open found (sym there ∙ e) refl refl f

  pub marked_filler : (kept ≡ 0 → ⊥) → (kept ≡ 1 → ⊥) → {zs v : List ℕ} {o : Progress} → RowPut k (row 3 p.role.0 (kept - 2)) ys zs → PairPut given.layout x y (k + 2) w v
      → o ≡ progress (k + 1) true → FillerLooked given x y k ys zs w v o
  marked_filler d e put mark f =
      let large : 2 ≤ kept = elim (ℕ_discrete kept 0) [ yes z ↦ absurd (d z) | no z ↦ elim (ℕ_discrete kept 1) [ yes g ↦ absurd (e g) | no g ↦ omega arith ] ] in
      let there : kept ≡ cell_at given.layout w (filler_at given.first.table.now x) p.over = rw (← is_end) value.is in
      let is : cell_at given.layout w (filler_at given.first.table.now x) p.over ≡ kept - 2 + 2 = omega (arith, there) in
      filler_marked found is put mark f
