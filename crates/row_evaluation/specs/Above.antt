-- The names above a row, by the bytes of earlier rows. A row has the names that are not defined by a conjunction; the others, and ⊤, follow from
-- those. E is what rows are evaluated by, w the memory.
--   ShapedBy E                the table has a row for each name, and what it says of names is there
--   Upward E w                what the functions ask: such a table, a square of inclusions, and bytes behind it
--   PartsHold E w k y         row k has all conjuncts of y
--   RowBelow E w k y          row k lies below the node y: ⊤; it has all conjuncts of y; or it has y
--   FilledAbove E w r j y     y is defined by a restriction whose role r serves for, and row j lies below its filler
--   AboveBy E w f y           a row of the form f lies below the name y, which is not defined by a conjunction
--   PlainAbove E w f y        y is such a name, and that
--   NameAbove E ys j y        y is such a name, and row j lies below it
--   BlankAbove E ys k w       bytes for k rows, all 0, and rows that use only what is there
--   AboveFilled E ys k w v    the memory w became v: its bytes tell what lies above the first k rows, and all else is as before
use Rattle.std.specs.Prelude.{◌≡◌, true, ◌⊎◌, List, ℕ, ◌+◌, ◌*◌, ◌≤◌, ◌<◌, length, get_or}
use Rattle.el.specs.Concepts.{name}
use Rattle.el.specs.Derivability.{Derives}
use Rattle.el.specs.Signatures.{Signature}
use Rattle.el.specs.Terminologies.{NamesBelow}
use Rattle.concept_rows.specs.Rows.{concept_of_row}
use Rattle.concept_rows.specs.Lent.{row_at}
use Rattle.concept_rows.specs.Written.{Formed}
use Rattle.release.specs.Files.{most_names}
use Rattle.release.specs.Tables.{kind_at, role_at, filler_at, serves_at, count_at, part_at, Shaped}
use Rattle.marks.specs.Squares.{span, Room, Marked}
use Rattle.row_evaluation.specs.declared.Evaluation.{Evaluation}
use Rattle.row_evaluation.specs.declared.rows.Form.{Form}
use Rattle.row_evaluation.specs.declared.rows.Form.TheVariants.{Top, Name, Conjunction, Restriction}
use Rattle.row_evaluation.specs.RowForms.{RowIn}
use Rattle.row_evaluation.specs.Cells.{cell, Holds, Told}
use Rattle.row_evaluation.specs.Worlds.{WorldOf, content_in}

abbrev pub ShapedBy : Evaluation → Type 0
ShapedBy E = Shaped E.square.names E.terminology.file.now E.terminology.table.now

pub record Upward (E : Evaluation) (w : List ℕ) : Type 0 where
  pub shaped : ShapedBy E
  pub room : Room E.square w
  pub apart : E.square.base + span E.square.names ≤ E.base
  pub few : E.square.names ≤ most_names

pub record PartsHold (E : Evaluation) (w : List ℕ) (k y : ℕ) : Type 0 where
  pub each : (i : ℕ) → i < count_at E.terminology.file.now E.terminology.table.now y
      → Holds w E.base E.square.names k (part_at E.terminology.file.now E.terminology.table.now y i)

pub data RowBelow (E : Evaluation) (w : List ℕ) (k y : ℕ) : Type 0 where
  top_above : y ≡ E.square.names → RowBelow E w k y
  parts_above : y < E.square.names → kind_at E.terminology.table.now y ≡ 2 → PartsHold E w k y → RowBelow E w k y
  name_above : y < E.square.names → (kind_at E.terminology.table.now y ≡ 2 → ⊥) → Holds w E.base E.square.names k y → RowBelow E w k y

pub record FilledAbove (E : Evaluation) (w : List ℕ) (r j y : ℕ) : Type 0 where
  pub kind : kind_at E.terminology.table.now y ≡ 4
  pub role : serves_at E.terminology.table.now r (role_at E.terminology.table.now y) ≡ true
  pub filler : RowBelow E w j (filler_at E.terminology.table.now y)

abbrev pub AboveBy : Evaluation → List ℕ → Form → ℕ → Type 0
AboveBy E w Top y = ⊥
AboveBy E w (Name b) y = Marked E.square w b.0 y
AboveBy E w (Conjunction j k) y = Holds w E.base E.square.names j y ⊎ Holds w E.base E.square.names k y
AboveBy E w (Restriction r j) y = FilledAbove E w r.0 j y

pub record PlainAbove (E : Evaluation) (w : List ℕ) (f : Form) (y : ℕ) : Type 0 where
  pub is_name : y < E.square.names
  pub plain : kind_at E.terminology.table.now y ≡ 2 → ⊥
  pub above : AboveBy E w f y

pub record NameAbove (E : Evaluation) (ys : List ℕ) (j y : ℕ) : Type 0 where
  pub is_name : y < E.square.names
  pub plain : kind_at E.terminology.table.now y ≡ 2 → ⊥
  pub above : Derives (content_in E) (concept_of_row (row_at ys) j) (name y)

pub record BlankAbove (E : Evaluation) (ys : List ℕ) (k : ℕ) (w : List ℕ) : Type 0 where
  pub upward : Upward E w
  pub rows : 3 * k ≤ length ys
  pub fit : (i : ℕ) → i < k → RowIn E.square.names i (row_at ys i)
  pub inside : cell E.base E.square.names k 0 ≤ length w
  pub zero : (p : ℕ) → E.base ≤ p → p < cell E.base E.square.names k 0 → get_or w p 0 ≡ 0

pub record AboveFilled (E : Evaluation) (ys : List ℕ) (k : ℕ) (w v : List ℕ) : Type 0 where
  pub long : length v ≡ length w
  pub before : (p : ℕ) → p < E.base → get_or v p 0 ≡ get_or w p 0
  pub past : (p : ℕ) → cell E.base E.square.names k 0 ≤ p → get_or v p 0 ≡ get_or w p 0
  pub told : (sig : Signature) → WorldOf E w → NamesBelow E.square.names sig → Formed sig (row_at ys) k → Told (NameAbove E ys) E.square.names v E.base k
