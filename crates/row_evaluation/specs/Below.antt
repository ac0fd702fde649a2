-- The nodes that lie below a row, by the bytes of earlier rows. E is what rows are evaluated by, w the memory.
--   Setting E w               what the functions ask: a row of the table for each name, a square of inclusions, and bytes behind it
--   SuccessorIn E w j r b     the role r leads from the name b by its axiom, to a node below row j
--   Reaches E w j r x         x lies below such a name: x lies below ∃r over row j
--   BelowBy E w f x           x lies below a row of the form f
--   BlankBelow E ys k w       bytes for k rows, all 0, and rows that use only what is there
--   BelowFilled E ys k w v    the memory w became v: its bytes tell what lies below the first k rows, and all else is as before
use Rattle.std.specs.Prelude.{◌≡◌, true, List, ℕ, ◌+◌, ◌*◌, ◌≤◌, ◌<◌, length, get_or}
use Rattle.el.specs.Signatures.{Signature}
use Rattle.el.specs.Terminologies.{NamesBelow}
use Rattle.concept_rows.specs.Lent.{row_at}
use Rattle.concept_rows.specs.Written.{Formed}
use Rattle.release.specs.Files.{most_names, restricts}
use Rattle.release.specs.Tables.{kind_at, role_at, filler_at, serves_at}
use Rattle.marks.specs.Squares.{span, Room, Marked}
use Rattle.row_evaluation.specs.declared.Evaluation.{Evaluation}
use Rattle.row_evaluation.specs.declared.rows.Form.{Form}
use Rattle.row_evaluation.specs.declared.rows.Form.TheVariants.{Top, Name, Conjunction, Restriction}
use Rattle.row_evaluation.specs.RowForms.{RowIn}
use Rattle.row_evaluation.specs.Cells.{cell, Holds, Told}
use Rattle.row_evaluation.specs.Worlds.{WorldOf, Below}

pub record Setting (E : Evaluation) (w : List ℕ) : Type 0 where
  pub fillers : (x : ℕ) → x < E.square.names → restricts (kind_at E.terminology.table.now x) ≡ true → filler_at E.terminology.table.now x ≤ E.square.names
  pub room : Room E.square w
  pub apart : E.square.base + span E.square.names ≤ E.base
  pub few : E.square.names ≤ most_names

pub record SuccessorIn (E : Evaluation) (w : List ℕ) (j r b : ℕ) : Type 0 where
  pub is_restriction : restricts (kind_at E.terminology.table.now b) ≡ true
  pub role : serves_at E.terminology.table.now (role_at E.terminology.table.now b) r ≡ true
  pub below : Holds w E.base E.square.names j (filler_at E.terminology.table.now b)

pub record Reaches (E : Evaluation) (w : List ℕ) (j r x : ℕ) : Type 0 where
  pub by : ℕ
  pub is_name : by < E.square.names
  pub successor : SuccessorIn E w j r by
  pub above : Marked E.square w x by

abbrev pub BelowBy : Evaluation → List ℕ → Form → ℕ → Type 0
BelowBy E w Top x = Unit {0}
BelowBy E w (Name b) x = Marked E.square w x b.0
BelowBy E w (Conjunction j k) x = Holds w E.base E.square.names j x × Holds w E.base E.square.names k x
BelowBy E w (Restriction r j) x = Reaches E w j r.0 x

pub record BlankBelow (E : Evaluation) (ys : List ℕ) (k : ℕ) (w : List ℕ) : Type 0 where
  pub setting : Setting E w
  pub rows : 3 * k ≤ length ys
  pub fit : (i : ℕ) → i < k → RowIn E.square.names i (row_at ys i)
  pub inside : cell E.base E.square.names k 0 ≤ length w
  pub zero : (p : ℕ) → E.base ≤ p → p < cell E.base E.square.names k 0 → get_or w p 0 ≡ 0

pub record BelowFilled (E : Evaluation) (ys : List ℕ) (k : ℕ) (w v : List ℕ) : Type 0 where
  pub long : length v ≡ length w
  pub before : (p : ℕ) → p < E.base → get_or v p 0 ≡ get_or w p 0
  pub past : (p : ℕ) → cell E.base E.square.names k 0 ≤ p → get_or v p 0 ≡ get_or w p 0
  pub told : (sig : Signature) → WorldOf E w → NamesBelow E.square.names sig → Formed sig (row_at ys) k
      → Told (Below E.terminology.file.now ys E.square.names) E.square.names v E.base k
