-- Whether the last of some rows shows a difference, by what the rows are evaluated by on both sides, of the name x.
--   ToDifferAbove first second ys last x w              what is asked on the left: bytes for the rows by the first release and, behind them, by the second
--   DiffersAbove first second ys last x w v r      the answer, for all signatures; and the memory outside those bytes is as before
--   ToDifferBelow, DiffersBelow                    the same on the right
use Rattle.std.specs.Prelude.{◌≡◌, Bool, true, List, ℕ, suc, ◌≤◌, ◌<◌, length, get_or, ◌+◌}
use Rattle.el.specs.Signatures.{Signature}
use Rattle.el.proofs.Tests.{Tells}
use Rattle.el.specs.Terminologies.{NamesBelow}
use Rattle.concept_rows.specs.Rows.{Shows}
use Rattle.concept_rows.specs.Lent.{row_at}
use Rattle.concept_rows.specs.Written.{Formed}
use Rattle.marks.specs.Squares.{span}
use Rattle.row_evaluation.specs.declared.Evaluation.{Evaluation}
use Rattle.row_evaluation.specs.Cells.{cell}
use Rattle.row_evaluation.specs.Worlds.{WorldOf, content_in}
use Rattle.row_evaluation.specs.Below.{BlankBelow}
use Rattle.row_evaluation.specs.Above.{BlankAbove}

pub record ToDifferAbove (first second : Evaluation) (ys : List ℕ) (last x : ℕ) (w : List ℕ) : Type 0 where
  pub first_blank : BlankBelow first ys (suc last) w
  pub second_blank : BlankBelow second ys (suc last) w
  pub same_names : second.square.names ≡ first.square.names
  pub behind : second.base ≡ cell first.base first.square.names (suc last) 0
  pub second_apart : second.square.base + span second.square.names ≤ first.base
  pub name : x < first.square.names

pub record DiffersAbove (first second : Evaluation) (ys : List ℕ) (last x : ℕ) (w v : List ℕ) (r : Bool) : Type 0 where
  pub long : length v ≡ length w
  pub before : (p : ℕ) → p < first.base → get_or v p 0 ≡ get_or w p 0
  pub past : (p : ℕ) → cell second.base second.square.names (suc last) 0 ≤ p → get_or v p 0 ≡ get_or w p 0
  pub answer : (sig : Signature) (side : ℕ) → WorldOf first w → WorldOf second w → NamesBelow first.square.names sig → Formed sig (row_at ys) (suc last)
      → sig.has_name x ≡ true → side ≡ 1 → Tells r (Shows sig (content_in first) (content_in second) side x (row_at ys) last)

pub record ToDifferBelow (first second : Evaluation) (ys : List ℕ) (last x : ℕ) (w : List ℕ) : Type 0 where
  pub first_blank : BlankAbove first ys (suc last) w
  pub second_blank : BlankAbove second ys (suc last) w
  pub same_names : second.square.names ≡ first.square.names
  pub behind : second.base ≡ cell first.base first.square.names (suc last) 0
  pub second_apart : second.square.base + span second.square.names ≤ first.base
  pub name : x < first.square.names

pub record DiffersBelow (first second : Evaluation) (ys : List ℕ) (last x : ℕ) (w v : List ℕ) (r : Bool) : Type 0 where
  pub long : length v ≡ length w
  pub before : (p : ℕ) → p < first.base → get_or v p 0 ≡ get_or w p 0
  pub past : (p : ℕ) → cell second.base second.square.names (suc last) 0 ≤ p → get_or v p 0 ≡ get_or w p 0
  pub answer : (sig : Signature) (side : ℕ) → WorldOf first w → WorldOf second w → NamesBelow first.square.names sig → Formed sig (row_at ys) (suc last)
      → sig.has_name x ≡ true → side ≡ 2 → Tells r (Shows sig (content_in first) (content_in second) side x (row_at ys) last)
