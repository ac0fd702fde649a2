-- The columns of a line, or those of a row of a square that a line has not, given one after the other.
--   Walkable n s               s is a walk of columns up to n;  Walks s: up to the number of names that it was made with
--   Begins k s                 s stands before the first column of the line k
--   columns_left s             no more columns are left to s than this
--   ColumnGiven s r t          r is the first column of the line from where s stands on, if there is one; t stands behind it, on the same line
--   WalksOutside q w x k s     s is a walk of the columns of row x of q that are marked and not in k;  GoesOutside s: of those that it was made with
--   outside_from s             the column where s stands;  outside_left s: no more columns are left to s than this
--   OutsideGiven s r t         r is the first such column from where s stands on, if there is one; t stands behind it, on the same row
use Rattle.std.specs.Prelude.{◌≡◌, Option, IfSome, List, ℕ, suc, ◌-◌, ◌≤◌}
use Rattle.marks.specs.declared.Square.{Square}
use Rattle.marks.specs.Squares.{Room}
use Rattle.marks.specs.Lines.{Spans, NextColumn, NextOutside}
use Rattle.marks.specs.declared.columns.Columns.{Columns}
use Rattle.marks.specs.declared.columns.Outside.{Outside}

pub record Walkable (n : ℕ) (s : Columns) : Type 0 where
  pub names : s.names ≡ n
  pub spans : Spans n s.line.now
  pub few : n ≤ 65535

abbrev pub Walks : Columns → Type 0
Walks s = Walkable s.names s

pub record Begins (k : List ℕ) (s : Columns) : Type 0 where
  pub line : s.line.now ≡ k
  pub next : s.next ≡ 0

abbrev pub columns_left : Columns → ℕ
columns_left s = suc s.names - s.next

pub record ColumnGiven (s : Columns) (r : Option ℕ) (t : Columns) : Type 0 where
  pub names : t.names ≡ s.names
  pub line : t.line ≡ s.line
  pub column : NextColumn s.names s.line.now s.next r
  pub behind : IfSome r (λ y. t.next ≡ suc y)

pub record WalksOutside (q : Square) (w : List ℕ) (x : ℕ) (k : List ℕ) (s : Outside) : Type 0 where
  pub square : s.square ≡ q
  pub work : s.work.now ≡ w
  pub row : s.x ≡ x
  pub line : s.line.now ≡ k
  pub room : Room q w
  pub inside : x ≤ q.names
  pub spans : Spans q.names k

abbrev pub GoesOutside : Outside → Type 0
GoesOutside s = WalksOutside s.square s.work.now s.x s.line.now s

abbrev pub outside_from : Outside → ℕ
outside_from s = s.from

abbrev pub outside_left : Outside → ℕ
outside_left s = suc s.square.names - s.from

pub record OutsideGiven (s : Outside) (r : Option ℕ) (t : Outside) : Type 0 where
  pub square : t.square ≡ s.square
  pub work : t.work ≡ s.work
  pub row : t.x ≡ s.x
  pub line : t.line ≡ s.line
  pub column : NextOutside s.square s.work.now s.x s.line.now s.from r
  pub behind : IfSome r (λ y. t.from ≡ suc y)
