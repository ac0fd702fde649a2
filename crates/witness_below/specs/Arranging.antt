-- Where all is kept while a right report is written: the rows of the inclusions of both releases one after the other, and then the pairs.
--   ClearedBetween from end w v   the bytes from `from` up to `end` are 0, and all else is as before
--   Arranged n w v r              the rows of the square at size n are copied behind those of the square at 0; then 0 for all pairs; r is
--                                 the number of bytes of the rows of a square
--   ToWriteRight given x ys ps w  what writing a report of the name x asks: memory w that is prepared for the two releases, as a comparison has it
--   RightWritten given x ..       what it gives: r rows, and if the name is a right witness the last shows it; the others are as before
use Rattle.std.specs.Prelude.{◌≡◌, List, ℕ, ◌+◌, ◌*◌, ◌≤◌, ◌<◌, length, get_or}
use Rattle.concept_rows.specs.Lent.{rows_needed}
use Rattle.release.specs.Files.{most_names}
use Rattle.marks.specs.Squares.{span}
use Rattle.marks.specs.Memory.{size}
use Rattle.layout.specs.declared.Given.{Given}
use Rattle.layout.specs.Comparing.{Comparing}
use Rattle.witness_below.specs.Whole.{RightShown}

pub record ClearedBetween (from end : ℕ) (w v : List ℕ) : Type 0 where
  pub long : length v ≡ length w
  pub zero : (p : ℕ) → from ≤ p → p < end → get_or v p 0 ≡ 0
  pub before : (p : ℕ) → p < from → get_or v p 0 ≡ get_or w p 0
  pub past : (p : ℕ) → end ≤ p → get_or v p 0 ≡ get_or w p 0

pub record ToArrange (n : ℕ) (w : List ℕ) : Type 0 where
  pub some : 1 ≤ n
  pub few : n ≤ most_names
  pub room : 4 * size n ≤ length w

pub record Arranged (n : ℕ) (w v : List ℕ) (r : ℕ) : Type 0 where
  pub is : r ≡ span n
  pub long : length v ≡ length w
  pub first : (p : ℕ) → p < span n → get_or v p 0 ≡ get_or w p 0
  pub second : (i : ℕ) → i < span n → get_or v (span n + i) 0 ≡ get_or w (size n + i) 0
  pub zero : (p : ℕ) → 2 * span n ≤ p → p < 2 * span n + 3 * size n → get_or v p 0 ≡ 0
  pub past : (p : ℕ) → 4 * size n ≤ p → get_or v p 0 ≡ get_or w p 0

pub record ToWriteRight (given : Given) (x : ℕ) (ys ps w : List ℕ) : Type 0 where
  pub comparing : Comparing given.first.file.now given.second.file.now given w
  pub first_at : given.layout.first ≡ 0
  pub second_at : given.layout.second ≡ size given.layout.names
  pub room : 4 * size given.layout.names ≤ length w
  pub rows : 3 * rows_needed given.layout.names ≤ length ys
  pub numbers : given.layout.names < length ps
  pub name : x < given.layout.names

pub record RightWritten (given : Given) (x : ℕ) (ys zs w v : List ℕ) (r : ℕ) : Type 0 where
  pub few : r ≤ rows_needed given.layout.names
  pub long : length v ≡ length w
  pub rows_long : length zs ≡ length ys
  pub beyond : (p : ℕ) → 4 * size given.layout.names ≤ p → get_or v p 0 ≡ get_or w p 0
  pub past : (p : ℕ) → 3 * r ≤ p → get_or zs p 0 ≡ get_or ys p 0
  pub shows : RightShown given x zs r
