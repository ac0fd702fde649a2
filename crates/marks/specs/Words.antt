-- Eight bytes read as one number, a word, so that 64 cells are looked at at once; where a row has no whole word left, a byte.
--   ReadBits k s p r     the number r has the k bits of s from byte p on;  Reads k s p r: and no others
--   block_end n y         the column after the block of y in a row with columns up to n: the end of y's word, or of its byte
--   Rest n s row y r     the number r has the bits of a row of s from column y to the end of its block, and no others
--   FirstBit b r         r is the first bit of b that is 1
--   RowLies n s row      the bytes of a row with columns up to n are in the memory s
--   HasBit s row y       the bit of column y of a row of s is 1
--   NextBit n s row from r   r is the first such column from `from` up to n, if there is one
use Rattle.std.specs.Prelude.{◌≡◌, List, ℕ, ◌+◌, ◌-◌, ◌*◌, ◌/◌, ◌%◌, ◌^◌, ◌≤◌, ◌<◌, leb, length, get_or}
use Rattle.el.specs.Lists.{pick}
use Rattle.std.specs.Prelude.{Option}
use Rattle.marks.specs.Squares.{bit, farthest, Next}

pub record ReadBits (k : ℕ) (s : List ℕ) (p r : ℕ) : Type 0 where
  pub bits : (j : ℕ) → j < k → bit r j ≡ bit (get_or s (p + j / 8) 0) (j % 8)

pub record Reads (k : ℕ) (s : List ℕ) (p r : ℕ) : Type 0 where
  pub read : ReadBits k s p r
  pub small : r < 2 ^ k

unfoldable pub block_end : ℕ → ℕ → ℕ
block_end n y = pick (leb (8 * (y / 64) + 7) (n / 8)) (64 * (y / 64) + 64) (8 * (y / 8) + 8)

pub record Rest (n : ℕ) (s : List ℕ) (row y r : ℕ) : Type 0 where
  pub bits : (z : ℕ) → y ≤ z → z < block_end n y → bit r (z - y) ≡ bit (get_or s (row + z / 8) 0) (z % 8)
  pub small : r < 2 ^ (block_end n y - y)

pub record FirstBit (b r : ℕ) : Type 0 where
  pub few : r < 64
  pub is : bit b r ≡ 1
  pub none : (k : ℕ) → k < r → bit b k ≡ 0

-- what reading a block asks: the bytes of a row with columns up to n are in the memory, and the places do not wrap
pub record InRow (n : ℕ) (s : List ℕ) (row y : ℕ) : Type 0 where
  pub column : y ≤ n
  pub inside : row + n / 8 < length s
  pub near : row + n / 8 < farthest * 2

pub record RowLies (n : ℕ) (s : List ℕ) (row : ℕ) : Type 0 where
  pub few : n ≤ 65535
  pub inside : row + n / 8 < length s
  pub near : row + n / 8 < farthest * 2

pub record HasBit (s : List ℕ) (row y : ℕ) : Type 0 where
  pub is : bit (get_or s (row + y / 8) 0) (y % 8) ≡ 1

abbrev pub NextBit : ℕ → List ℕ → ℕ → ℕ → Option ℕ → Type 0
NextBit n s row from r = Next (HasBit s row) (λ y. HasBit s row y → ⊥) n from r
