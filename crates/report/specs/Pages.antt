-- The page for the desk wall, in ASCII: the reported names of a result, four to a line.
--   Cell                     what a cell tells: a name and its letter
--   cells a bs               the cells of the reported names, rising, where bs are the result bytes of the names from a on
--   cell_text c              a cell, and cell_texts cs several, one after the other
--   page_line cs             the line of up to four cells
--   page_break k             what follows the k-th line, counted from 1
--   page_lines left k cs     so many lines, the first of which is the k-th, with the cells cs
--   page bs                  the page of the result bs
--   page_length r            how long the page of a result with r reported names is
use Rattle.std.specs.Prelude.{List, [], ◌∷◌, ◌++◌, ℕ, zero, suc, ◌+◌, ◌*◌, ◌-◌, ◌/◌, ◌%◌, eqb, length, take, drop}
use Rattle.el.specs.Comparison.{is_reported}
use Rattle.el.specs.Lists.{pick}
use Rattle.output.specs.Numbers.{space, spaces, aligned}
use Rattle.report.specs.Texts.{newline, letter}

pub record Cell : Type 0 where
  pub name : ℕ
  pub sign : ℕ

unfoldable pub cells : ℕ → List ℕ → List Cell
cells a [] = []
cells a (b ∷ bs) = pick (is_reported b) (record { name = a; sign = letter b } ∷ cells (suc a) bs) (cells (suc a) bs)

-- the number without leading zeros, right-aligned in 4 after spaces, a space, the letter, ten spaces
unfoldable pub cell_text : Cell → List ℕ
cell_text c = aligned 4 c.name ++ (space ∷ c.sign ∷ spaces 10)

unfoldable pub cell_texts : List Cell → List ℕ
cell_texts [] = []
cell_texts (c ∷ cs) = cell_text c ++ cell_texts cs

-- four cells of 16, where spaces stand for those that are missing, and a newline
unfoldable pub page_line : List Cell → List ℕ
page_line cs = cell_texts cs ++ (spaces (16 * (4 - length cs)) ++ (newline ∷ []))

-- byte 12 after each 50th line
abbrev pub page_break : ℕ → List ℕ
page_break k = pick (eqb (k % 50) 0) (12 ∷ []) []

unfoldable pub page_lines : ℕ → ℕ → List Cell → List ℕ
page_lines zero k cs = []
page_lines (suc left) k cs = page_line (take 4 cs) ++ (page_break k ++ page_lines left (suc k) (drop 4 cs))

-- a quarter of the cells, rounded up
abbrev pub line_count : ℕ → ℕ
line_count r = (r + 3) / 4

unfoldable pub page_of : List Cell → List ℕ
page_of cs = page_lines (line_count (length cs)) 1 cs

unfoldable pub page : List ℕ → List ℕ
page bs = page_of (cells 0 bs)

unfoldable pub page_length : ℕ → ℕ
page_length r = 65 * line_count r + line_count r / 50
