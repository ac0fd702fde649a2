-- The page cell by cell, as it is written; the cells are counted over the whole page.
--   line_end k          the end of the k-th line and what follows it
--   after_cell j        what follows the j-th cell: the line's end, if the cell is the last of its line
--   after_last j        what follows the last of j cells: the rest of an unfinished line
--   counted_cell j c    the j-th cell and what follows it
--   cells_left j cs     what is still to be put of the cells cs after j cells
use Rattle.std.specs.Prelude.{List, [], ◌∷◌, ◌++◌, ℕ, suc, ◌*◌, ◌-◌, ◌/◌, ◌%◌, eqb}
use Rattle.el.specs.Lists.{pick}
use Rattle.output.specs.Numbers.{spaces}
use Rattle.report.specs.Texts.{newline}
use Rattle.report.specs.Pages.{Cell, cell_text, page_break}

unfoldable pub line_end : ℕ → List ℕ
line_end k = newline ∷ page_break k

unfoldable pub after_cell : ℕ → List ℕ
after_cell j = pick (eqb (j % 4) 0) (line_end (j / 4)) []

unfoldable pub after_last : ℕ → List ℕ
after_last j = pick (eqb (j % 4) 0) [] (spaces (16 * (4 - j % 4)) ++ line_end (suc (j / 4)))

unfoldable pub counted_cell : ℕ → Cell → List ℕ
counted_cell j c = cell_text c ++ after_cell j

unfoldable pub cells_left : ℕ → List Cell → List ℕ
cells_left j [] = after_last j
cells_left j (c ∷ cs) = counted_cell (suc j) c ++ cells_left (suc j) cs
