-- The page cell by cell is the page line by line.
--   cell_ended, cell_followed, line_ended, line_filled     what stands after a cell and after the last one
--   page_cells                                             the page of some cells
use mathlib.Core.Path.{◌≡◌, sym, ap, ◌∙◌}
use mathlib.Core.List.{List, [], ◌∷◌, ◌++◌, append_assoc, append-nil}
use Prim.Native.Nat.{ℕ, suc, ◌+◌, ◌*◌, ◌-◌, ◌/◌, ◌%◌, ◌<◌}
use native.Mathlib.Omega.{arith}
use borrow.Author.Tests.{eq-eqb, ne_eqb}
use lib.ListN.{length}
use Rattle.output.specs.Numbers.{spaces}
use Rattle.report.specs.Pages.{Cell, cell_text, cell_texts, page_line, page_break, page_lines, line_count, page_of}
use Rattle.report.specs.PageCells.{line_end, after_cell, after_last, counted_cell, cells_left}

module _ (j : ℕ) where
  pub cell_ended : j % 4 ≡ 0 → after_cell j ≡ line_end (j / 4)
  unfolding after_cell
  cell_ended h = simp (eq-eqb (j % 4) 0 h)

  pub cell_followed : (j % 4 ≡ 0 → ⊥) → after_cell j ≡ []
  unfolding after_cell
  cell_followed h = simp (ne_eqb (j % 4) 0 h)

  pub line_ended : j % 4 ≡ 0 → after_last j ≡ []
  unfolding after_last
  line_ended h = simp (eq-eqb (j % 4) 0 h)

  pub line_filled : (j % 4 ≡ 0 → ⊥) → after_last j ≡ spaces (16 * (4 - j % 4)) ++ line_end (suc (j / 4))
  unfolding after_last
  line_filled h = simp (ne_eqb (j % 4) 0 h)

-- a cell that is not the last of its line
next_cell : (j : ℕ) (c : Cell) (cs : List Cell) → (suc j % 4 ≡ 0 → ⊥) → cells_left j (c ∷ cs) ≡ cell_text c ++ cells_left (suc j) cs
unfolding cells_left counted_cell
next_cell j c cs h =
    ap (λ (t : List ℕ). (cell_text c ++ t) ++ cells_left (suc j) cs) (cell_followed (suc j) h)
    ∙ ap (λ (t : List ℕ). t ++ cells_left (suc j) cs) (append-nil (cell_text c))

-- the last cell of a line
fourth_cell : (j k : ℕ) (c : Cell) (cs : List Cell) → suc j ≡ 4 * suc k → cells_left j (c ∷ cs) ≡ cell_text c ++ (line_end (suc k) ++ cells_left (suc j) cs)
unfolding cells_left counted_cell
fourth_cell j k c cs h =
    let whole : suc j / 4 ≡ suc k = omega arith in
    ap (λ (t : List ℕ). (cell_text c ++ t) ++ cells_left (suc j) cs) (cell_ended (suc j) (omega arith) ∙ ap line_end whole)
    ∙ append_assoc (cell_text c) (line_end (suc k)) (cells_left (suc j) cs)

-- cells of an unfinished line, of which i stand already
unfinished : (i j k : ℕ) (cs : List Cell) → j ≡ 4 * k + i → 0 < i + length cs → i + length cs < 4
    → cells_left j cs ≡ cell_texts cs ++ (spaces (16 * (4 - (i + length cs))) ++ line_end (suc k))
unfolding cells_left cell_texts
unfinished i j k [] h some few =
    let over : j % 4 ≡ i + 0 = omega arith in
    let whole : suc (j / 4) ≡ suc k = omega arith in
    line_filled j (omega arith)
    ∙ ap (λ (r : ℕ). spaces (16 * (4 - r)) ++ line_end (suc (j / 4))) over
    ∙ ap (λ (l : ℕ). spaces (16 * (4 - (i + 0))) ++ line_end l) whole
unfinished i j k (c ∷ cs) h some few =
    let n : suc i + length cs ≡ i + suc (length cs) = omega arith in
    let tail : ℕ → List ℕ = λ r. spaces (16 * (4 - r)) ++ line_end (suc k) in
    next_cell j c cs (omega arith)
    ∙ ap (λ (t : List ℕ). cell_text c ++ t) (unfinished (suc i) (suc j) k cs (omega arith) (omega arith) (omega arith))
    ∙ sym (append_assoc (cell_text c) (cell_texts cs) (tail (suc i + length cs)))
    ∙ ap (λ (r : ℕ). (cell_text c ++ cell_texts cs) ++ tail r) n

-- the end of the line is that of the line of cells
with_end : (cs : List Cell) (k : ℕ) (rest : List ℕ) → page_line cs ++ (page_break k ++ rest) ≡ cell_texts cs ++ ((spaces (16 * (4 - length cs)) ++ line_end k) ++ rest)
unfolding page_line line_end
with_end cs k rest = simp append_assoc

one_line : (cs : List Cell) (j k : ℕ) → j ≡ 4 * k → 0 < length cs → length cs < 4 → page_line cs ++ (page_break (suc k) ++ []) ≡ cells_left j cs
one_line cs j k h some few =
    let fill = spaces (16 * (4 - length cs)) ++ line_end (suc k) in
    let n : 0 + length cs ≡ length cs = omega arith in
    with_end cs (suc k) []
    ∙ ap (λ (t : List ℕ). cell_texts cs ++ t) (append-nil fill)
    ∙ ap (λ (r : ℕ). cell_texts cs ++ (spaces (16 * (4 - r)) ++ line_end (suc k))) (sym n)
    ∙ sym (unfinished 0 j k cs (omega arith) (omega arith) (omega arith))

four_cells : (a b c d : Cell) (cs : List Cell) (j k : ℕ) → j ≡ 4 * k
    → cells_left j (a ∷ b ∷ c ∷ d ∷ cs) ≡ cell_texts (a ∷ b ∷ c ∷ d ∷ []) ++ (line_end (suc k) ++ cells_left (suc (suc (suc (suc j)))) cs)
unfolding cell_texts
four_cells a b c d cs j k h =
    let first = next_cell j a (b ∷ c ∷ d ∷ cs) (omega arith) in
    let second = next_cell (suc j) b (c ∷ d ∷ cs) (omega arith) in
    let third = next_cell (suc (suc j)) c (d ∷ cs) (omega arith) in
    let fourth = fourth_cell (suc (suc (suc j))) k d cs (omega arith) in
    first
    ∙ ap (λ (t : List ℕ). cell_text a ++ t) (second ∙ ap (λ (t : List ℕ). cell_text b ++ t) (third ∙ ap (λ (t : List ℕ). cell_text c ++ t) fourth))
    ∙ simp (append_assoc, append-nil)

lines_cells : (cs : List Cell) (j k : ℕ) → j ≡ 4 * k → page_lines (line_count (length cs)) (suc k) cs ≡ cells_left j cs
unfolding page_lines cells_left
lines_cells [] j k h = sym (line_ended j (omega arith))
lines_cells (a ∷ []) j k h = one_line (a ∷ []) j k h (omega arith) (omega arith)
lines_cells (a ∷ b ∷ []) j k h = one_line (a ∷ b ∷ []) j k h (omega arith) (omega arith)
lines_cells (a ∷ b ∷ c ∷ []) j k h = one_line (a ∷ b ∷ c ∷ []) j k h (omega arith) (omega arith)
lines_cells (a ∷ b ∷ c ∷ d ∷ cs) j k h =
    let n : line_count (suc (suc (suc (suc (length cs))))) ≡ suc (line_count (length cs)) = omega arith in
    let four = a ∷ b ∷ c ∷ d ∷ [] in
    ap (λ (left : ℕ). page_lines left (suc k) (a ∷ b ∷ c ∷ d ∷ cs)) n
    ∙ with_end four (suc k) (page_lines (line_count (length cs)) (suc (suc k)) cs)
    ∙ ap (λ (t : List ℕ). cell_texts four ++ (line_end (suc k) ++ t)) (lines_cells cs (suc (suc (suc (suc j)))) (suc k) (omega arith))
    ∙ sym (four_cells a b c d cs j k h)

pub page_cells : (cs : List Cell) → page_of cs ≡ cells_left 0 cs
unfolding page_of
page_cells cs = lines_cells cs 0 0 (omega arith)
