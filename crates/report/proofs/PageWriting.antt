-- The page as it is written: the pieces of cells and lines, and what is left of the page after each name.
--   left j i bs      what is still to be put after j cells, of the result bs from name i on
use mathlib.Core.Path.{◌≡◌, refl, sym, ap, subst, ◌∙◌}
use mathlib.Core.Bool.{true, false}
use mathlib.Core.List.{List, [], ◌∷◌, ◌++◌}
use Prim.Native.Nat.{ℕ, ◌+◌, ◌*◌, ◌-◌, ◌/◌, ◌%◌, ◌≤◌, ◌<◌}
use native.Mathlib.Numerals.{add-one}
use native.Mathlib.Omega.{arith}
use borrow.Author.Tests.{eq-eqb, ne_eqb}
use lib.ListN.{length, drop, get_or, drop_of_length-le}
use lib.Seq.{drop-cons}
use Rattle.el.specs.Comparison.{is_reported}
use Rattle.output.specs.Numbers.{space, spaces, aligned}
use Rattle.output.proofs.Rest.{Begins, Rest, rest_whole}
use Rattle.output.specs.Places.{last_place}
use Rattle.report.specs.Texts.{newline, letter}
use Rattle.report.specs.Sides.{side_byte, side_letter}
use Rattle.report.specs.declared.lines.Side.{Side}
use Rattle.report.specs.declared.lines.Side.TheVariants.{Left, Right, Both}
use Rattle.report.specs.Pages.{cells, cell_text, page}
use Rattle.report.specs.PageCells.{line_end, after_cell, after_last, counted_cell, cells_left}
use Rattle.report.proofs.PageLines.{line_filled, page_cells}

-- a cell, where l is the letter's byte
pub cell_pieces : (a l : ℕ) → aligned 4 a ++ ((space ∷ []) ++ ((l ∷ []) ++ spaces 10)) ≡ cell_text (record { name = a; sign = l })
unfolding cell_text
cell_pieces a l = refl

-- the end of a line
module _ (k : ℕ) where
  pub line_broken : k % 50 ≡ 0 → (newline ∷ []) ++ (12 ∷ []) ≡ line_end k
  unfolding line_end
  line_broken h = simp (eq-eqb (k % 50) 0 h)

  pub line_unbroken : (k % 50 ≡ 0 → ⊥) → newline ∷ [] ≡ line_end k
  unfolding line_end
  line_unbroken h = simp (ne_eqb (k % 50) 0 h)

-- the rest of an unfinished line
pub rest_pieces : (j : ℕ) → (j % 4 ≡ 0 → ⊥) → spaces (16 * (4 - j % 4)) ++ line_end (j / 4 + 1) ≡ after_last j
rest_pieces j h = ap (λ (k : ℕ). spaces (16 * (4 - j % 4)) ++ line_end k) (add-one (j / 4)) ∙ sym (line_filled j h)

-- the letter by the side that a byte reports on
letter_of_side : (s : Side) → letter (side_byte s) ≡ side_letter s
unfolding letter
letter_of_side Left = refl
letter_of_side Right = refl
letter_of_side Both = refl

reported_side : (s : Side) → is_reported (side_byte s) ≡ true
reported_side Left = refl
reported_side Right = refl
reported_side Both = refl

-- name by name
abbrev pub left : ℕ → ℕ → List ℕ → List ℕ
left j i bs = cells_left j (cells i (drop i bs))

module _ (j i : ℕ) (bs : List ℕ) where
  left_reported : i < length bs → is_reported (get_or bs i 0) ≡ true
      → left j i bs ≡ counted_cell (j + 1) (record { name = i; sign = letter (get_or bs i 0) }) ++ left (j + 1) (i + 1) bs
  unfolding cells cells_left
  left_reported h e = rw (drop-cons bs i 0, add-one i, add-one j, e, cells)

  left_other : i < length bs → is_reported (get_or bs i 0) ≡ false → left j i bs ≡ left j (i + 1) bs
  unfolding cells
  left_other h e = rw (drop-cons bs i 0, add-one i, e, cells)

  pub left_none : length bs ≤ i → left j i bs ≡ after_last j
  unfolding cells cells_left
  left_none h = ap (λ (l : List ℕ). cells_left j (cells i l)) (drop_of_length-le bs h)

  -- a name that is reported on the side s
  pub begins_cell : (s : Side) → i < length bs → side_byte s ≡ get_or bs i 0
      → Begins (left j i bs) (cell_text (record { name = i; sign = side_letter s }) ++ after_cell (j + 1)) (left (j + 1) (i + 1) bs)
  unfolding counted_cell
  begins_cell s h e =
      let sign : letter (get_or bs i 0) ≡ side_letter s = ap letter (sym e) ∙ letter_of_side s in
      let on : is_reported (get_or bs i 0) ≡ true = ap is_reported (sym e) ∙ reported_side s in
      record {
        is = left_reported h on ∙ ap (λ (l : ℕ). (cell_text (record { name = i; sign = l }) ++ after_cell (j + 1)) ++ left (j + 1) (i + 1) bs) sign;
      }

module _ {o : List ℕ} (bs : List ℕ) where
  pub page_begun : length o ≤ last_place → Rest o 0 (page bs) o 0 (left 0 0 bs)
  unfolding page
  page_begun short = subst (λ (t : List ℕ). Rest o 0 (page bs) o 0 t) (page_cells (cells 0 bs)) (rest_whole (omega arith) short)

  pub passed_over : {q : List ℕ} {next : ℕ} (j i : ℕ) → i < length bs → is_reported (get_or bs i 0) ≡ false → Rest o 0 (page bs) q next (left j i bs) → Rest o 0 (page bs) q next (left j (i + 1) bs)
  passed_over {q} {next} j i h e rest = subst (λ (t : List ℕ). Rest o 0 (page bs) q next t) (left_other j i bs h e) rest
