-- The length of a page: a cell has 16 characters, a line 65 with its newline, and after every 50th line stands a byte more.
--   Narrow c         the name of c needs no more than four digits
--   cells_counted    there are as many cells as names reported
--   page_long        the length of the page of each result
use mathlib.Core.Path.{◌≡◌, refl, ◌∙◌}
use mathlib.Core.Bool.{Bool, true, false}
use mathlib.Core.List.{List, [], ◌∷◌, ◌++◌}
use Prim.Native.Nat.{ℕ, zero, suc, ◌+◌, ◌*◌, ◌/◌, ◌%◌, ◌≤◌, ◌<◌}
use native.Mathlib.Omega.{arith}
use borrow.Author.Tests.{eqb-true, eqb-false}
use lib.Dec.{eqb}
use lib.ListN.{length, take, drop, length-append, length-take, length-replicate}
use Rattle.std.specs.List.{All}
use Rattle.std.proofs.lemmas.List.Elements.{All-nil, All-cons, All-head, All-tail, All-take, All-drop}
use Rattle.el.specs.Comparison.{is_reported}
use Rattle.el.specs.Lists.{count}
use Rattle.output.specs.Numbers.{aligned}
use Rattle.output.proofs.Decimals.{length_below_10000}
use Rattle.report.specs.Texts.{letter}
use Rattle.report.specs.Pages.{Cell, cells, cell_text, cell_texts, page_line, page_break, page_lines, line_count, page_of, page, page_length}

abbrev pub Narrow : Cell → Type 0
Narrow c = c.name < 10000

cell_long : (c : Cell) → Narrow c → length (cell_text c) ≡ 16
unfolding cell_text aligned
cell_long c h =
    let few = length_below_10000 c.name h in
    simp (length-append, length-replicate) (omega arith)

cells_long : (cs : List Cell) → All Narrow cs → length (cell_texts cs) ≡ 16 * length cs
unfolding cell_texts
cells_long [] all = refl
cells_long (c ∷ cs) all =
    length-append (cell_text c) (cell_texts cs) ∙ omega (arith, cell_long c (All-head Narrow c cs all), cells_long cs (All-tail Narrow c cs all))

line_long : (cs : List Cell) → All Narrow cs → length cs ≤ 4 → length (page_line cs) ≡ 65
unfolding page_line
line_long cs all h =
    let long = cells_long cs all in
    simp (length-append, length-replicate) (omega arith)

next_break : (k : ℕ) → length (page_break (suc k)) + k / 50 ≡ suc k / 50
next_break k = by_test (eqb (suc k % 50) 0) refl
  where
    by_test : (t : Bool) → eqb (suc k % 50) 0 ≡ t → length (page_break (suc k)) + k / 50 ≡ suc k / 50
    by_test true e = let z = eqb-true (suc k % 50) 0 e in rw e (omega arith)
    by_test false e = let z = eqb-false (suc k % 50) 0 e in rw e (omega arith)

lines_long : (left k : ℕ) (cs : List Cell) → All Narrow cs → length (page_lines left (suc k) cs) + k / 50 ≡ 65 * left + (k + left) / 50
unfolding page_lines
lines_long zero k cs all = omega arith
lines_long (suc left) k cs all =
    let four = take 4 cs in
    let rest = page_lines left (suc (suc k)) (drop 4 cs) in
    let few : length (take 4 cs) ≤ 4 = omega (arith, length-take 4 cs) in
    let first : length (page_line (take 4 cs)) ≡ 65 = line_long (take 4 cs) (All-take Narrow 4 cs all) few in
    let a = length-append (page_line four) (page_break (suc k) ++ rest) in
    let b = length-append (page_break (suc k)) rest in
    omega (arith, first, a, b, next_break k, lines_long left (suc k) (drop 4 cs) (All-drop Narrow 4 cs all))

cells_narrow : (a : ℕ) (bs : List ℕ) → a + length bs ≤ 10000 → All Narrow (cells a bs)
unfolding cells
cells_narrow a [] h = All-nil Narrow
cells_narrow a (b ∷ bs) h = by_byte (is_reported b) refl (cells_narrow (suc a) bs (omega arith))
  where
    by_byte : (t : Bool) → is_reported b ≡ t → All Narrow (cells (suc a) bs) → All Narrow (cells a (b ∷ bs))
    by_byte true e all = let small : a < 10000 = omega arith in rw (e, cells) (All-cons Narrow (record { name = a; sign = letter b }) (cells (suc a) bs) small all)
    by_byte false e all = rw (e, cells) all

pub cells_counted : (a : ℕ) (bs : List ℕ) → length (cells a bs) ≡ count is_reported bs
unfolding cells count
cells_counted a [] = refl
cells_counted a (b ∷ bs) = by_byte (is_reported b) refl (cells_counted (suc a) bs)
  where
    by_byte : (t : Bool) → is_reported b ≡ t → length (cells (suc a) bs) ≡ count is_reported bs → length (cells a (b ∷ bs)) ≡ count is_reported (b ∷ bs)
    by_byte true e same = simp (e, cells, count) (omega arith)
    by_byte false e same = simp (e, cells, count) (omega arith)

-- up to 10,000 names: every result, and more
pub page_long : (bs : List ℕ) → length bs ≤ 10000 → length (page bs) ≡ page_length (count is_reported bs)
unfolding page page_of page_length
page_long bs h =
    let cs = cells 0 bs in
    let same = cells_counted 0 bs in
    omega (arith, lines_long (line_count (length cs)) 0 cs (cells_narrow 0 bs (omega arith)))
