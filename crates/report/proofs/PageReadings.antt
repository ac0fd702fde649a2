-- A page read back gives the reported names in order with their letters: nothing is lost on it.
--   Signed c         the sign of c is a letter to a reader
--   page_read        what is read from a page
--   page_tells       two pages are alike only where the same names are reported with the same letters
use mathlib.Core.Path.{◌≡◌, refl, sym, ap, ◌∙◌}
use mathlib.Core.Bool.{Bool, true, false}
use mathlib.Core.List.{List, [], ◌∷◌, ◌++◌, append_assoc}
use Prim.Native.Nat.{ℕ, zero, suc, ◌+◌, ◌*◌, ◌-◌, ◌/◌, ◌%◌, ◌≤◌, ◌<◌}
use native.Mathlib.Nat.{mod-lt}
use native.Mathlib.Omega.{arith}
use borrow.Author.Tests.{le-leb, ltb-true, ltb-false}
use lib.Dec.{eqb, ltb, leb}
use lib.ListN.{length, take, drop, length-drop, take-append-drop}
use Rattle.std.specs.List.{All}
use Rattle.std.proofs.lemmas.List.Elements.{All-nil, All-cons, All-head, All-tail, All-take, All-drop}
use Rattle.el.specs.Comparison.{on_left, on_right, is_reported}
use Rattle.el.specs.Lists.{pick}
use Rattle.output.specs.Numbers.{digit, decimal, space, spaces, aligned}
use Rattle.output.proofs.Decimals.{tenth_less, decimal_one, decimal_more}
use Rattle.report.specs.Texts.{newline, letter}
use Rattle.report.specs.Pages.{Cell, cells, cell_text, cell_texts, page_line, page_break, page_lines, line_count, page_of, page}
use Rattle.report.specs.PagesRead.{is_digit, is_letter, read_from, read_page}

record Signed (c : Cell) : Type 0 where
  pub no_digit : is_digit c.sign ≡ false
  pub a_letter : is_letter c.sign ≡ true

read_spaces : (n v : ℕ) (s : List ℕ) → read_from v (spaces n ++ s) ≡ read_from v s
unfolding read_from
read_spaces zero v s = refl
read_spaces (suc n) v s = read_spaces n v s

read_digit : (d v : ℕ) (s : List ℕ) → d < 10 → read_from v (digit d ∷ s) ≡ read_from (10 * v + d) s
unfolding read_from
read_digit d v s h =
    let low : leb 48 (48 + d) ≡ true = le-leb 48 (48 + d) (omega arith) in
    let high : leb (48 + d) 57 ≡ true = le-leb (48 + d) 57 (omega arith) in
    let value : 10 * v + (48 + d - 48) ≡ 10 * v + d = omega arith in
    simp (low, high, value)

-- by a limit f above the number
read_number : (f x : ℕ) (s : List ℕ) → x < f → read_from 0 (decimal x ++ s) ≡ read_from x s
read_number zero x s h = absurd (omega arith)
read_number (suc f) x s h = by_size (ltb x 10) refl (λ r l. read_number f (x / 10) r l)
  where
    by_size : (t : Bool) → ltb x 10 ≡ t → ((r : List ℕ) → x / 10 < f → read_from 0 (decimal (x / 10) ++ r) ≡ read_from (x / 10) r) → read_from 0 (decimal x ++ s) ≡ read_from x s
    by_size true e tenth =
        let small = ltb-true x 10 e in
        let value : 10 * 0 + x ≡ x = omega arith in
        ap (λ (t : List ℕ). read_from 0 (t ++ s)) (decimal_one x small) ∙ read_digit x 0 s small ∙ ap (λ (v : ℕ). read_from v s) value
    by_size false e tenth =
        let large = ltb-false x 10 e in
        let last = digit (x % 10) ∷ [] in
        let value : 10 * (x / 10) + x % 10 ≡ x = omega arith in
        ap (λ (t : List ℕ). read_from 0 (t ++ s)) (decimal_more x large)
        ∙ ap (λ (t : List ℕ). read_from 0 t) (append_assoc (decimal (x / 10)) last s)
        ∙ tenth (last ++ s) (omega (arith, tenth_less x large))
        ∙ read_digit (x % 10) (x / 10) s (mod-lt x (omega arith))
        ∙ ap (λ (v : ℕ). read_from v s) value

read_sign : (c : Cell) (s : List ℕ) → Signed c → read_from c.name (space ∷ c.sign ∷ s) ≡ c ∷ read_from 0 s
unfolding read_from
read_sign c s signed = simp (signed.no_digit, signed.a_letter)

read_cell : (c : Cell) (s : List ℕ) → Signed c → read_from 0 (cell_text c ++ s) ≡ c ∷ read_from 0 s
unfolding cell_text aligned
read_cell c s signed =
    let number = decimal c.name in
    let before = spaces (4 - length number) in
    let tail = space ∷ c.sign ∷ spaces 10 in
    ap (λ (t : List ℕ). read_from 0 t) (append_assoc (before ++ number) tail s ∙ append_assoc before number (tail ++ s))
    ∙ read_spaces (4 - length number) 0 (number ++ (tail ++ s))
    ∙ read_number (suc c.name) c.name (tail ++ s) (omega arith)
    ∙ read_sign c (spaces 10 ++ s) signed
    ∙ ap (λ (cs : List Cell). c ∷ cs) (read_spaces 10 0 s)

read_cells : (cs : List Cell) (s : List ℕ) → All Signed cs → read_from 0 (cell_texts cs ++ s) ≡ cs ++ read_from 0 s
unfolding cell_texts
read_cells [] s all = refl
read_cells (c ∷ cs) s all =
    ap (λ (t : List ℕ). read_from 0 t) (append_assoc (cell_text c) (cell_texts cs) s)
    ∙ read_cell c (cell_texts cs ++ s) (All-head Signed c cs all)
    ∙ ap (λ (r : List Cell). c ∷ r) (read_cells cs s (All-tail Signed c cs all))

read_newline : (s : List ℕ) → read_from 0 (newline ∷ s) ≡ read_from 0 s
unfolding read_from
read_newline s = refl

read_line : (cs : List Cell) (s : List ℕ) → All Signed cs → read_from 0 (page_line cs ++ s) ≡ cs ++ read_from 0 s
unfolding page_line
read_line cs s all =
    let n = 16 * (4 - length cs) in
    let end = newline ∷ [] in
    ap (λ (t : List ℕ). read_from 0 t) (append_assoc (cell_texts cs) (spaces n ++ end) s)
    ∙ read_cells cs ((spaces n ++ end) ++ s) all
    ∙ ap (λ (t : List ℕ). cs ++ read_from 0 t) (append_assoc (spaces n) end s)
    ∙ ap (λ (r : List Cell). cs ++ r) (read_spaces n 0 (newline ∷ s) ∙ read_newline s)

read_break : (k : ℕ) (s : List ℕ) → read_from 0 (page_break k ++ s) ≡ read_from 0 s
unfolding read_from
read_break k s = by_test (eqb (k % 50) 0)
  where
    by_test : (t : Bool) → read_from 0 (pick t (12 ∷ []) [] ++ s) ≡ read_from 0 s
    by_test true = refl
    by_test false = refl

read_lines : (left k : ℕ) (cs : List Cell) → length cs ≤ 4 * left → All Signed cs → read_from 0 (page_lines left k cs) ≡ cs
unfolding page_lines read_from
read_lines zero k [] h all = refl
read_lines zero k (c ∷ cs) h all = absurd (omega arith)
read_lines (suc left) k cs h all =
    let rest = page_lines left (suc k) (drop 4 cs) in
    read_line (take 4 cs) (page_break k ++ rest) (All-take Signed 4 cs all)
    ∙ ap (λ (r : List Cell). take 4 cs ++ r) (read_break k rest ∙ read_lines left (suc k) (drop 4 cs) (omega (arith, length-drop 4 cs)) (All-drop Signed 4 cs all))
    ∙ take-append-drop 4 cs

letter_signed : (a b : ℕ) → Signed (record { name = a; sign = letter b })
unfolding letter
letter_signed a b = by_sides (on_left b) (on_right b)
  where
    by_sides : (l r : Bool) → Signed (record { name = a; sign = pick l (pick r 66 76) 82 })
    by_sides true true = record { no_digit = refl; a_letter = refl }
    by_sides true false = record { no_digit = refl; a_letter = refl }
    by_sides false r = record { no_digit = refl; a_letter = refl }

cells_signed : (a : ℕ) (bs : List ℕ) → All Signed (cells a bs)
unfolding cells
cells_signed a [] = All-nil Signed
cells_signed a (b ∷ bs) = by_byte (is_reported b) (cells_signed (suc a) bs)
  where
    by_byte : (t : Bool) → All Signed (cells (suc a) bs) → All Signed (pick t (record { name = a; sign = letter b } ∷ cells (suc a) bs) (cells (suc a) bs))
    by_byte true all = All-cons Signed (record { name = a; sign = letter b }) (cells (suc a) bs) (letter_signed a b) all
    by_byte false all = all

pub page_read : (bs : List ℕ) → read_page (page bs) ≡ cells 0 bs
unfolding page page_of
page_read bs =
    let cs = cells 0 bs in
    read_lines (line_count (length cs)) 1 cs (omega arith) (cells_signed 0 bs)

pub page_tells : (bs cs : List ℕ) → page bs ≡ page cs → cells 0 bs ≡ cells 0 cs
page_tells bs cs e = sym (page_read bs) ∙ ap (λ (t : List ℕ). read_page t) e ∙ page_read cs
