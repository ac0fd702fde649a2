-- Worked examples of the texts: the worked example P1, its page and its refusal, names of one to five digits, a sheet of two rows, and how long pages are.
use mathlib.Core.Path.{◌≡◌, refl}
use mathlib.Core.List.{List, [], ◌∷◌, ◌++◌}
use Prim.Native.Nat.{ℕ}
use Rattle.output.specs.Numbers.{digits_within, decimal, spaces, aligned}
use Rattle.report.specs.Numbers.{three_digits}
use Rattle.el.specs.Lists.{count}
use Rattle.branches.specs.Sheets.{no_row}
use Rattle.branches.specs.declared.row.Row.{Row}
use Rattle.std.proofs.Common.{Ok}
use Rattle.report.specs.Sheets.{row_line, row_lines, branches_of, sheet_text}
use Rattle.report.specs.Texts.{newline, worded, two_numbers, letter, line, entry, lines, report_with, report, refusal_line}
use Rattle.report.specs.Pages.{cells, cell_text, cell_texts, page_line, page_lines, page_of, page, page_length}

-- "names 4 roles 0", "000 B", "002 R", "left 1 right 2"
p1_lines : List ℕ
p1_lines =
    (110 ∷ 97 ∷ 109 ∷ 101 ∷ 115 ∷ 32 ∷ 52 ∷ 32 ∷ 114 ∷ 111 ∷ 108 ∷ 101 ∷ 115 ∷ 32 ∷ 48 ∷ 10 ∷ [])
    ++ (48 ∷ 48 ∷ 48 ∷ 32 ∷ 66 ∷ 10 ∷ [])
    ++ (48 ∷ 48 ∷ 50 ∷ 32 ∷ 82 ∷ 10 ∷ [])
    ++ (108 ∷ 101 ∷ 102 ∷ 116 ∷ 32 ∷ 49 ∷ 32 ∷ 114 ∷ 105 ∷ 103 ∷ 104 ∷ 116 ∷ 32 ∷ 50 ∷ 10 ∷ [])

p1 : report 4 0 (3 ∷ 0 ∷ 2 ∷ 0 ∷ []) ≡ p1_lines
unfolding p1_lines report report_with two_numbers count lines entry line letter decimal digits_within three_digits
p1 = refl

-- "refused 15 side 2"
refused : refusal_line 15 2 ≡ 114 ∷ 101 ∷ 102 ∷ 117 ∷ 115 ∷ 101 ∷ 100 ∷ 32 ∷ 49 ∷ 53 ∷ 32 ∷ 115 ∷ 105 ∷ 100 ∷ 101 ∷ 32 ∷ 50 ∷ 10 ∷ []
unfolding refusal_line two_numbers decimal digits_within
refused = refl

-- 7, 42, 126, 999, 1000, 65535
three : (three_digits 7 ≡ 48 ∷ 48 ∷ 55 ∷ []) × (three_digits 42 ≡ 48 ∷ 52 ∷ 50 ∷ []) × (three_digits 126 ≡ 49 ∷ 50 ∷ 54 ∷ []) × (three_digits 999 ≡ 57 ∷ 57 ∷ 57 ∷ [])
    × (three_digits 1000 ≡ 49 ∷ 48 ∷ 48 ∷ 48 ∷ []) × (three_digits 65535 ≡ 54 ∷ 53 ∷ 53 ∷ 51 ∷ 53 ∷ [])
unfolding three_digits decimal digits_within
three = (refl, refl, refl, refl, refl, refl)

-- "branch 0 chosen 2 left 1 right 0 share 500", "branch 1 chosen 12 left 3 right 12 share 1000"
sheet_lines : List ℕ
sheet_lines =
    (98 ∷ 114 ∷ 97 ∷ 110 ∷ 99 ∷ 104 ∷ 32 ∷ 48 ∷ 32 ∷ 99 ∷ 104 ∷ 111 ∷ 115 ∷ 101 ∷ 110 ∷ 32 ∷ 50 ∷ 32 ∷ 108 ∷ 101 ∷ 102 ∷ 116 ∷ 32 ∷ 49 ∷ 32 ∷ 114 ∷ 105 ∷ 103 ∷ 104 ∷ 116 ∷ 32 ∷ 48
    ∷ 32 ∷ 115 ∷ 104 ∷ 97 ∷ 114 ∷ 101 ∷ 32 ∷ 53 ∷ 48 ∷ 48 ∷ 10 ∷ [])
    ++ (98 ∷ 114 ∷ 97 ∷ 110 ∷ 99 ∷ 104 ∷ 32 ∷ 49 ∷ 32 ∷ 99 ∷ 104 ∷ 111 ∷ 115 ∷ 101 ∷ 110 ∷ 32 ∷ 49 ∷ 50 ∷ 32 ∷ 108 ∷ 101 ∷ 102 ∷ 116 ∷ 32 ∷ 51 ∷ 32 ∷ 114 ∷ 105 ∷ 103 ∷ 104 ∷ 116 ∷
    32 ∷ 49 ∷ 50 ∷ 32 ∷ 115 ∷ 104 ∷ 97 ∷ 114 ∷ 101 ∷ 32 ∷ 49 ∷ 48 ∷ 48 ∷ 48 ∷ 10 ∷ [])

three_rows : List Row
three_rows =
    record { chosen = 2; left = 1; right = 0; share = 500 }
    ∷ record { chosen = 12; left = 3; right = 12; share = 1000 }
    ∷ no_row
    ∷ []

-- of three rows, where two branches were asked for
sheet : sheet_text (Ok (record { names = 12; roles = 0 })) 2 three_rows ≡ sheet_lines
unfolding sheet_lines three_rows sheet_text branches_of row_lines row_line worded decimal digits_within
sheet = refl

-- the page of P1: "   0 B          ", "   2 R          ", and spaces up to the end of the line
p1_page : page (3 ∷ 0 ∷ 2 ∷ 0 ∷ []) ≡ spaces 3 ++ (48 ∷ 32 ∷ 66 ∷ spaces 10 ++ (spaces 3 ++ (50 ∷ 32 ∷ 82 ∷ spaces 10 ++ (spaces 32 ++ (newline ∷ [])))))
unfolding page page_of page_lines page_line cells cell_texts cell_text aligned letter decimal digits_within
p1_page = refl

-- "No name reported gives no byte at all"
no_page : page (0 ∷ 0 ∷ 0 ∷ []) ≡ []
unfolding page page_of page_lines cells
no_page = refl

-- byte 12 also stands where the 50th line is the last
page_lengths : (page_length 1 ≡ 65) × (page_length 196 ≡ 3185) × (page_length 200 ≡ 3251) × (page_length 201 ≡ 3316) × (page_length 1023 ≡ 16645)
unfolding page_length
page_lengths = (refl, refl, refl, refl, refl)
