-- The report's text, in ASCII; every line ends with a newline.
--   worded v x             the word v and the number x
--   two_numbers v x w y     the line of the word v, the number x, the word w and the number y
--   line a b               the line of the name a, whose result byte is b
--   lines a bs             the lines of the reported names, where bs are the bytes of the names from a on
--   report n m bs          the report of a comparison with n names, m roles and the result bytes bs
--   refusal_line k s        the one line of a refusal with number k and side s
use Rattle.std.specs.Prelude.{List, [], ◌∷◌, ◌++◌, ℕ, suc}
use Rattle.el.specs.Comparison.{on_left, on_right, is_reported}
use Rattle.el.specs.Lists.{pick, count}
use Rattle.output.specs.Numbers.{decimal, space}
use Rattle.report.specs.Numbers.{three_digits}

abbrev pub newline : ℕ
newline = 10

-- "names ", " roles "
abbrev pub names_word : List ℕ
names_word = 110 ∷ 97 ∷ 109 ∷ 101 ∷ 115 ∷ 32 ∷ []

abbrev pub roles_word : List ℕ
roles_word = 32 ∷ 114 ∷ 111 ∷ 108 ∷ 101 ∷ 115 ∷ 32 ∷ []

-- "left ", " right "
abbrev pub left_word : List ℕ
left_word = 108 ∷ 101 ∷ 102 ∷ 116 ∷ 32 ∷ []

abbrev pub right_word : List ℕ
right_word = 32 ∷ 114 ∷ 105 ∷ 103 ∷ 104 ∷ 116 ∷ 32 ∷ []

-- "refused ", " side "
abbrev pub refused_word : List ℕ
refused_word = 114 ∷ 101 ∷ 102 ∷ 117 ∷ 115 ∷ 101 ∷ 100 ∷ 32 ∷ []

abbrev pub side_word : List ℕ
side_word = 32 ∷ 115 ∷ 105 ∷ 100 ∷ 101 ∷ 32 ∷ []

unfoldable pub worded : List ℕ → ℕ → List ℕ
worded v x = v ++ decimal x

unfoldable pub two_numbers : List ℕ → ℕ → List ℕ → ℕ → List ℕ
two_numbers v x w y = v ++ (decimal x ++ (w ++ (decimal y ++ (newline ∷ []))))

-- of a reported name: B for both sides, L for the left, R for the right
unfoldable pub letter : ℕ → ℕ
letter b = pick (on_left b) (pick (on_right b) 66 76) 82

unfoldable pub line : ℕ → ℕ → List ℕ
line a b = three_digits a ++ (space ∷ letter b ∷ newline ∷ [])

-- the line of a name, if it is reported
unfoldable pub entry : ℕ → ℕ → List ℕ
entry a b = pick (is_reported b) (line a b) []

unfoldable pub lines : ℕ → List ℕ → List ℕ
lines a [] = []
lines a (b ∷ bs) = entry a b ++ lines (suc a) bs

-- a report with these counts of names reported on the left and on the right
unfoldable pub report_with : ℕ → ℕ → ℕ → ℕ → List ℕ → List ℕ
report_with n m left right bs = two_numbers names_word n roles_word m ++ (lines 0 bs ++ two_numbers left_word left right_word right)

unfoldable pub report : ℕ → ℕ → List ℕ → List ℕ
report n m bs = report_with n m (count on_left bs) (count on_right bs) bs

unfoldable pub refusal_line : ℕ → ℕ → List ℕ
refusal_line k s = two_numbers refused_word k side_word s
