-- A page read back, without a look at places: digits make up a number, a letter ends a cell, all else is passed over.
--   read_from v text     the cells of a text, where the digits read before it make up v
--   read_page text       the cells of a page
use Rattle.std.specs.Prelude.{Bool, ◌||◌, ◌&&◌, List, [], ◌∷◌, ℕ, ◌+◌, ◌*◌, ◌-◌, eqb, leb}
use Rattle.el.specs.Lists.{pick}
use Rattle.report.specs.Pages.{Cell}

abbrev pub is_digit : ℕ → Bool
is_digit b = leb 48 b && leb b 57

-- B, L, R
abbrev pub is_letter : ℕ → Bool
is_letter b = eqb b 66 || (eqb b 76 || eqb b 82)

unfoldable pub read_from : ℕ → List ℕ → List Cell
read_from v [] = []
read_from v (b ∷ text) =
    pick (is_digit b) (read_from (10 * v + (b - 48)) text)
    (pick (is_letter b) (record { name = v; sign = b } ∷ read_from 0 text)
    (read_from v text))

abbrev pub read_page : List ℕ → List Cell
read_page text = read_from 0 text
