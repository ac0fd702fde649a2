-- Numbers of names, in ASCII.
--   three_digits x     x in decimal, with leading zeros up to three digits
use Rattle.std.specs.Prelude.{List, ◌∷◌, ℕ, ltb}
use Rattle.el.specs.Lists.{pick}
use Rattle.output.specs.Numbers.{decimal}

unfoldable pub three_digits : ℕ → List ℕ
three_digits x = pick (ltb x 10) (48 ∷ 48 ∷ decimal x) (pick (ltb x 100) (48 ∷ decimal x) (decimal x))
