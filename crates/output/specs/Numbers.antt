-- Numbers and spaces as text, in ASCII.
--   decimal x         x in decimal, without leading zeros
--   spaces k          k spaces
--   aligned w x       x in decimal, right-aligned in w characters after spaces; a longer number has none before it
use Rattle.std.specs.Prelude.{List, [], ◌∷◌, ◌++◌, ℕ, zero, suc, ◌+◌, ◌-◌, ◌/◌, ◌%◌, ltb, length, replicate}
use Rattle.el.specs.Lists.{pick}

abbrev pub digit : ℕ → ℕ
digit d = 48 + d

-- the digits of a number below ten to the power of f: its last digit stands after those of its tenth
unfoldable pub digits_within : ℕ → ℕ → List ℕ
digits_within zero x = []
digits_within (suc f) x = pick (ltb x 10) (digit x ∷ []) (digits_within f (x / 10) ++ (digit (x % 10) ∷ []))

-- x is below ten to the power of x + 1
unfoldable pub decimal : ℕ → List ℕ
decimal x = digits_within (suc x) x

abbrev pub space : ℕ
space = 32

abbrev pub spaces : ℕ → List ℕ
spaces k = replicate k space

unfoldable pub aligned : ℕ → ℕ → List ℕ
aligned w x = spaces (w - length (decimal x)) ++ decimal x
