-- Draws from a seed of 32 bits: a stream of states, of which each yields a choice.
--   next s              each draw sets s to this
--   drawn s choices     and then yields this, one of so many choices
--   after_draws k s     s after k draws
use Rattle.std.specs.Prelude.{ℕ, zero, suc, ◌+◌, ◌*◌, ◌/◌, ◌%◌}

unfoldable pub next : ℕ → ℕ
next s = (s * 1664525 + 1013904223) % 4294967296

unfoldable pub drawn : ℕ → ℕ → ℕ
drawn s choices = s / 65536 % choices

unfoldable pub after_draws : ℕ → ℕ → ℕ
after_draws zero s = s
after_draws (suc k) s = after_draws k (next s)
