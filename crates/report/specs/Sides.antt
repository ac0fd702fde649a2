-- The sides on which a name is reported, by its result byte.
--   side_byte s        the byte that reports on s alone, or on both sides
--   on_side k b        the byte b reports on the side whose byte is k, alone or with the other: so on_left is on_side 1 and on_right is
--                      on_side 2
--   SideOf b r         r is the side, or none, that the byte b reports on
--   side_letter s      of a reported name: L for the left, R for the right, B for both sides
use Rattle.std.specs.Prelude.{◌≡◌, Bool, false, ◌||◌, ℕ, eqb, Option, MatchOption}
use Rattle.el.specs.Comparison.{is_reported}
use Rattle.report.specs.declared.lines.Side.{Side}
use Rattle.report.specs.declared.lines.Side.TheVariants.{Left, Right, Both}

abbrev pub side_byte : Side → ℕ
side_byte Left = 1
side_byte Right = 2
side_byte Both = 3

abbrev pub on_side : ℕ → ℕ → Bool
on_side side b = eqb b side || eqb b 3

abbrev pub SideOf : ℕ → Option Side → Type 0
SideOf b r = MatchOption r (is_reported b ≡ false) (λ s. side_byte s ≡ b)

abbrev pub side_letter : Side → ℕ
side_letter Left = 76
side_letter Right = 82
side_letter Both = 66
