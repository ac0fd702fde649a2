-- The share of the names reported among those chosen: in thousandths, a whole number by one of two rules.
--   rule_number k              the number of a rule: 1 rounds down, 2 to the nearest;  is_rule: a number is that of a rule
--   HasRuleNumber rule a       what reading a number comes to: the rule of this number, or the refusal
--   share_down r c             the share of r in c, rounded down; 0 where c is 0
--   distance x y               how far apart x and y are
--   IsNearest r c s            s is the share of r in c, to the nearest, and an exact half to the even neighbour; 0 where c is 0
--   IsShare rule r c s         s is the share of r in c by the rule of that number
--   OneShare rule r c          there is just one such share
use Rattle.std.specs.Prelude.{◌≡◌, Bool, ◌||◌, ℕ, ◌+◌, ◌-◌, ◌*◌, ◌/◌, ◌%◌, ◌≤◌, ◌<◌, false, eqb, Result, MatchResult}
use Rattle.el.specs.Lists.{pick}
use Rattle.branches.specs.declared.rounding.Rounding.{Rounding}
use Rattle.branches.specs.declared.rounding.Rounding.TheVariants.{Down, ToNearest}
use Rattle.branches.specs.declared.refusals.SheetRefusal.{SheetRefusal}
use Rattle.branches.specs.declared.refusals.SheetRefusal.TheVariants.{NoRule}

abbrev pub rule_number : Rounding → ℕ
rule_number Down = 1
rule_number ToNearest = 2

abbrev pub is_rule : ℕ → Bool
is_rule rule = eqb rule 1 || eqb rule 2

abbrev pub HasRuleNumber : ℕ → Result Rounding SheetRefusal → Type 0
HasRuleNumber rule a = MatchResult a (λ rounding. rule_number rounding ≡ rule) (λ e. (e ≡ NoRule) × (is_rule rule ≡ false))

unfoldable pub share_down : ℕ → ℕ → ℕ
share_down r c = pick (eqb c 0) 0 (r * 1000 / c)

abbrev pub distance : ℕ → ℕ → ℕ
distance x y = (x - y) + (y - x)

-- The exact share is r * 1000 / c, so all is said times c: its distance from s is at most a half, and s is even where that is exactly a half.
pub record IsNearest (r c s : ℕ) : Type 0 where
  pub none_chosen : c ≡ 0 → s ≡ 0
  pub near : 0 < c → 2 * distance (s * c) (r * 1000) ≤ c
  pub even : 0 < c → 2 * distance (s * c) (r * 1000) ≡ c → s % 2 ≡ 0

pub record IsShare (rule r c s : ℕ) : Type 0 where
  pub down : rule ≡ 1 → s ≡ share_down r c
  pub to_nearest : rule ≡ 2 → IsNearest r c s

pub record OneShare (rule r c : ℕ) : Type 0 where
  pub share : ℕ
  pub is : IsShare rule r c share
  pub only : (s : ℕ) → IsShare rule r c s → s ≡ share
