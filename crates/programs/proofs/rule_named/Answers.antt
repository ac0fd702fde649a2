-- The number that a word names, by its length: a word of one byte names its digit.
use Rattle.std.proofs.Common.{arith, ◌∙◌}
use Rattle.programs.proofs.Printed.{digit_named, none_named}
use Rattle.programs.proofs.rule_named.Goals as goal

pub returns-in_default : goal.returns-in_default
returns-in_default c = none_named _ (λ z. omega (arith, z, c.in_default.len_below))

pub returns-in_default-2 : goal.returns-in_default-2
returns-in_default-2 c = none_named _ (λ z. omega (arith, z, c.in_default.len_at_least))

pub returns : goal.returns
returns c = digit_named _ (omega (arith, c.in-len1.len_at_least, c.in-len1.len_below)) (omega (arith, c.from.ensures, c.saturating_sub.ensures))
