-- How many signatures there are, by whether the release is accepted and has names or roles; an accepted release has few of both.
use Rattle.release.proofs.Limits.{limits}
use native.Mathlib.Omega.{arith}
use mathlib.Core.Path.{◌∙◌}
use Rattle.programs.proofs.Printed.{count_refused, count_divided}
use Rattle.programs.proofs.signature_count.Goals as goal

pub returns-in_default : goal.returns-in_default
returns-in_default c = count_refused _ _ c.in_default.ensures

pub overflow_add-one : goal.overflow_add-one
overflow_add-one c = let h = limits _ _ c.in-Ok.ensures in omega (arith, h.0, h.1)

pub returns : goal.returns
returns c = c.unwrap_or.ensures ∙ count_divided _ _ c.in-Ok.counts c.in-Ok.ensures c.checked_div.result c.checked_div.ensures
