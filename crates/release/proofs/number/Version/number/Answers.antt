-- A number has one byte in version 1 and two in the others.
use mathlib.Core.Path.{ap}
use mathlib.Core.Logic.{inl, inr}
use native.Mathlib.Omega.{arith}
use Rattle.release.specs.Versions.{width}
use Rattle.release.proofs.Numbers.{number_narrow, number_wide}
use Rattle.release.proofs.number.Version.number.Goals as goal

pub returns-in-One : goal.returns-in-One
returns-in-One c = number_narrow _ _ _ (ap width c.in-One.is) _ c.from.ensures

pub returns-in-Two : goal.returns-in-Two
returns-in-Two c = number_wide _ _ _ (elim c.in-Two.is [ inl e ↦ ap width e | inr e ↦ ap width e ]) _ (omega (arith, c.from-in-Two.ensures, c.from_le_bytes.ensures))
