-- The byte at place 3 is 1 in version 1 alone, and 3 in version 3 alone.
use native.Mathlib.Omega.{arith}
use Rattle.release.proofs.Numbers.{width_1, width_2}
use Rattle.release.proofs.Versions.{listing, no_listing}
use Rattle.release.proofs.number.Version.of.Goals as goal

pub returns-in-1 : goal.returns-in-1
returns-in-1 c = record { width = width_1 _ c.in-1.is; pairs = no_listing _ (λ e. omega (arith, e, c.in-1.is)) }

pub returns-in-3 : goal.returns-in-3
returns-in-3 c = record { width = width_2 _ (λ e. omega (arith, e, c.in-3.is)); pairs = listing _ c.in-3.is }

pub returns-in_default : goal.returns-in_default
returns-in_default c = record { width = width_2 _ (λ e. omega (arith, e)); pairs = no_listing _ (λ e. omega (arith, e)) }
