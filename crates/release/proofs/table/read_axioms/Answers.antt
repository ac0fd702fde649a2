-- Reading starts behind the header and the pairs; each axiom is refused or put into its row; what is left over at the end is refused.
use Rattle.std.proofs.Math.Nat.{sub-zero}
use native.Mathlib.Omega.{arith}
use Rattle.release.proofs.Scan.{start, end, end_14, refuses_axiom, left_small, fits, next}
use Rattle.release.proofs.Versions.{header_far, first_is}
use Rattle.release.proofs.table.read_axioms.Goals as goal

pub of-version-requires : goal.of-version-requires
of-version-requires c = omega (arith, c.requires.long, first_is c.args.file.now, header_far c.args.file.now)

pub first_place-at-requires : goal.first_place-at-requires
first_place-at-requires c = record {
  width = c.of-version.ensures.width;
  pairs = c.of-version.ensures.pairs;
  inside = omega (arith, c.requires.long, first_is c.args.file.now);
}

pub loop-read-init : goal.loop-read-init
loop-read-init c = rw (sub-zero, c.first_place-at.ensures) (start _ _ _ _ _ c.requires)

pub returns-in_default : goal.returns-in_default
returns-in_default c = rw (c.and.ensures, c.in_default.is)
    (refuses_axiom _ _ _ _ _ _ _ _ _ c.loop-read.invariant (omega arith) _ (rw c.of-version.ensures.width at c.in_default.ensures))

pub put_row-requires : goal.put_row-requires
put_row-requires c = fits _ _ _ _ _ _ _ _ _ c.loop-read.invariant (omega arith) _ _ (rw c.of-version.ensures.width at c.in-Ok.ensures) c.requires.names c.requires.roles c.requires.count

pub overflow_add-least : goal.overflow_add-least
overflow_add-least c = omega
    (arith, c.requires.names, left_small _ _ _ _ _ _ _ _ _ c.loop-read.invariant (omega arith) _ _ (rw c.of-version.ensures.width at c.in-Ok.ensures))

pub loop-read-preserved : goal.loop-read-preserved
loop-read-preserved c = next _ _ _ _ _ _ _ _ _ c.loop-read.invariant (omega arith) _ _ (rw c.of-version.ensures.width at c.in-Ok.ensures) _ c.put_row.ensures _ (omega arith)

pub returns-then-at-file : goal.returns-then-at-file
returns-then-at-file c = end_14 _ _ _ _ _ _ _ _ _ c.loop-read.invariant (omega arith) c.if-at-file.true

pub returns : goal.returns
returns c = end _ _ _ _ _ _ _ _ _ c.loop-read.invariant (omega arith) c.if-at-file.false
