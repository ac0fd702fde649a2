-- Header, pairs, axioms and conjuncts are checked in this order: the first refusal among them is the one of the definition.
use mathlib.Core.Path.{refl}
use native.Mathlib.Omega.{arith}
use Rattle.release.proofs.Checks.{pairs_ready, ready, refuses_header, refuses_pairs, refuses_axioms, read_shaped, refuses_15, accepts_file}
use Rattle.release.proofs.Refusing.{passed}
use Rattle.release.proofs.read_release.Goals as goal

pub returns-in_err-counts : goal.returns-in_err-counts
returns-in_err-counts c = rw (passed _ c.in_err-counts.field-0.0 c.from_residual.ensures.1) (refuses_header _ _ c.in_err-counts.ensures)

pub read_pairs-requires : goal.read_pairs-requires
read_pairs-requires c = pairs_ready _ c.in_ok-counts.ensures

pub returns-in_err-read_pairs : goal.returns-in_err-read_pairs
returns-in_err-read_pairs c = rw (passed _ c.in_err-read_pairs.field-0.0 c.from_residual-in_err-read_pairs.ensures.1)
    (refuses_pairs _ c.in_ok-counts.ensures _ c.in_err-read_pairs.ensures)

pub read_axioms-requires : goal.read_axioms-requires
read_axioms-requires c = ready _ c.in_ok-counts.ensures c.in_ok-read_pairs.ensures _ c.requires (omega (arith, c.type_inv.file 10))

pub returns-in_err-read_axioms : goal.returns-in_err-read_axioms
returns-in_err-read_axioms c = rw (passed _ c.in_err-read_axioms.field-0.0 c.from_residual-in_err-read_axioms.ensures.1)
    (refuses_axioms _ c.in_ok-counts.ensures c.in_ok-read_pairs.ensures _ c.in_err-read_axioms.ensures)

pub some_part_defined-requires : goal.some_part_defined-requires
some_part_defined-requires c = read_shaped _ c.in_ok-counts.ensures c.in_ok-read_pairs.ensures c.in_ok-read_axioms.ensures

pub returns-then-some_part_defined : goal.returns-then-some_part_defined
returns-then-some_part_defined c = refuses_15 _ c.in_ok-counts.ensures c.in_ok-read_pairs.ensures c.in_ok-read_axioms.ensures _ c.some_part_defined.ensures c.if-some_part_defined.true

pub returns : goal.returns
returns c = accepts_file _ c.in_ok-counts.ensures c.in_ok-read_pairs.ensures c.in_ok-read_axioms.ensures refl _ c.some_part_defined.ensures c.if-some_part_defined.false
