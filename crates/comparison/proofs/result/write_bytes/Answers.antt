-- The bytes of all names, one after the other. Invariant: those of the names before this one are written.
use Rattle.comparison.proofs.Bytes.{written_none, written_more, written_end}
use mathlib.Core.Path.{◌≡◌}
use lib.ListN.{length, take}
use lib.Seq.{length-take-le}
use native.Mathlib.Omega.{arith}
use Rattle.comparison.proofs.result.write_bytes.Goals as goal

pub loop-name-init : goal.loop-name-init
loop-name-init c = written_none

pub loop-name-preserved : goal.loop-name-preserved
loop-name-preserved c = written_more c.byte_of.result (omega arith) c.loop-name.invariant c.byte_of.ensures

pub returns : goal.returns
returns c =
    let all : length (take c.args.forward.names c.args.result_bytes.now) ≡ c.args.forward.names = length-take-le c.args.forward.names c.args.result_bytes.now c.requires.names_in_bounds in
    written_end (omega (arith, all, c.loop-name.auto.byte-items)) all (omega (arith, all)) c.loop-name.invariant
