-- `place` meets its contract. The invariant: the place is as far ahead as the lower ones among the axioms still to be passed take.
use Prim.Native.Nat.{◌-◌}
use Rattle.release.specs.Files.{count_of}
use Rattle.splicing.proofs.Places.{Ahead}
use Rattle.splicing.proofs.place.Given as goal

abbrev pub invariant-loop-axiom : goal.invariant-loop-axiom
invariant-loop-axiom l = Ahead l.name l.file (count_of l.file - l._axiom) l.at
