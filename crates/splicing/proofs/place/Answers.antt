-- The walk starts behind the header, passes an axiom whose name is below the given one, and stops at the first other one or at the end.
use Rattle.std.proofs.Math.Nat.{sub-zero}
use mathlib.Core.Path.{◌≡◌, refl}
use Prim.Native.Nat.{◌+◌, ◌-◌}
use native.Mathlib.Omega.{arith}
use Rattle.release.specs.Files.{count_of}
use Rattle.splicing.proofs.Places.{has_header, ahead_start, ahead_end, ahead_stands, ahead_here, ahead_next}
use Rattle.splicing.proofs.place.Goals as goal

pub axioms-axiom-end-requires : goal.axioms-axiom-end-requires
axioms-axiom-end-requires c = has_header _ c.requires

pub loop-axiom-init : goal.loop-axiom-init
loop-axiom-init c = rw sub-zero (ahead_start _ _ c.requires _ _ refl c.header_length-at.ensures)

pub bounds-file-at : goal.bounds-file-at
bounds-file-at c = omega (arith, (ahead_stands _ _ _ _ c.loop-axiom.invariant (omega arith)).inside)

pub returns-then-name-from : goal.returns-then-name-from
returns-then-name-from c = ahead_here _ _ _ _ c.loop-axiom.invariant (omega arith) (omega arith)

pub axiom_length-at-requires : goal.axiom_length-at-requires
axiom_length-at-requires c = (ahead_stands _ _ _ _ c.loop-axiom.invariant (omega arith)).inside

pub overflow_add-at : goal.overflow_add-at
overflow_add-at c = omega (arith, c.axiom_length-at.ensures, (ahead_stands _ _ _ _ c.loop-axiom.invariant (omega arith)).inside)

pub loop-axiom-preserved : goal.loop-axiom-preserved
loop-axiom-preserved c =
    let less : count_of c.args.file.now - (c.loop-axiom._axiom + 1) ≡ count_of c.args.file.now - c.loop-axiom._axiom - 1 = omega arith in
    rw less (ahead_next _ _ _ _ c.loop-axiom.invariant (omega arith) _ c.axiom_length-at.ensures (omega arith))

pub returns : goal.returns
returns c = ahead_end _ _ _ _ c.loop-axiom.invariant (omega arith)
