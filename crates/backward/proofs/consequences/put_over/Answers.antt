-- The loop's invariant: the marks grow by the rule, which a restriction over x meets.
use native.Mathlib.Omega.{arith}
use mathlib.Core.Path.{refl}
use Rattle.marks.specs.Passes.{none}
use Rattle.marks.proofs.Squares.{refuted}
use Rattle.marks.proofs.Passes.{grows_further, put_grows}
use Rattle.backward.proofs.Tested.{some_serving}
use Rattle.backward.proofs.consequences.put_over.Goals as goal

pub loop-name-init : goal.loop-name-init
loop-name-init c = none

pub loop-name-preserved : goal.loop-name-preserved
loop-name-preserved c =
    let s = some_serving c.serving.ensures (λ n. refuted c.is_empty.ensures c.if-is_empty.false n) in
    grows_further c.loop-name.invariant (put_grows c.put.ensures (record { row = refl; role = s.role; edge = s.edge; filled = s.filled; filler = omega arith }))
