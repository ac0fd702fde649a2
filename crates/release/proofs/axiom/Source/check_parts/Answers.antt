-- Each test that fails is the fault of the conjunct it is made at; where none is left, there is no fault.
use mathlib.Core.Path.{◌∙◌}
use Rattle.std.proofs.Math.Nat.{sub-zero}
use native.Mathlib.Omega.{arith}
use Rattle.release.proofs.Faults.{parts_none, parts_7, parts_9, parts_13, parts_next}
use Rattle.release.proofs.Refusing.{refuses, accepts}
use Rattle.release.proofs.axiom.Source.check_parts.Goals as goal

pub loop-part-init : goal.loop-part-init
loop-part-init c = record { within = c.requires; same = rw sub-zero }

pub returns-then-self-place : goal.returns-then-self-place
returns-then-self-place c = refuses 1 7 _ _ (omega arith) (c.loop-part.invariant.same ∙ parts_7 _ _ _ _ _ _ (omega arith) (rw c.width.ensures at c.if-self-place.true))

pub returns-then-self-name : goal.returns-then-self-name
returns-then-self-name c = refuses 1 9 _ _ (omega arith)
    (c.loop-part.invariant.same ∙ parts_9 _ _ _ _ _ _ (omega arith) (rw c.width.ensures at c.if-self-place.false) _ c.number-name.ensures c.if-self-name.true)

pub returns-then-name-least : goal.returns-then-name-least
returns-then-name-least c = refuses 1 13 _ _ (omega arith)
    (c.loop-part.invariant.same ∙ parts_13 _ _ _ _ _ _ (omega arith) (rw c.width.ensures at c.if-self-place.false) _ c.number-name.ensures c.if-self-name.false c.if-name-least.true)

pub loop-part-preserved : goal.loop-part-preserved
loop-part-preserved c = record {
  within = omega (arith, c.width.ensures, c.width-place.ensures);
  same = rw c.width-place.ensures
      (c.loop-part.invariant.same ∙
      parts_next _ _ _ _ _ _ (omega arith) (rw c.width.ensures at c.if-self-place.false) _ c.number-name.ensures c.if-self-name.false c.if-name-least.false _ (omega arith));
}

pub returns : goal.returns
returns c = accepts 1 _ _ (c.loop-part.invariant.same ∙ parts_none _ _ _ _ _ _ (omega arith))
