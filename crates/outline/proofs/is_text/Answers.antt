-- `is_text` meets its contract. The loop keeps that the bytes are a concept's exactly where `rest` is `pending` concepts.
use mathlib.Core.Path.{◌∙◌, sym}
use Rattle.outline.proofs.Readable.{scan_start, too_long, ends_early, ends_unknown, after, by_the_end}
use Rattle.outline.proofs.is_text.Goals as goal

pub returns-then-too_long : goal.returns-then-too_long
returns-then-too_long c = too_long _ _ _ _ c.if-too_long.true

pub loop-pending-init : goal.loop-pending-init
loop-pending-init c = scan_start c.if-too_long.false

pub returns-in_default : goal.returns-in_default
returns-in_default c = ends_early c.loop-pending.invariant c.loop-pending-test.true c.in_default.ensures

pub returns-then-not-is_within : goal.returns-then-not-is_within
returns-then-not-is_within c = ends_unknown c.loop-pending.invariant c.loop-pending-test.true c.in-Some.ensures (sym c.is_within.ensures ∙ c.if-not-is_within.true)

pub loop-pending-preserved : goal.loop-pending-preserved
loop-pending-preserved c = rw c.arity.ensures (after c.loop-pending.invariant c.loop-pending-test.true c.in-Some.ensures (sym c.is_within.ensures ∙ c.if-not-is_within.false))

pub returns : goal.returns
returns c = c.is_empty.ensures ∙ by_the_end c.loop-pending.invariant c.if-too_long.false c.loop-pending-test.false
