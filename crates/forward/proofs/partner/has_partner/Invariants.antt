-- The search for a partner. Invariant of the loop over the candidates: those before the next one are no partners; of the loop over the
-- successors of one: `end` is marked with those before the next one.
use Prim.Native.Nat.{suc, ◌-◌}
use mathlib.Core.Path.{◌≡◌}
use mathlib.Core.Bool.{false}
use Rattle.layout.specs.Searches.{NoneBelow}
use Rattle.forward.specs.Rules.{Partner}
use Rattle.forward.proofs.Tested.{FreeSuccessor}
use Rattle.forward.proofs.partner.has_partner.Given as goal

abbrev pub invariant-loop-successor : goal.invariant-loop-successor
invariant-loop-successor l = (l.found ≡ false) × NoneBelow (FreeSuccessor l.given l.work l.end l.asked.role.0 l.candidate) l.from

abbrev pub decreases-loop-successor : goal.decreases-loop-successor
decreases-loop-successor l = suc l.given.layout.names - l.from

abbrev pub invariant-search : goal.invariant-search
invariant-search l = (l.found ≡ false) × NoneBelow (Partner l.given l.work l.end l.y l.asked.role.0) l.next

abbrev pub decreases-search : goal.decreases-search
decreases-search l = suc l.above.names - l.next
