-- A row of the column is 1 where its role is lost and in the signature. Where no role is lost, the column stays.
use mathlib.Core.Path.{◌≡◌, sym, ◌∙◌}
use Prim.Native.Nat.{ℕ}
use native.Mathlib.Omega.{arith}
use Rattle.role_result.proofs.Pairs.{chosen_small, is_pair, not_lost, lower_not_chosen, column_start, column_none, column_lost, column_kept, lost_none, lost_has, has_not}
use Rattle.role_result.proofs.RoleComparison.write_column.Goals.{then-has+then-has_role, else-has, else-has-via-then-has+else-has_role, else-has-via-else-has}
use Rattle.role_result.proofs.RoleComparison.write_column.Goals as goal

pub returns-then-is_empty : goal.returns-then-is_empty
returns-then-is_empty c = column_none _ (λ r l. not_lost _ r _ (lost_none _ c.lost_under-lost.ensures (c.is_empty.ensures.sound c.if-is_empty.true) r (omega arith)))

pub loop-lower-init : goal.loop-lower-init
loop-lower-init c = column_start _

pub loop-lower-preserved : goal.loop-lower-preserved
loop-lower-preserved c = elim c.if-has.branch [
  | then-has+then-has_role w ↦ rw (w.role_result-is, w.from.ensures, w.from-then-has_role.ensures)
      (column_lost _ c.loop-lower-test.true (chosen_small c.args.self.now _ c.requires.is_chosen) c.requires.room
      (is_pair _ _ _ (sym w.has_role.ensures ∙ w.if-has_role.true) c.requires.is_chosen (lost_has _ c.lost_under-lost.ensures c.has.ensures (omega (arith, c.loop-lower-test.true)) w.if-has.true))
      c.loop-lower.invariant)
  | else-has w ↦ rw w.role_result-is (column_kept _ (elim w.else-has.branch [
    | else-has-via-then-has+else-has_role v ↦ lower_not_chosen _ _ _ (sym v.has_role.ensures ∙ v.if-has_role.false)
    | else-has-via-else-has v ↦ not_lost _ _ _ (has_not _ c.lost_under-lost.ensures c.has.ensures (omega (arith, c.loop-lower-test.true)) v.if-has.false)
  ]) c.loop-lower.invariant)
]

pub returns : goal.returns
returns c = let e : c.loop-lower.lower ≡ c.args.self.now.signature.roles = omega arith in rw e at c.loop-lower.invariant
