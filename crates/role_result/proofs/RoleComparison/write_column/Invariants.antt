-- The rows of the roles before this one are written.
use Rattle.role_result.specs.Pairs.{ColumnWritten}
use Rattle.role_result.proofs.RoleComparison.write_column.Given as goal

abbrev pub invariant-loop-lower : goal.invariant-loop-lower
invariant-loop-lower l = ColumnWritten l.self l.upper.0 l.lower l.initial.role_result l.role_result
