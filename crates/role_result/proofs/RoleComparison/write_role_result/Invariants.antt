-- The columns of the roles before this one are written, and the others are 0.
use Rattle.role_result.specs.Pairs.{ColumnsWritten}
use Rattle.role_result.proofs.RoleComparison.write_role_result.Given as goal

abbrev pub invariant-loop-upper : goal.invariant-loop-upper
invariant-loop-upper l = ColumnsWritten l.self l.upper l.fn.role_result l.role_result
