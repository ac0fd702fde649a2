-- `compare_releases` keeps its promise: where reading refuses, where what is lent does not serve, and where the releases are compared.
use mathlib.Core.Path.{refl}
use Rattle.release.proofs.Refusing.{passed}
use Rattle.release.proofs.Rows.{blank_table}
use Rattle.meanings.proofs.Promise.{both_agree, few_counts, not_read, not_lent, names_in_bounds, given, role_room, roles_read, compares}
use Rattle.meanings.proofs.compare_releases.Goals as goal

pub read_releases-requires-clause-first_blank : goal.read_releases-requires-clause-first_blank
read_releases-requires-clause-first_blank c = blank_table

pub read_releases-requires-clause-second_blank : goal.read_releases-requires-clause-second_blank
read_releases-requires-clause-second_blank c = blank_table

pub returns-in_err-counts : goal.returns-in_err-counts
returns-in_err-counts c = rw (passed _ c.in_err-counts.field-0.0 c.from_residual.ensures.1) (not_read _ _ _ _ c.in_err-counts.ensures)

pub judge-requires : goal.judge-requires
judge-requires c = (few_counts (both_agree c.in_ok-counts.ensures)).0

pub returns-in_err-counts-2 : goal.returns-in_err-counts-2
returns-in_err-counts-2 c =
    rw (passed _ c.in_err-counts-2.field-0.0 c.from_residual-in_err-counts-2.ensures.1) (not_lent _ _ _ _ c.in_ok-counts.ensures c.in_err-counts-2.ensures)

pub compare_tables-requires : goal.compare_tables-requires
compare_tables-requires c =
    let read = c.in_ok-counts.ensures in
    let lends = c.in_ok-counts-2.ensures in
    record {
      given = given _ c.args.result_bytes.now c.args.role_result.now _ read lends;
      names_in_bounds = names_in_bounds c.args.signature.now _ c.args.role_result.now c.args.work.now read lends;
    }

pub lend-requires : goal.lend-requires
lend-requires c = (given _ c.args.result_bytes.now c.args.role_result.now c.args.work.now c.in_ok-counts.ensures c.in_ok-counts-2.ensures).signature

pub write_role_result-requires-clause-room : goal.write_role_result-requires-clause-room
write_role_result-requires-clause-room c =
    role_room c.args.signature.now c.args.result_bytes.now c.args.role_result.now c.args.work.now c.in_ok-counts.ensures c.in_ok-counts-2.ensures _ c.lend.ensures

pub returns : goal.returns
returns c =
    compares _ _ _ _ c.in_ok-counts.ensures c.in_ok-counts-2.ensures _ _ c.compare_tables.auto.result_bytes c.compare_tables.auto.work c.compare_tables.ensures
    c.lend.ensures refl refl c.write_role_result.ensures
