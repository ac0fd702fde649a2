-- Each test of the header refuses what the definition refuses there, given that the tests before it passed.
use native.Mathlib.Omega.{arith}
use Rattle.std.proofs.Common.{rules}
use Rattle.release.proofs.Headers.{marked, started, headed, has_header, header_1, header_2, header_3, header_short, header_4, header_5, header_6, header_none}
use Rattle.release.proofs.Refusing.{refuses, accepts, passed}
use Rattle.release.proofs.header.read_header.Goals as goal

pub returns-then-file-header_length : goal.returns-then-file-header_length
returns-then-file-header_length c = refuses 1 1 _ _ (omega arith) (header_1 _ (rw c.header_length.ensures at c.if-file-header_length.true))

pub returns-then-not-starts_with : goal.returns-then-not-starts_with
returns-then-not-starts_with c = refuses 1 2 _ _ (omega arith)
    (header_2 _ (rw c.header_length.ensures at c.if-file-header_length.false) (marked c.args.file.now c.starts_with.ensures.value c.if-not-starts_with.true))

pub returns-in_err-version : goal.returns-in_err-version
returns-in_err-version c = rw (passed _ c.in_err-version.field-0.0 c.from_residual.ensures.1, c.in_err-version.ensures.0)
    (refuses 1 3 _ _ (omega arith)
    (header_3 _ (rw c.header_length.ensures at c.if-file-header_length.false) (marked c.args.file.now c.starts_with.ensures.value c.if-not-starts_with.false)
    (rw c.number.ensures at c.in_err-version.ensures.1)))

pub returns-then-file-header_length-2 : goal.returns-then-file-header_length-2
returns-then-file-header_length-2 c = refuses 1 1 _ _ (omega arith)
    (header_short _ _ (search (rules, started))
    (rw c.header_length-2.ensures at c.if-file-header_length-2.true))

pub names-names-requires : goal.names-names-requires
names-names-requires c = has_header _ _ (search (rules, headed))

pub roles-roles-requires : goal.roles-roles-requires
roles-roles-requires c = has_header _ _ (search (rules, headed))

pub axioms-axioms-requires : goal.axioms-axioms-requires
axioms-axioms-requires c = has_header _ _ (search (rules, headed))

pub returns-then-most_names-names : goal.returns-then-most_names-names
returns-then-most_names-names c = refuses 1 4 _ _ (omega arith)
    (header_4 _ _ (search (rules, headed)) (rw (c.most_names.ensures, c.names-names.ensures) at c.if-most_names-names.true))

pub returns-then-roles-gt-ROLES : goal.returns-then-roles-gt-ROLES
returns-then-roles-gt-ROLES c = refuses 1 5 _ _ (omega arith)
    (header_5 _ _ (search (rules, headed)) (rw (c.most_names.ensures, c.names-names.ensures) at c.if-most_names-names.false)
    (rw c.roles-roles.ensures at c.if-roles-gt-ROLES.true))

pub returns-then-names-axioms : goal.returns-then-names-axioms
returns-then-names-axioms c = refuses 1 6 _ _ (omega arith)
    (header_6 _ _ (search (rules, headed)) (rw (c.most_names.ensures, c.names-names.ensures) at c.if-most_names-names.false)
    (rw c.roles-roles.ensures at c.if-roles-gt-ROLES.false) (rw (c.names-names.ensures, c.axioms-axioms.ensures) at c.if-names-axioms.true))

pub returns : goal.returns
returns c = rw (c.names-names.ensures, c.roles-roles.ensures, c.axioms-axioms.ensures)
    (accepts 1 _ _
    (header_none _ _ (search (rules, headed)) (rw (c.most_names.ensures, c.names-names.ensures) at c.if-most_names-names.false)
    (rw c.roles-roles.ensures at c.if-roles-gt-ROLES.false) (rw (c.names-names.ensures, c.axioms-axioms.ensures) at c.if-names-axioms.false)))
