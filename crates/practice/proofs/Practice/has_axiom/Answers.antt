-- `has_axiom` meets its contract, by the kind.
use Rattle.std.proofs.Common.{sym, ap, ◌∙◌, length}
use mathlib.Core.Bool.{not}
use Rattle.practice.proofs.NameKinds.{restriction_has, conjunction_has}
use Rattle.practice.proofs.Practice.has_axiom.Goals as goal

pub returns-then-is_restriction : goal.returns-then-is_restriction
returns-then-is_restriction c =
    c.if-is_restriction.true ∙ sym (restriction_has (length c.args.self.now.pool.now) c.args.kind (sym c.is_restriction.ensures ∙ c.if-is_restriction.true))

pub returns-else-is_restriction : goal.returns-else-is_restriction
returns-else-is_restriction c =
    ap not c.is_empty.ensures ∙ sym (conjunction_has (length c.args.self.now.pool.now) c.args.kind (sym c.is_restriction.ensures ∙ c.if-is_restriction.false))
