-- `kind` meets its contract: the number drawn is that of a kind, or of none.
use Rattle.std.proofs.Common.{arith, sym, ◌∙◌}
use Rattle.practice.specs.Draws.{next}
use Rattle.practice.proofs.Choices.{drawn_below}
use Rattle.practice.proofs.NameKinds.{no_kind_drawn, no_role_for, kind_kept}
use Rattle.practice.proofs.draws.Draws.kind.Goals as goal
use Rattle.practice.proofs.draws.Draws.kind.Goals.{else-roles-eq0-via-then-roles-eq0+else-is_restriction, else-roles-eq0-via-else-roles-eq0}

pub overflow_cast-draw : goal.overflow_cast-draw
overflow_cast-draw c = omega (arith, c.draw.ensures.choice, drawn_below (next c.args.self.now.state) 5 (omega arith))

pub returns-in_default-clause-kind : goal.returns-in_default-clause-kind
returns-in_default-clause-kind c =
    let none = rw (c.in_default.is, c.draw.ensures.choice) at c.try_from.ensures in
    no_kind_drawn c.args.roles (next c.args.self.now.state) none.1.0 none.1.1

pub returns-then-is_restriction-clause-kind : goal.returns-then-is_restriction-clause-kind
returns-then-is_restriction-clause-kind c =
    no_role_for c.args.roles (next c.args.self.now.state) c.in-Ok.kind (c.in-Ok.ensures ∙ c.draw.ensures.choice) c.if-roles-eq0.true (sym c.is_restriction.ensures ∙ c.if-is_restriction.true)

pub returns-clause-kind : goal.returns-clause-kind
returns-clause-kind c =
    let number = c.in-Ok.ensures ∙ c.draw.ensures.choice in
    elim c.else-roles-eq0.branch [
      | else-roles-eq0-via-then-roles-eq0+else-is_restriction w ↦
          kind_kept c.args.roles (next c.args.self.now.state) c.in-Ok.kind number (λ z. sym w.is_restriction.ensures ∙ w.if-is_restriction.false)
      | else-roles-eq0-via-else-roles-eq0 w ↦ kind_kept c.args.roles (next c.args.self.now.state) c.in-Ok.kind number (λ z. absurd (w.if-roles-eq0.false z))
    ]
