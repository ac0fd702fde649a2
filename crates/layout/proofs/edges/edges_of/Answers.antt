-- The set of the axiom's role, where it is a restriction and there is one; else none.
use mathlib.Core.Path.{◌∙◌}
use mathlib.Core.Logic.{inl, inr}
use native.Mathlib.Omega.{arith}
use Rattle.el.proofs.Tests.{not_both}
use Rattle.layout.proofs.Findings.{edges_none}
use Rattle.layout.proofs.edges.edges_of.Goals as goal

pub returns : goal.returns
returns c = edges_none (λ h. elim c.else-is_restriction.either [
  | inl z ↦ omega (arith, h.1, z.1, c.from-own.ensures, c.role.ensures)
  | inr z ↦ not_both (c.is_restriction.ensures ∙ h.0) z
])
