-- How two concepts lie, by two derivabilities and one number.
--   Lies t c d v     v is 0 where neither lies below the other, 1 where only c lies below d, 2 where only d lies below c, 3 where both do
--   exchanged v       how they lie the other way round: 1 and 2 are exchanged
use Rattle.std.specs.Prelude.{◌≡◌, ℕ, zero, suc, ◌+◌, ◌*◌}
use Rattle.el.specs.Concepts.{Concept}
use Rattle.el.specs.Axioms.{Terminology}
use Rattle.el.specs.Derivability.{IsAnswer}

-- the low bit answers c ⊑ d, the high one d ⊑ c
pub record Lies (t : Terminology) (c d : Concept) (v : ℕ) : Type 0 where
  pub upward : ℕ
  pub downward : ℕ
  pub below : IsAnswer t c d upward
  pub above : IsAnswer t d c downward
  pub number : v ≡ upward + 2 * downward

abbrev pub exchanged : ℕ → ℕ
exchanged (suc zero) = 2
exchanged (suc (suc zero)) = 1
exchanged v = v
