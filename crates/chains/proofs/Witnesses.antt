-- A witness from a first terminology to a last is one in some step between them: either a step's first terminology keeps all that lies above
-- (below) the name, and then the same concept is a witness from its second on, or it has a witness there.
--   left_in_step, right_in_step     of three terminologies
--   skips_one, skips_all            of three, and of a chain
use mathlib.Core.Logic.{◌⊎◌, inl, inr}
use mathlib.Core.List.{List}
use Prim.Native.Nat.{ℕ, ◌<◌}
use Rattle.el.specs.Axioms.{Terminology}
use Rattle.el.specs.Signatures.{Signature, LeftWitness, RightWitness, RoleWitness}
use Rattle.el.specs.Terminologies.{Comparable}
use Rattle.el.proofs.Demand3.{witness_or_kept_above, witness_or_kept_below, pair_skipped}
use Rattle.chains.specs.Chains.{Steps}
use Rattle.chains.specs.Witnesses.{SkipsOne, SkipsAll}
use Rattle.chains.proofs.Chains.{some_step}

module _ {n : ℕ} {sig : Signature} {t u v : Terminology} (given : Comparable n sig t u) (a : ℕ) (a_in : a < n) where
  pub left_in_step : LeftWitness sig t v a → LeftWitness sig t u a ⊎ LeftWitness sig u v a
  left_in_step w = elim (witness_or_kept_above given a a_in) [
    | inl lost ↦ inl lost
    | inr kept ↦ inr (record { above = w.above; over = w.over; first = kept.keeps w.above w.over w.first; not_second = w.not_second })
  ]

  pub right_in_step : RightWitness sig t v a → RightWitness sig t u a ⊎ RightWitness sig u v a
  right_in_step w = elim (witness_or_kept_below given a a_in) [
    | inl lost ↦ inl lost
    | inr kept ↦ inr (record { below = w.below; over = w.over; first = kept.keeps w.below w.over w.first; not_second = w.not_second })
  ]

pub skips_one : {n : ℕ} {sig : Signature} {t u v : Terminology} → Comparable n sig t u → SkipsOne n sig t u v
skips_one given = record { left = left_in_step given; right = right_in_step given; pair = λ r s w. pair_skipped w }

pub skips_all : {n : ℕ} {sig : Signature} {t : Terminology} {us : List Terminology} (steps : Steps (Comparable n sig) t us) → SkipsAll n sig steps
skips_all {n} {sig} steps = record {
  left = λ a a_in. some_step {W = λ x y. LeftWitness sig x y a} (λ x w. w.not_second w.first) (λ x y z r. left_in_step r a a_in) steps;
  right = λ a a_in. some_step {W = λ x y. RightWitness sig x y a} (λ x w. w.not_second w.first) (λ x y z r. right_in_step r a a_in) steps;
  pair = λ r s. some_step {W = λ x y. RoleWitness sig x y r s} (λ x w. w.not_second w.first) (λ x y z _ w. pair_skipped w) steps;
}
