-- The shares of one of 16 and of three: by rule 1 they are divided, by rule 2 their distance is measured, which is a half.
use mathlib.Core.Path.{refl}
use native.Mathlib.Omega.{arith}
use Rattle.branches.specs.Shares.{share_down}
use Rattle.branches.specs.Examples.{Sixteenths}

pub sixteenths : Sixteenths
unfolding share_down
sixteenths = record {
  one_down = record { down = λ _. refl; to_nearest = λ e. absurd (omega arith) };
  one_to_nearest = record { down = λ e. absurd (omega arith); to_nearest = λ _. record { none_chosen = λ z. absurd (omega arith); near = λ _. omega arith; even = λ _ half. refl } };
  three_down = record { down = λ _. refl; to_nearest = λ e. absurd (omega arith) };
  three_to_nearest = record { down = λ e. absurd (omega arith); to_nearest = λ _. record { none_chosen = λ z. absurd (omega arith); near = λ _. omega arith; even = λ _ half. refl } };
}
