-- What a search through the numbers below n finds.
--   SomeBelow D n      D holds of some number below n
--   EachBelow D n      D holds of each of them
--   NoneBelow D n      D holds of none of them
use Rattle.std.specs.Prelude.{ℕ, ◌<◌}

pub record SomeBelow (D : ℕ → Type 0) (n : ℕ) : Type 0 where
  pub it : ℕ
  pub below : it < n
  pub holds : D it

pub record EachBelow (D : ℕ → Type 0) (n : ℕ) : Type 0 where
  pub at : (i : ℕ) → i < n → D i

pub record NoneBelow (D : ℕ → Type 0) (n : ℕ) : Type 0 where
  pub none : (i : ℕ) → i < n → D i → ⊥
