-- A chain: a first member and those that follow it, and what is said of its steps, each from a member to the next.
--   last_from x ys       the last of the chain that begins with x and goes on with ys
--   Steps R x ys         the relation R from each member of that chain to the next
--   SomeStep P rs        some step is as P says
--   EveryStep P rs       each step is as P says
--   sum_of f rs          the sum of f over the steps
use Rattle.std.specs.Prelude.{List, [], ◌∷◌, ℕ, ◌+◌, ◌⊎◌}

abbrev pub last_from : {X : Type 0} → X → List X → X
last_from x [] = x
last_from x (y ∷ ys) = last_from y ys

pub data Steps {X : Type 0} (R : X → X → Type 0) : X → List X → Type 0 where
  end : {x : X} → Steps R x []
  step : {x y : X} {ys : List X} → R x y → Steps R y ys → Steps R x (y ∷ ys)

abbrev pub SomeStep : {X : Type 0} {R : X → X → Type 0} (P : (x y : X) → R x y → Type 0) {x : X} {ys : List X} → Steps R x ys → Type 0
SomeStep P end = ⊥
SomeStep P (step r rs) = P _ _ r ⊎ SomeStep P rs

abbrev pub EveryStep : {X : Type 0} {R : X → X → Type 0} (P : (x y : X) → R x y → Type 0) {x : X} {ys : List X} → Steps R x ys → Type 0
EveryStep P end = Unit {0}
EveryStep P (step r rs) = P _ _ r × EveryStep P rs

abbrev pub sum_of : {X : Type 0} {R : X → X → Type 0} (f : (x y : X) → R x y → ℕ) {x : X} {ys : List X} → Steps R x ys → ℕ
sum_of f end = 0
sum_of f (step r rs) = f _ _ r + sum_of f rs
