-- Laws of chains.
--   some_step        what no member has with itself, and what is passed on where a step has it not, some step has
--   no_step          what no step does, some step does not
--   some_weaker, each_step      a weaker claim of some step, and of each
use mathlib.Core.Logic.{◌⊎◌, inl, inr}
use mathlib.Core.List.{List}
use Rattle.chains.specs.Chains.{last_from, Steps, end, step, SomeStep, EveryStep}

module _ {X : Type 0} {R : X → X → Type 0} {W : X → X → Type 0} {P : (x y : X) → R x y → Type 0} (never : (x : X) → W x x → ⊥)
    (passed_on : (x y z : X) (r : R x y) → W x z → P x y r ⊎ W y z) where
  pub some_step : {x : X} {ys : List X} (rs : Steps R x ys) → W x (last_from x ys) → SomeStep P rs
  some_step end w = never _ w
  some_step (step r rs) w = elim (passed_on _ _ _ r w) [ inl here ↦ inl here | inr after ↦ inr (some_step rs after) ]

module _ {X : Type 0} {R : X → X → Type 0} {P Q : (x y : X) → R x y → Type 0} where
  pub no_step : (never : (x y : X) (r : R x y) → P x y r → Q x y r → ⊥) {x : X} {ys : List X} (rs : Steps R x ys) → SomeStep P rs → EveryStep Q rs → ⊥
  no_step never end p q = p
  no_step never (step r rs) p q = elim p [ inl here ↦ never _ _ r here q.0 | inr after ↦ no_step never rs after q.1 ]

  pub some_weaker : (weaker : (x y : X) (r : R x y) → P x y r → Q x y r) {x : X} {ys : List X} (rs : Steps R x ys) → SomeStep P rs → SomeStep Q rs
  some_weaker weaker end p = p
  some_weaker weaker (step r rs) p = elim p [ inl here ↦ inl (weaker _ _ r here) | inr after ↦ inr (some_weaker weaker rs after) ]

  pub each_step : (weaker : (x y : X) (r : R x y) → P x y r → Q x y r) {x : X} {ys : List X} (rs : Steps R x ys) → EveryStep P rs → EveryStep Q rs
  each_step weaker end p = tt
  each_step weaker (step r rs) p = (weaker _ _ r p.0, each_step weaker rs p.1)
