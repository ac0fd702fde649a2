-- What writing a text answers, and what the output then holds.
--   fitted short text o        the text's length, or the refusal `short` where the output o is shorter than the text
--   output_after a text o      the output o after the answer a: the text at its start and the rest as it was, or unchanged
--   WrittenAs e text o p a     the answer a is e, and the output, o before, is p after it
use Rattle.std.specs.Prelude.{◌≡◌, List, ◌++◌, ℕ, ltb, length, drop, Result, Ok, Err}
use Rattle.el.specs.Lists.{pick}

unfoldable pub fitted : {E : Type 0} → E → List ℕ → List ℕ → Result ℕ E
fitted short text o = pick (ltb (length o) (length text)) (Err short) (Ok (length text))

abbrev pub output_after : {E : Type 0} → Result ℕ E → List ℕ → List ℕ → List ℕ
output_after (Ok k) text o = text ++ drop k o
output_after (Err e) text o = o

pub record WrittenAs {E : Type 0} (expected : Result ℕ E) (text o output : List ℕ) (answer : Result ℕ E) : Type 0 where
  pub answers : answer ≡ expected
  pub leaves : output ≡ output_after expected text o
