-- How two concepts lie, as callers of other languages are told it.
--   answer_number b       1 where an inclusion is derivable, else 0
--   position_number p     0 where neither concept lies below the other, 1 where only the first does, 2 where only the second does, 3 where both do
use Rattle.std.specs.Prelude.{Bool, true, false, ℕ}
use Rattle.question.specs.declared.position.Position.{Position}
use Rattle.question.specs.declared.position.Position.TheVariants.{Incomparable, Below, Above, Equivalent}

abbrev pub answer_number : Bool → ℕ
answer_number true = 1
answer_number false = 0

abbrev pub position_number : Position → ℕ
position_number Incomparable = 0
position_number Below = 1
position_number Above = 2
position_number Equivalent = 3
