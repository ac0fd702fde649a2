-- One of 16 chosen names is 62.5 thousandths, and three are 187.5: exact halves, whose even neighbours are 62 and 188.
use Rattle.branches.specs.Shares.{IsShare}

pub record Sixteenths : Type 0 where
  pub one_down : IsShare 1 1 16 62
  pub one_to_nearest : IsShare 2 1 16 62
  pub three_down : IsShare 1 3 16 187
  pub three_to_nearest : IsShare 2 3 16 188
