-- Bytes put one after the other into an output of bytes, from a place on.
--   Put o p text q next    q is the output o with them from place p on, and next is the place after them; what lies past the end
--                          of the output is not put but counted, up to the greatest number that a place can have
use Rattle.std.specs.Prelude.{◌≡◌, List, ℕ, ◌+◌, ◌≤◌, length, min}
use Rattle.std.proofs.lemmas.List.Edits.{sets}

-- no output is that long
abbrev pub last_place : ℕ
last_place = 18446744073709551615

pub record Put (o : List ℕ) (p : ℕ) (text q : List ℕ) (next : ℕ) : Type 0 where
  pub stands : q ≡ sets o p text
  pub after : next ≡ min (p + length text) last_place
  pub short : length q ≤ last_place
