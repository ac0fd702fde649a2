-- What a comparison's result bytes say of a name and a side.
--   ByteReports n o side a    the result bytes o report the name a on that side: on the left with 1 or 3, on the right with 2 or 3
use Rattle.std.specs.Prelude.{◌≡◌, true, List, ℕ, ◌<◌, get_or}
use Rattle.el.specs.Comparison.{on_left, on_right}

pub data ByteReports (n : ℕ) (o : List ℕ) (side a : ℕ) : Type 0 where
  byte_left : side ≡ 1 → a < n → on_left (get_or o a 0) ≡ true → ByteReports n o side a
  byte_right : side ≡ 2 → a < n → on_right (get_or o a 0) ≡ true → ByteReports n o side a
