-- The memory that is lent for squares of marks.
--   size n             how many cells a square over n names and ⊤ has, and so many bytes are lent for it
--   Zeroed k w v       v is w with the first k bytes 0
use Rattle.std.specs.Prelude.{◌≡◌, List, ℕ, suc, ◌*◌, ◌≤◌, ◌<◌, length, get_or}

unfoldable pub size : ℕ → ℕ
size n = suc n * suc n

pub record Zeroed (k : ℕ) (w v : List ℕ) : Type 0 where
  pub long : length v ≡ length w
  pub zero : (i : ℕ) → i < k → get_or v i 0 ≡ 0
  pub past : (i : ℕ) → k ≤ i → get_or v i 0 ≡ get_or w i 0
