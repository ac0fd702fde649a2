-- A byte for each row and node, row after row: names + 1 bytes a row, the names, then ⊤.
--   cell base n i x       the place of the byte of row i and node x
--   Holds w base n i x    it is 1
--   RowRoom base n i w    the bytes of row i are in the memory w
--   Adds base n i P w v   row i gained just the nodes of which P holds, and all else is as before
--   Told M n w base k     of the rows below k, the bytes tell of M
use Rattle.std.specs.Prelude.{◌≡◌, ◌⊎◌, List, ℕ, suc, ◌+◌, ◌*◌, ◌≤◌, ◌<◌, length, get_or}
use Rattle.release.specs.Files.{most_names}

unfoldable pub cell : ℕ → ℕ → ℕ → ℕ → ℕ
cell base n i x = base + (i * suc n + x)

pub record Holds (w : List ℕ) (base n i x : ℕ) : Type 0 where
  pub is : get_or w (cell base n i x) 0 ≡ 1

pub record RowRoom (base n i : ℕ) (w : List ℕ) : Type 0 where
  pub inside : cell base n i n < length w
  pub few : n ≤ most_names

pub record Adds (base n i : ℕ) (P : ℕ → Type 0) (w v : List ℕ) : Type 0 where
  pub long : length v ≡ length w
  pub before : (p : ℕ) → p < cell base n i 0 → get_or v p 0 ≡ get_or w p 0
  pub past : (p : ℕ) → cell base n i n < p → get_or v p 0 ≡ get_or w p 0
  pub old : (x : ℕ) → x ≤ n → Holds w base n i x → Holds v base n i x
  pub new : (x : ℕ) → x ≤ n → P x → Holds v base n i x
  pub only : (x : ℕ) → x ≤ n → Holds v base n i x → Holds w base n i x ⊎ P x

pub record Told (M : ℕ → ℕ → Type 0) (n : ℕ) (w : List ℕ) (base k : ℕ) : Type 0 where
  pub sound : (j x : ℕ) → j < k → x ≤ n → Holds w base n j x → M j x
  pub complete : (j x : ℕ) → j < k → x ≤ n → M j x → Holds w base n j x
