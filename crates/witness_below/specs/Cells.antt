-- A number for each pair of a row and a column: three bytes, low byte first. Rows are nodes, columns are names and then nothing.
--   pair_of n x y           the number of the pair x, y among all, row after row
--   value_at w base p       the number kept for the pair p;  cell_at l w x y: for the pair x, y
--                          0: not asked for; 1: asked for, and no row is known; else a row's number and 2
--   CellRoom l w           the bytes of all pairs are in the memory w
--   CellPut base p v w u   the number of the pair p became v, and all else is as before
use Rattle.std.specs.Prelude.{◌≡◌, List, ℕ, suc, ◌+◌, ◌*◌, ◌≤◌, ◌<◌, length, get_or}
use Rattle.layout.specs.declared.Layout.{Layout}

unfoldable pub pair_of : ℕ → ℕ → ℕ → ℕ
pair_of n x y = x * suc n + y

unfoldable pub value_at : List ℕ → ℕ → ℕ → ℕ
value_at w base p = get_or w (base + 3 * p) 0 + 256 * get_or w (base + 3 * p + 1) 0 + 65536 * get_or w (base + 3 * p + 2) 0

abbrev pub cell_at : Layout → List ℕ → ℕ → ℕ → ℕ
cell_at l w x y = value_at w l.marks (pair_of l.names x y)

abbrev pub most_value : ℕ
most_value = 16777215

pub record CellRoom (l : Layout) (w : List ℕ) : Type 0 where
  pub inside : l.marks + 3 * (suc l.names * suc l.names) ≤ length w

pub record Value (w : List ℕ) (base p r : ℕ) : Type 0 where
  pub is : r ≡ value_at w base p
  pub small : r ≤ most_value

pub record Pair (n x y r : ℕ) : Type 0 where
  pub is : r ≡ pair_of n x y
  pub inside : r < suc n * suc n

pub record CellPut (base p v : ℕ) (w u : List ℕ) : Type 0 where
  pub long : length u ≡ length w
  pub here : value_at u base p ≡ v
  pub other : (q : ℕ) → (q ≡ p → ⊥) → value_at u base q ≡ value_at w base q
  pub before : (i : ℕ) → i < base + 3 * p → get_or u i 0 ≡ get_or w i 0
  pub past : (i : ℕ) → base + 3 * p + 3 ≤ i → get_or u i 0 ≡ get_or w i 0
