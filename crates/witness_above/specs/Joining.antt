-- One step of writing: an earlier row is joined to the concept of the node x.
-- Memory: where the marks of a comparison are, a byte for each two nodes, row x has the nodes of which nothing is lost above x; behind them one
-- more row of bytes, the line, which has the nodes below the row to be joined. A number for each node: 0 while its concept is ⊤, else its row and 1.
--   line n                          the number of the line among the rows of bytes
--   Taken base n x y w v            row x lost the node y, and all else is as before
--   Met base n x w v                row x lost the nodes that the line does not have, and all else is as before
--   Exceeds w base n x              row x has a node that the line has not
--   Loses w L a x                   so it is in the memory laid out by L, and x lies below the name a by the first release: joining the line's row
--                                   to x loses something
--   FirstLosing w L a r             r is such a node; or none, and there is none
--   ToJoin base n x e k ys ps w     what a step asks: row e is written, there is room for one row more, and a number for each node
--   RowsJoined x e k ys zs ps m j   the number of x is m now: row e is its row, where its concept was ⊤; else a row is written, both
--   Joined base n x e k ys zs ps qs w v j     so it is; j rows are written
use Rattle.std.specs.Prelude.{◌≡◌, Option, MatchOption, List, ℕ, suc, ◌+◌, ◌*◌, ◌≤◌, ◌<◌, length, get_or}
use Rattle.concept_rows.specs.Rows.{row}
use Rattle.marks.specs.Squares.{Room, Marked}
use Rattle.layout.specs.declared.Layout.{Layout}
use Rattle.layout.specs.Layouts.{first_square}
use Rattle.row_evaluation.specs.RowForms.{most, RowPut}
use Rattle.row_evaluation.specs.Cells.{cell, Holds, RowRoom}

abbrev pub line : ℕ → ℕ
line n = suc n

pub record Taken (base n x y : ℕ) (w v : List ℕ) : Type 0 where
  pub long : length v ≡ length w
  pub before : (p : ℕ) → p < cell base n x 0 → get_or v p 0 ≡ get_or w p 0
  pub past : (p : ℕ) → cell base n x n < p → get_or v p 0 ≡ get_or w p 0
  pub gone : Holds v base n x y → ⊥
  pub other : (z : ℕ) → z ≤ n → (z ≡ y → ⊥) → get_or v (cell base n x z) 0 ≡ get_or w (cell base n x z) 0

pub record Met (base n x : ℕ) (w v : List ℕ) : Type 0 where
  pub long : length v ≡ length w
  pub before : (p : ℕ) → p < cell base n x 0 → get_or v p 0 ≡ get_or w p 0
  pub past : (p : ℕ) → cell base n x n < p → get_or v p 0 ≡ get_or w p 0
  pub stays : (y : ℕ) → y ≤ n → Holds w base n x y → Holds w base n (line n) y → Holds v base n x y
  pub had : (y : ℕ) → y ≤ n → Holds v base n x y → Holds w base n x y
  pub lined : (y : ℕ) → y ≤ n → Holds v base n x y → Holds w base n (line n) y

pub record Exceeds (w : List ℕ) (base n x : ℕ) : Type 0 where
  pub it : ℕ
  pub inside : it ≤ n
  pub has : Holds w base n x it
  pub lacks : Holds w base n (line n) it → ⊥

pub record Loses (w : List ℕ) (L : Layout) (a x : ℕ) : Type 0 where
  pub below : Marked (first_square L) w x a
  pub exceeds : Exceeds w L.marks L.names x

-- what looking for such nodes asks
pub record ToFindLosing (L : Layout) (a : ℕ) (w : List ℕ) : Type 0 where
  pub room : Room (first_square L) w
  pub bytes : RowRoom L.marks L.names (line L.names) w
  pub name : a ≤ L.names

pub record NoneLoses (w : List ℕ) (L : Layout) (a : ℕ) : Type 0 where
  pub none : (x : ℕ) → x ≤ L.names → Loses w L a x → ⊥

pub record NodeLoses (w : List ℕ) (L : Layout) (a x : ℕ) : Type 0 where
  pub is_node : x ≤ L.names
  pub loses : Loses w L a x

abbrev pub FirstLosing : List ℕ → Layout → ℕ → Option ℕ → Type 0
FirstLosing w L a r = MatchOption r (NoneLoses w L a) (NodeLoses w L a)

pub record ToJoin (base n x e k : ℕ) (ys ps w : List ℕ) : Type 0 where
  pub rows : 3 * (k + 1) ≤ length ys
  pub few : k + 1 ≤ most
  pub earlier : e < k
  pub node : x ≤ n
  pub numbers : n < length ps
  pub bytes : RowRoom base n (line n) w

pub data RowsJoined (x e k : ℕ) (ys zs ps : List ℕ) (m j : ℕ) : Type 0 where
  row_taken : get_or ps x 0 ≡ 0 → zs ≡ ys → m ≡ suc e → j ≡ k → RowsJoined x e k ys zs ps m j
  rows_joined : {i : ℕ} → get_or ps x 0 ≡ suc i → RowPut k (row 2 i e) ys zs → m ≡ suc k → j ≡ suc k → RowsJoined x e k ys zs ps m j

pub record Joined (base n x e k : ℕ) (ys zs ps qs w v : List ℕ) (j : ℕ) : Type 0 where
  pub rows : RowsJoined x e k ys zs ps (get_or qs x 0) j
  pub numbers_long : length qs ≡ length ps
  pub others : (z : ℕ) → (z ≡ x → ⊥) → get_or qs z 0 ≡ get_or ps z 0
  pub met : Met base n x w v
