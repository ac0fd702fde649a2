-- A square of marks in lent memory: names + 1 rows and columns, row after row, a bit a cell. A mark is a bit 1.
--   bit b k            the bit k of the byte b
--   width n            the bytes of a row;  span n: of all rows; behind them, up to the size of the square (Memory), is memory for hints
--   place q x y        the byte of the cell in row x and column y of the square q; its bit is y % 8
--   Room q w           the square q lies in the memory w
--   Marked q w x y     the cell is marked;  NotMarked q w x y: it is not;  Unmarked q w: no cell is
--   Touches q w v      v is w but for bytes of the rows of q;  Frame q w v: but for bytes lent for q
--   Area q w           the memory lent for q is in w;  Lent q w: and has room for four squares of hints;  behind q k: the k-th of these
--   HintSquare q k p   p is this square, and the memory lent for q has room for it
--   Apart p q          no byte of the rows of p is lent for q;  Behind q p: the rows of p are lent for q, behind the rows of q
--   unset w            the number of bits that are no mark: it falls with each mark, so marking ends
--   Extends q w v      v is w but for bits of q that w has not: marks, or hints behind its rows
--   Hints p w v        v is w with more bits in the rows of p, of which no more is said
--   Kept q w v         v is w with more hints behind the rows of q
--   Put q x y w v r    v is w with the cell marked; r: it was not marked in w
--   Within q a x w     row x has the marks of row a
--   First There Skipped n from y   y is a column from `from` up to n of which There holds, and Skipped holds of each before it
--   Nowhere Skipped n from   Skipped holds of each column from `from` up to n
--   Next There Skipped n from r   r is the first column of which There holds, if there is one; of those before, or of all, Skipped holds
--   NextMarked q w x from r   r is the first column of row x from `from` on that is marked, if there is one
--   NextUnmarked q w x from r   the same, the first that is not marked
use Rattle.std.specs.Prelude.{◌≡◌, Bool, true, false, List, [], ◌∷◌, ◌⊎◌, ℕ, zero, suc, ◌+◌, ◌-◌, ◌*◌, ◌/◌, ◌%◌, ◌^◌, ◌≤◌, ◌<◌, length, get_or}
use Rattle.std.specs.Prelude.{Option}
use Rattle.std.specs.Option.{MatchOption}
use Rattle.marks.specs.declared.Square.{Square}
use Rattle.marks.specs.Memory.{size}

unfoldable pub bit : ℕ → ℕ → ℕ
bit b k = b / 2 ^ k % 2

unfoldable pub width : ℕ → ℕ
width n = n / 8 + 1

unfoldable pub span : ℕ → ℕ
span n = suc n * width n

unfoldable pub place : Square → ℕ → ℕ → ℕ
place q x y = q.base + (x * width q.names + y / 8)

-- limits within which no place wraps: names, cells of a square, bytes before it
abbrev pub most_names : ℕ
most_names = 4095

abbrev pub most_cells : ℕ
most_cells = 16777216

abbrev pub farthest : ℕ
farthest = 1099511627776

pub record Small (q : Square) : Type 0 where
  pub few : q.names ≤ most_names
  pub near : q.base ≤ farthest

pub record Place (q : Square) (x y r : ℕ) : Type 0 where
  pub is : r ≡ place q x y
  pub below : r < q.base + span q.names

pub record Room (q : Square) (w : List ℕ) : Type 0 where
  pub small : Small q
  pub fits : q.base + span q.names ≤ length w

pub record Marked (q : Square) (w : List ℕ) (x y : ℕ) : Type 0 where
  pub is : bit (get_or w (place q x y) 0) (y % 8) ≡ 1

pub record Unmarked (q : Square) (w : List ℕ) : Type 0 where
  pub none : (x y : ℕ) → x ≤ q.names → y ≤ q.names → Marked q w x y → ⊥

abbrev pub Apart : Square → Square → Type 0
Apart p q = (p.base + span p.names ≤ q.base) ⊎ (q.base + size q.names ≤ p.base)

pub record Behind (q p : Square) : Type 0 where
  pub same : p.names ≡ q.names
  pub after : q.base + span q.names ≤ p.base
  pub inside : p.base + span q.names ≤ q.base + size q.names

-- the k-th square behind the rows of q
unfoldable pub behind : Square → ℕ → Square
behind q k = record { base = q.base + k * span q.names; names = q.names }

-- the memory lent for q is there
pub record Area (q : Square) (w : List ℕ) : Type 0 where
  pub room : Room q w
  pub lent : q.base + size q.names ≤ length w
  pub near : q.base + size q.names ≤ farthest

-- and has room for four squares of hints
pub record Lent (q : Square) (w : List ℕ) : Type 0 where
  pub area : Area q w
  pub roomy : 5 * span q.names ≤ size q.names

-- the k-th square of hints of q, for which there is room in the memory lent for q
pub record HintSquare (q : Square) (k : ℕ) (p : Square) : Type 0 where
  pub is : p ≡ behind q k
  pub names : p.names ≡ q.names
  pub room : (w : List ℕ) → Area q w → Room p w
  pub behind : 1 ≤ k → Behind q p

pub record Touches (q : Square) (w v : List ℕ) : Type 0 where
  pub long : length v ≡ length w
  pub before : (i : ℕ) → i < q.base → get_or v i 0 ≡ get_or w i 0
  pub past : (i : ℕ) → q.base + span q.names ≤ i → get_or v i 0 ≡ get_or w i 0

pub record Frame (q : Square) (w v : List ℕ) : Type 0 where
  pub long : length v ≡ length w
  pub before : (i : ℕ) → i < q.base → get_or v i 0 ≡ get_or w i 0
  pub past : (i : ℕ) → q.base + size q.names ≤ i → get_or v i 0 ≡ get_or w i 0

unfoldable pub unset_below : ℕ → ℕ → ℕ
unset_below zero b = 0
unset_below (suc k) b = unset_below k b + (1 - bit b k)

unfoldable pub unset : List ℕ → ℕ
unset [] = 0
unset (b ∷ bs) = unset_below 8 b + unset bs

pub record Extends (q : Square) (w v : List ℕ) : Type 0 where
  pub frame : Frame q w v
  pub stays : (x y : ℕ) → Marked q w x y → Marked q v x y
  pub fewer : unset v ≤ unset w

-- memory with more bits in the rows of p, of which all that is said is that they are there
pub record Hints (p : Square) (w v : List ℕ) : Type 0 where
  pub touches : Touches p w v
  pub stays : (i k : ℕ) → bit (get_or w i 0) k ≡ 1 → bit (get_or v i 0) k ≡ 1
  pub fewer : unset v ≤ unset w

-- memory in which only hints behind the rows of q have changed
pub record Kept (q : Square) (w v : List ℕ) : Type 0 where
  pub extends : Extends q w v
  pub marks : (x y : ℕ) → x ≤ q.names → y ≤ q.names → Marked q v x y → Marked q w x y

pub record Put (q : Square) (x y : ℕ) (w v : List ℕ) (r : Bool) : Type 0 where
  pub extends : Extends q w v
  pub hints : Hints q w v
  pub there : Marked q v x y
  pub only : (a b : ℕ) → a ≤ q.names → b ≤ q.names → Marked q v a b → Marked q w a b ⊎ ((a ≡ x) × (b ≡ y))
  pub less : r ≡ true → unset v < unset w
  pub fresh : r ≡ true → Marked q w x y → ⊥
  pub same : r ≡ false → v ≡ w

pub record Within (q : Square) (a x : ℕ) (w : List ℕ) : Type 0 where
  pub marked : (y : ℕ) → y ≤ q.names → Marked q w a y → Marked q w x y

pub record First (There Skipped : ℕ → Type 0) (n from y : ℕ) : Type 0 where
  pub after : from ≤ y
  pub inside : y ≤ n
  pub there : There y
  pub before : (z : ℕ) → from ≤ z → z < y → Skipped z

pub record Nowhere (Skipped : ℕ → Type 0) (n from : ℕ) : Type 0 where
  pub each : (z : ℕ) → from ≤ z → z ≤ n → Skipped z

abbrev pub Next : (ℕ → Type 0) → (ℕ → Type 0) → ℕ → ℕ → Option ℕ → Type 0
Next There Skipped n from r = MatchOption r (Nowhere Skipped n from) (First There Skipped n from)

abbrev pub NotMarked : Square → List ℕ → ℕ → ℕ → Type 0
NotMarked q w x y = Marked q w x y → ⊥

abbrev pub NextMarked : Square → List ℕ → ℕ → ℕ → Option ℕ → Type 0
NextMarked q w x from r = Next (Marked q w x) (NotMarked q w x) q.names from r

abbrev pub NextUnmarked : Square → List ℕ → ℕ → ℕ → Option ℕ → Type 0
NextUnmarked q w x from r = Next (NotMarked q w x) (Marked q w x) q.names from r
