-- Lines: rows of bits in memory of their own, and what they do with the rows of a square.
--   Has k y                      the line k has the column y;  Spans n k: it has a byte for each column up to n
--   Empty k                      it has none;  line_bytes: the bytes of a line
--   Added y k l                  the line l is k with the column y
--   RowOf q w x k                the line k has the bytes of row x of the square q
--   Joined q w x k l             the line l is k with the columns that are marked in row x
--   MarkedOutside q w x k y      the cell in row x and column y is marked, and y not in k
--   NextOutside q w x k from r   r is the first such column of row x from `from` on, if there is one
--   NextColumn n k from r        r is the first column of the line k from `from` on and up to n, if there is one
--   Missing k x w a b            the rule that marks in row x what k has not
--   Full q k x w                 each column is in k or marked in row x
use Rattle.std.specs.Prelude.{◌≡◌, List, ◌⊎◌, ℕ, ◌+◌, ◌/◌, ◌%◌, ◌≤◌, ◌<◌, length, get_or}
use Rattle.std.specs.Prelude.{Option}
use Rattle.marks.specs.declared.Square.{Square}
use Rattle.marks.specs.Squares.{bit, place, Marked, Next}

abbrev pub line_bytes : ℕ
line_bytes = 128

pub record Has (k : List ℕ) (y : ℕ) : Type 0 where
  pub is : bit (get_or k (y / 8) 0) (y % 8) ≡ 1

pub record Spans (n : ℕ) (k : List ℕ) : Type 0 where
  pub inside : n / 8 < length k

pub record Empty (k : List ℕ) : Type 0 where
  pub none : (y : ℕ) → Has k y → ⊥

pub record Added (y : ℕ) (k l : List ℕ) : Type 0 where
  pub long : length l ≡ length k
  pub stays : (z : ℕ) → Has k z → Has l z
  pub there : Has l y
  pub only : (z : ℕ) → Has l z → Has k z ⊎ (z ≡ y)

pub record RowOf (q : Square) (w : List ℕ) (x : ℕ) (k : List ℕ) : Type 0 where
  pub long : length k ≡ q.names / 8 + 1
  pub byte : (i : ℕ) → i ≤ q.names / 8 → get_or k i 0 ≡ get_or w (place q x 0 + i) 0

pub record Joined (q : Square) (w : List ℕ) (x : ℕ) (k l : List ℕ) : Type 0 where
  pub long : length l ≡ length k
  pub stays : (y : ℕ) → Has k y → Has l y
  pub has : (y : ℕ) → y ≤ q.names → Marked q w x y → Has l y
  pub only : (y : ℕ) → y ≤ q.names → Has l y → Has k y ⊎ Marked q w x y

pub record MarkedOutside (q : Square) (w : List ℕ) (x : ℕ) (k : List ℕ) (y : ℕ) : Type 0 where
  pub marked : Marked q w x y
  pub out : Has k y → ⊥

abbrev pub NextOutside : Square → List ℕ → ℕ → List ℕ → ℕ → Option ℕ → Type 0
NextOutside q w x k from r = Next (MarkedOutside q w x k) (λ y. Marked q w x y → Has k y) q.names from r

abbrev pub NextColumn : ℕ → List ℕ → ℕ → Option ℕ → Type 0
NextColumn n k from r = Next (Has k) (λ y. Has k y → ⊥) n from r

pub record Missing (k : List ℕ) (x : ℕ) (w : List ℕ) (a b : ℕ) : Type 0 where
  pub row : a ≡ x
  pub not_there : Has k b → ⊥

pub record Full (q : Square) (k : List ℕ) (x : ℕ) (w : List ℕ) : Type 0 where
  pub marked : (y : ℕ) → y ≤ q.names → (Has k y → ⊥) → Marked q w x y
