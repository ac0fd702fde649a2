-- Passes over a square, for any rule: Rule w x y says that the marks of w allow one in row x and column y.
--   Grows Rule q w v           v is w with marks put step after step, each allowed by the rule before its step
--   Pass Rule q Done w v r     such a growth; r: it changed something. If it did not, Done holds: what it looked at is finished
--   Closed Rule q Done w v     passes until one changed nothing
--   Below D k w                D holds of 0 .. k - 1: what a loop over an index has finished
--   Due r Allowed Mark         what a test tells that asks whether a mark is to be put: the rule allows it; else it is not, or marked
--   AllGood q Good w           each mark has its meaning
--   FromRow q a z w x y        the rule that hands the marks of row a on to row z
-- Not here: what a mark and a square are (Squares).
use Rattle.std.specs.Prelude.{◌≡◌, Bool, true, false, List, ◌⊎◌, ℕ, ◌≤◌, ◌<◌}
use Rattle.marks.specs.declared.Square.{Square}
use Rattle.marks.specs.Squares.{Marked, Extends, unset}

pub data Grows (Rule : List ℕ → ℕ → ℕ → Type 0) (q : Square) (w : List ℕ) : List ℕ → Type 0 where
  none : Grows Rule q w w
  more : (v u : List ℕ) → Grows Rule q w v → Extends q v u → ((x y : ℕ) → x ≤ q.names → y ≤ q.names → Marked q u x y → Marked q v x y ⊎ Rule v x y) → Grows Rule q w u

pub record Pass (Rule : List ℕ → ℕ → ℕ → Type 0) (q : Square) (Done : List ℕ → Type 0) (w v : List ℕ) (r : Bool) : Type 0 where
  pub grows : Grows Rule q w v
  pub fewer : r ≡ true → unset v < unset w
  pub same : r ≡ false → v ≡ w
  pub done : r ≡ false → Done v

pub record Closed (Rule : List ℕ → ℕ → ℕ → Type 0) (q : Square) (Done : List ℕ → Type 0) (w v : List ℕ) : Type 0 where
  pub grows : Grows Rule q w v
  pub done : Done v

pub record Below (D : ℕ → List ℕ → Type 0) (k : ℕ) (w : List ℕ) : Type 0 where
  pub at : (i : ℕ) → i < k → D i w

pub record Due (r : Bool) (Allowed Mark : Type 0) : Type 0 where
  pub allowed : r ≡ true → Allowed
  pub settled : r ≡ false → Allowed → Mark

pub record AllGood (q : Square) (Good : ℕ → ℕ → Type 0) (w : List ℕ) : Type 0 where
  pub good : (x y : ℕ) → x ≤ q.names → y ≤ q.names → Marked q w x y → Good x y

-- of a pass that is only a hint: nothing is known where it changed nothing
pub data Anything (w : List ℕ) : Type 0 where
  anything : Anything w

pub record FromRow (q : Square) (a z : ℕ) (w : List ℕ) (x y : ℕ) : Type 0 where
  pub row : x ≡ z
  pub marked : Marked q w a y
