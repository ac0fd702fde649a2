-- Marks of a square q handed along the inclusions that a square p holds: x lies below c where row x of p has c.
--   Taking p q w x y      the rule that hands marks down: row c of q has y, for some c above x
--   Giving p q w x y      the rule that hands them up: row c of q has y, for some c below x
--   Handed d p q          the rule for the direction d: Taking for Down, Giving for Up
--   Reaches d q c x w     the marks of row x of q and of row c above it are handed: row x has those of c, or row c those of x
--   Every R p x w         R holds of x and each c above it
--   Hands d p q x w       the marks of row x of q and of all rows above it are handed
--   Takes p q x w         row x of q has the marks of all rows above it;  Gives p q x w: all rows above it have its marks
--   Done n k D w          D holds of each column of the line k up to n
--   Given n k D x w       D holds of x if it holds of each of these;  Rest n k D w: then it holds of all up to n
--   Covering p k c w i j  the line j is i, with columns that are marked in row c of p where k has c
--   Near R p k i j x w    R holds of x and each column that j has and i has not
--   Others R p k i x w    R holds of x and each c above it, if it holds of those that i has
--   Turned q w p t        the square p in the memory t is q in w with rows and columns exchanged;  TurnedBelow q w p t k: k rows of it
use Rattle.std.specs.Prelude.{◌≡◌, List, ◌⊎◌, ℕ, suc, ◌≤◌, ◌<◌}
use Rattle.marks.specs.declared.Square.{Square}
use Rattle.marks.specs.declared.inclusions.Direction.{Direction}
use Rattle.marks.specs.declared.inclusions.Direction.TheVariants.{Down, Up}
use Rattle.marks.specs.Squares.{Marked, Within}
use Rattle.marks.specs.Passes.{Below}
use Rattle.marks.specs.Lines.{Has}

pub record Taking (p q : Square) (w : List ℕ) (x y : ℕ) : Type 0 where
  pub it : ℕ
  pub inside : it ≤ p.names
  pub above : Marked p w x it
  pub marked : Marked q w it y

pub record Giving (p q : Square) (w : List ℕ) (x y : ℕ) : Type 0 where
  pub it : ℕ
  pub inside : it ≤ p.names
  pub below : Marked p w it x
  pub marked : Marked q w it y

pub record Every (R : ℕ → ℕ → List ℕ → Type 0) (p : Square) (x : ℕ) (w : List ℕ) : Type 0 where
  pub each : (c : ℕ) → c ≤ p.names → Marked p w x c → R c x w

-- the two directions
abbrev pub Handed : Direction → Square → Square → List ℕ → ℕ → ℕ → Type 0
Handed Down = Taking
Handed Up = Giving

abbrev pub Reaches : Direction → Square → ℕ → ℕ → List ℕ → Type 0
Reaches Down q c x = Within q c x
Reaches Up q c x = Within q x c

abbrev pub Hands : Direction → Square → Square → ℕ → List ℕ → Type 0
Hands d p q = Every (Reaches d q) p

abbrev pub Takes : Square → Square → ℕ → List ℕ → Type 0
Takes = Hands Down

abbrev pub Gives : Square → Square → ℕ → List ℕ → Type 0
Gives = Hands Up

pub record Done (n : ℕ) (k : List ℕ) (D : ℕ → List ℕ → Type 0) (w : List ℕ) : Type 0 where
  pub at : (c : ℕ) → c ≤ n → Has k c → D c w

pub record Given (n : ℕ) (k : List ℕ) (D : ℕ → List ℕ → Type 0) (x : ℕ) (w : List ℕ) : Type 0 where
  pub done : Done n k D w → D x w

pub record Rest (n : ℕ) (k : List ℕ) (D : ℕ → List ℕ → Type 0) (w : List ℕ) : Type 0 where
  pub done : Done n k D w → Below D (suc n) w

pub record Covering (p : Square) (k : List ℕ) (c : ℕ) (w i j : List ℕ) : Type 0 where
  pub stays : (y : ℕ) → Has i y → Has j y
  pub only : (y : ℕ) → y ≤ p.names → Has j y → Has i y ⊎ (Has k c × Marked p w c y)

pub record Near (R : ℕ → ℕ → List ℕ → Type 0) (p : Square) (k i j : List ℕ) (x : ℕ) (w : List ℕ) : Type 0 where
  pub each : Done p.names k (Every R p) w → (y : ℕ) → y ≤ p.names → Has j y → Has i y ⊎ R y x w

pub record Others (R : ℕ → ℕ → List ℕ → Type 0) (p : Square) (k i : List ℕ) (x : ℕ) (w : List ℕ) : Type 0 where
  pub each : ((y : ℕ) → y ≤ p.names → Has i y → R y x w) → Done p.names k (Every R p) w → Every R p x w

-- what the functions ask: two squares of the same size, which is at most that of a line
pub record Alike (p q : Square) : Type 0 where
  pub same : q.names ≡ p.names
  pub few : p.names ≤ 1023

pub record TurnedBelow (q : Square) (w : List ℕ) (p : Square) (t : List ℕ) (k : ℕ) : Type 0 where
  pub to : (x y : ℕ) → x < k → x ≤ q.names → y ≤ q.names → Marked q w x y → Marked p t y x
  pub from : (x y : ℕ) → x ≤ q.names → y ≤ q.names → Marked p t y x → Marked q w x y

pub record Turned (q : Square) (w : List ℕ) (p : Square) (t : List ℕ) : Type 0 where
  pub to : (x y : ℕ) → x ≤ q.names → y ≤ q.names → Marked q w x y → Marked p t y x
  pub from : (x y : ℕ) → x ≤ q.names → y ≤ q.names → Marked p t y x → Marked q w x y
