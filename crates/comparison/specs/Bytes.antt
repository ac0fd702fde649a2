-- The result bytes by the marks: forward marks by the layout f, backward marks by the layout h, in the memory w.
--   ByMarks f h w a b         b is the byte of a name whose cell a, a is marked or not, forward and backward
--   ByteAt g f h w a b        b is that, or 0 for a name that is not in the signature of the bytes g
--   Written g f h w k r p     the result r became p: its first k bytes are those, and all else is as before
use Rattle.std.specs.Prelude.{◌≡◌, Bool, true, false, List, ℕ, ◌+◌, ◌≤◌, ◌<◌, length, get_or}
use Rattle.el.specs.Answers.{byte_of}
use Rattle.el.proofs.Tests.{Tells}
use Rattle.marks.specs.Squares.{Room, Marked}
use Rattle.layout.specs.declared.Layout.{Layout}
use Rattle.layout.specs.Layouts.{mark_square, chosen}

-- what the functions ask
pub record Readable (g : List ℕ) (f h : Layout) (w : List ℕ) : Type 0 where
  pub signature : f.names + f.roles ≤ length g
  pub same_names : h.names ≡ f.names
  pub forward : Room (mark_square f) w
  pub backward : Room (mark_square h) w

pub record ByMarks (f h : Layout) (w : List ℕ) (a b : ℕ) : Type 0 where
  pub is_left : Bool
  pub is_right : Bool
  pub left : Tells is_left (Marked (mark_square f) w a a)
  pub right : Tells is_right (Marked (mark_square h) w a a)
  pub is : b ≡ byte_of is_left is_right

pub record ByteAt (g : List ℕ) (f h : Layout) (w : List ℕ) (a b : ℕ) : Type 0 where
  pub inside : (chosen f g).has_name a ≡ true → ByMarks f h w a b
  pub outside : (chosen f g).has_name a ≡ false → b ≡ 0

pub record Written (g : List ℕ) (f h : Layout) (w : List ℕ) (k : ℕ) (r p : List ℕ) : Type 0 where
  pub long : length p ≡ length r
  pub byte : (a : ℕ) → a < k → ByteAt g f h w a (get_or p a 0)
  pub past : (i : ℕ) → k ≤ i → get_or p i 0 ≡ get_or r i 0
