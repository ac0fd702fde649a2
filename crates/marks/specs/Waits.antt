-- Rows that wait: a hint, of which nothing is promised that has to do with their marks.
--   Waits v y               row y waits;  NoneWaits v: no row does
--   StillWaiting w v        each row that waits in w waits in v, and the ring of those that wait begins where it began
--   Taken w v r             row r was taken from w, which leaves v; where none waits, none is taken, and nothing changes
use Rattle.std.specs.Prelude.{◌≡◌, true, false, ℕ, ◌-◌, ◌<◌, Option, Some, None, get_or}
use Rattle.marks.specs.declared.waiting.Waiting.{Waiting}

-- how many rows can wait
abbrev pub most_rows : ℕ
most_rows = 1024

pub record Waits (v : Waiting) (y : ℕ) : Type 0 where
  pub is : get_or v.waits y false ≡ true

pub record NoneWaits (v : Waiting) : Type 0 where
  pub none : (y : ℕ) → Waits v y → ⊥
  pub count : v.count ≡ 0

pub record StillWaiting (w v : Waiting) : Type 0 where
  pub rows : (y : ℕ) → Waits w y → Waits v y
  pub first : v.first ≡ w.first

pub record Taken (w v : Waiting) (r : Option ℕ) : Type 0 where
  pub inside : (x : ℕ) → r ≡ Some x → x < most_rows
  pub none : w.count ≡ 0 → (r ≡ None) × (v ≡ w)
  pub fewer : v.count ≡ w.count - 1
  pub over : (x : ℕ) → r ≡ Some x → Waits v x → ⊥
  pub others : (y : ℕ) → Waits v y → Waits w y
