-- Draws are below the number of choices, and come one after the other.
--   state_after        the next state, as 32 bits compute it
--   FewParts size k    k conjuncts are no more than 4, nor than the pool's size
--   PartsDrawn size s k start      from a pool of so many names k conjuncts are drawn, on from this start
use mathlib.Core.Path.{◌≡◌, refl, ap, ◌∙◌}
use Prim.Native.Nat.{ℕ, zero, suc, ◌+◌, ◌*◌, ◌/◌, ◌%◌, ◌≤◌, ◌<◌, min}
use native.Mathlib.Nat.{mod-lt}
use native.Mathlib.Omega.{arith}
use native.Mathlib.Numerals.{add-one}
use Rattle.practice.specs.Draws.{next, drawn, after_draws}
use Rattle.practice.specs.Practice.{part_count}

pub state_after : (s : ℕ) → (s * 1664525 % 4294967296 + 1013904223) % 4294967296 ≡ next s
unfolding next
state_after s = let product : ℕ = s * 1664525 in omega arith

pub drawn_below : (s choices : ℕ) → 0 < choices → drawn s choices < choices
unfolding drawn
drawn_below s choices h = mod-lt (s / 65536) h

last_draw : (k s : ℕ) → after_draws (suc k) s ≡ next (after_draws k s)
unfolding after_draws
last_draw zero s = refl
last_draw (suc k) s = last_draw k (next s)

pub one_draw_more : (k s : ℕ) → after_draws (k + 1) s ≡ next (after_draws k s)
one_draw_more k s = rw add-one (last_draw k s)

pub record FewParts (size k : ℕ) : Type 0 where
  pub some : 0 < k
  pub four : k ≤ 4
  pub within : k ≤ size

pub few_parts : (size s : ℕ) → 0 < size → FewParts size (part_count size s)
unfolding part_count
few_parts size s h =
    let d = drawn_below (next s) (min 4 size) (omega arith) in
    record { some = omega arith; four = omega arith; within = omega arith }

pub record PartsDrawn (size s k start : ℕ) : Type 0 where
  pub counted : k ≡ part_count size s
  pub started : start ≡ drawn (next (next s)) size

pub parts_drawn : (size s : ℕ) {most k t start : ℕ} → most ≡ min size 4 → k ≡ drawn (next s) most → t ≡ next s → start ≡ drawn (next t) size → PartsDrawn size s (1 + k) start
unfolding part_count
parts_drawn size s {most} {k} {t} {start} e f g h =
    let smaller : most ≡ min 4 size = omega arith in
    let one_less : k ≡ drawn (next s) (min 4 size) = f ∙ ap (drawn (next s)) smaller in
    record { counted = omega arith; started = h ∙ ap (λ (i : ℕ). drawn (next i) size) g }
