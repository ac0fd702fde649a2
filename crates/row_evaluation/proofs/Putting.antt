-- Laws of a row while nodes are put into it, one after the other: what it has so far, and what the tests tell of the memory before.
use mathlib.Core.Path.{◌≡◌}
use mathlib.Core.Bool.{Bool, true, false}
use mathlib.Core.Logic.{inl, inr}
use mathlib.Core.List.{List}
use Prim.Native.Nat.{ℕ, ◌+◌, ◌*◌, ◌≤◌, ◌<◌}
use native.Mathlib.Omega.{arith}
use native.Mathlib.Decide.{dec_lt, ℕ_discrete}
use lib.ListN.{length, get_or}
use lib.Dec.{eqb}
use borrow.Author.Tests.{eqb-true, eq-eqb}
use Rattle.el.proofs.Tests.{Tells}
use Rattle.marks.specs.Squares.{Marked}
use Rattle.marks.proofs.Squares.{refuted}
use Rattle.row_evaluation.specs.declared.Evaluation.{Evaluation}
use Rattle.row_evaluation.specs.Cells.{Holds, Adds}
use Rattle.row_evaluation.specs.Below.{Setting}
use Rattle.row_evaluation.proofs.RowBytes.{place_is, adds_as, adds_then, earlier_row, row_earlier, marked_same, same_marked}

-- one byte
pub tells_holds : (w : List ℕ) (base n i x : ℕ) → Tells (eqb (get_or w (base + (i * (n + 1) + x)) 0) 1) (Holds w base n i x)
tells_holds w base n i x = record { sound = λ e. record { is = rw (← place_is base n i x) (eqb-true _ _ e) }; complete = λ h. eq-eqb _ _ (rw (place_is base n i x) h.is) }

-- the nodes before x
abbrev pub Before : (ℕ → Type 0) → ℕ → ℕ → Type 0
Before P x y = (y < x) × P y

module _ {base n i : ℕ} {P : ℕ → Type 0} {w v : List ℕ} where
  pub put_turn : {x : ℕ} → Adds base n i (Before P x) w v → {u : List ℕ} → Adds base n i (λ y. y ≡ x) v u → P x → Adds base n i (Before P (x + 1)) w u
  put_turn {x} a b here = adds_then a b
      (λ y l k. elim (dec_lt y x) [ yes z ↦ inl (z, k.1) | no z ↦ inr (omega arith) ])
      (λ y l k. (omega arith, k.1))
      (λ y l k. (omega arith, rw k here))

  pub skip_turn : {x : ℕ} → Adds base n i (Before P x) w v → (P x → ⊥) → Adds base n i (Before P (x + 1)) w v
  skip_turn {x} a none = adds_as (λ y l k. (omega arith, k.1)) (λ y l k. elim (ℕ_discrete y x) [ yes z ↦ absurd (none (rw z at k.1)) | no z ↦ (omega arith, k.1) ]) a

  pub put_end : {x : ℕ} → Adds base n i (Before P x) w v → n < x → Adds base n i P w v
  put_end a h = adds_as (λ y l k. k.1) (λ y l k. (omega arith, k)) a

pub setting_after : {E : Evaluation} {w v : List ℕ} → length v ≡ length w → Setting E w → Setting E v
setting_after e s = record { fillers = s.fillers; room = record { small = s.room.small; fits = omega (arith, s.room.fits) }; apart = s.apart; few = s.few }

-- below a name
module _ {E : Evaluation} {i b : ℕ} {w v : List ℕ} (setting : Setting E w) (b_in : b ≤ E.square.names) {P : ℕ → Type 0} (adds : Adds E.base E.square.names i P w v) {x : ℕ}
    (x_in : x ≤ E.square.names) {z : Bool} (tells : Tells z (Marked E.square v x b)) where
  pub was_marked : z ≡ true → Marked E.square w x b
  was_marked h = same_marked adds setting.room setting.apart x_in b_in (tells.sound h)

  pub was_not_marked : z ≡ false → Marked E.square w x b → ⊥
  was_not_marked h m = refuted tells h (marked_same adds setting.room setting.apart x_in b_in m)

-- in an earlier row
module _ {base n i j : ℕ} {P : ℕ → Type 0} {w v : List ℕ} (adds : Adds base n i P w v) (j_in : j < i) {x : ℕ} (x_in : x ≤ n) {z : Bool} (tells : Tells z (Holds v base n j x)) where
  pub did_hold : z ≡ true → Holds w base n j x
  did_hold h = row_earlier adds j_in x_in (tells.sound h)

  pub did_not_hold : z ≡ false → Holds w base n j x → ⊥
  did_not_hold h k = refuted tells h (earlier_row adds j_in x_in k)
