-- Laws of the bytes of rows.
--   place_is, place_inside          the place of a byte, as the code has it
--   put_adds                        one byte put
--   adds_none, adds_then, adds_as   nothing put; more put; the same nodes by another rule
--   earlier_row                     an earlier row is as before
--   marked_same                     and so is a square before the bytes
--   told_more                       one more row told of
use mathlib.Core.Path.{◌≡◌, refl, sym, ◌∙◌}
use mathlib.Core.Logic.{◌⊎◌, inl, inr}
use mathlib.Core.List.{List}
use Prim.Native.Nat.{ℕ, suc, ◌+◌, ◌*◌, ◌≤◌, ◌<◌}
use native.Mathlib.Omega.{arith}
use native.Mathlib.Numerals.{add-one}
use native.Mathlib.Nat.{mul-le-mul_right, suc-mul}
use native.Mathlib.Decide.{ℕ_discrete}
use lib.ListN.{length, get_or, set, length-set}
use lib.Seq.{get_or-set_same, get_or-set_other}
use Rattle.marks.specs.declared.Square.{Square}
use Rattle.marks.specs.Squares.{span, place, Room, Marked}
use Rattle.marks.proofs.Squares.{place_below}
use Rattle.row_evaluation.specs.Cells.{cell, Holds, RowRoom, Adds, Told}

pub place_is : (base n i x : ℕ) → base + (i * (n + 1) + x) ≡ cell base n i x
unfolding cell
place_is base n i x = rw add-one

pub cell_below : (base n i x : ℕ) → x ≤ n → cell base n i x ≤ cell base n i n
unfolding cell
cell_below base n i x h = omega arith

pub cell_first : (base n i x : ℕ) → cell base n i 0 ≤ cell base n i x
unfolding cell
cell_first base n i x = omega arith

pub cell_one : (base n i x y : ℕ) → cell base n i x ≡ cell base n i y → x ≡ y
unfolding cell
cell_one base n i x y e = omega arith

pub cell_earlier : (base n i j x : ℕ) → j < i → x ≤ n → cell base n j x < cell base n i 0
unfolding cell
cell_earlier base n i j x h l = omega (arith, mul-le-mul_right {m = suc j} {n = i} (suc n) h, suc-mul j (suc n))

pub cell_next : (base n i : ℕ) → suc (cell base n i n) ≡ cell base n (suc i) 0
unfolding cell
cell_next base n i = omega (arith, suc-mul i (suc n))

pub cell_base : (base n i x : ℕ) → base ≤ cell base n i x
unfolding cell
cell_base base n i x = omega arith

pub rows_below : (base n i k : ℕ) → i ≤ k → cell base n i 0 ≤ cell base n k 0
unfolding cell
rows_below base n i k h = omega (arith, mul-le-mul_right {m = i} {n = k} (suc n) h)

pub place_inside : {base n i x : ℕ} {w : List ℕ} → RowRoom base n i w → x ≤ n → base + (i * (n + 1) + x) < length w
place_inside {base} {n} {i} {x} room h = omega (arith, place_is base n i x, cell_below base n i x h, room.inside)

pub room_same : {base n i : ℕ} {w v : List ℕ} → length v ≡ length w → RowRoom base n i w → RowRoom base n i v
room_same e room = record { inside = omega (arith, room.inside); few = room.few }

pub room_earlier : {base n i j : ℕ} {w : List ℕ} → j < i → RowRoom base n i w → RowRoom base n j w
room_earlier {base} {n} {i} {j} h room = record { inside = omega (arith, room.inside, cell_earlier base n i j n h (omega arith), cell_first base n i n); few = room.few }

module _ {base n i : ℕ} where
  pub put_adds : {w : List ℕ} {x : ℕ} → RowRoom base n i w → x ≤ n → (at : ℕ) → at ≡ base + (i * (n + 1) + x) → Adds base n i (λ y. y ≡ x) w (set w at 1)
  put_adds {w} {x} room h at e =
      let is : at ≡ cell base n i x = e ∙ place_is base n i x in
      let inside : at < length w = omega (arith, place_inside room h) in
      record {
        long = simp length-set;
        before = λ p l. get_or-set_other w at p 1 0 (λ o. omega (arith, cell_first base n i x));
        past = λ p l. get_or-set_other w at p 1 0 (λ o. omega (arith, cell_below base n i x h));
        old = λ y l k. elim (ℕ_discrete y x) [
          | yes z ↦ record { is = rw (z, ← is) (get_or-set_same w at 1 0 inside) }
          | no z ↦ record { is = get_or-set_other w at (cell base n i y) 1 0 (λ o. z (cell_one base n i y x (o ∙ is))) ∙ k.is }
        ];
        new = λ y l z. record { is = rw (z, ← is) (get_or-set_same w at 1 0 inside) };
        only = λ y l k. elim (ℕ_discrete y x) [
          | yes z ↦ inr z
          | no z ↦ inl (record { is = sym (get_or-set_other w at (cell base n i y) 1 0 (λ o. z (cell_one base n i y x (o ∙ is)))) ∙ k.is })
        ];
      }

  pub adds_none : {P : ℕ → Type 0} {w : List ℕ} → ((x : ℕ) → x ≤ n → P x → ⊥) → Adds base n i P w w
  adds_none none = record {
    long = refl;
    before = λ p l. refl;
    past = λ p l. refl;
    old = λ x l k. k;
    new = λ x l k. absurd (none x l k);
    only = λ x l k. inl k;
  }

  pub adds_as : {P Q : ℕ → Type 0} {w v : List ℕ} → ((x : ℕ) → x ≤ n → P x → Q x) → ((x : ℕ) → x ≤ n → Q x → P x) → Adds base n i P w v → Adds base n i Q w v
  adds_as there back a = record {
    long = a.long;
    before = a.before;
    past = a.past;
    old = a.old;
    new = λ x l k. a.new x l (back x l k);
    only = λ x l k. elim (a.only x l k) [ inl o ↦ inl o | inr o ↦ inr (there x l o) ];
  }

  pub adds_then : {P Q R : ℕ → Type 0} {w v u : List ℕ} → Adds base n i P w v → Adds base n i Q v u → ((x : ℕ) → x ≤ n → R x → P x ⊎ Q x) → ((x : ℕ) → x ≤ n → P x → R x)
      → ((x : ℕ) → x ≤ n → Q x → R x) → Adds base n i R w u
  adds_then a b split one other = record {
    long = b.long ∙ a.long;
    before = λ p l. b.before p l ∙ a.before p l;
    past = λ p l. b.past p l ∙ a.past p l;
    old = λ x l k. b.old x l (a.old x l k);
    new = λ x l k. elim (split x l k) [ inl o ↦ b.old x l (a.new x l o) | inr o ↦ b.new x l o ];
    only = λ x l k. elim (b.only x l k) [
      | inl o ↦ elim (a.only x l o) [ inl m ↦ inl m | inr m ↦ inr (one x l m) ]
      | inr o ↦ inr (other x l o)
    ];
  }

  module _ {P : ℕ → Type 0} {w v : List ℕ} (adds : Adds base n i P w v) where
    -- an earlier row is as before
    pub earlier_row : {j x : ℕ} → j < i → x ≤ n → Holds w base n j x → Holds v base n j x
    earlier_row {j} {x} h l k = record { is = adds.before (cell base n j x) (cell_earlier base n i j x h l) ∙ k.is }

    pub row_earlier : {j x : ℕ} → j < i → x ≤ n → Holds v base n j x → Holds w base n j x
    row_earlier {j} {x} h l k = record { is = sym (adds.before (cell base n j x) (cell_earlier base n i j x h l)) ∙ k.is }

    -- and so is a square before the bytes
    module _ {q : Square} (room : Room q w) (apart : q.base + span q.names ≤ base) {x y : ℕ} (x_in : x ≤ q.names) (y_in : y ≤ q.names) where
      same_byte : get_or v (place q x y) 0 ≡ get_or w (place q x y) 0
      same_byte = adds.before (place q x y) (omega (arith, place_below q x y x_in y_in, cell_base base n i 0))

      pub marked_same : Marked q w x y → Marked q v x y
      marked_same m = record { is = rw same_byte m.is }

      pub same_marked : Marked q v x y → Marked q w x y
      same_marked m = record { is = rw (← same_byte) m.is }

pub told_more : {M : ℕ → ℕ → Type 0} {n base i : ℕ} {P : ℕ → Type 0} {w v : List ℕ} → Told M n w base i → Adds base n i P w v → ((x : ℕ) → x ≤ n → Holds w base n i x → ⊥)
    → ((x : ℕ) → x ≤ n → P x → M i x) → ((x : ℕ) → x ≤ n → M i x → P x) → Told M n v base (suc i)
told_more {M} {n} {base} {i} told adds none sound complete = record {
  sound = λ j x h l k. elim (ℕ_discrete j i) [
    | yes z ↦ rw z (elim (adds.only x l (rw z at k)) [ inl o ↦ absurd (none x l o) | inr o ↦ sound x l o ])
    | no z ↦ told.sound j x (omega arith) l (row_earlier adds (omega arith) l k)
  ];
  complete = λ j x h l m. elim (ℕ_discrete j i) [
    | yes z ↦ rw z (adds.new x l (complete x l (rw z at m)))
    | no z ↦ earlier_row adds (omega arith) l (told.complete j x (omega arith) l m)
  ];
}
