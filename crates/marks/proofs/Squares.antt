-- Laws of places, of one mark, of a row, and of zeroed memory.
--   place_below, place_same            a place lies in its square, and with its bit is of one row and one column
--   span_size                          the bytes of a square are no more than its cells
--   extends_same, or_extends           memory with no more marks; with more bits in a byte of the square
--   put_found, put_fresh               a cell that was marked; that was not
--   marked_frame, frame_marked         a square apart from the one that changed keeps its marks, and has no others
--   zeroed_unmarked                    a square in zeroed memory has no mark
--   refuted                            a test that is false refutes what it tells of
-- Not here: marks put by a rule (Passes).
use mathlib.Core.Path.{◌≡◌, refl, sym, ap, ◌∙◌}
use mathlib.Core.Bool.{Bool, true, false, false≢true}
use mathlib.Core.List.{List}
use mathlib.Core.Logic.{◌⊎◌, inl, inr}
use Prim.Native.Nat.{ℕ, suc, ◌+◌, ◌-◌, ◌*◌, ◌/◌, ◌%◌, ◌^◌, ◌≤◌, ◌<◌}
use native.Mathlib.Nat.{mul-le-mul, mul-le-mul_right, mul_left_comm, suc-mul, mod-lt, zero-lt-suc}
use native.Mathlib.Numerals.{add-one}
use native.Mathlib.Omega.{arith}
use native.Mathlib.Decide.{ℕ_discrete, dec_lt}
use lib.ListN.{length, get_or, set, length-set, replicate, take, drop}
use Rattle.std.specs.Prelude.{◌++◌}
use Rattle.std.proofs.lemmas.List.{get_or-append_right, get_or_append_left, get_or-replicate, length-replicate, length-take-le, length-drop, length-append, get_or-take, get_or-drop}
use lib.Seq.{get_or-set_other}
use lib.Bits.{bit_or}
use lib.Dec.{eqb}
use borrow.Author.Tests.{eqb-true, eq-eqb}
use Rattle.el.proofs.Tests.{Tells}
use Rattle.std.specs.Prelude.{Some, None}
use Rattle.marks.specs.declared.Square.{Square}
use Rattle.marks.specs.Squares.{bit, width, span, place, behind, Area, Lent, Small, most_names, most_cells, farthest, Place, Room, Marked, Unmarked, Apart, Behind, Touches}
use Rattle.marks.specs.Squares.{Frame, Extends, Put, Hints, HintSquare, Kept, NextUnmarked}
use Rattle.marks.specs.Memory.{size, Zeroed}
use Rattle.marks.specs.Lines.{RowOf}
use Rattle.marks.proofs.Bits.{bit_same, bit_other, high_bits, bit_of_zero, or_at, or_stays, or_has, or_only, or_fewer, or_less}

pub not_true : {A : Type 0} → true ≡ false → A
not_true e = absurd (false≢true (sym e))

pub not_false : {A : Type 0} → false ≡ true → A
not_false e = absurd (false≢true e)

pub refuted : {b : Bool} {A : Type 0} → Tells b A → b ≡ false → A → ⊥
refuted t e a = false≢true (sym e ∙ t.complete a)

-- places
pub product_small : {x k : ℕ} → x ≤ most_names → k ≤ most_names → x * k ≤ most_cells
product_small h l = omega (arith, mul-le-mul {n₂ = most_names} {m₂ = most_names} h l)

pub size_is : (n : ℕ) → (n + 1) * (n + 1) ≡ size n
unfolding size
size_is n = rw add-one

pub size_small : (n : ℕ) → n ≤ most_names → (n + 1) * (n + 1) ≤ most_cells
size_small n h = mul-le-mul {n₂ = suc most_names} {m₂ = suc most_names} (omega arith) (omega arith)

pub width_is : (n : ℕ) → n ≤ most_names → (n / 8 + 1 ≡ width n) × (n / 8 + 1 ≤ most_names)
unfolding width
width_is n h = (refl, omega arith)

width_small : (n : ℕ) → width n ≤ suc n
unfolding width
width_small n = omega arith

pub span_size : (n : ℕ) → span n ≤ size n
unfolding span size
span_size n = omega (arith, mul-le-mul {n₁ = suc n} {m₁ = width n} {n₂ = suc n} {m₂ = suc n} (omega arith) (width_small n))

pub column_byte : (n y : ℕ) → y ≤ n → y / 8 < width n
unfolding width
column_byte n y h = omega arith

-- frames, and memory with more marks
pub frame_room : {p q : Square} {w v : List ℕ} → Frame q w v → Room p w → Room p v
frame_room f r = record { small = r.small; fits = omega (arith, r.fits, f.long) }

pub frame_area : {p q : Square} {w v : List ℕ} → Frame q w v → Area p w → Area p v
frame_area f a = record { room = frame_room f a.room; lent = omega (arith, a.lent, f.long); near = a.near }

pub frame_same : {q : Square} {w : List ℕ} → Frame q w w
frame_same = record { long = refl; before = λ i h. refl; past = λ i h. refl }

pub frame_further : {q : Square} {u w v : List ℕ} → Frame q u w → Frame q w v → Frame q u v
frame_further f g = record { long = g.long ∙ f.long; before = λ i h. g.before i h ∙ f.before i h; past = λ i h. g.past i h ∙ f.past i h }

pub extends_same : {q : Square} {w : List ℕ} → Extends q w w
extends_same = record { frame = frame_same; stays = λ x y m. m; fewer = omega arith }

pub touches_frame : {q : Square} {w v : List ℕ} → Touches q w v → Frame q w v
touches_frame {q} t = record { long = t.long; before = t.before; past = λ i h. t.past i (omega (arith, span_size q.names)) }

pub touches_room : {p q : Square} {w v : List ℕ} → Touches q w v → Room p w → Room p v
touches_room t r = record { small = r.small; fits = omega (arith, r.fits, t.long) }

pub touches_same : {q : Square} {w : List ℕ} → Touches q w w
touches_same = record { long = refl; before = λ i h. refl; past = λ i h. refl }

pub touches_further : {q : Square} {u w v : List ℕ} → Touches q u w → Touches q w v → Touches q u v
touches_further f g = record { long = g.long ∙ f.long; before = λ i h. g.before i h ∙ f.before i h; past = λ i h. g.past i h ∙ f.past i h }

pub set_touches : {q : Square} (w : List ℕ) (i b : ℕ) → q.base ≤ i → i < q.base + span q.names → Touches q w (set w i b)
set_touches w i b f l = record {
  long = length-set w i b;
  before = λ j h. get_or-set_other w i j b 0 (λ e. omega arith);
  past = λ j h. get_or-set_other w i j b 0 (λ e. omega arith);
}

pub or_extends : {q : Square} (w : List ℕ) (i m : ℕ) → q.base ≤ i → i < q.base + span q.names → i < length w → Extends q w (or_at w i m)
or_extends w i m f b l = record {
  frame = touches_frame (set_touches w i (bit_or (get_or w i 0) m) f b);
  stays = λ x y k. record { is = or_stays w i m _ _ l k.is };
  fewer = or_fewer w i m;
}

add_left : (a b c : ℕ) → a + b ≡ a + c → b ≡ c
add_left a b c e = omega arith

module _ (q : Square) where
  abbrev n : ℕ
  n = q.names

  pub place_below : (x y : ℕ) → x ≤ n → y ≤ n → place q x y < q.base + span n
  unfolding place span
  place_below x y h l = omega (arith, mul-le-mul_right (width n) h, suc-mul n (width n), column_byte n y l)

  pub place_from_lem : (x y : ℕ) → q.base ≤ place q x y
  unfolding place
  place_from_lem x y = omega arith

  row_before : (x y a b : ℕ) → y ≤ n → x < a → place q x y ≡ place q a b → ⊥
  unfolding place
  row_before x y a b h l e = omega (arith, mul-le-mul_right (width n) l, suc-mul x (width n), column_byte n y h)

  same_row : (x y a b : ℕ) → y ≤ n → b ≤ n → place q x y ≡ place q a b → x ≡ a
  same_row x y a b h l e = by_order (dec_lt x a) (dec_lt a x)
    where
      by_order : Dec (x < a) → Dec (a < x) → x ≡ a
      by_order (yes k) j = absurd (row_before x y a b h k e)
      by_order (no k) (yes j) = absurd (row_before a b x y l j (sym e))
      by_order (no k) (no j) = omega arith

  pub place_same : (x y a b : ℕ) → y ≤ n → b ≤ n → place q x y ≡ place q a b → y % 8 ≡ b % 8 → (x ≡ a) × (y ≡ b)
  unfolding place
  place_same x y a b h l e f =
      let r = same_row x y a b h l e in
      let m : x * width n ≡ a * width n = ap (λ (k : ℕ). k * width n) r in
      (r, omega arith)

  -- a byte of a row is that of a column, and a cell has one
  pub place_column : (x y : ℕ) → place q x 0 + y / 8 ≡ place q x y
  unfolding place
  place_column x y = omega arith

  place_is : (x y r : ℕ) → r ≡ width n → q.base + (x * r + y / 8) ≡ place q x y
  unfolding place
  place_is x y r e = rw e

  pub place_of : (x y r : ℕ) → r ≡ width n → x ≤ n → y ≤ n → Place q x y (q.base + (x * r + y / 8))
  place_of x y r e h l = record { is = place_is x y r e; below = rw (place_is x y r e) (place_below x y h l) }

  -- the bytes of a row
  pub row_byte : (x i : ℕ) → x ≤ n → i ≤ n / 8 → place q x 0 + i < q.base + span n
  unfolding place span width
  row_byte x i h l = omega (arith, mul-le-mul_right (width n) h, suc-mul n (width n))

  pub row_place : (x y a i : ℕ) → y ≤ n → i ≤ n / 8 → place q x y ≡ place q a 0 + i → (x ≡ a) × (y / 8 ≡ i)
  row_place x y a i h l e =
      let b : place q a 0 + i ≡ place q a (8 * i) = ap (λ (k : ℕ). place q a 0 + k) (omega arith) ∙ place_column a (8 * i) in
      let r = same_row x y a (8 * i) h (omega arith) (e ∙ b) in
      (r, by_row r)
    where
      by_row : x ≡ a → y / 8 ≡ i
      by_row r = add_left (place q a 0) (y / 8) i (ap (λ (z : ℕ). place q z 0 + y / 8) (sym r) ∙ place_column x y ∙ e)

  -- a byte of row `to` with more bits: those of m
  pub or_row : (w : List ℕ) (to i target m : ℕ) → Room q w → to ≤ n → i ≤ n / 8 → target ≡ place q to 0
      → Extends q w (or_at w (target + i) m) × ((x y : ℕ) → x ≤ n → y ≤ n → Marked q (or_at w (target + i) m) x y → Marked q w x y ⊎ ((x ≡ to) × (y / 8 ≡ i) × (bit m (y % 8) ≡ 1)))
  or_row w to i target m room t l g = (or_extends w (target + i) m lower upper inside, new)
    where
      lower : q.base ≤ target + i
      lower = omega (arith, g, place_from_lem to 0)

      upper : target + i < q.base + span n
      upper = omega (arith, g, row_byte to i t l)

      inside : target + i < length w
      inside = omega (arith, upper, room.fits)

      new : (x y : ℕ) → x ≤ n → y ≤ n → Marked q (or_at w (target + i) m) x y → Marked q w x y ⊎ ((x ≡ to) × (y / 8 ≡ i) × (bit m (y % 8) ≡ 1))
      new x y xb yb b = elim (or_only w (target + i) m _ _ inside b.is) [
        | inl z ↦ inl (record { is = z })
        | inr z ↦ let p = row_place x y to i yb l (z.0 ∙ ap (λ (k : ℕ). k + i) g) in inr (p.0, p.1, z.1)
      ]

  -- a byte of row `from` handed on to row `to`
  pub hand_byte : (w : List ℕ) (from to i source target : ℕ) → Room q w → from ≤ n → to ≤ n → i ≤ n / 8 → source ≡ place q from 0 → target ≡ place q to 0
      → Extends q w (or_at w (target + i) (get_or w (source + i) 0))
      × ((x y : ℕ) → x ≤ n → y ≤ n → Marked q (or_at w (target + i) (get_or w (source + i) 0)) x y → Marked q w x y ⊎ ((x ≡ to) × Marked q w from y))
  hand_byte w from to i source target room f t l s g =
      let b = or_row w to i target (get_or w (source + i) 0) room t l g in
      (b.0, λ x y h k m. elim (b.1 x y h k m) [ inl z ↦ inl z | inr z ↦ inr (z.0, record { is = rw (← source_place y z.1) z.2 }) ])
    where
      source_place : (y : ℕ) → y / 8 ≡ i → source + i ≡ place q from y
      source_place y e = ap (λ (z : ℕ). z + i) s ∙ ap (λ (z : ℕ). place q from 0 + z) (sym e) ∙ place_column from y

-- squares behind a square
pub behind_small : {q : Square} {k r : ℕ} → Small q × (k ≤ 4) → r ≡ width q.names → ((q.names + 1) * r ≤ most_cells) × (k * ((q.names + 1) * r) ≤ 4 * most_cells)
unfolding width
behind_small {q} {k} {r} h e =
    let w : r ≤ suc most_names = omega (arith, h.0.few) in
    let a : (q.names + 1) * r ≤ most_cells = mul-le-mul {n₂ = suc most_names} {m₂ = suc most_names} (omega (arith, h.0.few)) w in
    (a, mul-le-mul {n₂ = 4} {m₂ = most_cells} h.1 a)

pub behind_is : (q : Square) (k : ℕ) {r : ℕ} → r ≡ width q.names → record { base = q.base + k * ((q.names + 1) * r); names = q.names } ≡ behind q k
unfolding behind span
behind_is q k e = rw (e, add-one)

pub roomy : (n : ℕ) {r : ℕ} → r ≡ width n → 5 * r ≤ n + 1 → 5 * span n ≤ size n
unfolding span size
roomy n {r} e h =
    let l : 5 * width n ≤ suc n = omega arith in
    omega (arith, mul-le-mul {n₁ = suc n} {m₁ = 5 * width n} {n₂ = suc n} {m₂ = suc n} (omega arith) l, mul_left_comm 5 (suc n) (width n))

pub lent_behind : {q : Square} (k : ℕ) → 1 ≤ k → k ≤ 4 → 5 * span q.names ≤ size q.names → Behind q (behind q k)
unfolding behind
lent_behind {q} k l h roomy = record { same = refl; after = omega (arith, mul-le-mul_right (span q.names) l); inside = omega (arith, mul-le-mul_right (span q.names) h, roomy) }

pub lent_room : {q : Square} {w : List ℕ} (k : ℕ) → k ≤ 4 → Lent q w → Room (behind q k) w
unfolding behind
lent_room {q} k h lent = record {
  small = record { few = lent.area.room.small.few; near = omega (arith, mul-le-mul_right (span q.names) h, lent.roomy, lent.area.near) };
  fits = omega (arith, mul-le-mul_right (span q.names) h, lent.roomy, lent.area.lent);
}

span_small : (n : ℕ) → n ≤ most_names → span n ≤ most_cells
unfolding size
span_small n h = omega (arith, span_size n, size_small n h, size_is n)

-- a byte of a row is in the memory, and its place does not wrap
pub row_inside : {q : Square} {w : List ℕ} {x r i : ℕ} → Room q w → x ≤ q.names → i ≤ q.names / 8 → Place q x 0 r → (r + i < length w) × (r + i < farthest + most_cells)
row_inside {q} {x = x} {r = r} {i = i} room h l p =
    let e : r + i ≡ place q x 0 + i = ap (λ (z : ℕ). z + i) p.is in
    (omega (arith, row_byte q x i h l, room.fits), omega (arith, row_byte q x i h l, span_small q.names room.small.few, room.small.near))

-- the number of the bytes of a row
pub row_bytes : (n : ℕ) {r : ℕ} → r ≡ width n → r ≡ n / 8 + 1
unfolding width
row_bytes n e = e

-- the end of a row is in the memory
pub row_ends : {q : Square} {w : List ℕ} {x r : ℕ} (n : ℕ) → Room q w → q.names ≡ n → x ≤ n → Place q x 0 r → r + width n ≤ length w
row_ends n room s h p = omega (arith, (row_inside {i = n / 8} room (omega arith) (omega arith) p).0, row_bytes n refl)

-- the bytes of a row, taken from the memory
pub row_taken : {q : Square} {w : List ℕ} {x r e : ℕ} → Room q w → x ≤ q.names → Place q x 0 r → e ≡ width q.names → RowOf q w x (take (r + e - r) (drop r w))
row_taken {q} {w} {x} {r} {e} room h p f =
    let last = (row_inside {i = q.names / 8} room h (omega arith) p).0 in
    let n : e ≡ q.names / 8 + 1 = row_bytes q.names f in
    let m : r + e - r ≡ q.names / 8 + 1 = omega arith in
    record {
      long = rw m (length-take-le _ _ (omega (arith, length-drop r w)));
      byte = λ i l. get_or-take (r + e - r) (drop r w) i 0 (omega arith) ∙ get_or-drop r w i 0 ∙ ap (λ (z : ℕ). get_or w (z + i) 0) p.is;
    }

-- all marked so far
pub record AllBefore (q : Square) (w : List ℕ) (x from y : ℕ) : Type 0 where
  pub after : from ≤ y
  pub all : (z : ℕ) → from ≤ z → z < y → z ≤ q.names → Marked q w x z

-- the next cell of a row that is not marked
module _ {q : Square} {w : List ℕ} {x from : ℕ} where
  pub all_start : (y : ℕ) → y ≡ from → AllBefore q w x from y
  all_start y e = record { after = omega arith; all = λ z h l k. absurd (omega arith) }

  pub unmarked_here : {y i : ℕ} → y ≤ q.names → AllBefore q w x from y → Place q x y i → (get_or w i 0 / 2 ^ (y % 8) % 2 ≡ 1 → ⊥) → NextUnmarked q w x from (Some y)
  unfolding bit
  unmarked_here l n p e = record { after = n.after; inside = l; there = λ m. e (rw p.is m.is); before = λ z h k. n.all z h k (omega arith) }

  pub all_one : {y i : ℕ} → AllBefore q w x from y → Place q x y i → get_or w i 0 / 2 ^ (y % 8) % 2 ≡ 1 → AllBefore q w x from (y + 1)
  unfolding bit
  all_one {y} {i} n p e = record { after = omega (arith, n.after); all = λ z h l k. by_place z h l k (ℕ_discrete z y) }
    where
      here : Marked q w x y
      here = record { is = rw (← p.is) e }

      by_place : (z : ℕ) → from ≤ z → z < y + 1 → z ≤ q.names → Dec (z ≡ y) → Marked q w x z
      by_place z h l k (yes g) = rw g here
      by_place z h l k (no g) = n.all z h (omega arith) k

  pub all_byte : {y i : ℕ} → AllBefore q w x from y → Place q x y i → get_or w i 0 / 2 ^ (y % 8) ≡ 255 / 2 ^ (y % 8) → AllBefore q w x from (8 * (y / 8) + 8)
  all_byte {y} {i} n p e = record { after = omega (arith, n.after); all = λ z h l k. by_place z h l k (dec_lt z y) }
    where
      by_place : (z : ℕ) → from ≤ z → z < 8 * (y / 8) + 8 → z ≤ q.names → Dec (z < y) → Marked q w x z
      by_place z h l k (yes g) = n.all z h g k
      by_place z h l k (no g) =
          let same : z / 8 ≡ y / 8 = omega arith in
          let there : place q x z ≡ i = sym (place_column q x z) ∙ ap (λ (b : ℕ). place q x 0 + b) same ∙ place_column q x y ∙ sym p.is in
          record { is = rw there (high_bits (get_or w i 0) (y % 8) (z % 8) (omega arith) (omega arith) e) }

  pub unmarked_none : {y : ℕ} → AllBefore q w x from y → q.names < y → NextUnmarked q w x from None
  unmarked_none n l = record { each = λ z h k. n.all z h (omega arith) k }

-- hints
pub hints_none : {p : Square} {w : List ℕ} → Hints p w w
hints_none = record { touches = touches_same; stays = λ i k h. h; fewer = omega arith }

pub hints_further : {p : Square} {u w v : List ℕ} → Hints p u w → Hints p w v → Hints p u v
hints_further f g = record { touches = touches_further f.touches g.touches; stays = λ i k h. g.stays i k (f.stays i k h); fewer = omega (arith, f.fewer, g.fewer) }

pub or_hints : {p : Square} (w : List ℕ) (i m : ℕ) → p.base ≤ i → i < p.base + span p.names → i < length w → Hints p w (or_at w i m)
or_hints w i m f b l = record { touches = set_touches w i _ f b; stays = λ j k h. or_stays w i m j k l h; fewer = or_fewer w i m }

-- one cell
pub column_bit : (y : ℕ) → y % 8 < 8
column_bit y = mod-lt y (zero-lt-suc 7)

-- 1 << k
abbrev mask : ℕ → ℕ
mask y = 1 * 2 ^ (y % 8) % 256

module _ {q : Square} {x y i : ℕ} (w : List ℕ) (p : Place q x y i) where
  byte_marked : bit (get_or w i 0) (y % 8) ≡ 1 → Marked q w x y
  byte_marked h = record { is = rw (← p.is) h }

  marked_byte : Marked q w x y → bit (get_or w i 0) (y % 8) ≡ 1
  marked_byte m = rw p.is m.is

  pub tells_marked : Tells (eqb (get_or w i 0 / 2 ^ (y % 8) % 2) 1) (Marked q w x y)
  unfolding bit
  tells_marked = record { sound = λ e. byte_marked (eqb-true _ _ e); complete = λ m. eq-eqb _ _ (marked_byte m) }

  pub put_found : get_or w i 0 / 2 ^ (y % 8) % 2 ≡ 1 → Put q x y w w false
  unfolding bit
  put_found h = record { extends = extends_same; hints = hints_none; there = byte_marked h; only = λ a b k l m. inl m; less = λ e. not_false e; fresh = λ e. not_false e; same = λ e. refl }

  unset_bit : (get_or w i 0 / 2 ^ (y % 8) % 2 ≡ 1 → ⊥) → bit (get_or w i 0) (y % 8) ≡ 1 → ⊥
  unfolding bit
  unset_bit h e = h e

  pub put_fresh : Room q w → y ≤ q.names → (get_or w i 0 / 2 ^ (y % 8) % 2 ≡ 1 → ⊥) → Put q x y w (or_at w i (mask y)) true
  put_fresh room yb h = record {
    extends = or_extends w i (mask y) (rw p.is (place_from_lem q x y)) p.below inside;
    hints = or_hints w i (mask y) (rw p.is (place_from_lem q x y)) p.below inside;
    there = record { is = rw (← p.is) (or_has w i (mask y) (y % 8) inside (bit_same 8 (y % 8) (column_bit y))) };
    only = λ a b k l m. elim (or_only w i (mask y) _ _ inside m.is) [ inl z ↦ inl (record { is = z }) | inr z ↦ inr (by_bit a b l (z.0 ∙ p.is) z.1 (ℕ_discrete (b % 8) (y % 8))) ];
    less = λ e. or_less w i (mask y) (y % 8) inside (column_bit y) (unset_bit h) (bit_same 8 (y % 8) (column_bit y));
    fresh = λ e m. unset_bit h (marked_byte m);
    same = λ e. not_true e;
  }
    where
      inside : i < length w
      inside = omega (arith, p.below, room.fits)

      by_bit : (a b : ℕ) → b ≤ q.names → place q a b ≡ place q x y → bit (mask y) (b % 8) ≡ 1 → Dec (b % 8 ≡ y % 8) → (a ≡ x) × (b ≡ y)
      by_bit a b l e m (yes z) = place_same q a b x y l yb e z
      by_bit a b l e m (no z) = absurd (omega (arith, bit_other 8 (y % 8) (b % 8) (column_bit y) z))

-- behind the rows of a square they change none of its marks
module _ {q p : Square} {w v : List ℕ} (behind : Behind q p) (hints : Hints p w v) where
  hint_span : span p.names ≡ span q.names
  hint_span = ap span behind.same

  pub hints_extend : Extends q w v
  hints_extend = record {
    frame = record {
      long = hints.touches.long;
      before = λ i h. hints.touches.before i (omega (arith, behind.after));
      past = λ i h. hints.touches.past i (omega (arith, behind.inside, hint_span));
    };
    stays = λ x y m. record { is = hints.stays _ _ m.is };
    fewer = hints.fewer;
  }

  pub no_marks : (x y : ℕ) → x ≤ q.names → y ≤ q.names → Marked q v x y → Marked q w x y
  no_marks x y h l m = record { is = rw (← hints.touches.before (place q x y) (omega (arith, behind.after, place_below q x y h l))) m.is }

pub hints_kept : {q p : Square} {w v : List ℕ} → Behind q p → Hints p w v → Kept q w v
hints_kept behind hints = record { extends = hints_extend behind hints; marks = no_marks behind hints }

pub kept_same : {q : Square} {w : List ℕ} → Kept q w w
kept_same = record { extends = extends_same; marks = λ x y h l m. m }

pub kept_further : {q : Square} {u w v : List ℕ} → Kept q u w → Kept q w v → Kept q u v
kept_further f g = record {
  extends = record {
    frame = frame_further f.extends.frame g.extends.frame;
    stays = λ x y m. g.extends.stays x y (f.extends.stays x y m);
    fewer = omega (arith, f.extends.fewer, g.extends.fewer);
  };
  marks = λ x y h l m. f.marks x y h l (g.marks x y h l m);
}

-- a square p apart from the one that changed
module _ {p q : Square} {w v : List ℕ} (f : Frame q w v) (apart : Apart p q) {x y : ℕ} (h : x ≤ p.names) (l : y ≤ p.names) where
  byte_stays : get_or v (place p x y) 0 ≡ get_or w (place p x y) 0
  byte_stays = elim apart [ inl b ↦ f.before (place p x y) (omega (arith, place_below p x y h l)) | inr b ↦ f.past (place p x y) (omega (arith, place_from_lem p x y)) ]

  pub frame_marked : Marked p w x y → Marked p v x y
  frame_marked m = record { is = rw byte_stays m.is }

  pub marked_frame : Marked p v x y → Marked p w x y
  marked_frame m = record { is = rw (← byte_stays) m.is }

-- zeroed memory
pub zero_unmarked : {q : Square} {w : List ℕ} {x y : ℕ} → get_or w (place q x y) 0 ≡ 0 → Marked q w x y → ⊥
zero_unmarked {y = y} e m = let z : bit 0 (y % 8) ≡ 1 = rw e at m.is in omega (arith, bit_of_zero (y % 8))

pub zeroed_unmarked : {k : ℕ} {q : Square} {w v : List ℕ} → Zeroed k w v → q.base + span q.names ≤ k → Unmarked q v
zeroed_unmarked {k} {q} z r = record { none = λ x y h l m. zero_unmarked (z.zero (place q x y) (omega (arith, place_below q x y h l))) m }

pub frame_unmarked : {p q : Square} {w v : List ℕ} → Frame q w v → Apart p q → Unmarked p w → Unmarked p v
frame_unmarked f apart u = record { none = λ x y h l m. u.none x y h l (marked_frame f apart h l m) }

-- a byte of a row of hints, with more bits
pub hints_more : {p : Square} {w₀ w : List ℕ} {x row i : ℕ} (m : ℕ) → Room p w₀ → x ≤ p.names → i ≤ p.names / 8 → Place p x 0 row → Hints p w₀ w → Hints p w₀ (or_at w (row + i) m)
hints_more {p} {w = w} {x = x} {row = row} {i = i} m room h l at hints =
    let e : row + i ≡ place p x 0 + i = ap (λ (z : ℕ). z + i) at.is in
    hints_further hints (or_hints w (row + i) m (omega (arith, place_from_lem p x 0)) (omega (arith, row_byte p x i h l)) (omega (arith, row_byte p x i h l, room.fits, hints.touches.long)))

pub span_is : (n : ℕ) {r : ℕ} → r ≡ width n → (n + 1) * r ≡ span n
unfolding span
span_is n e = rw (e, add-one)

-- rows filled with 0
pub rows_filled : {q : Square} {w : List ℕ} (k : ℕ) → Room q w → k ≡ span q.names
    → Touches q w (take q.base w ++ (replicate k 0 ++ drop (q.base + k) w)) × Unmarked q (take q.base w ++ (replicate k 0 ++ drop (q.base + k) w))
rows_filled {q} {w} k room e = (touches, record { none = λ x y h l m. zero_unmarked (none (place q x y) (place_from_lem q x y) (omega (arith, place_below q x y h l))) m })
  where
    mid : List ℕ
    mid = replicate k 0 ++ drop (q.base + k) w

    base_fits : q.base ≤ length w
    base_fits = omega (arith, room.fits)

    head : length (take q.base w) ≡ q.base
    head = length-take-le q.base w base_fits

    zeros : length {A = ℕ} (replicate k 0) ≡ k
    zeros = length-replicate k 0

    none : (i : ℕ) → q.base ≤ i → i < q.base + span q.names → get_or (take q.base w ++ mid) i 0 ≡ 0
    none i h l = get_or-append_right (take q.base w) mid q.base i 0 head h ∙ get_or_append_left (replicate k 0) _ 0 (i - q.base) (omega (arith, zeros)) ∙ get_or-replicate k _ 0 0 (omega arith)

    touches : Touches q w (take q.base w ++ mid)
    touches = record {
      long = omega (arith, length-append (take q.base w) mid, length-append (replicate k 0) (drop (q.base + k) w), head, zeros, length-drop (q.base + k) w, room.fits);
      before = λ i h. get_or_append_left (take q.base w) mid 0 i (omega (arith, head)) ∙ get_or-take q.base w i 0 h;
      past = λ i h.
          let j : q.base + k + (i - q.base - k) ≡ i = omega arith in
          get_or-append_right (take q.base w) mid q.base i 0 head (omega arith) ∙ get_or-append_right (replicate k 0) (drop (q.base + k) w) k (i - q.base) 0 zeros (omega arith)
          ∙ get_or-drop (q.base + k) w (i - q.base - k) 0 ∙ ap (λ (p : ℕ). get_or w p 0) j;
    }

-- the k-th square of hints
pub hint_square : {q p : Square} {k : ℕ} → k ≤ 4 → 5 * span q.names ≤ size q.names → p ≡ behind q k → HintSquare q k p
unfolding behind
hint_square {q} {k = k} few roomy is = record {
  is = is;
  names = ap (λ (z : Square). z.names) is;
  room = λ w area. rw is (lent_room k few (record { area = area; roomy = roomy }));
  behind = λ l. rw is (lent_behind k l few roomy);
}
