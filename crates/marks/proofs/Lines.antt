-- Laws of lines.
--   tells_has                          a test of a column;  or_added: a line with more bits in a byte
--   join_none, join_more, join_end     a row joined to a line, byte after byte
--   out_start .. out_none              the next column outside a line
--   row_has, has_row                   the columns of a line that is a row are its marks
--   missing_further                    a byte of a row set where a line has nothing
--   column_few, walk_on                the columns of a line, given one after the other;  outside_next, outside_on: those of a row outside a line
--   empty_zeros                        a line of zeros has no column
use mathlib.Core.Path.{◌≡◌, refl, sym, ap, ◌∙◌}
use mathlib.Core.Bool.{Bool, true}
use mathlib.Core.List.{List}
use mathlib.Core.Logic.{◌⊎◌, inl, inr}
use Prim.Native.Nat.{ℕ, suc, ◌+◌, ◌*◌, ◌/◌, ◌%◌, ◌^◌, ◌≤◌, ◌<◌, max, zero}
use native.Mathlib.Omega.{arith}
use native.Mathlib.Decide.{ℕ_discrete}
use lib.ListN.{length, get_or, length-set, replicate}
use lib.Bits.{bit_or, bit_xor}
use lib.Dec.{eqb}
use borrow.Author.Tests.{eqb-true, eq-eqb}
use Rattle.el.proofs.Tests.{Tells}
use Rattle.std.specs.Prelude.{None}
use Rattle.marks.specs.declared.Square.{Square}
use Rattle.marks.specs.Squares.{bit, place, Room, Marked, Put}
use Rattle.marks.specs.Passes.{Grows, more, Pass}
use Rattle.std.specs.Prelude.{Option, Some}
use Rattle.marks.specs.declared.columns.Columns.{Columns}
use Rattle.marks.specs.declared.columns.Outside.{Outside}
use Rattle.marks.specs.Columns.{Walkable, ColumnGiven, WalksOutside, outside_from, OutsideGiven}
use Rattle.marks.specs.Lines.{Has, Empty, Added, RowOf, Joined, NextOutside, Missing, Full}
use Rattle.marks.proofs.Bits.{bit_small, bit_same, bit_other, not_bit, bit_of_zero, bit_or_lem, or_at, or_stays, or_has, or_only}
use Rattle.marks.proofs.Squares.{not_true, place_column, column_bit, or_row}
use Rattle.marks.proofs.Passes.{room_stays, unset_falls, put_grows, grows_further}

-- one column
module _ (k : List ℕ) (y : ℕ) where
  pub tells_has : Tells (eqb (get_or k (y / 8) 0 / 2 ^ (y % 8) % 2) 1) (Has k y)
  unfolding bit
  tells_has = record { sound = λ e. record { is = eqb-true _ _ e }; complete = λ h. eq-eqb _ _ h.is }

  pub or_added : y / 8 < length k → Added y k (or_at k (y / 8) (1 * 2 ^ (y % 8) % 256))
  or_added l = record {
    long = length-set k (y / 8) _;
    stays = λ z h. record { is = or_stays k (y / 8) _ (z / 8) (z % 8) l h.is };
    there = record { is = or_has k (y / 8) _ (y % 8) l (bit_same 8 (y % 8) (column_bit y)) };
    only = λ z h. elim (or_only k (y / 8) _ (z / 8) (z % 8) l h.is) [ inl e ↦ inl (record { is = e }) | inr e ↦ inr (same z e.0 e.1 (ℕ_discrete (z % 8) (y % 8))) ];
  }
    where
      same : (z : ℕ) → z / 8 ≡ y / 8 → bit (1 * 2 ^ (y % 8) % 256) (z % 8) ≡ 1 → Dec (z % 8 ≡ y % 8) → z ≡ y
      same z e b (yes f) = omega arith
      same z e b (no f) = absurd (omega (arith, bit_other 8 (y % 8) (z % 8) (column_bit y) f))

-- a row joined to a line: the first i bytes
pub record JoinedTo (q : Square) (w : List ℕ) (x : ℕ) (k l : List ℕ) (i : ℕ) : Type 0 where
  pub long : length l ≡ length k
  pub stays : (y : ℕ) → Has k y → Has l y
  pub has : (y : ℕ) → y / 8 < i → Marked q w x y → Has l y
  pub only : (y : ℕ) → Has l y → Has k y ⊎ Marked q w x y

module _ {q : Square} {w : List ℕ} {x : ℕ} {k : List ℕ} where
  pub join_none : JoinedTo q w x k k 0
  join_none = record { long = refl; stays = λ y h. h; has = λ y h. absurd (omega arith); only = λ y h. inl h }

  module _ {r l : List ℕ} {i : ℕ} (row : RowOf q w x r) (joined : JoinedTo q w x k l i) where
    pub join_more : i < length r → i < length l → JoinedTo q w x k (or_at l i (get_or r i 0)) (i + 1)
    join_more h b = record {
      long = length-set l i _ ∙ joined.long;
      stays = λ y m. record { is = or_stays l i _ _ _ b (joined.stays y m).is };
      has = λ y e m. by_place y e m (ℕ_discrete (y / 8) i);
      only = λ y m. elim (or_only l i _ _ _ b m.is) [ inl z ↦ joined.only y (record { is = z }) | inr z ↦ inr (record { is = rw (← there y z.0) z.1 }) ];
    }
      where
        there : (y : ℕ) → y / 8 ≡ i → get_or r i 0 ≡ get_or w (place q x y) 0
        there y f = row.byte i (omega (arith, row.long)) ∙ ap (λ (z : ℕ). get_or w (place q x 0 + z) 0) (sym f) ∙ ap (λ (z : ℕ). get_or w z 0) (place_column q x y)

        by_place : (y : ℕ) → y / 8 < i + 1 → Marked q w x y → Dec (y / 8 ≡ i) → Has (or_at l i (get_or r i 0)) y
        by_place y e m (yes f) = record { is = rw f (or_has l i _ (y % 8) b (rw (there y f) m.is)) }
        by_place y e m (no f) = record { is = or_stays l i _ _ _ b (joined.has y (omega arith) m).is }

    pub join_end : length r ≤ i → Joined q w x k l
    join_end h = record { long = joined.long; stays = joined.stays; has = λ y b m. joined.has y (omega (arith, row.long)) m; only = λ y b m. joined.only y m }

-- the next column outside a line
pub record InBefore (q : Square) (w : List ℕ) (x : ℕ) (k : List ℕ) (from y : ℕ) : Type 0 where
  pub after : from ≤ y
  pub has : (z : ℕ) → from ≤ z → z < y → z ≤ q.names → Marked q w x z → Has k z

module _ {q : Square} {w : List ℕ} {x : ℕ} {k : List ℕ} {from : ℕ} where
  pub out_start : (y : ℕ) → y ≡ from → InBefore q w x k from y
  out_start y e = record { after = omega arith; has = λ z h l b m. absurd (omega arith) }

  pub out_none : {y : ℕ} → InBefore q w x k from y → q.names < y → NextOutside q w x k from None
  out_none n l = record { each = λ z h b m. n.has z h (omega arith) b m }

-- a column of a line that is a row
pub row_has : {q : Square} {w k : List ℕ} {x y : ℕ} → RowOf q w x k → y ≤ q.names → Marked q w x y → Has k y
row_has {q} {x = x} {y = y} row h m = record { is = rw (row.byte (y / 8) (omega arith), place_column q x y) m.is }

pub has_row : {q : Square} {w k : List ℕ} {x y : ℕ} → RowOf q w x k → y ≤ q.names → Has k y → Marked q w x y
has_row {q} {x = x} {y = y} row h m = record { is = rw (← place_column q x y, ← row.byte (y / 8) (omega arith)) m.is }

-- what a line has not, marked in a row
pub missing_further : {q : Square} {u w : List ℕ} {k : List ℕ} {x target : ℕ} (i : ℕ) → Grows (Missing k x) q u w → Room q u → x ≤ q.names → i ≤ q.names / 8 → target ≡ place q x 0
    → Grows (Missing k x) q u (or_at w (target + i) (bit_xor 255 (get_or k i 0)))
missing_further {q} {w = w} {k = k} {x = x} {target = target} i g room h l e =
    let b = or_row q w x i target (bit_xor 255 (get_or k i 0)) (room_stays g room) h l e in
    more w _ g b.0 (λ a y f j m. elim (b.1 a y f j m) [ inl z ↦ inl z | inr z ↦ inr (record { row = z.0; not_there = λ n. not_bit (get_or k i 0) (y % 8) (column_bit y) z.2 (rw z.1 at n.is) }) ])

pub or_left : (a b k : ℕ) → bit (bit_or a b) k ≡ 1 → (bit b k ≡ 1 → ⊥) → bit a k ≡ 1
or_left a b k h f = by_bits (bit a k) (bit b k) (bit_small b k) (sym (bit_or_lem a b k) ∙ h) f
  where
    by_bits : (p q : ℕ) → q < 2 → max p q ≡ 1 → (q ≡ 1 → ⊥) → p ≡ 1
    by_bits p zero l e g = omega arith
    by_bits p (suc zero) l e g = absurd (g refl)
    by_bits p (suc (suc q)) l e g = absurd (omega arith)

-- a row marked where a line has nothing, the columns below y
pub record FullTo (q : Square) (k : List ℕ) (x y : ℕ) (w : List ℕ) : Type 0 where
  pub marked : (z : ℕ) → z < y → (Has k z → ⊥) → Marked q w x z

module _ {q : Square} {k : List ℕ} {x : ℕ} where
  pub filled_none : {w : List ℕ} → FullTo q k x 0 w
  filled_none = record { marked = λ z h. absurd (omega arith) }

  pub filled_has : {y : ℕ} {w : List ℕ} → Has k y → FullTo q k x y w → FullTo q k x (y + 1) w
  filled_has {y} {w} h f = record { marked = λ z l n. by_place z l n (ℕ_discrete z y) }
    where
      by_place : (z : ℕ) → z < y + 1 → (Has k z → ⊥) → Dec (z ≡ y) → Marked q w x z
      by_place z l n (yes e) = absurd (n (rw e h))
      by_place z l n (no e) = f.marked z (omega arith) n

  pub filled_there : {y : ℕ} {w : List ℕ} → Marked q w x y → FullTo q k x y w → FullTo q k x (y + 1) w
  filled_there {y} {w} m f = record { marked = λ z l n. by_place z l n (ℕ_discrete z y) }
    where
      by_place : (z : ℕ) → z < y + 1 → (Has k z → ⊥) → Dec (z ≡ y) → Marked q w x z
      by_place z l n (yes e) = rw e m
      by_place z l n (no e) = f.marked z (omega arith) n

  pub filled_end : {y : ℕ} {w : List ℕ} → q.names < y → FullTo q k x y w → Full q k x w
  filled_end h f = record { marked = λ z l n. f.marked z (omega arith) n }

  -- one mark that is new, and then all that the line has not
  pub missing_pass : {y : ℕ} {D : List ℕ → Type 0} {u w v : List ℕ} {r : Bool} → Put q x y u w r → r ≡ true → (Has k y → ⊥) → Grows (Missing k x) q w v → Pass (Missing k x) q D u v true
  missing_pass p e n g = record {
    grows = grows_further (put_grows p (record { row = refl; not_there = n })) g;
    fewer = λ h. omega (arith, p.less e, unset_falls g);
    same = λ h. not_true h;
    done = λ h. not_true h;
  }

-- a line of zeros
pub empty_zeros : (k : ℕ) → Empty (replicate k 0)
empty_zeros k = record { none = λ y h. omega (arith, sym (ap (λ (b : ℕ). bit b (y % 8)) (zeros k (y / 8))) ∙ h.is, bit_of_zero (y % 8)) }
  where
    zeros : (k i : ℕ) → get_or (replicate {A = ℕ} k 0) i 0 ≡ 0
    zeros zero i = refl
    zeros (suc k) zero = refl
    zeros (suc k) (suc i) = zeros k i

-- a walk of columns: each column that it gives is one of the names or ⊤, and it goes on
pub column_few : {n y : ℕ} {s t : Columns} → Walkable n s → ColumnGiven s (Some y) t → y ≤ n
column_few w g = rw w.names at g.column.inside

pub walk_on : {n : ℕ} {r : Option ℕ} {s t : Columns} → Walkable n s → ColumnGiven s r t → Walkable n t
walk_on w g = record { names = g.names ∙ w.names; spans = rw g.line w.spans; few = w.few }

-- a walk of a row without the columns of a line: what it gives is the next column outside the line, and it goes on
module _ {q : Square} {w : List ℕ} {x : ℕ} {k : List ℕ} {s t : Outside} (o : WalksOutside q w x k s) {r : Option ℕ} (g : OutsideGiven s r t) where
  pub outside_next : NextOutside q w x k (outside_from s) r
  outside_next = rw (o.square, o.work, o.row, o.line) at g.column

  pub outside_on : WalksOutside q w x k t
  outside_on = record {
    square = g.square ∙ o.square;
    work = rw g.work o.work;
    row = g.row ∙ o.row;
    line = rw g.line o.line;
    room = o.room;
    inside = o.inside;
    spans = o.spans;
  }
