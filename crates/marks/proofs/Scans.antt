-- Laws of looking through a row block after block.
--   row_at_lem                             the bytes of a row are in the memory;  line_at: those of a line
--   next_start .. next_found           the next bit of a row: none before the first column, in a block, in the row; found in a block
--   next_of_row, column_found          the next mark of a row, and the next column of a line, by it
--   out_found, out_block               the next mark of a row that a line has not
--   words_none .. words_within_row      a row looked through for marks that another row has not
-- Not here: reading a block (WordBits).
use mathlib.Core.Path.{◌≡◌, sym, ap, ◌∙◌}
use mathlib.Core.List.{List}
use Prim.Native.Nat.{ℕ, ◌+◌, ◌-◌, ◌*◌, ◌/◌, ◌%◌, ◌≤◌, ◌<◌}
use native.Mathlib.Omega.{arith}
use native.Mathlib.Decide.{dec_lt, dec_le}
use borrow.Author.Tests.{le-leb, lt-leb}
use lib.Bits.{bit_or, bit_xor}
use lib.ListN.{length, get_or}
use Rattle.std.specs.Bool.{then_some}
use Rattle.std.specs.Prelude.{Option, None, Some, leb}
use Rattle.marks.specs.declared.Square.{Square}
use Rattle.marks.specs.Squares.{bit, place, farthest, most_cells, Place, Room, Marked, Within, NextMarked}
use Rattle.marks.specs.Lines.{Has, Spans, NextColumn, NextOutside}
use Rattle.marks.specs.Words.{ReadBits, block_end, Rest, FirstBit, InRow, RowLies, HasBit, NextBit}
use Rattle.marks.proofs.Bits.{bit_of_zero, both_zero, outside_bit, not_outside, not_within, within_byte}
use Rattle.marks.proofs.Squares.{place_column, row_inside}
use Rattle.marks.proofs.Lines.{InBefore}
use Rattle.marks.proofs.WordBits.{bit_few, end_after}

pub row_at_lem : {q : Square} {w : List ℕ} {x row y : ℕ} → Room q w → x ≤ q.names → y ≤ q.names → Place q x 0 row → InRow q.names w row y
row_at_lem {q} room h l p = let b = row_inside {i = q.names / 8} room h (omega arith) p in record { column = l; inside = b.0; near = omega (arith, b.1) }

pub line_at : {n y : ℕ} {k : List ℕ} → n ≤ 65535 → y ≤ n → Spans n k → InRow n k 0 y
line_at few l s = record { column = l; inside = omega (arith, s.inside); near = omega arith }

-- no bit of a row so far
pub record NoneBefore (n : ℕ) (s : List ℕ) (row from y : ℕ) : Type 0 where
  pub after : from ≤ y
  pub none : (z : ℕ) → from ≤ z → z < y → z ≤ n → HasBit s row z → ⊥

-- the next bit of a row
module _ {n : ℕ} {s : List ℕ} {row from : ℕ} where
  pub next_start : (y : ℕ) → y ≡ from → NoneBefore n s row from y
  next_start y e = record { after = omega arith; none = λ z h l k m. absurd (omega arith) }

  pub next_none : {y : ℕ} → NoneBefore n s row from y → n < y → NextBit n s row from None
  next_none b l = record { each = λ z h k m. b.none z h (omega arith) k m }

module _ {n : ℕ} {s : List ℕ} {row y r : ℕ} (rest : Rest n s row y r) where
  bit_rest : (z : ℕ) → y ≤ z → z < block_end n y → HasBit s row z → bit r (z - y) ≡ 1
  bit_rest z h l m = rest.bits z h l ∙ m.is

  module _ {from : ℕ} (b : NoneBefore n s row from y) where
    pub next_block : {end : ℕ} → end ≡ block_end n y → r ≤ 0 → NoneBefore n s row from end
    next_block {end} f e = rw f (record { after = omega (arith, b.after, end_after n y); none = λ z h l k m. by_order z h l k m (dec_lt z y) })
      where
        nothing : r ≡ 0
        nothing = omega arith

        by_order : (z : ℕ) → from ≤ z → z < block_end n y → z ≤ n → HasBit s row z → Dec (z < y) → ⊥
        by_order z h l k m (yes g) = b.none z h g k m
        by_order z h l k m (no g) =
            let b : bit 0 (z - y) ≡ 1 = rw nothing at (bit_rest z (omega arith) l m) in
            omega (arith, bit_of_zero (z - y))

    module _ {t : ℕ} (first : FirstBit r t) where
      inside_block : y + t < block_end n y
      inside_block = let b = bit_few rest.small first.is in omega (arith, end_after n y)

      before : (z : ℕ) → from ≤ z → z < y + t → z ≤ n → HasBit s row z → ⊥
      before z h l k m = by_order (dec_lt z y)
        where
          by_order : Dec (z < y) → ⊥
          by_order (yes g) = b.none z h g k m
          by_order (no g) = omega (arith, bit_rest z (omega arith) (omega (arith, inside_block)) m, first.none (z - y) (omega arith))

      pub next_found : {o : Option ℕ} → o ≡ then_some (leb (y + t) n) (y + t) → NextBit n s row from o
      next_found e = rw e (by_order (dec_le (y + t) n))
        where
          is : bit r (y + t - y) ≡ 1
          is = let e : y + t - y ≡ t = omega arith in rw e first.is

          by_order : Dec (y + t ≤ n) → NextBit n s row from (then_some (leb (y + t) n) (y + t))
          by_order (yes l) = rw (le-leb _ _ l)
              (record { after = omega (arith, b.after); inside = l; there = record { is = sym (rest.bits (y + t) (omega arith) inside_block) ∙ is }; before = λ z h k m. before z h k (omega arith) m })
          by_order (no l) = let g : n < y + t = omega arith in rw (lt-leb _ _ g) (record { each = λ z h k m. before z h (omega arith) k m })

-- the bits of a row of a square are its marks
module _ {q : Square} {x row : ℕ} (at : Place q x 0 row) where
  bit_place : (z : ℕ) → row + z / 8 ≡ place q x z
  bit_place z = ap (λ (i : ℕ). i + z / 8) at.is ∙ place_column q x z

  pub next_of_row : (w : List ℕ) (from : ℕ) (r : Option ℕ) → NextBit q.names w row from r → NextMarked q w x from r
  next_of_row w from None f = record { each = λ z h k m. f.each z h k (record { is = rw (bit_place z) m.is }) }
  next_of_row w from (Some y) f = record {
    after = f.after;
    inside = f.inside;
    there = record { is = rw (← bit_place y) f.there.is };
    before = λ z h k m. f.before z h k (record { is = rw (bit_place z) m.is });
  }

pub row_lies : {q : Square} {w : List ℕ} {x row : ℕ} → Room q w → x ≤ q.names → Place q x 0 row → RowLies q.names w row
row_lies {q} room h p = let b = row_inside {i = q.names / 8} room h (omega arith) p in record { few = omega (arith, room.small.few); inside = b.0; near = omega (arith, b.1) }

-- the bits of a line are its columns
from_byte_0 : (z : ℕ) → 0 + z / 8 ≡ z / 8
from_byte_0 z = omega arith

pub column_found : (n : ℕ) (k : List ℕ) (from : ℕ) (r : Option ℕ) → NextBit n k 0 from r → NextColumn n k from r
column_found n k from None f = record { each = λ z h l m. f.each z h l (record { is = rw (from_byte_0 z) m.is }) }
column_found n k from (Some y) f = record {
  after = f.after;
  inside = f.inside;
  there = record { is = rw (← from_byte_0 y) f.there.is };
  before = λ z h l m. f.before z h l (record { is = rw (from_byte_0 z) m.is });
}

-- a block of a row
module _ {q : Square} {w : List ℕ} {x row y r : ℕ} (at : Place q x 0 row) (rest : Rest q.names w row y r) where
  cell : (z : ℕ) → row + z / 8 ≡ place q x z
  cell z = ap (λ (i : ℕ). i + z / 8) at.is ∙ place_column q x z

  pub rest_marked : (z : ℕ) → y ≤ z → z < block_end q.names y → bit r (z - y) ≡ 1 → Marked q w x z
  rest_marked z h l e = record { is = rw (← cell z) (sym (rest.bits z h l) ∙ e) }

  pub marked_rest : (z : ℕ) → y ≤ z → z < block_end q.names y → Marked q w x z → bit r (z - y) ≡ 1
  marked_rest z h l m = rest.bits z h l ∙ rw (cell z) m.is

-- a block of a row without the columns of a line
module _ {q : Square} {w k : List ℕ} {x row y r o : ℕ} (at : Place q x 0 row) (rest : Rest q.names w row y r) (line : Rest q.names k 0 y o) where
  line_has : (z : ℕ) → y ≤ z → z < block_end q.names y → bit o (z - y) ≡ 1 → Has k z
  line_has z h l e =
      let i : z / 8 ≡ 0 + z / 8 = omega arith in
      record { is = ap (λ (b : ℕ). bit (get_or k b 0) (z % 8)) i ∙ sym (line.bits z h l) ∙ e }

  has_line : (z : ℕ) → y ≤ z → z < block_end q.names y → Has k z → bit o (z - y) ≡ 1
  has_line z h l m =
      let i : 0 + z / 8 ≡ z / 8 = omega arith in
      line.bits z h l ∙ ap (λ (b : ℕ). bit (get_or k b 0) (z % 8)) i ∙ m.is

  module _ {from : ℕ} (n : InBefore q w x k from y) where
    pub out_block : {end : ℕ} → end ≡ block_end q.names y → bit_xor (bit_or r o) o ≤ 0 → InBefore q w x k from end
    out_block f e = rw f (record { after = omega (arith, n.after, end_after q.names y); has = λ z h l b m. by_order z h l b m (dec_lt z y) })
      where
        nothing : bit_xor (bit_or r o) o ≡ 0
        nothing = omega arith

        by_order : (z : ℕ) → from ≤ z → z < block_end q.names y → z ≤ q.names → Marked q w x z → Dec (z < y) → Has k z
        by_order z h l b m (yes g) = n.has z h g b m
        by_order z h l b m (no g) = line_has z (omega arith) l (within_byte r o (z - y) nothing (marked_rest at rest z (omega arith) l m))

    module _ {t : ℕ} (first : FirstBit (bit_xor (bit_or r o) o) t) where
      out_inside : y + t < block_end q.names y
      out_inside = let b = bit_few rest.small (outside_bit r o t first.is) in omega (arith, end_after q.names y)

      out_before : (z : ℕ) → from ≤ z → z < y + t → z ≤ q.names → Marked q w x z → Has k z
      out_before z h l b m = by_order (dec_lt z y)
        where
          by_order : Dec (z < y) → Has k z
          by_order (yes g) = n.has z h g b m
          by_order (no g) =
              let none : bit (bit_xor (bit_or r o) o) (z - y) ≡ 0 = first.none (z - y) (omega arith) in
              line_has z (omega arith) (omega (arith, out_inside)) (not_outside r o (z - y) (λ e. omega arith) (marked_rest at rest z (omega arith) (omega (arith, out_inside)) m))

      pub out_found : {r : Option ℕ} → r ≡ then_some (leb (y + t) q.names) (y + t) → NextOutside q w x k from r
      out_found e = rw e (by_order (dec_le (y + t) q.names))
        where
          is : bit r (y + t - y) ≡ 1
          is = let e : y + t - y ≡ t = omega arith in rw e (outside_bit r o t first.is)

          line_not : Has k (y + t) → ⊥
          line_not m = let e : y + t - y ≡ t = omega arith in not_within r o t first.is (rw e at (has_line (y + t) (omega arith) out_inside m))

          by_order : Dec (y + t ≤ q.names) → NextOutside q w x k from (then_some (leb (y + t) q.names) (y + t))
          by_order (yes l) = rw (le-leb _ _ l) (record {
            after = omega (arith, n.after);
            inside = l;
            there = record { marked = rest_marked at rest (y + t) (omega arith) out_inside is; out = λ m. line_not m };
            before = λ z h b m. out_before z h b (omega arith) m;
          })
          by_order (no l) = let g : q.names < y + t = omega arith in rw (lt-leb _ _ g) (record { each = λ z h b m. out_before z h (omega arith) b m })

-- the columns below y of one row seen in another
pub record WordsWithin (q : Square) (w : List ℕ) (from to y missing : ℕ) : Type 0 where
  pub marked : missing ≡ 0 → (z : ℕ) → z < y → Marked q w from z → Marked q w to z

pub words_none : {q : Square} {w : List ℕ} {from to missing : ℕ} → WordsWithin q w from to 0 missing
words_none = record { marked = λ e z h. absurd (omega arith) }

-- k bytes more of both rows, from byte i on
pub words_more : {q : Square} {w : List ℕ} {from to source target missing given had : ℕ} (k i : ℕ) → Place q from 0 source → Place q to 0 target
    → ReadBits (8 * k) w (source + i) given → ReadBits (8 * k) w (target + i) had → WordsWithin q w from to (8 * i) missing
    → WordsWithin q w from to (8 * (i + k)) (bit_or missing (bit_xor (bit_or given had) had))
words_more {q} {w} {from} {to} {source} {target} {missing} {given} {had} k i s t g h seen = record { marked = λ e z l m. let b = both_zero missing _ e in by_order z l m b.0 b.1 (dec_lt z (8 * i)) }
  where
    cell_of : {x row : ℕ} → Place q x 0 row → (z : ℕ) → 8 * i ≤ z → row + i + (z - 8 * i) / 8 ≡ place q x z
    cell_of {x} {row} p z b =
        let d : row + i + (z - 8 * i) / 8 ≡ row + z / 8 = omega arith in
        d ∙ ap (λ (j : ℕ). j + z / 8) p.is ∙ place_column q x z

    same_bit : (z : ℕ) → 8 * i ≤ z → (z - 8 * i) % 8 ≡ z % 8
    same_bit z b = omega arith

    by_order : (z : ℕ) → z < 8 * (i + k) → Marked q w from z → missing ≡ 0 → bit_xor (bit_or given had) had ≡ 0 → Dec (z < 8 * i) → Marked q w to z
    by_order z l m e f (yes b) = seen.marked e z b m
    by_order z l m e f (no b) =
        let j = z - 8 * i in
        let o : 8 * i ≤ z = omega arith in
        let n : j < 8 * k = omega arith in
        let x : bit given j ≡ 1 = g.bits j n ∙ rw (cell_of s z o, same_bit z o) m.is in
        let y : bit (get_or w (target + i + j / 8) 0) (j % 8) ≡ 1 = sym (h.bits j n) ∙ within_byte given had j f x in
        record { is = rw (cell_of t z o, same_bit z o) at y }

pub words_within_row : {q : Square} {w : List ℕ} {from to i missing : ℕ} → q.names / 8 < i → WordsWithin q w from to (8 * i) missing → missing ≡ 0 → Within q from to w
words_within_row h seen e = record { marked = λ z l m. seen.marked e z (omega arith) m }

-- a word of a row of whole words is in the memory
pub word_inside : {q : Square} {w : List ℕ} {x row i : ℕ} → Room q w → x ≤ q.names → 56 ≤ q.names % 64 → i ≤ q.names / 8 → i % 8 ≡ 0 → Place q x 0 row
    → (row + i + 8 ≤ length w) × (row + i < farthest + most_cells)
word_inside {q} {row = row} {i = i} room h whole l m p =
    let last : i + 7 ≤ q.names / 8 = omega arith in
    let a = row_inside {i = i + 7} room h last p in
    let b = row_inside {i = i} room h l p in
    (omega (arith, a.0), b.1)
