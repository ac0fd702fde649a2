-- Two lines of bytes looked at side by side, by a function that is 0 of two bytes with which all is well.
--   SeenIn g k l i missing             if missing is 0, so is g of the first i bytes of k and of l
--   seen_none, seen_more               no byte was looked at; one more
--   seen_within, seen_full             the bytes of two rows, and of a row and a line
use mathlib.Core.Path.{◌≡◌, ap}
use mathlib.Core.List.{List}
use Prim.Native.Nat.{ℕ, ◌+◌, ◌/◌, ◌%◌, ◌<◌, min}
use native.Mathlib.Omega.{arith}
use native.Mathlib.Decide.{ℕ_discrete}
use lib.Bits.{bit_or, bit_xor}
use lib.ListN.{length, get_or}
use Rattle.std.specs.Prelude.{[], ◌∷◌, ◌++◌}
use Rattle.std.proofs.lemmas.List.{length-append}
use Rattle.marks.specs.declared.Square.{Square}
use Rattle.marks.specs.Squares.{bit, Within}
use Rattle.marks.specs.Lines.{RowOf, Spans, Full}
use Rattle.marks.proofs.Bits.{both_zero, within_byte, bit_of_not}
use Rattle.marks.proofs.Squares.{place_column, column_bit}
use Rattle.marks.proofs.Lines.{or_left}

pub record SeenIn (g : ℕ → ℕ → ℕ) (k l : List ℕ) (i missing : ℕ) : Type 0 where
  pub byte : missing ≡ 0 → (j : ℕ) → j < i → g (get_or k j 0) (get_or l j 0) ≡ 0

module _ (g : ℕ → ℕ → ℕ) {k l : List ℕ} where
  pub seen_none : {missing : ℕ} → SeenIn g k l 0 missing
  seen_none = record { byte = λ e j h. absurd (omega arith) }

  pub seen_more : {A : Type 0} (xs : List A) (x : A) {missing a b : ℕ} → a ≡ get_or k (length xs) 0 → b ≡ get_or l (length xs) 0 → SeenIn g k l (length xs) missing
      → SeenIn g k l (length (xs ++ (x ∷ []))) (bit_or missing (g a b))
  seen_more xs x {missing} {a} {b} c d seen = record {
    byte = λ e j h. let z = both_zero missing _ e in by_place j (omega (arith, h, length-append xs (x ∷ []))) z.0 z.1 (ℕ_discrete j (length xs));
  }
    where
      by_place : (j : ℕ) → j < length xs + 1 → missing ≡ 0 → g a b ≡ 0 → Dec (j ≡ length xs) → g (get_or k j 0) (get_or l j 0) ≡ 0
      by_place j h e f (yes z) = rw (z, ← c, ← d) f
      by_place j h e f (no z) = seen.byte e j (omega arith)

abbrev pub lacks : ℕ → ℕ → ℕ
lacks given had = bit_xor (bit_or given had) had

abbrev pub void : ℕ → ℕ → ℕ
void had kept = bit_xor 255 (bit_or had kept)

module _ {q : Square} {w : List ℕ} {k l : List ℕ} {i missing : ℕ} where
  pub seen_within : {from to : ℕ} {r t : List ℕ} → RowOf q w from r → RowOf q w to t → k ≡ r → l ≡ t → i ≡ min (length k) (length l) → SeenIn lacks k l i missing → missing ≡ 0
      → Within q from to w
  seen_within {from} {to} {r} {t} a b same_k same_l n seen e = record {
    marked = λ y h m.
        let inside : y / 8 < i = omega (arith, n, ap length same_k, ap length same_l, a.long, b.long) in
        let given : bit (get_or k (y / 8) 0) (y % 8) ≡ 1 = rw (same_k, a.byte (y / 8) (omega arith), place_column q from y) m.is in
        let had : bit (get_or t (y / 8) 0) (y % 8) ≡ 1 = rw same_l at (within_byte _ _ (y % 8) (seen.byte e (y / 8) inside) given) in
        record { is = rw (← place_column q to y, ← b.byte (y / 8) (omega arith)) had };
  }

  pub seen_full : {x : ℕ} {r t : List ℕ} → RowOf q w x r → Spans q.names t → k ≡ r → l ≡ t → i ≡ min (length k) (length l) → SeenIn void k l i missing → missing ≡ 0 → Full q t x w
  seen_full {x} {r} {t} a spans same_k same_l n seen e = record {
    marked = λ y h f.
        let inside : y / 8 < i = omega (arith, n, ap length same_k, ap length same_l, a.long, spans.inside) in
        let has : bit (bit_or (get_or k (y / 8) 0) (get_or l (y / 8) 0)) (y % 8) ≡ 1 = bit_of_not _ (y % 8) (column_bit y) (seen.byte e (y / 8) inside) in
        let had : bit (get_or k (y / 8) 0) (y % 8) ≡ 1 = or_left _ _ (y % 8) has (λ m. f (record { is = rw same_l at m })) in
        record { is = rw (← place_column q x y, ← a.byte (y / 8) (omega arith), ← same_k) had };
  }
