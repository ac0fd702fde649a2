-- The bytes that specs/Answers computes are the bytes of the comparison, and no others are.
--   comparison_bytes_lem      AreBytes n sig t u (comparison_bytes n sig t u)
--   only_bytes            bytes of a comparison are equal
--   pair_bytes_lem        ArePairBytes m sig t u (pair_bytes m sig t u)
--   only_pair_bytes       bytes of role pairs are equal
use mathlib.Core.Path.{◌≡◌, refl, sym, ap, ◌∙◌}
use mathlib.Core.List.{List}
use Prim.Native.Nat.{ℕ, zero, suc, ◌+◌, ◌*◌, ◌/◌, ◌%◌, ◌<◌}
use native.Mathlib.Nat.{suc-mul, div-add-mod', mod-lt, div-lt_iff_lt-mul, zero-lt-suc}
use native.Mathlib.Omega.{arith}
use lib.ListN.{length, get_or, length-append, get_or-append}
use lib.Seq.{ext_get_or, get_or-append-add}
use Rattle.el.specs.Axioms.{Terminology}
use Rattle.el.specs.Signatures.{Signature}
use Rattle.el.specs.Comparison.{AreBytes, ArePairBytes}
use Rattle.el.specs.Answers.{listed, comparison_bytes, tabled, pair_byte, pair_bytes}
use Rattle.el.specs.Terminologies.{Comparable}
use Rattle.el.proofs.Demand3.{first_table, second_table, forth, back, the_byte, one_byte, the_pair_byte, one_pair_byte}

length_listed : (f : ℕ → ℕ) (n : ℕ) → length (listed f n) ≡ n
length_listed f zero = refl
length_listed f (suc n) = ap suc (length_listed (λ a. f (suc a)) n)

get_d_listed : (f : ℕ → ℕ) (n a : ℕ) → a < n → get_or (listed f n) a 0 ≡ f a
get_d_listed f zero a l = absurd (omega arith)
get_d_listed f (suc n) zero l = refl
get_d_listed f (suc n) (suc a) l = get_d_listed (λ b. f (suc b)) n a (omega arith)

pub comparison_bytes_lem : {n : ℕ} {sig : Signature} {t u : Terminology} → Comparable n sig t u → AreBytes n sig t u (comparison_bytes n sig t u)
comparison_bytes_lem {n} given = record {
  long = length_listed _ n;
  each = λ a a_in. rw (get_d_listed _ n a a_in) (the_byte given (first_table given) (second_table given) (forth given) (back given) a a_in);
}

pub only_bytes : {n : ℕ} {sig : Signature} {t u : Terminology} {bs cs : List ℕ} → AreBytes n sig t u bs → AreBytes n sig t u cs → bs ≡ cs
only_bytes {bs = bs} {cs = cs} p q = ext_get_or 0 bs cs (p.long ∙ sym q.long) (λ a a_in. one_byte (p.each a (omega (arith, p.long))) (q.each a (omega (arith, p.long))))

-- role pairs: rows of m bytes
length_tabled : (f : ℕ → ℕ → ℕ) (m k : ℕ) → length (tabled f m k) ≡ k * m
length_tabled f m zero = omega arith
length_tabled f m (suc k) = rw (length-append, length_listed, length_tabled (λ r. f (suc r)) m k) (omega (arith, suc-mul k m))

get_d_tabled : (f : ℕ → ℕ → ℕ) (m k r s : ℕ) → r < k → s < m → get_or (tabled f m k) (r * m + s) 0 ≡ f r s
get_d_tabled f m zero r s r_in s_in = absurd (omega arith)
get_d_tabled f m (suc k) zero s r_in s_in =
    let place : 0 * m + s ≡ s = omega arith in
    let inside : s < length (listed (f 0) m) = omega (arith, length_listed (f 0) m) in
    rw place (get_or-append (listed (f 0) m) (tabled (λ r. f (suc r)) m k) 0 s inside ∙ get_d_listed (f 0) m s s_in)
get_d_tabled f m (suc k) (suc r) s r_in s_in =
    let place : suc r * m + s ≡ length (listed (f 0) m) + (r * m + s) = omega (arith, suc-mul r m, length_listed (f 0) m) in
    rw place (get_or-append-add (listed (f 0) m) (tabled (λ r. f (suc r)) m k) (r * m + s) 0 ∙ get_d_tabled (λ r. f (suc r)) m k r s (omega arith) s_in)

pub pair_bytes_lem : (m : ℕ) (sig : Signature) (t u : Terminology) → ArePairBytes m sig t u (pair_bytes m sig t u)
pair_bytes_lem m sig t u = record {
  long = length_tabled (pair_byte sig t u) m m;
  each = λ r s r_in s_in. rw (get_d_tabled (pair_byte sig t u) m m r s r_in s_in) (the_pair_byte sig t u r s);
}

-- a place below m × m is the place of a pair
pub only_pair_bytes : {m : ℕ} {sig : Signature} {t u : Terminology} {bs cs : List ℕ} → ArePairBytes m sig t u bs → ArePairBytes m sig t u cs → bs ≡ cs
only_pair_bytes {m = zero} {bs = bs} {cs = cs} p q = ext_get_or 0 bs cs (p.long ∙ sym q.long) (λ i i_in. absurd (omega (arith, p.long)))
only_pair_bytes {m = suc m} {bs = bs} {cs = cs} p q = ext_get_or 0 bs cs (p.long ∙ sym q.long) same_at
  where
    same_at : (i : ℕ) → i < length bs → get_or bs i 0 ≡ get_or cs i 0
    same_at i i_in =
        let small : i < suc m * suc m = rw p.long at i_in in
        let row : i / suc m < suc m = (div-lt_iff_lt-mul (zero-lt-suc m)).1 small in
        let column : i % suc m < suc m = mod-lt i (zero-lt-suc m) in
        let place : i / suc m * suc m + i % suc m ≡ i = div-add-mod' i (suc m) in
        rw place at (one_pair_byte (p.each (i / suc m) (i % suc m) row column) (q.each (i / suc m) (i % suc m) row column))
