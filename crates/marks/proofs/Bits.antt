-- Laws of the bits of a byte, and of a byte set to have more of them.
--   bit_or_lem, bit_and_lem, bit_small     a bit of a | b and of a & b; a bit is 0 or 1
--   bit_same, bit_other                1 << k has the bit k and no other
--   within_byte                        where (a | b) ^ b is 0, b has the bits of a;  both_zero: a | b is 0 where both are
--   or_at w i m                         w with the bits of m in its byte i, too: or_stays, or_has, or_only: its bits
--   or_fewer, or_less                  it has no more bits 0; fewer, if a bit is new
use mathlib.Core.Path.{◌≡◌, refl, sym, ap, ◌∙◌}
use mathlib.Core.List.{List, [], ◌∷◌}
use mathlib.Core.Logic.{◌⊎◌, inl, inr}
use Prim.Native.Nat.{ℕ, zero, suc, ◌+◌, ◌-◌, ◌*◌, ◌/◌, ◌%◌, ◌^◌, ◌≤◌, ◌<◌, max, min}
use native.Mathlib.Nat.{mod-lt, div-eq_of_lt, zero-lt-suc, one-mul, not-suc-le-zero, le_of_suc-le-suc}
use native.Mathlib.Omega.{arith}
use native.Mathlib.Decide.{ℕ_discrete, dec_lt}
use lib.Bits.{bit_or, bit_and, bit_xor, differ, or_shr, or_step, and_shr, and_step, xor_shr, xor_step, or_add_and, xor_add_and, and_le_l, and_le_r}
use lib.Pow.{pow_pos, pow-lt, pow-add, shl-shr, shl_exact, shr-shr}
use lib.ListN.{length, get_or, set}
use lib.Seq.{get_or-set_same, get_or-set_other}
use Rattle.marks.specs.Squares.{bit, unset_below, unset}

pub bit_small : (b k : ℕ) → bit b k < 2
unfolding bit
bit_small b k = mod-lt (b / 2 ^ k) (zero-lt-suc 1)

pub bit_of_zero : (k : ℕ) → bit 0 k ≡ 0
unfolding bit
bit_of_zero k = rw (div-eq_of_lt (pow_pos k)) refl

last_of : (b c p q : ℕ) → p < 2 → q < 2 → b ≡ c * 2 + max p q → b % 2 ≡ max p q
last_of b c p q h l e = omega arith

pub bit_or_lem : (a b k : ℕ) → bit (bit_or a b) k ≡ max (bit a k) (bit b k)
unfolding bit
bit_or_lem a b k = rw (or_shr a b k) (last_of _ _ _ _ (bit_small a k) (bit_small b k) (or_step (a / 2 ^ k) (b / 2 ^ k)))

both_last : (b c p q : ℕ) → p < 2 → q < 2 → b ≡ c * 2 + min p q → b % 2 ≡ min p q
both_last b c p q h l e = omega arith

pub bit_and_lem : (a b k : ℕ) → bit (bit_and a b) k ≡ min (bit a k) (bit b k)
unfolding bit
bit_and_lem a b k = rw (and_shr a b k) (both_last _ _ _ _ (bit_small a k) (bit_small b k) (and_step (a / 2 ^ k) (b / 2 ^ k)))

-- the bits of 1 << k, in a number of d bits
mask_is : (d k : ℕ) → k < d → 1 * 2 ^ k % 2 ^ d ≡ 1 * 2 ^ k
mask_is d k h = shl_exact {a = 1} 1 k d (omega arith) (omega arith)

pub bit_same : (d k : ℕ) → k < d → bit (1 * 2 ^ k % 2 ^ d) k ≡ 1
unfolding bit
bit_same d k h = ap (λ (z : ℕ). z / 2 ^ k % 2) (mask_is d k h) ∙ ap (λ (z : ℕ). z % 2) (shl-shr 1 k)

even_power : (d : ℕ) → 2 ^ suc d % 2 ≡ 0
even_power d = omega arith

pub bit_other : (d k j : ℕ) → k < d → (j ≡ k → ⊥) → bit (1 * 2 ^ k % 2 ^ d) j ≡ 0
unfolding bit
bit_other d k j h e = by_order (dec_lt j k)
  where
    masked : {p : ℕ} → 1 * 2 ^ k / 2 ^ j ≡ p → p % 2 ≡ 0 → 1 * 2 ^ k % 2 ^ d / 2 ^ j % 2 ≡ 0
    masked f g = ap (λ (z : ℕ). z / 2 ^ j % 2) (mask_is d k h) ∙ ap (λ (z : ℕ). z % 2) f ∙ g

    by_order : Dec (j < k) → 1 * 2 ^ k % 2 ^ d / 2 ^ j % 2 ≡ 0
    by_order (yes l) =
        let i = k - suc j in
        let s : suc i + j ≡ k = omega arith in
        let p : 1 * 2 ^ k ≡ 2 ^ suc i * 2 ^ j = one-mul (2 ^ k) ∙ ap (λ (z : ℕ). 2 ^ z) (sym s) ∙ pow-add 2 (suc i) j in
        masked (ap (λ (z : ℕ). z / 2 ^ j) p ∙ shl-shr (2 ^ suc i) j) (even_power i)
    by_order (no l) =
        let s : k < j = omega arith in
        masked (ap (λ (z : ℕ). z / 2 ^ j) (one-mul (2 ^ k)) ∙ div-eq_of_lt (pow-lt s)) refl

pub both_zero : (a b : ℕ) → bit_or a b ≡ 0 → (a ≡ 0) × (b ≡ 0)
both_zero a b e = (omega (arith, or_add_and a b, and_le_l a b, and_le_r a b), omega (arith, or_add_and a b, and_le_l a b, and_le_r a b))

pub within_byte : (a b k : ℕ) → bit_xor (bit_or a b) b ≡ 0 → bit a k ≡ 1 → bit b k ≡ 1
within_byte a b k e m =
    let same : bit_or a b ≡ b = omega (arith, xor_add_and (bit_or a b) b, and_le_l (bit_or a b) b, and_le_r (bit_or a b) b) in
    let has : bit b k ≡ max (bit a k) (bit b k) = ap (λ (z : ℕ). bit z k) (sym same) ∙ bit_or_lem a b k in
    omega (arith, bit_small b k)

pub no_high_bit : (b j k : ℕ) → j ≤ k → b / 2 ^ j ≡ 0 → bit b k ≡ 0
unfolding bit
no_high_bit b j k l e =
    let d = k - j in
    let s : j + d ≡ k = omega arith in
    let p : b / 2 ^ k ≡ b / 2 ^ j / 2 ^ d = ap (λ (z : ℕ). b / 2 ^ z) (sym s) ∙ sym (shr-shr b j d) in
    ap (λ (z : ℕ). z % 2) (p ∙ ap (λ (z : ℕ). z / 2 ^ d) e ∙ div-eq_of_lt (pow_pos d))

all_bits : (k : ℕ) → k < 8 → 255 / 2 ^ k % 2 ≡ 1
all_bits zero h = refl
all_bits (suc zero) h = refl
all_bits (suc (suc zero)) h = refl
all_bits (suc (suc (suc zero))) h = refl
all_bits (suc (suc (suc (suc zero)))) h = refl
all_bits (suc (suc (suc (suc (suc zero))))) h = refl
all_bits (suc (suc (suc (suc (suc (suc zero)))))) h = refl
all_bits (suc (suc (suc (suc (suc (suc (suc zero))))))) h = refl
all_bits (suc (suc (suc (suc (suc (suc (suc (suc k)))))))) h = absurd (omega arith)

pub high_bits : (b j k : ℕ) → j ≤ k → k < 8 → b / 2 ^ j ≡ 255 / 2 ^ j → bit b k ≡ 1
unfolding bit
high_bits b j k l h e =
    let d = k - j in
    let s : j + d ≡ k = omega arith in
    let from : (c : ℕ) → c / 2 ^ k ≡ c / 2 ^ j / 2 ^ d = λ c. ap (λ (z : ℕ). c / 2 ^ z) (sym s) ∙ sym (shr-shr c j d) in
    ap (λ (z : ℕ). z % 2) (from b ∙ ap (λ (z : ℕ). z / 2 ^ d) e ∙ sym (from 255)) ∙ all_bits k h

-- bits 0
bit_not_less : (a b k : ℕ) → 1 - bit (bit_or a b) k ≤ 1 - bit a k
bit_not_less a b k = omega (arith, bit_or_lem a b k)

unset_or : (k a b : ℕ) → unset_below k (bit_or a b) ≤ unset_below k a
unfolding unset_below
unset_or zero a b = omega arith
unset_or (suc k) a b = omega (arith, unset_or k a b, bit_not_less a b k)

unset_less : (k a b j : ℕ) → j < k → (bit a j ≡ 1 → ⊥) → bit b j ≡ 1 → unset_below k (bit_or a b) < unset_below k a
unfolding unset_below
unset_less zero a b j h f e = absurd (not-suc-le-zero h)
unset_less (suc k) a b j h f e = by_bit (λ l. unset_less k a b j l f e) (ℕ_discrete j k)
  where
    new : (c d : ℕ) → c < 2 → (c ≡ 1 → ⊥) → d ≡ max c 1 → 1 - d < 1 - c
    new c d l g i = omega arith

    by_bit : (j < k → unset_below k (bit_or a b) < unset_below k a) → Dec (j ≡ k) → unset_below (suc k) (bit_or a b) < unset_below (suc k) a
    by_bit below (yes z) =
        let g : bit (bit_or a b) j ≡ max (bit a j) 1 = bit_or_lem a b j ∙ ap (λ (p : ℕ). max (bit a j) p) e in
        let l : 1 - bit (bit_or a b) k < 1 - bit a k = rw (← z) (new (bit a j) (bit (bit_or a b) j) (bit_small a j) f g) in
        omega (arith, unset_or k a b)
    by_bit below (no z) = omega (arith, below (omega arith), bit_not_less a b k)

-- a byte with more bits
abbrev pub or_at : List ℕ → ℕ → ℕ → List ℕ
or_at w i m = set w i (bit_or (get_or w i 0) m)

pub or_stays : (w : List ℕ) (i m j k : ℕ) → i < length w → bit (get_or w j 0) k ≡ 1 → bit (get_or (or_at w i m) j 0) k ≡ 1
or_stays w i m j k l e = by_place (ℕ_discrete j i)
  where
    by_place : Dec (j ≡ i) → bit (get_or (or_at w i m) j 0) k ≡ 1
    by_place (yes z) =
        let b : bit (get_or w i 0) k ≡ 1 = rw (← z) e in
        rw (z, get_or-set_same w i (bit_or (get_or w i 0) m) 0 l, bit_or_lem (get_or w i 0) m k) (omega (arith, bit_small m k))
    by_place (no z) = rw (get_or-set_other w i j (bit_or (get_or w i 0) m) 0 z) e

pub or_has : (w : List ℕ) (i m k : ℕ) → i < length w → bit m k ≡ 1 → bit (get_or (or_at w i m) i 0) k ≡ 1
or_has w i m k l e = rw (get_or-set_same w i (bit_or (get_or w i 0) m) 0 l, bit_or_lem (get_or w i 0) m k) (omega (arith, bit_small (get_or w i 0) k))

pub or_only : (w : List ℕ) (i m j k : ℕ) → i < length w → bit (get_or (or_at w i m) j 0) k ≡ 1 → (bit (get_or w j 0) k ≡ 1) ⊎ ((j ≡ i) × (bit m k ≡ 1))
or_only w i m j k l e = by_place (ℕ_discrete j i)
  where
    by_bit : (z : j ≡ i) → Dec (bit m k ≡ 1) → max (bit (get_or w i 0) k) (bit m k) ≡ 1 → (bit (get_or w j 0) k ≡ 1) ⊎ ((j ≡ i) × (bit m k ≡ 1))
    by_bit z (yes b) h = inr (z, b)
    by_bit z (no b) h = let c : bit (get_or w i 0) k ≡ 1 = omega (arith, bit_small m k) in inl (rw z c)

    by_place : Dec (j ≡ i) → (bit (get_or w j 0) k ≡ 1) ⊎ ((j ≡ i) × (bit m k ≡ 1))
    by_place (yes z) = by_bit z (ℕ_discrete (bit m k) 1)
        (sym (bit_or_lem (get_or w i 0) m k) ∙ ap (λ (b : ℕ). bit b k) (sym (get_or-set_same w i (bit_or (get_or w i 0) m) 0 l)) ∙ ap (λ (p : ℕ). bit (get_or (or_at w i m) p 0) k)
        (sym z) ∙ e)
    by_place (no z) = inl (rw (get_or-set_other w i j (bit_or (get_or w i 0) m) 0 z) at e)

pub or_fewer : (w : List ℕ) (i m : ℕ) → unset (or_at w i m) ≤ unset w
unfolding unset
or_fewer [] i m = omega arith
or_fewer (b ∷ bs) zero m = omega (arith, unset_or 8 b m)
or_fewer (b ∷ bs) (suc i) m = omega (arith, or_fewer bs i m)

pub or_less : (w : List ℕ) (i m k : ℕ) → i < length w → k < 8 → (bit (get_or w i 0) k ≡ 1 → ⊥) → bit m k ≡ 1 → unset (or_at w i m) < unset w
unfolding unset
or_less [] i m k l h f e = absurd (not-suc-le-zero l)
or_less (b ∷ bs) zero m k l h f e = omega (arith, unset_less 8 b m k h f e)
or_less (b ∷ bs) (suc i) m k l h f e = omega (arith, or_less bs i m k (le_of_suc-le-suc l) h f e)

-- bits of a ^ b
differ_small : (a b : ℕ) → a < 2 → b < 2 → differ a b < 2
differ_small zero b h l = l
differ_small (suc a) zero h l = h
differ_small (suc zero) (suc zero) h l = omega arith
differ_small (suc zero) (suc (suc b)) h l = absurd (omega arith)
differ_small (suc (suc a)) (suc b) h l = absurd (omega arith)

pub bit_xor_lem : (a b k : ℕ) → bit (bit_xor a b) k ≡ differ (bit a k) (bit b k)
unfolding bit
bit_xor_lem a b k = rw (xor_shr a b k) (last (bit_xor (a / 2 ^ k / 2) (b / 2 ^ k / 2)) (differ_small _ _ (bit_small a k) (bit_small b k)) (xor_step (a / 2 ^ k) (b / 2 ^ k)))
  where
    last : {d p : ℕ} (c : ℕ) → p < 2 → d ≡ c * 2 + p → d % 2 ≡ p
    last c h e = omega arith

-- (a | b) ^ b has the bits of a that b has not; 255 ^ b those that b has not
pub outside_bit : (a b k : ℕ) → bit (bit_xor (bit_or a b) b) k ≡ 1 → bit a k ≡ 1
outside_bit a b k e = by_bits (bit a k) (bit b k) (bit_small a k) (bit_small b k) (sym (bit_xor_lem (bit_or a b) b k ∙ ap (λ (z : ℕ). differ z (bit b k)) (bit_or_lem a b k)) ∙ e)
  where
    by_bits : (p q : ℕ) → p < 2 → q < 2 → differ (max p q) q ≡ 1 → p ≡ 1
    by_bits zero zero h l f = f
    by_bits zero (suc zero) h l f = f
    by_bits (suc zero) q h l f = refl
    by_bits zero (suc (suc q)) h l f = absurd (omega arith)
    by_bits (suc (suc p)) q h l f = absurd (omega arith)

pub not_within : (a b k : ℕ) → bit (bit_xor (bit_or a b) b) k ≡ 1 → bit b k ≡ 1 → ⊥
not_within a b k e f = by_bits (bit a k) (bit b k) (bit_small a k) f (sym (bit_xor_lem (bit_or a b) b k ∙ ap (λ (z : ℕ). differ z (bit b k)) (bit_or_lem a b k)) ∙ e)
  where
    by_bits : (p q : ℕ) → p < 2 → q ≡ 1 → differ (max p q) q ≡ 1 → ⊥
    by_bits zero (suc zero) h l g = omega arith
    by_bits (suc zero) (suc zero) h l g = omega arith
    by_bits p zero h l g = omega arith
    by_bits p (suc (suc q)) h l g = omega arith
    by_bits (suc (suc p)) q h l g = omega arith

pub not_outside : (a b k : ℕ) → (bit (bit_xor (bit_or a b) b) k ≡ 1 → ⊥) → bit a k ≡ 1 → bit b k ≡ 1
not_outside a b k f e = by_bits (bit a k) (bit b k) e (bit_small b k) (λ g. f (bit_xor_lem (bit_or a b) b k ∙ ap (λ (z : ℕ). differ z (bit b k)) (bit_or_lem a b k) ∙ g))
  where
    by_bits : (p q : ℕ) → p ≡ 1 → q < 2 → (differ (max p q) q ≡ 1 → ⊥) → q ≡ 1
    by_bits (suc zero) zero h l g = absurd (g refl)
    by_bits (suc zero) (suc zero) h l g = refl
    by_bits zero q h l g = absurd (omega arith)
    by_bits (suc (suc p)) q h l g = absurd (omega arith)
    by_bits (suc zero) (suc (suc q)) h l g = absurd (omega arith)

pub not_bit : (b k : ℕ) → k < 8 → bit (bit_xor 255 b) k ≡ 1 → bit b k ≡ 1 → ⊥
unfolding bit
not_bit b k h e f =
    let g : differ (255 / 2 ^ k % 2) (b / 2 ^ k % 2) ≡ 1 = sym (bit_xor_lem 255 b k) ∙ e in
    let i : differ 1 1 ≡ 1 = sym (ap (λ (z : ℕ). differ z (b / 2 ^ k % 2)) (all_bits k h) ∙ ap (λ (z : ℕ). differ 1 z) f) ∙ g in
    omega arith

pub bit_of_not : (b k : ℕ) → k < 8 → bit_xor 255 b ≡ 0 → bit b k ≡ 1
unfolding bit
bit_of_not b k h e =
    let g : differ (255 / 2 ^ k % 2) (b / 2 ^ k % 2) ≡ 0 = sym (bit_xor_lem 255 b k) ∙ ap (λ (z : ℕ). z / 2 ^ k % 2) e ∙ bit_of_zero k in
    by_bit (b / 2 ^ k % 2) (sym (ap (λ (z : ℕ). differ z (b / 2 ^ k % 2)) (all_bits k h)) ∙ g)
  where
    by_bit : (q : ℕ) → differ 1 q ≡ 0 → q ≡ 1
    by_bit zero i = absurd (omega arith)
    by_bit (suc zero) i = refl
    by_bit (suc (suc q)) i = absurd (omega arith)
