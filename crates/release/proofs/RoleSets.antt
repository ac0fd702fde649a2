-- A set of roles is a word: its bits are its roles.
--   tells_bit                   the test of a role's bit
--   tells_role, tells_no_role   that test where the role may have none, by whether a bit is 1; a role from 32 on is in no set
--   joined, with_role, with_none     a set with more roles
--   met, without                the roles of both of two sets, and those of the first alone
--   tells_empty                 a word is 0 where it has no role;  some_role: where it is not, it has one
--   next_role, no_next          the first role of a set from a place on
use mathlib.Core.Path.{◌≡◌, sym, ap, ◌∙◌}
use mathlib.Core.Logic.{◌⊎◌, inl, inr}
use Prim.Native.Nat.{ℕ, zero, suc, ◌+◌, ◌-◌, ◌*◌, ◌/◌, ◌%◌, ◌^◌, ◌≤◌, ◌<◌, max, min}
use native.Mathlib.Omega.{arith}
use native.Mathlib.Decide.{ℕ_discrete, dec_lt}
use borrow.Author.Tests.{lt-ltb, le-ltb, ne_eqb}
use lib.Bits.{bit_or, bit_and, bit_xor}
use lib.Count.{count_trailing_zeros}
use lib.Dec.{eqb, ltb}
use lib.Pow.{pow_pos}
use native.Mathlib.Nat.{pow-suc}
use Rattle.el.proofs.Tests.{Tells, tells_as, tells_eq, always, never}
use Rattle.marks.specs.Squares.{bit, First, Nowhere}
use Rattle.marks.proofs.Bits.{bit_small, bit_of_zero, bit_or_lem, bit_and_lem, bit_same, bit_other, outside_bit, not_within, not_outside}
use Rattle.marks.proofs.WordBits.{bit_few, bit_shifted, lowest}
use Rattle.release.specs.Roles.{HasRole, NoRole, SomeRole, With, Joined, Met, Without}

pub tells_bit : (set r : ℕ) → Tells (eqb (set / 2 ^ r % 2) 1) (HasRole set r)
unfolding bit
tells_bit set r = tells_as (λ e. record { is = e }) (λ h. h.is) (tells_eq (set / 2 ^ r % 2) 1)

no_role : {set r : ℕ} → set < 2 ^ 32 → 32 ≤ r → HasRole set r → ⊥
no_role l f h = omega (arith, bit_few {d = 32} l h.is)

-- the bit that is looked at is the role's own below 32
module _ {set r : ℕ} (few : set < 2 ^ 32) where
  pub tells_role : set / 2 ^ (r % 32) % 2 ≡ 1 → Tells (ltb r 32) (HasRole set r)
  unfolding bit
  tells_role e = by_size (dec_lt r 32)
    where
      by_size : Dec (r < 32) → Tells (ltb r 32) (HasRole set r)
      by_size (yes l) = let own : r % 32 ≡ r = omega arith in rw (lt-ltb r 32 l) (always (record { is = rw own at e }))
      by_size (no l) = rw (le-ltb r 32 (omega arith)) (never (no_role few (omega arith)))

  pub tells_no_role : (set / 2 ^ (r % 32) % 2 ≡ 1 → ⊥) → Tells (eqb (set / 2 ^ (r % 32) % 2) 1) (HasRole set r)
  unfolding bit
  tells_no_role f = rw (ne_eqb _ 1 f) (never (λ h. by_size h (dec_lt r 32)))
    where
      by_size : HasRole set r → Dec (r < 32) → ⊥
      by_size h (yes l) = let own : r % 32 ≡ r = omega arith in f (rw own h.is)
      by_size h (no l) = no_role few (omega arith) h

-- more roles
either_one : {p q : ℕ} → p < 2 → q < 2 → max p q ≡ 1 → (p ≡ 1) ⊎ (q ≡ 1)
either_one {p} l h e = elim (ℕ_discrete p 1) [ yes f ↦ inl f | no f ↦ inr (omega arith) ]

module _ (a b : ℕ) {r : ℕ} where
  of_either : HasRole (bit_or a b) r → HasRole a r ⊎ HasRole b r
  of_either h = elim (either_one (bit_small a r) (bit_small b r) (sym (bit_or_lem a b r) ∙ h.is)) [ inl e ↦ inl (record { is = e }) | inr e ↦ inr (record { is = e }) ]

  in_either : HasRole a r ⊎ HasRole b r → HasRole (bit_or a b) r
  in_either (inl h) = record { is = omega (arith, bit_or_lem a b r, h.is, bit_small b r) }
  in_either (inr h) = record { is = omega (arith, bit_or_lem a b r, h.is, bit_small a r) }

pub joined : (a b : ℕ) → Joined a b (bit_or a b)
joined a b = record { either = λ r. (of_either a b, in_either a b) }

pub with_role : (set : ℕ) {r : ℕ} → r < 32 → With set r (bit_or set (1 * 2 ^ r % 2 ^ 32))
with_role set {r} l = record { either = λ q. (λ h. by_set (of_either set (1 * 2 ^ r % 2 ^ 32) h), λ w. in_either set (1 * 2 ^ r % 2 ^ 32) (by_role w)) }
  where
    by_place : {q : ℕ} → Dec (q ≡ r) → HasRole (1 * 2 ^ r % 2 ^ 32) q → HasRole set q ⊎ ((q ≡ r) × (r < 32))
    by_place (yes e) h = inr (e, l)
    by_place {q} (no e) h = absurd (omega (arith, bit_other 32 r q l e, h.is))

    by_set : {q : ℕ} → HasRole set q ⊎ HasRole (1 * 2 ^ r % 2 ^ 32) q → HasRole set q ⊎ ((q ≡ r) × (r < 32))
    by_set (inl h) = inl h
    by_set {q} (inr h) = by_place (ℕ_discrete q r) h

    by_role : {q : ℕ} → HasRole set q ⊎ ((q ≡ r) × (r < 32)) → HasRole set q ⊎ HasRole (1 * 2 ^ r % 2 ^ 32) q
    by_role (inl h) = inl h
    by_role (inr w) = inr (record { is = rw w.0 (bit_same 32 r l) })

pub with_none : (set : ℕ) {r : ℕ} → 32 ≤ r → With set r set
with_none set l = record { either = λ q. (inl, λ w. elim w [ inl h ↦ h | inr h ↦ absurd (omega (arith, h.1)) ]) }

-- fewer roles
both_one : {p q : ℕ} → p < 2 → q < 2 → min p q ≡ 1 → (p ≡ 1) × (q ≡ 1)
both_one h l e = (omega arith, omega arith)

pub met : (a b : ℕ) → Met a b (bit_and a b)
met a b = record { both = λ r. (λ h. of_both r h, λ w. record { is = omega (arith, bit_and_lem a b r, w.0.is, w.1.is) }) }
  where
    of_both : (r : ℕ) → HasRole (bit_and a b) r → HasRole a r × HasRole b r
    of_both r h = let w = both_one (bit_small a r) (bit_small b r) (sym (bit_and_lem a b r) ∙ h.is) in (record { is = w.0 }, record { is = w.1 })

pub without : (a b : ℕ) → Without a b (bit_xor (bit_or a b) b)
without a b = record {
  first_alone = λ r. (
    λ h. (record { is = outside_bit a b r h.is }, λ k. not_within a b r h.is k.is),
    λ w. record { is = by_bit r w.0 w.1 (ℕ_discrete (bit (bit_xor (bit_or a b) b) r) 1) },
  );
}
  where
    by_bit : (r : ℕ) → HasRole a r → (HasRole b r → ⊥) → Dec (bit (bit_xor (bit_or a b) b) r ≡ 1) → bit (bit_xor (bit_or a b) b) r ≡ 1
    by_bit r h f (yes e) = e
    by_bit r h f (no k) = absurd (f (record { is = not_outside a b r k h.is }))

-- the first role from a place on
pub empty : NoRole 0
empty = record { none = λ r h. omega (arith, bit_of_zero r, h.is) }

module _ (set from : ℕ) where
  -- the role r is bit r - from of the word that is shifted
  shifted : {r : ℕ} → from ≤ r → bit (set / 2 ^ from) (r - from) ≡ bit set r
  shifted {r} l = bit_shifted set from (r - from) ∙ ap (bit set) (omega arith)

  pub no_next : set / 2 ^ from ≡ 0 → Nowhere (λ r. HasRole set r → ⊥) 31 from
  no_next e = record { each = λ r l f h. empty.none (r - from) (record { is = ap (λ (w : ℕ). bit w (r - from)) (sym e) ∙ shifted l ∙ h.is }) }

  pub next_role : set < 2 ^ 32 → 0 < set / 2 ^ from → First (HasRole set) (λ r. HasRole set r → ⊥) 31 from (from + count_trailing_zeros 32 (set / 2 ^ from))
  next_role l some =
      let w = lowest 32 (set / 2 ^ from) some (omega (arith, pow_pos from)) in
      let k = count_trailing_zeros 32 (set / 2 ^ from) in
      let there : bit set (from + k) ≡ 1 = sym (bit_shifted set from k) ∙ w.is in
      record {
        after = omega arith;
        inside = omega (arith, bit_few {d = 32} l there);
        there = record { is = there };
        before = λ r f h has. omega (arith, shifted f, w.none (r - from) (omega arith), has.is);
      }

pub tells_empty : {set : ℕ} → set < 2 ^ 32 → Tells (eqb set 0) (NoRole set)
tells_empty {set} l = tells_as (λ e. rw e empty) (λ n. by_size n (dec_lt 0 set)) (tells_eq set 0)
  where
    by_size : NoRole set → Dec (0 < set) → set ≡ 0
    by_size n (no f) = omega arith
    by_size n (yes f) = absurd (n.none (count_trailing_zeros 32 set) (record { is = (lowest 32 set f l).is }))

below_power : (n : ℕ) → n < 2 ^ n
below_power zero = omega arith
below_power (suc n) = omega (arith, below_power n, pow-suc 2 n)

pub some_role : {set : ℕ} → (NoRole set → ⊥) → SomeRole set
some_role {set} f = by_size (dec_lt 0 set)
  where
    by_size : Dec (0 < set) → SomeRole set
    by_size (yes l) = record { it = count_trailing_zeros set set; has = record { is = (lowest set set l (below_power set)).is } }
    by_size (no g) = let e : set ≡ 0 = omega arith in absurd (f (rw e empty))
