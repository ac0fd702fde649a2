-- How many pairs are left, and how many rows that allows.
--   marked_opens, marked_fresh     a pair marked: one less has no row, and no more are not asked for
--   asked_opens, asked_fresh       a pair asked for: no more have no row, and one less is not asked for
--   few_marked, few_asked          rows for one mark
--   few_fits, few_small            there is room for as many rows more as one mark takes, and one; their numbers can be kept
use mathlib.Core.Path.{◌≡◌, sym, ◌∙◌}
use mathlib.Core.Bool.{true}
use mathlib.Core.List.{List}
use Prim.Native.Nat.{ℕ, suc, ◌+◌, ◌*◌, ◌≤◌, ◌<◌}
use native.Mathlib.Omega.{arith}
use native.Mathlib.Nat.{mul-le-mul_left, mul-suc}
use native.Mathlib.Decide.{ℕ_discrete}
use borrow.Author.Tests.{le-leb, lt-leb, eq-eqb, ne_eqb, eqb-true}
use lib.Dec.{eqb, leb}
use Rattle.concept_rows.specs.Lent.{rows_needed}
use Rattle.concept_rows.proofs.Bounds.{right_rows_fit}
use Rattle.concept_rows.proofs.Counting.{passing_most, fewer, one_fewer}
use Rattle.witness_below.specs.Cells.{value_at, most_value, CellPut}
use Rattle.witness_below.specs.Tasks.{opens, fresh, Few}
use Rattle.witness_below.proofs.Numbering.{square_few}

module _ {base p v : ℕ} {w u : List ℕ} (put : CellPut base p v w u) (n : ℕ) where
  -- pairs without a row before and after
  still_open : value_at w base p ≤ 1 → (i : ℕ) → leb (value_at u base i) 1 ≡ true → leb (value_at w base i) 1 ≡ true
  still_open l i h = elim (ℕ_discrete i p) [
    | yes z ↦ rw z (le-leb (value_at w base p) 1 l)
    | no z ↦ rw (← put.other i z) h
  ]

  still_fresh : (v ≡ 0 → ⊥) → (i : ℕ) → eqb (value_at u base i) 0 ≡ true → eqb (value_at w base i) 0 ≡ true
  still_fresh d i h = elim (ℕ_discrete i p) [
    | yes z ↦ absurd (d (sym put.here ∙ eqb-true (value_at u base p) 0 (rw z at h)))
    | no z ↦ rw (← put.other i z) h
  ]

  pub marked_opens : p < suc n * suc n → value_at w base p ≤ 1 → 2 ≤ v → opens u base n < opens w base n
  unfolding opens
  marked_opens inside l h = one_fewer (λ q. leb (value_at w base q) 1) (λ q. leb (value_at u base q) 1) (suc n * suc n) (λ i k g. still_open l i g) {i = p} inside
      (le-leb (value_at w base p) 1 l) (lt-leb (value_at u base p) 1 (omega (arith, put.here)))

  pub marked_fresh : (v ≡ 0 → ⊥) → fresh u base n ≤ fresh w base n
  unfolding fresh
  marked_fresh d = fewer (λ q. eqb (value_at w base q) 0) (λ q. eqb (value_at u base q) 0) (suc n * suc n) (λ i k g. still_fresh d i g)

  pub asked_opens : value_at w base p ≤ 1 → opens u base n ≤ opens w base n
  unfolding opens
  asked_opens l = fewer (λ q. leb (value_at w base q) 1) (λ q. leb (value_at u base q) 1) (suc n * suc n) (λ i k g. still_open l i g)

  pub asked_fresh : p < suc n * suc n → value_at w base p ≡ 0 → (v ≡ 0 → ⊥) → fresh u base n < fresh w base n
  unfolding fresh
  asked_fresh inside e d = one_fewer (λ q. eqb (value_at w base q) 0) (λ q. eqb (value_at u base q) 0) (suc n * suc n) (λ i k g. still_fresh d i g) {i = p} inside
      (eq-eqb (value_at w base p) 0 e) (ne_eqb (value_at u base p) 0 (λ z. d (sym put.here ∙ z)))

pub opens_most : (w : List ℕ) (base n : ℕ) → opens w base n ≤ suc n * suc n
unfolding opens
opens_most w base n = passing_most (λ p. leb (value_at w base p) 1) (suc n * suc n)

-- rows
pub few_start : (n open_pairs : ℕ) → open_pairs ≤ suc n * suc n → Few n 0 open_pairs
few_start n q h = record { small = omega arith; fits = omega (arith, mul-le-mul_left {m = q} {n = suc n * suc n} (suc n) h) }

pub few_marked : {n k j q r : ℕ} → Few n k q → r < q → j ≤ k + 15 → j ≤ k + suc n → Few n j r
few_marked {n} {k} {j} {q} {r} few h l m = record {
  small = omega (arith, few.small);
  fits = omega (arith, few.fits, mul-le-mul_left {m = suc r} {n = q} (suc n) h, mul-suc (suc n) r);
}

pub few_asked : {n k q r : ℕ} → Few n k q → r ≤ q → Few n k r
few_asked {n} {k} {q} {r} few h = record { small = omega (arith, few.small); fits = omega (arith, few.fits, mul-le-mul_left {m = r} {n = q} (suc n) h) }

-- with a pair left
pub few_fits : {n k q : ℕ} → Few n k q → 0 < q → k + suc n + 1 ≤ rows_needed n
few_fits {n} {k} {q} few h = right_rows_fit n (suc n) (suc n * suc n) (k + suc n + 1) (omega arith) (omega arith) (omega (arith, few.fits, mul-le-mul_left {m = 1} {n = q} (suc n) h))

pub few_last : {n k q : ℕ} → Few n k q → k + 1 ≤ rows_needed n
few_last {n} {k} {q} few = right_rows_fit n (suc n) (suc n * suc n) (k + 1) (omega arith) (omega arith) (omega (arith, few.fits))

pub few_small : {n k q : ℕ} → n ≤ 1023 → Few n k q → k + 20 ≤ most_value
few_small {n} small few = omega (arith, few.small, square_few n small)
