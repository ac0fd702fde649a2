-- Laws of the refusals of one axiom: which number is met where, in the order in which the bytes are read.
-- Each law's premises are what the code has tested when it answers; `x` is a byte of the file that it has read.
-- Not here: the axioms one after the other (Axioms).
use mathlib.Core.Path.{◌≡◌, refl, ap, ◌∙◌}
use mathlib.Core.Bool.{Bool, true, false, ◌||◌, false≢true}
use mathlib.Core.Logic.{◌⊎◌, inl, inr}
use mathlib.Core.List.{List}
use Prim.Native.Nat.{ℕ, zero, suc, ◌+◌, ◌-◌, ◌≤◌, ◌<◌}
use native.Mathlib.Numerals.{add-one}
use native.Mathlib.Omega.{arith}
use borrow.Author.Tests.{lt-ltb, le-ltb, le-leb, lt-leb, eq-eqb, ne_eqb}
use lib.Dec.{ltb, leb}
use lib.ListN.{length, get_or}
use Rattle.el.specs.Lists.{pick}
use Rattle.release.specs.Files.{number, ends, role_fault, parts_fault, conjunction_fault, restriction_fault, most_conjuncts, top_number, is_filler, joins, restricts}

-- a run of names
pub parts_none : (w n k least : ℕ) (s : List ℕ) (p : ℕ) → k ≤ 0 → parts_fault w n k least s p ≡ 0
unfolding parts_fault
parts_none w n k least s p h = let e : k ≡ 0 = omega arith in rw e

module _ (w n k least : ℕ) (s : List ℕ) (p : ℕ) (more : 0 < k) where
  one_more : parts_fault w n k least s p ≡ parts_fault w n (suc (k - 1)) least s p
  one_more = let e : k ≡ suc (k - 1) = omega arith in ap (λ (j : ℕ). parts_fault w n j least s p) e

  pub parts_7 : length s < p + w → parts_fault w n k least s p ≡ 7
  unfolding parts_fault
  parts_7 h = one_more ∙ simp (parts_fault, lt-ltb _ _ h)

  module _ (within : p + w ≤ length s) (x : ℕ) (e : x ≡ number w s p) where
    pub parts_9 : n ≤ x → parts_fault w n k least s p ≡ 9
    unfolding parts_fault
    parts_9 h = one_more ∙ simp (parts_fault, ← e, le-ltb _ _ within, le-leb _ _ h)

    module _ (small : x < n) where
      pub parts_13 : x < least → parts_fault w n k least s p ≡ 13
      unfolding parts_fault
      parts_13 h = one_more ∙ simp (parts_fault, ← e, le-ltb _ _ within, lt-leb _ _ small, lt-ltb _ _ h)

      pub parts_next : least ≤ x → (j : ℕ) → k ≡ suc j → parts_fault w n k least s p ≡ parts_fault w n j (x + 1) s (p + w)
      unfolding parts_fault
      parts_next h j i = rw i (simp (parts_fault, ← e, le-ltb _ _ within, lt-leb _ _ small, le-ltb _ _ h, add-one))

-- the tails: a conjunction's
module _ (w n : ℕ) (s : List ℕ) (p : ℕ) where
  pub conjunction_7 : length s ≤ p → conjunction_fault w n s p ≡ 7
  unfolding conjunction_fault
  conjunction_7 h = let l : length s < p + 1 = omega arith in simp (conjunction_fault, lt-ltb _ _ l)

  module _ (in_file : p < length s) (x : ℕ) (e : x ≡ get_or s p 0) where
    within : p + 1 ≤ length s
    within = omega arith

    pub conjunction_many : most_conjuncts < x → conjunction_fault w n s p ≡ 12
    unfolding conjunction_fault
    conjunction_many h = simp (conjunction_fault, ← e, le-ltb _ _ within, lt-ltb _ _ h)

    pub conjunction_parts : x ≤ most_conjuncts → conjunction_fault w n s p ≡ parts_fault w n x 0 s (p + 1)
    unfolding conjunction_fault
    conjunction_parts h = simp (conjunction_fault, ← e, le-ltb _ _ within, le-ltb _ _ h)

-- a role: what it meets itself comes before all that is met behind it
module _ (m : ℕ) (s : List ℕ) (p : ℕ) where
  pub role_7 : length s ≤ p → role_fault m s p 0 ≡ 7
  role_7 h = let l : length s < p + 1 = omega arith in rw (lt-ltb _ _ l)

  pub role_11 : p < length s → m ≤ get_or s p 0 → role_fault m s p 0 ≡ 11
  role_11 h f = let l : p + 1 ≤ length s = omega arith in rw (le-ltb _ _ l, le-leb _ _ f)

  pub role_none : p < length s → get_or s p 0 < m → role_fault m s p 0 ≡ 0
  role_none h f = let l : p + 1 ≤ length s = omega arith in rw (le-ltb _ _ l, lt-leb _ _ f)

  pub role_first : (rest : ℕ) → 0 < role_fault m s p 0 → role_fault m s p rest ≡ role_fault m s p 0
  role_first rest some = by_tests (ends 1 s p) (leb m (get_or s p 0)) some
    where
      by_tests : (a b : Bool) → 0 < pick a 7 (pick b 11 0) → ◌≡◌ {A = ℕ} (pick a 7 (pick b 11 rest)) (pick a 7 (pick b 11 0))
      by_tests true b some = refl
      by_tests false true some = refl
      by_tests false false some = absurd (omega arith)

  pub role_passed : (rest : ℕ) → role_fault m s p 0 ≡ 0 → role_fault m s p rest ≡ rest
  role_passed rest none = by_tests (ends 1 s p) (leb m (get_or s p 0)) none
    where
      by_tests : (a b : Bool) → ◌≡◌ {A = ℕ} (pick a 7 (pick b 11 0)) 0 → ◌≡◌ {A = ℕ} (pick a 7 (pick b 11 rest)) rest
      by_tests true b none = absurd (omega arith)
      by_tests false true none = absurd (omega arith)
      by_tests false false none = refl

-- and a restriction's tail
module _ (w n m : ℕ) (s : List ℕ) (p : ℕ) where
  pub restriction_role : 0 < role_fault m s p 0 → restriction_fault w n m s p ≡ role_fault m s p 0
  unfolding restriction_fault
  restriction_role some = role_first m s p _ some

  module _ (none : role_fault m s p 0 ≡ 0) where
    behind_role : restriction_fault w n m s p ≡ pick (ends w s (p + 1)) 7 (pick (is_filler w n (number w s (p + 1))) 0 9)
    unfolding restriction_fault
    behind_role = role_passed m s p _ none

    pub restriction_short : length s < p + 1 + w → restriction_fault w n m s p ≡ 7
    restriction_short h = behind_role ∙ rw (lt-ltb _ _ h)

    module _ (within : p + 1 + w ≤ length s) (f : ℕ) (i : f ≡ number w s (p + 1)) where
      pub restriction_9 : is_filler w n f ≡ false → restriction_fault w n m s p ≡ 9
      restriction_9 h = behind_role ∙ simp (← i, le-ltb _ _ within, h)

      pub restriction_none : is_filler w n f ≡ true → restriction_fault w n m s p ≡ 0
      restriction_none h = behind_role ∙ simp (← i, le-ltb _ _ within, h)

pub is_filler_lem : (w n b : ℕ) → (b < n) ⊎ (b ≡ top_number w) → is_filler w n b ≡ true
is_filler_lem w n b (inl h) = rw (lt-ltb _ _ h)
is_filler_lem w n b (inr e) = rw (eq-eqb _ _ e) (or_true (ltb b n))
  where
    or_true : (t : Bool) → t || true ≡ true
    or_true true = refl
    or_true false = refl

pub no_filler : (w n b : ℕ) → n ≤ b → (b ≡ top_number w → ⊥) → is_filler w n b ≡ false
no_filler w n b h d = simp (le-ltb _ _ h, ne_eqb _ _ d)

-- the kinds
restricts_least : (k : ℕ) → restricts k ≡ true → 3 ≤ k
restricts_least zero h = absurd (false≢true h)
restricts_least (suc zero) h = absurd (false≢true h)
restricts_least (suc (suc zero)) h = absurd (false≢true h)
restricts_least (suc (suc (suc k))) h = omega arith

pub high_not_joins : (k : ℕ) → 3 ≤ k → joins k ≡ false
high_not_joins k h = simp (ne_eqb k 1 (λ e. omega arith), ne_eqb k 2 (λ e. omega arith))

pub restricts_not_joins : (k : ℕ) → restricts k ≡ true → joins k ≡ false
restricts_not_joins k h = high_not_joins k (restricts_least k h)

pub no_kind : (k : ℕ) → (k < 1) ⊎ (5 ≤ k) → (joins k ≡ false) × (restricts k ≡ false)
no_kind k (inl h) = let e : k ≡ 0 = omega arith in rw e (refl, refl)
no_kind k (inr h) = (high_not_joins k (omega arith), simp (ne_eqb k 3 (λ e. omega arith), ne_eqb k 4 (λ e. omega arith)))
