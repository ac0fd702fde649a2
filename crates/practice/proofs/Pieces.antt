-- The pieces of which the bytes of an axiom consist, as the code draws and puts them.
--   names_are_bytes      names of a pool are put as they stand in it
use mathlib.Core.Path.{◌≡◌, refl, sym, ap, ap₂, ◌∙◌}
use mathlib.Core.Bool.{true, false, false≢true}
use mathlib.Core.List.{List, ◌∷◌, ◌++◌}
use Prim.Native.Nat.{ℕ, zero, suc, ◌+◌, ◌-◌, ◌≤◌, ◌<◌}
use native.Mathlib.Nat.{mod-eq_of_lt}
use native.Mathlib.Omega.{arith}
use lib.ListN.{length, take, drop, length-drop}
use lib.Seq.{take-take}
use Rattle.release.specs.Files.{joins, kind_of}
use Rattle.rewriting.specs.Bytes.{number_bytes, names_bytes, filler_number, tail_bytes, axiom_bytes}
use Rattle.practice.specs.Draws.{next, drawn}
use Rattle.practice.specs.Practice.{rising, on_from, filler_from, conjunction_from, restriction_from, right_from, axiom_from, has_axiom}
use Rattle.practice.proofs.Choices.{drawn_below, few_parts, PartsDrawn}
use Rattle.practice.proofs.NameKinds.{high_none}
use Rattle.practice.proofs.Orders.{RisingNames, none, more, on_straight, on_round, on_length, on_rises}

pub names_are_bytes : {n least : ℕ} {xs : List ℕ} → n ≤ 256 → RisingNames n least xs → names_bytes 1 xs ≡ xs
unfolding names_bytes number_bytes
names_are_bytes few none = refl
names_are_bytes few (more {x = x} l b r) = ap₂ (λ (y : ℕ) (ys : List ℕ). y ∷ ys) (mod-eq_of_lt (omega arith)) (names_are_bytes few r)

-- a restriction
pub restriction_bytes : (n m s r d f : ℕ) → r ≡ drawn (next s) m → d ≡ drawn (next (next s)) (n + 1) → f ≡ filler_number 1 (filler_from n d)
    → number_bytes 1 r ++ number_bytes 1 f ≡ tail_bytes 1 (restriction_from n m s)
unfolding tail_bytes restriction_from
restriction_bytes n m s r d f e g h = rw (h, g, e)

-- a conjunction: how many conjuncts are drawn from the pool, and from where on
module _ {n : ℕ} {pool : List ℕ} (few : n ≤ 256) (rises : RisingNames n 0 pool) (s : ℕ) {k start : ℕ} (some : 0 < length pool)
    (parts_are : PartsDrawn (length pool) s k start) where
  pub start_within : start < length pool
  start_within = omega (arith, parts_are.started, drawn_below (next (next s)) (length pool) some)

  pub parts_within : k ≤ length pool
  parts_within = omega (arith, parts_are.counted, (few_parts (length pool) s some).within)

  abbrev pub parts : List ℕ
  parts = rising (on_from pool start k)

  pub conjunction_bytes : number_bytes 1 k ++ parts ≡ tail_bytes 1 (conjunction_from pool s)
  unfolding tail_bytes conjunction_from
  conjunction_bytes =
      let l : length parts ≡ k = on_length pool start k start_within parts_within in
      let bytes : names_bytes 1 parts ≡ parts = names_are_bytes few (on_rises pool rises start k start_within parts_within) in
      rw (← parts_are.started, ← parts_are.counted) (ap₂ (λ (i : ℕ) (xs : List ℕ). number_bytes 1 i ++ xs) (sym l) (sym bytes))

  -- the pool is split at the start
  module _ (on : List ℕ) (is : on ≡ drop start pool) where
    on_end : length on ≡ length pool - start
    on_end = ap length is ∙ length-drop start pool

    pub straight_bytes : k ≤ length on → number_bytes 1 k ++ take k on ≡ tail_bytes 1 (conjunction_from pool s)
    straight_bytes h =
        ap (λ (xs : List ℕ). number_bytes 1 k ++ take k xs) is
        ∙ ap (λ (xs : List ℕ). number_bytes 1 k ++ xs) (sym (on_straight pool rises start k start_within parts_within (omega (arith, on_end, start_within))))
        ∙ conjunction_bytes

    pub first_within : length on < k → k - length on ≤ start
    first_within h = omega (arith, on_end, parts_within, start_within)

    pub round_bytes : (before : List ℕ) → before ≡ take start pool → length on < k → number_bytes 1 k ++ (take (k - length on) before ++ on) ≡ tail_bytes 1 (conjunction_from pool s)
    round_bytes before e h =
        let first : k - length on ≡ start + k - length pool = omega (arith, on_end, start_within) in
        let few_first : start + k - length pool ≤ start = omega (arith, parts_within) in
        let taken : take (k - length on) before ≡ take (start + k - length pool) pool = ap (λ (i : ℕ). take i before) first
        ∙ (ap (take (start + k - length pool)) e ∙ take-take (start + k - length pool) start pool few_first) in
        ap₂ (λ (xs ys : List ℕ). number_bytes 1 k ++ (xs ++ ys)) taken is
        ∙ ap (λ (xs : List ℕ). number_bytes 1 k ++ xs) (sym (on_round pool rises start k start_within parts_within (omega (arith, on_end, start_within))))
        ∙ conjunction_bytes

-- a right side by its kind
module _ (n m : ℕ) (pool : List ℕ) (kind s : ℕ) where
  pub right_joined : joins kind ≡ true → right_from n m pool kind s ≡ conjunction_from pool s
  unfolding right_from
  right_joined e = rw e

  pub right_restricted : joins kind ≡ false → right_from n m pool kind s ≡ restriction_from n m s
  unfolding right_from
  right_restricted e = rw e

-- an axiom of a kind that has one
module _ (n m : ℕ) (pool : List ℕ) (x kind s : ℕ) where
  drawn_kind : (size : ℕ) → has_axiom size kind ≡ true → kind_of (axiom_from n m pool x kind s) ≡ kind
  unfolding axiom_from right_from conjunction_from restriction_from has_axiom
  drawn_kind size = by_kind kind
    where
      by_kind : (k : ℕ) → has_axiom size k ≡ true → kind_of (axiom_from n m pool x k s) ≡ k
      by_kind zero h = absurd (false≢true h)
      by_kind (suc zero) h = refl
      by_kind (suc (suc zero)) h = refl
      by_kind (suc (suc (suc zero))) h = refl
      by_kind (suc (suc (suc (suc zero)))) h = refl
      by_kind (suc (suc (suc (suc (suc k))))) h = absurd (false≢true (sym (high_none size (suc (suc (suc (suc (suc k))))) (omega arith)) ∙ h))

  pub axiom_pieces : (size : ℕ) → has_axiom size kind ≡ true → number_bytes 1 x ++ (number_bytes 1 kind ++ tail_bytes 1 (right_from n m pool kind s)) ≡ axiom_bytes 1 (axiom_from n m pool x kind s)
  unfolding axiom_bytes axiom_from
  axiom_pieces size h = ap (λ (k : ℕ). number_bytes 1 x ++ (number_bytes 1 k ++ tail_bytes 1 (right_from n m pool kind s))) (sym (drawn_kind size h))
