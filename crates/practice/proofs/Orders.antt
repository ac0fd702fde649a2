-- Names in rising order.
--   RisingNames n least xs      the names xs rise, each at least `least` and below n
--   rising_turned               names that rise and are turned round are put in order again by `rising`
--   rise_parts                  the start and the end of names that rise, one after the other, rise
--   on_straight, on_round       the names on from a start, in rising order
use mathlib.Core.Path.{◌≡◌, refl, sym, ap, ◌∙◌}
use mathlib.Core.Bool.{Bool, true, false}
use mathlib.Core.List.{List, [], ◌∷◌, ◌++◌, append-nil}
use Prim.Native.Nat.{ℕ, zero, suc, ◌+◌, ◌-◌, ◌≤◌, ◌<◌}
use native.Mathlib.Omega.{arith}
use borrow.Author.Tests.{le-leb, lt-leb, leb-true, leb-false}
use lib.Dec.{leb}
use lib.ListN.{length, take, drop, length-append, length-drop}
use lib.Seq.{length-take-le, take-append-le, drop-append-le, take-append-add}
use Rattle.el.specs.Lists.{pick}
use Rattle.practice.specs.Practice.{insert, rising, on_from}

pub data RisingNames (n : ℕ) : ℕ → List ℕ → Type 0 where
  none : {least : ℕ} → RisingNames n least []
  more : {least x : ℕ} {xs : List ℕ} → least ≤ x → x < n → RisingNames n (suc x) xs → RisingNames n least (x ∷ xs)

pub rise_from : {n least lower : ℕ} {xs : List ℕ} → lower ≤ least → RisingNames n least xs → RisingNames n lower xs
rise_from h none = none
rise_from {lower = lower} h (more {x = y} l b r) = let k : lower ≤ y = omega arith in more k b r

pub rise_below : {n k least : ℕ} {xs : List ℕ} → n ≤ k → RisingNames n least xs → RisingNames k least xs
rise_below h none = none
rise_below {k = k} h (more {x = y} l b r) = let d : y < k = omega arith in more l d (rise_below h r)

pub rise_length : {n least : ℕ} {xs : List ℕ} → RisingNames n least xs → length xs ≤ n - least
rise_length none = omega arith
rise_length {n = n} {least = least} (more {x = y} {xs = xs} l b r) = let k : length xs ≤ n - suc y = rise_length r in omega arith

-- after names in front, the least name still bounds those behind
rise_after : {n least : ℕ} (front : List ℕ) (x : ℕ) (xs : List ℕ) → RisingNames n least (front ++ x ∷ xs) → least ≤ x
rise_after [] x xs (more l b r) = l
rise_after (y ∷ front) x xs (more l b r) = let k : suc y ≤ x = rise_after front x xs r in omega arith

rise_without : {n least : ℕ} (front : List ℕ) (x : ℕ) (xs : List ℕ) → RisingNames n least (front ++ x ∷ xs) → RisingNames n least (front ++ xs)
rise_without {least = least} [] x xs (more l b r) = let k : least ≤ suc x = omega arith in rise_from k r
rise_without (y ∷ front) x xs (more l b r) = more l b (rise_without front x xs r)

insert_first : {n least x : ℕ} (xs : List ℕ) → RisingNames n least (x ∷ xs) → insert x xs ≡ x ∷ xs
unfolding insert
insert_first [] r = refl
insert_first {x = x} (y ∷ xs) (more l b (more k d r)) = let e : leb x y ≡ true = le-leb x y (omega arith) in rw e

insert_after : {n least : ℕ} (front : List ℕ) (x : ℕ) (xs : List ℕ) → RisingNames n least (front ++ x ∷ xs) → insert x (front ++ xs) ≡ front ++ x ∷ xs
unfolding insert
insert_after [] x xs r = insert_first xs r
insert_after (y ∷ front) x xs (more l b r) =
    let k : suc y ≤ x = rise_after front x xs r in
    let e : leb x y ≡ false = lt-leb x y (omega arith) in
    rw e (ap (λ (ys : List ℕ). y ∷ ys) (insert_after front x xs r))

pub rising_same : {n least : ℕ} (xs : List ℕ) → RisingNames n least xs → rising xs ≡ xs
unfolding rising
rising_same [] r = refl
rising_same (x ∷ xs) (more l b r) = ap (insert x) (rising_same xs r) ∙ insert_first xs (more l b r)

pub rising_turned : {n least : ℕ} (front back : List ℕ) → RisingNames n least (front ++ back) → rising (back ++ front) ≡ front ++ back
unfolding rising
rising_turned front [] r =
    let e : front ++ [] ≡ front = append-nil front in
    rising_same front (rw e at r) ∙ sym e
rising_turned front (x ∷ back) r = ap (insert x) (rising_turned front back (rise_without front x back r)) ∙ insert_after front x back r

pub rise_drop : {n least : ℕ} (k : ℕ) {xs : List ℕ} → RisingNames n least xs → RisingNames n least (drop k xs)
rise_drop zero r = r
rise_drop (suc k) none = none
rise_drop {least = least} (suc k) (more {x = y} l b r) = let h : least ≤ suc y = omega arith in rise_from h (rise_drop k r)

pub rise_take : {n least : ℕ} (k : ℕ) {xs : List ℕ} → RisingNames n least xs → RisingNames n least (take k xs)
rise_take zero r = none
rise_take (suc k) none = none
rise_take (suc k) (more l b r) = more l b (rise_take k r)

pub rise_parts : {n least : ℕ} (j k : ℕ) {xs : List ℕ} → j ≤ k → RisingNames n least xs → RisingNames n least (take j xs ++ drop k xs)
rise_parts zero k h r = rise_drop k r
rise_parts (suc j) zero h r = absurd (omega arith)
rise_parts (suc j) (suc k) h none = none
rise_parts (suc j) (suc k) h (more l b r) = more l b (rise_parts j k (omega arith) r)

-- the names on from a start: they end in the pool, or go round its end
module _ {n least : ℕ} (pool : List ℕ) (rises : RisingNames n least pool) (start k : ℕ) (within : start < length pool) (few : k ≤ length pool) where
  straight : start + k ≤ length pool → on_from pool start k ≡ take k (drop start pool)
  unfolding on_from
  straight h =
      let e : drop start (pool ++ pool) ≡ drop start pool ++ pool = drop-append-le start pool pool (omega arith) in
      let l : k ≤ length (drop start pool) = simp length-drop (omega arith) in
      ap (take k) e ∙ take-append-le k (drop start pool) pool l

  pub on_straight : start + k ≤ length pool → rising (on_from pool start k) ≡ take k (drop start pool)
  on_straight h = ap rising (straight h) ∙ rising_same (take k (drop start pool)) (rise_take k (rise_drop start rises))

  round : length pool < start + k → on_from pool start k ≡ drop start pool ++ take (start + k - length pool) pool
  unfolding on_from
  round h =
      let e : drop start (pool ++ pool) ≡ drop start pool ++ pool = drop-append-le start pool pool (omega arith) in
      let l : k ≡ length (drop start pool) + (start + k - length pool) = simp length-drop (omega arith) in
      ap (take k) e ∙ (ap (λ (i : ℕ). take i (drop start pool ++ pool)) l ∙ take-append-add (drop start pool) pool (start + k - length pool))

  pub on_round : length pool < start + k → rising (on_from pool start k) ≡ take (start + k - length pool) pool ++ drop start pool
  on_round h = ap rising (round h) ∙ rising_turned (take (start + k - length pool) pool) (drop start pool) (rise_parts (start + k - length pool) start (omega arith) rises)

pub on_rises : {n : ℕ} (pool : List ℕ) → RisingNames n 0 pool → (start k : ℕ) → start < length pool → k ≤ length pool → RisingNames n 0 (rising (on_from pool start k))
on_rises {n} pool r start k within few = by_end (leb (start + k) (length pool)) refl
  where
    by_end : (b : Bool) → leb (start + k) (length pool) ≡ b → RisingNames n 0 (rising (on_from pool start k))
    by_end true e = rw (on_straight pool r start k within few (leb-true (start + k) (length pool) e)) (rise_take k (rise_drop start r))
    by_end false e =
        let round : length pool < start + k = leb-false (start + k) (length pool) e in
        rw (on_round pool r start k within few round) (rise_parts (start + k - length pool) start (omega arith) r)

-- there are k of them
insert_length : (x : ℕ) (xs : List ℕ) → length (insert x xs) ≡ suc (length xs)
unfolding insert
insert_length x [] = refl
insert_length x (y ∷ xs) = by_order (leb x y) (insert_length x xs)
  where
    by_order : (b : Bool) → length (insert x xs) ≡ suc (length xs) → length (pick b (x ∷ y ∷ xs) (y ∷ insert x xs)) ≡ suc (suc (length xs))
    by_order true h = refl
    by_order false h = ap suc h

rising_length : (xs : List ℕ) → length (rising xs) ≡ length xs
unfolding rising
rising_length [] = refl
rising_length (x ∷ xs) = insert_length x (rising xs) ∙ ap suc (rising_length xs)

pub on_length : (pool : List ℕ) (start k : ℕ) → start < length pool → k ≤ length pool → length (rising (on_from pool start k)) ≡ k
unfolding on_from
on_length pool start k within few =
    let l : k ≤ length (drop start (pool ++ pool)) = simp (length-drop, length-append) (omega arith) in
    rising_length (on_from pool start k) ∙ length-take-le k (drop start (pool ++ pool)) l
