-- The pool rises, and a loop over the names puts it together.
use mathlib.Core.Path.{◌≡◌, sym, ap, subst, ◌∙◌}
use mathlib.Core.Bool.{Bool, true, false}
use mathlib.Core.List.{List, [], ◌∷◌}
use Prim.Native.Nat.{ℕ, suc, ◌+◌, ◌-◌, ◌≤◌, ◌<◌}
use native.Mathlib.Omega.{arith}
use native.Mathlib.Numerals.{add-one}
use lib.Dec.{eqb}
use lib.ListN.{length, take, drop}
use lib.Seq.{take_at}
use Rattle.el.specs.Lists.{pick}
use Rattle.output.specs.Places.{last_place, Put}
use Rattle.output.proofs.Puts.{put_length, put_at_start}
use Rattle.output.proofs.Rest.{Begins, Rest, rest_whole}
use Rattle.practice.specs.Draws.{next}
use Rattle.practice.specs.Practice.{kind_from, kinds, pool_from, practice_pool}
use Rattle.practice.proofs.NameKinds.{kinds_more, kinds_none, kinds_length}
use Rattle.practice.proofs.Orders.{RisingNames, none, more, rise_from, rise_length}

pub pool_rises : (x : ℕ) (ks : List ℕ) → RisingNames (x + length ks) x (pool_from x ks)
unfolding pool_from
pool_rises x [] = none
pool_rises x (k ∷ ks) =
    let e : x + suc (length ks) ≡ suc x + length ks = omega arith in
    rw e (by_kind (eqb k 2) (pool_rises (suc x) ks))
  where
    by_kind : (b : Bool) → RisingNames (suc x + length ks) (suc x) (pool_from (suc x) ks) → RisingNames (suc x + length ks) x (pick b (pool_from (suc x) ks) (x ∷ pool_from (suc x) ks))
    by_kind true r = let h : x ≤ suc x = omega arith in rise_from h r
    by_kind false r =
        let h : x ≤ x = omega arith in
        let b : x < suc x + length ks = omega arith in
        more h b r

pub practice_rises : (seed n m : ℕ) → RisingNames n 0 (practice_pool seed n m)
unfolding practice_pool
practice_rises seed n m =
    let e : 0 + length (kinds m n seed) ≡ n = omega (arith, kinds_length m n seed) in
    rw e at (pool_rises 0 (kinds m n seed))

pub rises_as : (seed n m : ℕ) {pool : List ℕ} → pool ≡ practice_pool seed n m → RisingNames n 0 pool
rises_as seed n m e = rw e (practice_rises seed n m)

pub pool_short : (seed n m : ℕ) → length (practice_pool seed n m) ≤ n
pool_short seed n m = omega (arith, rise_length (practice_rises seed n m))

-- the names from x on that are still to be put, where s is the state before x draws its kind
abbrev pub pool_left : ℕ → ℕ → ℕ → ℕ → List ℕ
pool_left n m x s = pool_from x (kinds m (n - x) s)

pub pool_begun : {o : List ℕ} (seed n m : ℕ) → length o ≤ last_place → Rest o 0 (practice_pool seed n m) o 0 (pool_left n m 0 seed)
unfolding practice_pool
pool_begun {o} seed n m short =
    let whole : n ≡ n - 0 = omega arith in
    subst (λ (k : ℕ). Rest o 0 (practice_pool seed n m) o 0 (pool_from 0 (kinds m k seed))) whole (rest_whole (omega arith) short)

-- a turn: the name x draws this kind, and the state after it is `later`
module _ (m s : ℕ) {n x later kind : ℕ} (more_names : x < n) (state : later ≡ next s) (is : kind ≡ kind_from m (next s)) where
  pub name_kept : eqb kind 2 ≡ false → Begins (pool_left n m x s) (x ∷ []) (pool_left n m (x + 1) later)
  unfolding pool_from
  name_kept e = record { is = ap (pool_from x) (kinds_more m n x s more_names) ∙ rw (rw is at e, state, add-one) }

  name_passed : eqb kind 2 ≡ true → pool_left n m x s ≡ pool_left n m (x + 1) later
  unfolding pool_from
  name_passed e = ap (pool_from x) (kinds_more m n x s more_names) ∙ rw (rw is at e, state, add-one)

  pub pool_passed : {o q whole : List ℕ} {p end : ℕ} → eqb kind 2 ≡ true → Rest o p whole q end (pool_left n m x s) → Rest o p whole q end (pool_left n m (x + 1) later)
  pool_passed {o} {q} {whole} {p} {end} e left = subst (Rest o p whole q end) (name_passed e) left

pub pool_done : (n m x s : ℕ) → n ≤ x → pool_left n m x s ≡ []
unfolding pool_from
pool_done n m x s h = ap (pool_from x) (kinds_none m n x s h)

-- what was put into memory with room for all names
pub record PoolPut (seed n m : ℕ) (q : List ℕ) (size : ℕ) : Type 0 where
  pub within : size ≤ length q
  pub is : take size q ≡ practice_pool seed n m

pub pool_put : (seed n m : ℕ) {o q : List ℕ} {size : ℕ} → n ≤ length o → Put o 0 (practice_pool seed n m) q size → PoolPut seed n m q size
pool_put seed n m {o} {q} {size} room put =
    let pool = practice_pool seed n m in
    let short = pool_short seed n m in
    let long : size ≡ length pool = omega (arith, put.after, put.short, put_length put) in
    record {
      within = omega (arith, put_length put);
      is = ap (take size) (put_at_start put (omega arith)) ∙ take_at pool (drop (length pool) o) size (sym long);
    }
