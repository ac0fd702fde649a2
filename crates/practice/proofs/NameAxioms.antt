-- The axioms of the names from one on, taken one name at a time.
--   axioms_left n m pool x early s     those of the names from x on, where `early` is the state before x draws its kind, and s that before its axiom's draws
--   as_many                            how many there are does not depend on s
use mathlib.Core.Path.{◌≡◌, refl, ap, subst, ◌∙◌}
use mathlib.Core.Bool.{Bool, true, false}
use mathlib.Core.List.{List, [], ◌∷◌}
use Prim.Native.Nat.{ℕ, suc, ◌+◌, ◌-◌, ◌≤◌, ◌<◌}
use native.Mathlib.Omega.{arith}
use native.Mathlib.Numerals.{add-one}
use lib.ListN.{length}
use Rattle.el.specs.Lists.{pick}
use Rattle.el.specs.Axioms.{Axiom}
use Rattle.output.specs.Places.{last_place}
use Rattle.output.proofs.Rest.{Begins, Rest, rest_whole}
use Rattle.rewriting.specs.Bytes.{axiom_bytes, axioms_bytes}
use Rattle.practice.specs.Draws.{next, after_draws}
use Rattle.practice.specs.Practice.{kind_from, kinds, has_axiom, axiom_from, axioms_for, practice_pool, practice_axioms}
use Rattle.practice.proofs.NameKinds.{kinds_more, kinds_none}

unfoldable pub axioms_left : ℕ → ℕ → List ℕ → ℕ → ℕ → ℕ → List Axiom
axioms_left n m pool x early s = axioms_for n m pool x (kinds m (n - x) early) s

pub axioms_all : (seed n m : ℕ) (pool : List ℕ) (s : ℕ) → pool ≡ practice_pool seed n m → s ≡ after_draws n seed → practice_axioms seed n m ≡ axioms_left n m pool 0 seed s
unfolding practice_axioms axioms_left
axioms_all seed n m pool s e f = let z : n - 0 ≡ n = omega arith in rw (z, e, f)

module _ (n m : ℕ) (pool : List ℕ) (x early : ℕ) (more : x < n) (s : ℕ) where
  pub left_has : has_axiom (length pool) (kind_from m (next early)) ≡ true
      → axioms_left n m pool x early s ≡ axiom_from n m pool x (kind_from m (next early)) s ∷ axioms_left n m pool (x + 1) (next early) (next (next s))
  unfolding axioms_left axioms_for
  left_has h = ap (λ (ks : List ℕ). axioms_for n m pool x ks s) (kinds_more m n x early more) ∙ rw (h, add-one)

  pub left_none : has_axiom (length pool) (kind_from m (next early)) ≡ false → axioms_left n m pool x early s ≡ axioms_left n m pool (x + 1) (next early) s
  unfolding axioms_left axioms_for
  left_none h = ap (λ (ks : List ℕ). axioms_for n m pool x ks s) (kinds_more m n x early more) ∙ rw (h, add-one)

pub left_empty : (n m : ℕ) (pool : List ℕ) (x early s : ℕ) → n ≤ x → axioms_left n m pool x early s ≡ []
unfolding axioms_left axioms_for
left_empty n m pool x early s h = ap (λ (ks : List ℕ). axioms_for n m pool x ks s) (kinds_none m n x early h)

as_many : (n m : ℕ) (pool : List ℕ) (x : ℕ) (ks : List ℕ) (s s' : ℕ) → length (axioms_for n m pool x ks s) ≡ length (axioms_for n m pool x ks s')
unfolding axioms_for
as_many n m pool x [] s s' = refl
as_many n m pool x (k ∷ ks) s s' =
    by_has (has_axiom (length pool) k) (as_many n m pool (suc x) ks (next (next s)) (next (next s'))) (as_many n m pool (suc x) ks s s')
  where
    by_has : (b : Bool) → length (axioms_for n m pool (suc x) ks (next (next s))) ≡ length (axioms_for n m pool (suc x) ks (next (next s')))
        → length (axioms_for n m pool (suc x) ks s) ≡ length (axioms_for n m pool (suc x) ks s')
        → length (pick b (axiom_from n m pool x k s ∷ axioms_for n m pool (suc x) ks (next (next s))) (axioms_for n m pool (suc x) ks s))
        ≡ length (pick b (axiom_from n m pool x k s' ∷ axioms_for n m pool (suc x) ks (next (next s'))) (axioms_for n m pool (suc x) ks s'))
    by_has true e f = ap suc e
    by_has false e f = f

-- counted one after the other: of `count` axioms and those of the names from x on there are as many as there are
pub record Counted (seed n m : ℕ) (pool : List ℕ) (x early count : ℕ) : Type 0 where
  pub all : count + length (axioms_left n m pool x early 0) ≡ length (practice_axioms seed n m)
  pub few : count ≤ x

module _ {seed n m : ℕ} {pool : List ℕ} where
  pub none_counted : pool ≡ practice_pool seed n m → Counted seed n m pool 0 seed 0
  unfolding axioms_left
  none_counted e =
      let all = ap length (axioms_all seed n m pool (after_draws n seed) e refl) in
      let same = as_many n m pool 0 (kinds m (n - 0) seed) 0 (after_draws n seed) in
      record { all = omega arith; few = omega arith }

  pub all_counted : {x early count : ℕ} → Counted seed n m pool x early count → n ≤ x → count ≡ length (practice_axioms seed n m)
  all_counted {x} {early} counted h = let none = ap length (left_empty n m pool x early 0 h) in omega (arith, counted.all, none)

-- a turn: the name x draws this kind, and the state after it is `later`
module _ (m : ℕ) (pool : List ℕ) (early : ℕ) {n x later kind : ℕ} (more : x < n) (state : later ≡ next early) (is : kind ≡ kind_from m (next early)) where
  -- counted
  module _ {seed count : ℕ} (counted : Counted seed n m pool x early count) where
    pub one_counted : has_axiom (length pool) kind ≡ true → Counted seed n m pool (x + 1) later (count + 1)
    unfolding axioms_left
    one_counted h =
        let one = ap length (left_has n m pool x early more 0 (rw is at h)) in
        let others = as_many n m pool (x + 1) (kinds m (n - (x + 1)) (next early)) 0 (next (next 0)) in
        rw state (record { all = omega (arith, counted.all); few = omega (arith, counted.few) })

    pub none_more : has_axiom (length pool) kind ≡ false → Counted seed n m pool (x + 1) later count
    none_more h =
        let same = ap length (left_none n m pool x early more 0 (rw is at h)) in
        rw state (record { all = omega (arith, counted.all); few = omega (arith, counted.few) })

  -- put
  pub axiom_begins : (s : ℕ) {t : ℕ} → t ≡ next (next s) → has_axiom (length pool) kind ≡ true
      → Begins (axioms_bytes 1 (axioms_left n m pool x early s)) (axiom_bytes 1 (axiom_from n m pool x kind s)) (axioms_bytes 1 (axioms_left n m pool (x + 1) later t))
  unfolding axioms_bytes
  axiom_begins s e h = record { is = ap (axioms_bytes 1) (left_has n m pool x early more s (rw is at h)) ∙ rw (is, state, e) }

  pub no_axiom : (s : ℕ) {o q whole : List ℕ} {p end : ℕ} → has_axiom (length pool) kind ≡ false
      → Rest o p whole q end (axioms_bytes 1 (axioms_left n m pool x early s)) → Rest o p whole q end (axioms_bytes 1 (axioms_left n m pool (x + 1) later s))
  no_axiom s {o} {q} {whole} {p} {end} h left =
      rw state (subst (λ (al : List Axiom). Rest o p whole q end (axioms_bytes 1 al)) (left_none n m pool x early more s (rw is at h)) left)

pub axioms_begun : {o : List ℕ} {p : ℕ} (seed n m : ℕ) (pool : List ℕ) (s : ℕ) → pool ≡ practice_pool seed n m → s ≡ after_draws n seed → p ≤ last_place → length o ≤ last_place
    → Rest o p (axioms_bytes 1 (practice_axioms seed n m)) o p (axioms_bytes 1 (axioms_left n m pool 0 seed s))
axioms_begun {o} {p} seed n m pool s e f small short =
    let whole = axioms_bytes 1 (practice_axioms seed n m) in
    subst (λ (al : List Axiom). Rest o p whole o p (axioms_bytes 1 al)) (axioms_all seed n m pool s e f) (rest_whole small short)

pub axioms_done : (n m : ℕ) (pool : List ℕ) (x early s : ℕ) → n ≤ x → axioms_bytes 1 (axioms_left n m pool x early s) ≡ []
unfolding axioms_bytes
axioms_done n m pool x early s h = ap (axioms_bytes 1) (left_empty n m pool x early s h)
