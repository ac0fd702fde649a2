-- No conjunct of a practice release is defined by a conjunction: conjuncts come from the pool, and the pool has no name of kind 2.
--   HasKind x ks y k           where x is the first name, the kinds ks give the name y the kind k
--   DrawnAs n m pool x ks a    a is the axiom that a name of these draws
use mathlib.Core.Path.{◌≡◌, refl, sym, subst, ◌∙◌}
use mathlib.Core.Bool.{Bool, true, false, false≢true}
use mathlib.Core.Logic.{inl, inr}
use mathlib.Core.List.{List, [], ◌∷◌}
use Prim.Native.Nat.{ℕ, zero, suc, ◌≤◌}
use native.Mathlib.Omega.{arith}
use borrow.Author.Tests.{ne_eqb}
use lib.Dec.{eqb, leb}
use lib.ListN.{length, take, drop}
use Rattle.el.specs.Lists.{In, first, later, pick}
use Rattle.el.specs.Axioms.{Axiom, is_conjunction, parts_of}
use Rattle.el.proofs.Lists.{in_either}
use Rattle.release.specs.Files.{joins, defines, conjunct_defined}
use Rattle.release.proofs.NormalForm.{Defines, Listed, tells_listed}
use Rattle.practice.specs.Draws.{next, after_draws}
use Rattle.practice.specs.Practice.{kinds, pool_from, insert, rising, on_from, conjunction_from, restriction_from, right_from, axiom_from, has_axiom, axioms_for, practice_pool, practice_axioms}
use Rattle.practice.proofs.Orders.{RisingNames, none, more}
use Rattle.practice.proofs.Pools.{pool_rises}

past : {x y : ℕ} {xs : List ℕ} (z : ℕ) → In (x ∷ xs) y → In (x ∷ z ∷ xs) y
past z first = first
past z (later h) = later (later h)

-- members of the names taken are members of the pool
module _ {y : ℕ} where
  in_take : (k : ℕ) {xs : List ℕ} → In (take k xs) y → In xs y
  in_take zero h = elim h [ ]
  in_take (suc k) {xs = []} h = h
  in_take (suc k) {xs = x ∷ xs} first = first
  in_take (suc k) {xs = x ∷ xs} (later h) = later (in_take k h)

  in_drop : (k : ℕ) {xs : List ℕ} → In (drop k xs) y → In xs y
  in_drop zero h = h
  in_drop (suc k) {xs = []} h = h
  in_drop (suc k) {xs = x ∷ xs} h = later (in_drop k h)

  in_insert : (x : ℕ) (xs : List ℕ) → In (insert x xs) y → In (x ∷ xs) y
  unfolding insert
  in_insert x [] h = h
  in_insert x (z ∷ xs) h = by_order (leb x z) (in_insert x xs) h
    where
      by_order : (b : Bool) {v : ℕ} → (In (insert x xs) v → In (x ∷ xs) v) → In (pick b (x ∷ z ∷ xs) (z ∷ insert x xs)) v → In (x ∷ z ∷ xs) v
      by_order true f k = k
      by_order false f first = later first
      by_order false f (later k) = past z (f k)

  in_rising : (xs : List ℕ) → In (rising xs) y → In xs y
  unfolding rising
  in_rising [] h = h
  in_rising (x ∷ xs) h = into (in_insert x (rising xs) h) (in_rising xs)
    where
      into : {v : ℕ} → In (x ∷ rising xs) v → (In (rising xs) v → In xs v) → In (x ∷ xs) v
      into first f = first
      into (later k) f = later (f k)

  in_pool : (pool : List ℕ) (start k : ℕ) → In (rising (on_from pool start k)) y → In pool y
  unfolding on_from
  in_pool pool start k h = elim (in_either pool (in_drop start (in_take k (in_rising (on_from pool start k) h)))) [ inl i ↦ i | inr i ↦ i ]

-- kinds by name
data HasKind : ℕ → List ℕ → ℕ → ℕ → Type 0 where
  here : {x k : ℕ} {ks : List ℕ} → HasKind x (k ∷ ks) x k
  there : {x y j k : ℕ} {ks : List ℕ} → HasKind (suc x) ks y k → HasKind x (j ∷ ks) y k

kind_above : {x y k : ℕ} {ks : List ℕ} → HasKind x ks y k → x ≤ y
kind_above here = omega arith
kind_above (there h) = let l = kind_above h in omega arith

rise_member : {n least y : ℕ} {xs : List ℕ} → RisingNames n least xs → In xs y → least ≤ y
rise_member none h = elim h [ ]
rise_member (more l b r) first = l
rise_member (more l b r) (later h) = let k = rise_member r h in omega arith

pool_kind : {x y : ℕ} (ks : List ℕ) → In (pool_from x ks) y → HasKind x ks y 2 → ⊥
unfolding pool_from
pool_kind [] h w = elim h [ ]
pool_kind {x} (k ∷ ks) h here = let l = rise_member (pool_rises (suc x) ks) h in omega arith
pool_kind {x} (j ∷ ks) h (there w) = by_kind (eqb j 2) h (kind_above w) (λ i. pool_kind ks i w)
  where
    by_kind : (b : Bool) {v : ℕ} → In (pick b (pool_from (suc x) ks) (x ∷ pool_from (suc x) ks)) v → suc x ≤ v → (In (pool_from (suc x) ks) v → ⊥) → ⊥
    by_kind true i l f = f i
    by_kind false first l f = omega arith
    by_kind false (later i) l f = f i

-- each axiom is one that a name drew
record DrawnAs (n m : ℕ) (pool : List ℕ) (x : ℕ) (ks : List ℕ) (a : Axiom) : Type 0 where
  name : ℕ
  kind : ℕ
  state : ℕ
  has : HasKind x ks name kind
  is : a ≡ axiom_from n m pool name kind state

module _ (n m : ℕ) (pool : List ℕ) where
  drawn_later : {x k : ℕ} {ks : List ℕ} {a : Axiom} → DrawnAs n m pool (suc x) ks a → DrawnAs n m pool x (k ∷ ks) a
  drawn_later d = record { name = d.name; kind = d.kind; state = d.state; has = there d.has; is = d.is }

  abbrev DrawnBy : ℕ → List ℕ → List Axiom → Axiom → Type 0
  DrawnBy x ks al a = In al a → DrawnAs n m pool (suc x) ks a

  axioms_drawn : (x : ℕ) (ks : List ℕ) (s : ℕ) {a : Axiom} → In (axioms_for n m pool x ks s) a → DrawnAs n m pool x ks a
  unfolding axioms_for
  axioms_drawn x [] s h = elim h [ ]
  axioms_drawn x (k ∷ ks) s {a} h = by_has (has_axiom (length pool) k) h (λ i. axioms_drawn (suc x) ks (next (next s)) i) (λ i. axioms_drawn (suc x) ks s i)
    where
      by_has : (b : Bool) {e : Axiom} → In (pick b (axiom_from n m pool x k s ∷ axioms_for n m pool (suc x) ks (next (next s))) (axioms_for n m pool (suc x) ks s)) e →
          DrawnBy x ks (axioms_for n m pool (suc x) ks (next (next s))) e →
          DrawnBy x ks (axioms_for n m pool (suc x) ks s) e →
          DrawnAs n m pool x (k ∷ ks) e
      by_has true first f g = record { name = x; kind = k; state = s; has = here; is = refl }
      by_has true (later i) f g = drawn_later (f i)
      by_has false i f g = drawn_later (g i)

  -- its conjuncts are of the pool
  parts_in_pool : (x kind s : ℕ) {y : ℕ} → In (parts_of (axiom_from n m pool x kind s)) y → In pool y
  unfolding axiom_from right_from conjunction_from restriction_from
  parts_in_pool x kind s {y} h = by_kind (joins kind) h
    where
      by_kind : (b : Bool) → In (parts_of (record { left = x; defined = defines kind; right = pick b (conjunction_from pool s) (restriction_from n m s) })) y → In pool y
      by_kind true i = in_pool pool _ _ i
      by_kind false i = elim i [ ]

  -- it defines a conjunction only where its kind is 2
  kind_two : (x kind s : ℕ) → (axiom_from n m pool x kind s).defined ≡ true → is_conjunction (axiom_from n m pool x kind s) ≡ true → kind ≡ 2
  unfolding axiom_from right_from conjunction_from restriction_from
  kind_two x kind s = by_kind kind
    where
      by_kind : (k : ℕ) → defines k ≡ true → is_conjunction (axiom_from n m pool x k s) ≡ true → k ≡ 2
      by_kind zero d j = absurd (false≢true d)
      by_kind (suc zero) d j = absurd (false≢true d)
      by_kind (suc (suc zero)) d j = refl
      by_kind (suc (suc (suc k))) d j = absurd (false≢true (sym (high k) ∙ j))
        where
          high : (i : ℕ) → is_conjunction (axiom_from n m pool x (suc (suc (suc i))) s) ≡ false
          high i = simp (ne_eqb (suc (suc (suc i))) 1 (λ z. omega arith), ne_eqb (suc (suc (suc i))) 2 (λ z. omega arith))

-- refusal 15 is not met
module _ (seed n m : ℕ) where
  abbrev ks : List ℕ
  ks = kinds m n seed

  abbrev pool : List ℕ
  pool = practice_pool seed n m

  abbrev al : List Axiom
  al = axioms_for n m pool 0 ks (after_draws n seed)

  not_listed : Listed al → ⊥
  unfolding practice_pool axiom_from
  not_listed w =
      let a = axioms_drawn n m pool 0 ks (after_draws n seed) w.member in
      let part = w.holds in
      let b = axioms_drawn n m pool 0 ks (after_draws n seed) part.holds.member in
      let in_it : In pool part.it = parts_in_pool n m pool a.name a.kind a.state (subst (λ (z : Axiom). In (parts_of z) part.it) a.is part.member) in
      let defines_it : Defines part.it (axiom_from n m pool b.name b.kind b.state) = subst (Defines part.it) b.is part.holds.holds in
      let two : b.kind ≡ 2 = kind_two n m pool b.name b.kind b.state defines_it.1.0 defines_it.1.1 in
      let name : b.name ≡ part.it = left_name b.name b.kind b.state ∙ defines_it.0 in
      pool_kind ks in_it (subst (λ (k : ℕ). HasKind 0 ks part.it k) two (subst (λ (x : ℕ). HasKind 0 ks x b.kind) name b.has))
    where
      left_name : (x kind s : ℕ) → x ≡ (axiom_from n m pool x kind s).left
      left_name x kind s = refl

  pub practice_fresh : conjunct_defined (practice_axioms seed n m) ≡ false
  unfolding practice_axioms
  practice_fresh = by_test (conjunct_defined al) refl
    where
      by_test : (b : Bool) → conjunct_defined al ≡ b → b ≡ false
      by_test true e = absurd (not_listed ((tells_listed al).sound e))
      by_test false e = refl
