-- What holds of an axiom that meets no refusal.
--   Sound w n m least s q    the axiom at place q of s lies in the file, and its numbers are in range
use mathlib.Core.Path.{◌≡◌, refl}
use mathlib.Core.Bool.{Bool, true, false}
use mathlib.Core.Logic.{◌⊎◌, inl, inr}
use mathlib.Core.List.{List}
use Prim.Native.Nat.{ℕ, zero, suc, ◌+◌, ◌*◌, ◌≤◌, ◌<◌}
use native.Mathlib.Omega.{arith}
use native.Mathlib.Nat.{mul-le-mul}
use borrow.Author.Tests.{ltb-false, leb-false}
use lib.Dec.{ltb, leb}
use lib.ListN.{length, get_or}
use Rattle.el.specs.Lists.{pick}
use Rattle.release.specs.Files.{number, most_conjuncts, role_fault, parts_fault, conjunction_fault, restriction_fault, tail_fault, axiom_fault, tail_length, joins, restricts, is_filler}

-- no refusal: the condition does not hold, and no later one
pub passed : (b : Bool) (k rest : ℕ) → pick b (suc k) rest ≡ 0 → (b ≡ false) × (rest ≡ 0)
passed true k rest h = absurd (omega arith)
passed false k rest h = (refl, h)

-- a run of names
pub record Parts (w n k : ℕ) (s : List ℕ) (p : ℕ) : Type 0 where
  pub within : p + w * k ≤ length s
  pub each : (i : ℕ) → i < k → number w s (p + w * i) < n

parts_sound : (w n k least : ℕ) (s : List ℕ) (p : ℕ) → p ≤ length s → parts_fault w n k least s p ≡ 0 → Parts w n k s p
unfolding parts_fault
parts_sound w n zero least s p l h = record { within = omega arith; each = λ i j. absurd (omega arith) }
parts_sound w n (suc k) least s p l h =
    let a = passed (ltb (length s) (p + w)) 6 _ h in
    let b = passed (leb n (number w s p)) 8 _ a.1 in
    let c = passed (ltb (number w s p) least) 12 _ b.1 in
    let r = parts_sound w n k (suc (number w s p)) s (p + w) (ltb-false (length s) (p + w) a.0) c.1 in
    record { within = omega (arith, r.within); each = λ i j. by_place i j (leb-false n (number w s p) b.0) r.each }
  where
    by_place : (i : ℕ) → i < suc k → number w s p < n → ((i : ℕ) → i < k → number w s (p + w + w * i) < n) → number w s (p + w * i) < n
    by_place zero j x f = let e : p + w * 0 ≡ p = omega arith in rw e x
    by_place (suc i) j x f = let e : p + w * suc i ≡ p + w + w * i = omega arith in rw e (f i (omega arith))

pub record Joined (w n : ℕ) (s : List ℕ) (p : ℕ) : Type 0 where
  pub few : get_or s p 0 ≤ most_conjuncts
  pub parts : Parts w n (get_or s p 0) s (p + 1)

conjunction_sound : (w n : ℕ) (s : List ℕ) (p : ℕ) → conjunction_fault w n s p ≡ 0 → Joined w n s p
unfolding conjunction_fault
conjunction_sound w n s p h =
    let a = passed (ltb (length s) (p + 1)) 6 _ h in
    let b = passed (ltb most_conjuncts (get_or s p 0)) 11 _ a.1 in
    record { few = ltb-false most_conjuncts (get_or s p 0) b.0; parts = parts_sound w n (get_or s p 0) 0 s (p + 1) (ltb-false (length s) (p + 1) a.0) b.1 }

-- a role, and what is met behind it
pub role_sound : (m : ℕ) (s : List ℕ) (p rest : ℕ) → role_fault m s p rest ≡ 0 → (p < length s) × ((get_or s p 0 < m) × (rest ≡ 0))
role_sound m s p rest h =
    let a = passed (ltb (length s) (p + 1)) 6 _ h in
    let b = passed (leb m (get_or s p 0)) 10 rest a.1 in
    (omega (arith, ltb-false (length s) (p + 1) a.0), (leb-false m (get_or s p 0) b.0, b.1))

pub record Restricted (w n m : ℕ) (s : List ℕ) (p : ℕ) : Type 0 where
  pub within : p + 1 + w ≤ length s
  pub role : get_or s p 0 < m
  pub filler : is_filler w n (number w s (p + 1)) ≡ true

is_true : (b : Bool) → ◌≡◌ {A = ℕ} (pick b 0 9) 0 → b ≡ true
is_true true h = refl
is_true false h = absurd (omega arith)

restriction_sound : (w n m : ℕ) (s : List ℕ) (p : ℕ) → restriction_fault w n m s p ≡ 0 → Restricted w n m s p
unfolding restriction_fault
restriction_sound w n m s p h =
    let role = role_sound m s p _ h in
    let c = passed (ltb (length s) (p + 1 + w)) 6 _ role.1.1 in
    record { within = ltb-false (length s) (p + 1 + w) c.0; role = role.1.0; filler = is_true _ c.1 }

-- by the kind
pub data Tail (w n m kind : ℕ) (s : List ℕ) (p : ℕ) : Type 0 where
  joined : joins kind ≡ true → Joined w n s p → Tail w n m kind s p
  restricted : joins kind ≡ false → restricts kind ≡ true → Restricted w n m s p → Tail w n m kind s p

pub tail_kind : {w n m kind : ℕ} {s : List ℕ} {p : ℕ} → Tail w n m kind s p → (joins kind ≡ true) ⊎ (restricts kind ≡ true)
tail_kind (joined e j) = inl e
tail_kind (restricted e f r) = inr f

tail_sound : (w n m kind : ℕ) (s : List ℕ) (p : ℕ) → tail_fault w n m kind s p ≡ 0 → Tail w n m kind s p
unfolding tail_fault
tail_sound w n m kind s p h = go (joins kind) (restricts kind) refl refl h
  where
    go : (a b : Bool) → joins kind ≡ a → restricts kind ≡ b → pick a (conjunction_fault w n s p) (pick b (restriction_fault w n m s p) 8) ≡ 0 → Tail w n m kind s p
    go true b e f z = joined e (conjunction_sound w n s p z)
    go false true e f z = restricted e f (restriction_sound w n m s p z)
    go false false e f z = absurd (omega arith)

pub record Sound (w n m least : ℕ) (s : List ℕ) (q : ℕ) : Type 0 where
  pub left : number w s q < n
  pub rises : least ≤ number w s q
  pub tail : Tail w n m (get_or s (q + w) 0) s (q + w + 1)

pub axiom_sound : (w n m least : ℕ) (s : List ℕ) (q : ℕ) → axiom_fault w n m least s q ≡ 0 → Sound w n m least s q
unfolding axiom_fault
axiom_sound w n m least s q h =
    let a = passed (ltb (length s) (q + w)) 6 _ h in
    let b = passed (leb n (number w s q)) 8 _ a.1 in
    let c = passed (ltb (number w s q) least) 9 _ b.1 in
    let d = passed (ltb (length s) (q + w + 1)) 6 _ c.1 in
    record { left = leb-false n (number w s q) b.0; rises = ltb-false (number w s q) least c.0; tail = tail_sound w n m _ s (q + w + 1) d.1 }

-- it ends in the file, and is at most 36 bytes long
pub tail_within : (w n m kind : ℕ) (s : List ℕ) (p : ℕ) → Tail w n m kind s p → (p + tail_length w kind s p ≤ length s) × (w ≤ 2 → tail_length w kind s p ≤ 33)
tail_within w n m kind s p (joined e j) = rw e (omega (arith, j.parts.within), λ h. let l : w * get_or s p 0 ≤ 2 * 16 = mul-le-mul h j.few in omega arith)
tail_within w n m kind s p (restricted e f r) = rw e (omega (arith, r.within), λ h. omega arith)
