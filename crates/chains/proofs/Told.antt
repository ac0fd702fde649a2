-- What is told of two accepted releases over a signature, and so by a chain of them, whoever tells it: a comparison or a sheet.
--   BytesTold g s t                bytes of the comparison of two accepted releases
--   chosen_below                   a chosen name is one of the release's;  left_told, right_told: a name reported is chosen, and has a witness
--   left_steps, right_steps        a name reported across is reported in some step
--   PairsTold g s t, pair_steps    the same of the bytes of role pairs
--   no_side                        a byte on no side is 0
use mathlib.Core.Path.{◌≡◌, refl, sym, ap, ap₂, subst, ◌∙◌}
use mathlib.Core.Logic.{◌⊎◌, inl, inr}
use mathlib.Core.Bool.{true, false, false≢true}
use mathlib.Core.List.{List}
use Prim.Native.Nat.{ℕ, zero, suc, ◌+◌, ◌*◌, ◌≤◌, ◌<◌}
use native.Mathlib.Omega.{arith}
use borrow.Author.Tests.{ltb-true, ltb-false}
use lib.Dec.{ltb}
use lib.ListN.{get_or, get_or-eq_default}
use Rattle.el.specs.Signatures.{Signature, LeftWitness, RightWitness, RoleWitness}
use Rattle.el.specs.Comparison.{on_left, on_right, AreBytes, ArePairBytes}
use Rattle.el.proofs.Tests.{which, and_left}
use Rattle.el.proofs.Demand3.{pair_skipped}
use Rattle.release.specs.Files.{names_of, roles_of, content_of}
use Rattle.signature.specs.Bytes.{signature_of}
use Rattle.demands.specs.Inputs.{Accepted, chosen}
use Rattle.demands.proofs.Files.{comparable}
use Rattle.chains.specs.Chains.{last_from, Steps, SomeStep}
use Rattle.chains.proofs.Chains.{some_step}
use Rattle.chains.proofs.Witnesses.{left_in_step, right_in_step}

pub record BytesTold (g s t : List ℕ) : Type 0 where
  pub accepted : Accepted s t g
  pub bytes : List ℕ
  pub are : AreBytes (names_of s) (chosen s g) (content_of s) (content_of t) bytes

abbrev pub byte_told : {g s t : List ℕ} → BytesTold g s t → ℕ → ℕ
byte_told r a = get_or r.bytes a 0

-- a chosen name with a witness
abbrev pub IsLeft : Signature → List ℕ → List ℕ → ℕ → Type 0
IsLeft sig s t a = (sig.has_name a ≡ true) × LeftWitness sig (content_of s) (content_of t) a

abbrev pub IsRight : Signature → List ℕ → List ℕ → ℕ → Type 0
IsRight sig s t a = (sig.has_name a ≡ true) × RightWitness sig (content_of s) (content_of t) a

module _ {g s t : List ℕ} (r : BytesTold g s t) (a : ℕ) where
  pub chosen_below : (chosen s g).has_name a ≡ true → a < names_of s
  chosen_below h = (comparable r.accepted).names_in a h

  -- the byte of a name that is not chosen, or is none
  not_chosen : (chosen s g).has_name a ≡ false → byte_told r a ≡ 0
  not_chosen h = elim (which (ltb a (names_of s))) [
    | inl e ↦ (r.are.each a (ltb-true _ _ e)).outside h
    | inr e ↦ (let l : names_of s ≤ a = ltb-false _ _ e in get_or-eq_default r.bytes 0 (omega (arith, r.are.long)))
  ]

  pub left_told : on_left (byte_told r a) ≡ true → IsLeft (chosen s g) s t a
  left_told h = elim (which ((chosen s g).has_name a)) [
    | inl e ↦ (e, ((r.are.each a (chosen_below e)).left e).0 h)
    | inr e ↦ absurd (false≢true (sym (ap on_left (not_chosen e)) ∙ h))
  ]

  pub right_told : on_right (byte_told r a) ≡ true → IsRight (chosen s g) s t a
  right_told h = elim (which ((chosen s g).has_name a)) [
    | inl e ↦ (e, ((r.are.each a (chosen_below e)).right e).0 h)
    | inr e ↦ absurd (false≢true (sym (ap on_right (not_chosen e)) ∙ h))
  ]

  -- the signature is the same for the next release
  same_signature : chosen s g ≡ chosen t g
  same_signature = ap₂ (λ (n m : ℕ). signature_of n m g) r.accepted.names r.accepted.roles

  pub left_passed_on : (u : List ℕ) → IsLeft (chosen s g) s u a → (on_left (byte_told r a) ≡ true) ⊎ IsLeft (chosen t g) t u a
  left_passed_on u w = elim (left_in_step (comparable r.accepted) a (chosen_below w.0) w.1) [
    | inl here ↦ inl (((r.are.each a (chosen_below w.0)).left w.0).1 here)
    | inr after ↦ inr (subst (λ sig. IsLeft sig t u a) same_signature (w.0, after))
  ]

  pub right_passed_on : (u : List ℕ) → IsRight (chosen s g) s u a → (on_right (byte_told r a) ≡ true) ⊎ IsRight (chosen t g) t u a
  right_passed_on u w = elim (right_in_step (comparable r.accepted) a (chosen_below w.0) w.1) [
    | inl here ↦ inl (((r.are.each a (chosen_below w.0)).right w.0).1 here)
    | inr after ↦ inr (subst (λ sig. IsRight sig t u a) same_signature (w.0, after))
  ]

-- a relation between releases of which the bytes are told
module _ {g : List ℕ} {R : List ℕ → List ℕ → Type 0} (told : (s t : List ℕ) → R s t → BytesTold g s t) (a : ℕ) {s : List ℕ} {ts : List (List ℕ)} (rs : Steps R s ts)
    (across : BytesTold g s (last_from s ts)) where
  pub left_steps : on_left (byte_told across a) ≡ true → SomeStep (λ x y r. on_left (byte_told (told x y r) a) ≡ true) rs
  left_steps h = some_step {W = λ x y. IsLeft (chosen x g) x y a} (λ x w. w.1.not_second w.1.first) (λ x y z r. left_passed_on (told x y r) a z) rs (left_told across a h)

  pub right_steps : on_right (byte_told across a) ≡ true → SomeStep (λ x y r. on_right (byte_told (told x y r) a) ≡ true) rs
  right_steps h = some_step {W = λ x y. IsRight (chosen x g) x y a} (λ x w. w.1.not_second w.1.first) (λ x y z r. right_passed_on (told x y r) a z) rs (right_told across a h)

-- the bytes of role pairs
pub record PairsTold (g s t : List ℕ) : Type 0 where
  pub accepted : Accepted s t g
  pub bytes : List ℕ
  pub are : ArePairBytes (roles_of s) (chosen s g) (content_of s) (content_of t) bytes

abbrev pub pair_told : {g s t : List ℕ} → PairsTold g s t → ℕ → ℕ → ℕ
pair_told {s = s} r i j = get_or r.bytes (i * roles_of s + j) 0

-- the roles are two of the release's, and their pair is reported
pub record PairTold {g s t : List ℕ} (r : PairsTold g s t) (i j : ℕ) : Type 0 where
  pub lower : i < roles_of s
  pub upper : j < roles_of s
  pub told : pair_told r i j ≡ 1

abbrev pub IsPair : Signature → List ℕ → List ℕ → ℕ → ℕ → Type 0
IsPair sig s t i j = RoleWitness sig (content_of s) (content_of t) i j

module _ {g s t : List ℕ} (r : PairsTold g s t) (i j : ℕ) where
  role_below : (k : ℕ) → (chosen s g).has_role k ≡ true → k < roles_of s
  role_below k h = ltb-true k (roles_of s) (and_left (ltb k (roles_of s)) _ h)

  pub pair_passed_on : (u : List ℕ) → IsPair (chosen s g) s u i j → PairTold r i j ⊎ IsPair (chosen t g) t u i j
  pair_passed_on u w = elim (pair_skipped w) [
    | inl here ↦ inl (let l = role_below i w.lower_chosen in let k = role_below j w.upper_chosen in record { lower = l; upper = k; told = (r.are.each i j l k).reported.1 here })
    | inr after ↦ inr (subst (λ sig. IsPair sig t u i j) (ap₂ (λ (n m : ℕ). signature_of n m g) r.accepted.names r.accepted.roles) after)
  ]

module _ {g : List ℕ} {R : List ℕ → List ℕ → Type 0} (told : (s t : List ℕ) → R s t → PairsTold g s t) (i j : ℕ) {s : List ℕ} {ts : List (List ℕ)} (rs : Steps R s ts)
    (across : PairsTold g s (last_from s ts)) where
  pub pair_steps : i < roles_of s → j < roles_of s → pair_told across i j ≡ 1 → SomeStep (λ x y r. PairTold (told x y r) i j) rs
  pair_steps i_in j_in h = some_step {W = λ x y. IsPair (chosen x g) x y i j} (λ x w. w.not_second w.first) (λ x y z r. pair_passed_on (told x y r) i j z) rs
      ((across.are.each i j i_in j_in).reported.0 h)

-- a byte on no side is 0
pub no_side : (b : ℕ) → b ≤ 3 → (on_left b ≡ true → ⊥) → (on_right b ≡ true → ⊥) → b ≡ 0
no_side zero h l r = refl
no_side (suc zero) h l r = absurd (l refl)
no_side (suc (suc zero)) h l r = absurd (r refl)
no_side (suc (suc (suc zero))) h l r = absurd (l refl)
no_side (suc (suc (suc (suc b)))) h l r = absurd (omega arith)

pub no_pair : (b : ℕ) → b ≤ 1 → (b ≡ 1 → ⊥) → b ≡ 0
no_pair b h n = omega (arith, n)
