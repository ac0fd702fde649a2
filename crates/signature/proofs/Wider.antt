-- "Each step hands the wider signature back": what a signature chooses after a step, in terms of what it chose before.
--   empty_has_no_name, empty_has_no_role     the empty signature chooses nothing
--   names_with_name, roles_with_name         after a name: it is chosen where it is in range, and all else is as it was
--   names_with_role, roles_with_role         the same after a role
use mathlib.Core.Path.{◌≡◌, refl, ap}
use mathlib.Core.Bool.{Bool, true, false, ◌&&◌, ◌||◌, and-true, and-false}
use mathlib.Core.List.{List}
use Prim.Native.Nat.{ℕ, zero, suc, ◌+◌, ◌<◌}
use native.Mathlib.Omega.{arith}
use borrow.Author.Tests.{ltb-true, eq-eqb, ne_eqb, eqb-true, eqb-false}
use lib.Dec.{ltb, eqb}
use lib.ListN.{length, get_or, take, set, replicate}
use lib.Seq.{length-take-le, take-set-lt, get_or-set_same, get_or-set_other}
use Rattle.el.specs.Lists.{pick}
use Rattle.signature.specs.declared.Signature.{Signature}
use Rattle.signature.specs.Building.{most_bytes, empty_signature, chosen, with_name, with_role, Built, lent, chosen_by}

zeros : (k j i : ℕ) → get_or {A = ℕ} (take k (replicate j 0)) i 0 ≡ 0
zeros zero j i = refl
zeros (suc k) zero i = refl
zeros (suc k) (suc j) zero = refl
zeros (suc k) (suc j) (suc i) = zeros k j i

module _ (n m : ℕ) where
  pub empty_has_no_name : (x : ℕ) → (chosen_by (empty_signature n m)).has_name x ≡ false
  unfolding empty_signature
  empty_has_no_name x = rw (zeros _ most_bytes x, and-false)

  pub empty_has_no_role : (r : ℕ) → (chosen_by (empty_signature n m)).has_role r ≡ false
  unfolding empty_signature
  empty_has_no_role r = rw (zeros _ most_bytes _, and-false)

-- a byte is 1 after a store where it was stored, or where it was 1 before
bit_after_set : (s : List ℕ) (place i : ℕ) → place < length s
    → eqb (get_or (set s place 1) i 0) 1 ≡ eqb i place || eqb (get_or s i 0) 1
bit_after_set s place i within = by_test (eqb i place) refl
  where
    by_test : (test : Bool) → eqb i place ≡ test → eqb (get_or (set s place 1) i 0) 1 ≡ test || eqb (get_or s i 0) 1
    by_test true here = rw (eqb-true i place here, get_or-set_same s place 1 0 within)
    by_test false elsewhere = rw (get_or-set_other s place i 1 0 (eqb-false i place elsewhere))

eqb_shifted : (k i j : ℕ) → eqb (k + i) (k + j) ≡ eqb i j
eqb_shifted k i j = by_test (eqb i j) refl
  where
    by_test : (test : Bool) → eqb i j ≡ test → eqb (k + i) (k + j) ≡ test
    by_test true same = eq-eqb _ _ (ap (λ (l : ℕ). k + l) (eqb-true i j same))
    by_test false differ = ne_eqb (k + i) (k + j) (λ same. eqb-false i j differ (omega arith))

-- what is stored is in range
in_range : (range same before : Bool) → (same ≡ true → range ≡ true)
    → range && (same || before) ≡ same || (range && before)
in_range true same before within = refl
in_range false true before within = within refl
in_range false false before within = refl

module _ (g : Signature) (built : Built g) where
  bit_of_chosen : (place i : ℕ) → place < g.names + g.roles
      → eqb (get_or (lent (chosen g place)) i 0) 1 ≡ eqb i place || eqb (get_or (lent g) i 0) 1
  bit_of_chosen place i within =
      let long = length-take-le (g.names + g.roles) g.bytes (omega (arith, built.names, built.roles, built.long)) in
      rw (take-set-lt (g.names + g.roles) g.bytes place 1 within) (bit_after_set (lent g) place i (omega arith))

  pub names_with_name : (x y : ℕ)
      → (chosen_by (with_name g x)).has_name y ≡ (eqb y x && ltb x g.names) || (chosen_by g).has_name y
  unfolding with_name
  names_with_name x y = by_range (ltb x g.names) refl
    where
      by_range : (test : Bool) → ltb x g.names ≡ test
          → (chosen_by (pick test (chosen g x) g)).has_name y ≡ (eqb y x && test) || (chosen_by g).has_name y
      by_range true below =
          let less = ltb-true x g.names below in
          rw (bit_of_chosen x y (omega arith), and-true)
          (in_range (ltb y g.names) (eqb y x) _ (λ same. rw (eqb-true y x same) below))
      by_range false out = rw and-false

  pub roles_with_name : (x r : ℕ) → (chosen_by (with_name g x)).has_role r ≡ (chosen_by g).has_role r
  unfolding with_name
  roles_with_name x r = by_range (ltb x g.names) refl
    where
      by_range : (test : Bool) → ltb x g.names ≡ test
          → (chosen_by (pick test (chosen g x) g)).has_role r ≡ (chosen_by g).has_role r
      by_range true below =
          let less = ltb-true x g.names below in
          rw (bit_of_chosen x (g.names + r) (omega arith), ne_eqb (g.names + r) x (λ same. omega arith))
      by_range false out = refl

  pub roles_with_role : (r q : ℕ)
      → (chosen_by (with_role g r)).has_role q ≡ (eqb q r && ltb r g.roles) || (chosen_by g).has_role q
  unfolding with_role
  roles_with_role r q = by_range (ltb r g.roles) refl
    where
      by_range : (test : Bool) → ltb r g.roles ≡ test
          → (chosen_by (pick test (chosen g (g.names + r)) g)).has_role q ≡ (eqb q r && test) || (chosen_by g).has_role q
      by_range true below =
          let less = ltb-true r g.roles below in
          rw (bit_of_chosen (g.names + r) (g.names + q) (omega arith), eqb_shifted, and-true)
          (in_range (ltb q g.roles) (eqb q r) _ (λ same. rw (eqb-true q r same) below))
      by_range false out = rw and-false

  pub names_with_role : (r x : ℕ) → (chosen_by (with_role g r)).has_name x ≡ (chosen_by g).has_name x
  unfolding with_role
  names_with_role r x = by_range (ltb r g.roles) refl (ltb x g.names) refl
    where
      by_range : (test : Bool) → ltb r g.roles ≡ test → (is_name : Bool) → ltb x g.names ≡ is_name
          → (chosen_by (pick test (chosen g (g.names + r)) g)).has_name x ≡ (chosen_by g).has_name x
      by_range true below true named =
          let less = ltb-true r g.roles below in
          let first = ltb-true x g.names named in
          rw (bit_of_chosen (g.names + r) x (omega arith), ne_eqb x (g.names + r) (λ same. omega arith))
      by_range true below false not_named = rw not_named
      by_range false out is_name e = refl
