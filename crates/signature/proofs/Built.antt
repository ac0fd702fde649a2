-- Building a signature: what each test shows of the step, and that a signature built from the empty one can be lent.
--   built_accepted     a built signature's lent bytes are an accepted signature
use mathlib.Core.Path.{◌≡◌, refl, ◌∙◌}
use mathlib.Core.Bool.{Bool, true, false}
use mathlib.Core.List.{List, [], ◌∷◌}
use Prim.Native.Nat.{ℕ, zero, suc, ◌+◌, ◌≤◌}
use native.Mathlib.Omega.{arith}
use borrow.Author.Tests.{eq-eqb}
use lib.Dec.{ltb}
use lib.ListN.{length, take, set, length-set, length-replicate}
use lib.Seq.{length-take-le}
use Rattle.el.specs.Lists.{pick, all}
use Rattle.signature.specs.declared.Signature.{Signature}
use Rattle.signature.specs.Bytes.{is_bit, signature_fault}
use Rattle.signature.specs.Building.{most_bytes, empty_signature}
use Rattle.signature.specs.Building.{chosen, with_name, with_role, Built, lent}

pub empty_built : (n m : ℕ) → Built (empty_signature n m)
unfolding empty_signature
empty_built n m = record {
  names = omega arith;
  roles = omega arith;
  long = length-replicate {A = ℕ} most_bytes 0;
  bits = refl;
}

first_and_later : (b : ℕ) (s : List ℕ) → all is_bit (b ∷ s) ≡ true → (is_bit b ≡ true) × (all is_bit s ≡ true)
first_and_later b s = parts (is_bit b)
  where
    parts : (test : Bool) → pick test (all is_bit s) false ≡ true → (test ≡ true) × (all is_bit s ≡ true)
    parts true e = (refl, e)
    parts false e = (e, cc)

bits_set : (s : List ℕ) (place : ℕ) → all is_bit s ≡ true → all is_bit (set s place 1) ≡ true
bits_set [] place e = refl
bits_set (b ∷ s) zero e = (first_and_later b s e).1
bits_set (b ∷ s) (suc place) e =
    let parts = first_and_later b s e in rw parts.0 (bits_set s place parts.1)

bits_take : (k : ℕ) (s : List ℕ) → all is_bit s ≡ true → all is_bit (take k s) ≡ true
bits_take zero s e = refl
bits_take (suc k) [] e = refl
bits_take (suc k) (b ∷ s) e =
    let parts = first_and_later b s e in rw parts.0 (bits_take k s parts.1)

module _ (g : Signature) (built : Built g) where
  chosen_built : (place : ℕ) → Built (chosen g place)
  chosen_built place = record {
    names = built.names;
    roles = built.roles;
    long = length-set g.bytes place 1 ∙ built.long;
    bits = bits_set g.bytes place built.bits;
  }

  pick_built : (test : Bool) (place : ℕ) → Built (pick test (chosen g place) g)
  pick_built true place = chosen_built place
  pick_built false place = built

  pub with_name_built : (x : ℕ) → Built (with_name g x)
  unfolding with_name
  with_name_built x = pick_built (ltb x g.names) x

  pub with_role_built : (r : ℕ) → Built (with_role g r)
  unfolding with_role
  with_role_built r = pick_built (ltb r g.roles) (g.names + r)

  -- what a comparison asks of the bytes that it is lent
  pub built_accepted : signature_fault g.names g.roles (lent g) ≡ 0
  unfolding signature_fault
  built_accepted =
      let enough : g.names + g.roles ≤ length g.bytes = omega (arith, built.names, built.roles, built.long) in
      let bits = bits_take (g.names + g.roles) g.bytes built.bits in
      simp (length-take-le _ g.bytes enough, eq-eqb (g.names + g.roles) _ refl, bits)
