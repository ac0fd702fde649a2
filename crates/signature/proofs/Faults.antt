-- What the tests of a signature's bytes show of its refusal: the length compared by parts, and the search through the bytes.
use mathlib.Core.Path.{◌≡◌, refl, sym, ◌∙◌}
use mathlib.Core.Bool.{Bool, true, false, not, ◌&&◌, true≢false, false≢true}
use mathlib.Core.List.{List, [], ◌∷◌}
use Prim.Native.Nat.{ℕ, ◌+◌, ◌-◌, ◌≤◌}
use native.Mathlib.Omega.{arith}
use borrow.Author.Tests.{eqb-true, eq-eqb, ne_eqb}
use lib.Dec.{eqb}
use lib.ListN.{length}
use Rattle.std.specs.List.{list_all}
use Rattle.std.specs.Option.{SomeIff, option_eq}
use Rattle.std.specs.Prelude.{Option, Some, None}
use Rattle.el.specs.Lists.{pick, all}
use Rattle.signature.specs.Bytes.{is_bit, wrong_length, signature_fault}

-- the library's search is that of the definition
pub all_same : {X : Type 0} (test : X → Bool) (s : List X) → list_all test s ≡ all test s
all_same test [] = refl
all_same test (x ∷ s) = by_test (test x) (all_same test s)
  where
    by_test : (t : Bool) → list_all test s ≡ all test s → t && list_all test s ≡ pick t (all test s) false
    by_test true e = e
    by_test false e = refl

module _ (n m : ℕ) (s : List ℕ) where
  module _ (o : Option ℕ) (rest : SomeIff o (n ≤ length s) (length s - n)) where
    pub length_wrong : {b : Bool} → b ≡ not (option_eq eqb o (Some m)) → b ≡ true → length s ≡ n + m → ⊥
    length_wrong h e long = by_rest o rest (sym h ∙ e)
      where
        by_rest : (o : Option ℕ) → SomeIff o (n ≤ length s) (length s - n) → not (option_eq eqb o (Some m)) ≡ true → ⊥
        by_rest None few z = few (omega arith)
        by_rest (Some x) (enough, is) z = false≢true (rw (eq-eqb x m (omega arith)) at z)

    pub length_right : {b : Bool} → b ≡ not (option_eq eqb o (Some m)) → b ≡ false → length s ≡ n + m
    length_right h e = by_rest o rest (sym h ∙ e)
      where
        not_false : (b : Bool) → not b ≡ false → b ≡ true
        not_false true z = refl
        not_false false z = absurd (true≢false z)

        by_rest : (o : Option ℕ) → SomeIff o (n ≤ length s) (length s - n) → not (option_eq eqb o (Some m)) ≡ false → length s ≡ n + m
        by_rest None few z = absurd (true≢false z)
        by_rest (Some x) (enough, is) z = let e : x ≡ m = eqb-true x m (not_false (eqb x m) z) in omega arith

  -- the refusals, in their order
  pub fault_17 : (length s ≡ n + m → ⊥) → signature_fault n m s ≡ 17
  unfolding signature_fault
  fault_17 wrong = simp (ne_eqb (length s) (n + m) wrong)

  module _ (long : length s ≡ n + m) where
    pub fault_18 : all is_bit s ≡ false → signature_fault n m s ≡ 18
    unfolding signature_fault
    fault_18 h = simp (eq-eqb (length s) (n + m) long, h)

    pub no_fault : all is_bit s ≡ true → signature_fault n m s ≡ 0
    unfolding signature_fault
    no_fault h = simp (eq-eqb (length s) (n + m) long, h)

-- a signature of another length is refused for that
module _ (n m : ℕ) (s : List ℕ) where
  pub wrong_length_lem : (length s ≡ n + m → ⊥) → wrong_length ≡ signature_fault n m s
  unfolding signature_fault
  wrong_length_lem wrong = simp (ne_eqb _ _ wrong)
