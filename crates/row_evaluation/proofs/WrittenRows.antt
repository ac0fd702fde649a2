-- A row written: its three numbers, and all else as before.
use mathlib.Core.Path.{◌≡◌, ◌∙◌}
use mathlib.Core.List.{List}
use Prim.Native.Nat.{ℕ, ◌+◌, ◌*◌, ◌≤◌}
use native.Mathlib.Omega.{arith}
use lib.ListN.{length, get_or, set, length-set}
use lib.Seq.{get_or-set_same, get_or-set_other}
use Rattle.concept_rows.specs.Rows.{Row, row}
use Rattle.concept_rows.specs.Lent.{row_at}
use Rattle.row_evaluation.specs.RowForms.{RowPut}

module _ (ys : List ℕ) (i a b c : ℕ) (room : 3 * i + 3 ≤ length ys) where
  abbrev with_one : List ℕ
  with_one = set ys (3 * i) a

  abbrev with_two : List ℕ
  with_two = set with_one (3 * i + 1) b

  abbrev pub with_three : List ℕ
  with_three = set with_two (3 * i + 2) c

  long_one : length with_one ≡ length ys
  long_one = simp length-set

  long_two : length with_two ≡ length ys
  long_two = simp length-set

  apart : (p : ℕ) → (p ≡ 3 * i → ⊥) → (p ≡ 3 * i + 1 → ⊥) → (p ≡ 3 * i + 2 → ⊥) → get_or with_three p 0 ≡ get_or ys p 0
  apart p x y z = get_or-set_other with_two (3 * i + 2) p c 0 z ∙ get_or-set_other with_one (3 * i + 1) p b 0 y ∙ get_or-set_other ys (3 * i) p a 0 x

  third : get_or with_three (3 * i + 2) 0 ≡ c
  third = get_or-set_same with_two (3 * i + 2) c 0 (omega (arith, long_two))

  second : get_or with_three (3 * i + 1) 0 ≡ b
  second = get_or-set_other with_two (3 * i + 2) (3 * i + 1) c 0 (λ e. omega arith) ∙ get_or-set_same with_one (3 * i + 1) b 0 (omega (arith, long_one))

  first : get_or with_three (3 * i) 0 ≡ a
  first = get_or-set_other with_two (3 * i + 2) (3 * i) c 0 (λ e. omega arith) ∙ get_or-set_other with_one (3 * i + 1) (3 * i) b 0 (λ e. omega arith) ∙ get_or-set_same ys (3 * i) a 0 (omega arith)

  row_here : row_at with_three i ≡ row a b c
  unfolding row_at
  row_here = rw (first, second, third)

  row_other : (j : ℕ) → (j ≡ i → ⊥) → row_at with_three j ≡ row_at ys j
  unfolding row_at
  row_other j h =
      let x : get_or with_three (3 * j) 0 ≡ get_or ys (3 * j) 0 = apart (3 * j) (λ e. omega arith) (λ e. omega arith) (λ e. omega arith) in
      let y : get_or with_three (3 * j + 1) 0 ≡ get_or ys (3 * j + 1) 0 = apart (3 * j + 1) (λ e. omega arith) (λ e. omega arith) (λ e. omega arith) in
      let z : get_or with_three (3 * j + 2) 0 ≡ get_or ys (3 * j + 2) 0 = apart (3 * j + 2) (λ e. omega arith) (λ e. omega arith) (λ e. omega arith) in
      rw (x, y, z)

  pub row_put : {r : Row} → row a b c ≡ r → RowPut i r ys with_three
  row_put e = record {
    long = simp length-set;
    here = row_here ∙ e;
    other = row_other;
    past = λ p h. apart p (λ e. omega arith) (λ e. omega arith) (λ e. omega arith);
  }
