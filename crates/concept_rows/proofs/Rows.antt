-- The concepts of well-formed rows.
--   same_concept            rows that agree below k have the same concepts there
--   top_row, name_row, both_row, some_row     the concept of a row, by its form
--   row_over                it is a signature concept
--   append                  one more well-formed row: the earlier ones keep their concepts
use mathlib.Core.Path.{◌≡◌, refl, ap, ap₂}
use mathlib.Core.Bool.{true}
use Prim.Native.Nat.{ℕ, zero, suc, ◌≤◌, ◌<◌}
use native.Mathlib.Omega.{arith}
use native.Mathlib.Decide.{ℕ_discrete}
use Rattle.el.specs.Concepts.{top, name, both, some}
use Rattle.el.specs.Signatures.{Signature, is_over}
use Rattle.el.proofs.Tests.{and_both}
use Rattle.concept_rows.specs.Rows.{Row, Rows, row, WellFormed, is_top, is_name, is_both, is_some, made, followed, concept_of_row}
use Rattle.concept_rows.specs.Written.{Formed, Agree}

pub agree_same : {rows : Rows} {k : ℕ} → Agree rows rows k
agree_same = record { at = λ i h. refl }

module _ {sig : Signature} {rows seen : Rows} {k : ℕ} (formed : Formed sig rows k) (agree : Agree rows seen k) where
  same_followed : (f g i : ℕ) → i < k → i < f → i < g → followed f rows i ≡ followed g seen i
  unfolding followed
  same_followed zero g i h p q = absurd (omega arith)
  same_followed (suc f) zero i h p q = absurd (omega arith)
  same_followed (suc f) (suc g) i h p q = by_form (rows i) (seen i) (agree.at i h) (formed.at i h) (λ j l. same_followed f g j (omega arith) (omega arith) (omega arith))
    where
      by_form : (r s : Row) → r ≡ s → WellFormed sig i r → ((j : ℕ) → j < i → followed f rows j ≡ followed g seen j) → made r (followed f rows) ≡ made s (followed g seen)
      by_form r s a (is_top e) rec = rw (← a, e)
      by_form r s a (is_name e o) rec = rw (← a, e)
      by_form r s a (is_both {j = j} {k = l} e p q) rec = rw (← a, e) (ap₂ both (rec j p) (rec l q))
      by_form r s a (is_some {q = q} {j = j} e o p) rec = rw (← a, e) (ap (some q) (rec j p))

  pub same_concept : (i : ℕ) → i < k → concept_of_row rows i ≡ concept_of_row seen i
  same_concept i h = same_followed (suc i) (suc i) i h (omega arith) (omega arith)

pub agreeing_formed : {sig : Signature} {rows seen : Rows} {k : ℕ} → Formed sig rows k → Agree rows seen k → Formed sig seen k
agreeing_formed formed agree = record { at = λ i h. rw (← agree.at i h) (formed.at i h) }

-- by the form of a row
module _ {sig : Signature} {rows : Rows} {k : ℕ} (formed : Formed sig rows k) where
  deep_enough : (f j : ℕ) → j < f → f ≤ k → followed f rows j ≡ concept_of_row rows j
  deep_enough f j p q = same_followed formed agree_same f (suc j) j (omega arith) p (omega arith)

  pub top_row : {i : ℕ} → rows i ≡ row 0 0 0 → concept_of_row rows i ≡ top
  unfolding followed
  top_row e = rw e

  pub name_row : {i b : ℕ} → rows i ≡ row 1 b 0 → concept_of_row rows i ≡ name b
  unfolding followed
  name_row e = rw e

  pub both_row : {i j l : ℕ} → i ≤ k → rows i ≡ row 2 j l → j < i → l < i → concept_of_row rows i ≡ both (concept_of_row rows j) (concept_of_row rows l)
  unfolding followed
  both_row {i} {j} {l} h e p q = rw e (ap₂ both (deep_enough i j p h) (deep_enough i l q h))

  pub some_row : {i q j : ℕ} → i ≤ k → rows i ≡ row 3 q j → j < i → concept_of_row rows i ≡ some q (concept_of_row rows j)
  unfolding followed
  some_row {i} {q} {j} h e p = rw e (ap (some q) (deep_enough i j p h))

  -- a signature concept
  over_below : (b i : ℕ) → i < b → i < k → is_over sig (concept_of_row rows i) ≡ true
  over_below zero i p h = absurd (omega arith)
  over_below (suc b) i p h = by_form (formed.at i h) (λ j l. over_below b j (omega arith) (omega arith))
    where
      by_form : WellFormed sig i (rows i) → ((j : ℕ) → j < i → is_over sig (concept_of_row rows j) ≡ true) → is_over sig (concept_of_row rows i) ≡ true
      by_form (is_top e) rec = rw (top_row e) refl
      by_form (is_name e o) rec = rw (name_row e) o
      by_form (is_both {j = j} {k = l} e p q) rec = rw (both_row (omega arith) e p q) (and_both (rec j p) (rec l q))
      by_form (is_some {q = q} {j = j} e o p) rec = rw (some_row (omega arith) e p) (and_both o (rec j p))

  pub row_over : (i : ℕ) → i < k → is_over sig (concept_of_row rows i) ≡ true
  row_over i h = over_below (suc i) i (omega arith) h

  -- one more row
  pub append : WellFormed sig k (rows k) → Formed sig rows (suc k)
  append w = record { at = λ i h. elim (ℕ_discrete i k) [ yes e ↦ rw e w | no d ↦ formed.at i (omega arith) ] }
