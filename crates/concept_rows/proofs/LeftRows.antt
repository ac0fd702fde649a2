-- The rows that the station writes for a left report. Each node has a number, whose concept lies above the node by the first release, and by
-- the second not above any node that is marked for it.
--   left_start                       no row, and no marks
--   left_grown                       one more row
--   Moved n x i p q                  q is p but for x, whose number is i
--   left_taken, left_joined          a row that lies above x by the first release is joined to the concept of x: it is the concept itself where
--                                    the number was 0, else one more row, the conjunction of both. Marks for x may be added where it does not
--                                    lie above by the second
--   Quiet, quiet_closed              where no rule takes any more, the marks are closed
--   left_found                       closed marks have the mark of a reported name
use mathlib.Core.Path.{◌≡◌, refl}
use mathlib.Core.Logic.{◌⊎◌, inl, inr}
use mathlib.Core.Bool.{true, not}
use Prim.Native.Nat.{ℕ, zero, suc, ◌≤◌, ◌<◌}
use native.Mathlib.Omega.{arith}
use Rattle.el.specs.Concepts.{both, Node, named, concept_of}
use Rattle.el.specs.Axioms.{Axiom, filler_of, Terminology}
use Rattle.el.specs.Derivability.{Derives, to_top, one, other, meet}
use Rattle.el.specs.Lists.{In}
use Rattle.el.specs.Signatures.{Signature, LeftWitness}
use Rattle.el.specs.Answers.{Test}
use Rattle.el.proofs.Lists.{Some}
use Rattle.el.proofs.Tests.{which, not_both, tells_false}
use Rattle.el.proofs.Derivations.{◌▹◌}
use Rattle.el.specs.Terminologies.{IsNode, name_node, Comparable}
use Rattle.el.proofs.Saturation.{Closed}
use Rattle.el.proofs.Classification.{Link, InclusionTable}
use Rattle.el.proofs.ForwardMarks.{Forward, by_name, by_role, above_kept}
use Rattle.concept_rows.specs.Rows.{Rows, row, WellFormed, is_both, concept_of_row}
use Rattle.concept_rows.specs.Written.{Formed, Agree, kept, LeftRows}
use Rattle.concept_rows.proofs.Rows.{same_concept, agreeing_formed, both_row, append}

-- the number of x is i now, and the others are as before
abbrev pub Moved : ℕ → Node → ℕ → (Node → ℕ) → (Node → ℕ) → Type 0
Moved n x i p q = (z : Node) → IsNode n z → ((z ≡ x) × (q z ≡ i)) ⊎ ((z ≡ x → ⊥) × (q z ≡ p z))

pub kept_same : {sig : Signature} {rows seen : Rows} {k : ℕ} → Formed sig rows k → Agree rows seen k → (i : ℕ) → i ≤ k → kept rows i ≡ kept seen i
kept_same formed agree zero h = refl
kept_same formed agree (suc i) h = same_concept formed agree i (omega arith)

module _ {sig : Signature} {t u : Terminology} {n : ℕ} where
  pub left_start : {rows : Rows} {p : Node → ℕ} {f : Node → Node → Type 0} → ((x : Node) → IsNode n x → p x ≡ 0) → ((x y : Node) → IsNode n x → IsNode n y → f x y → ⊥)
      → LeftRows sig t u n rows 0 p f
  left_start unnumbered none = record {
    formed = record { at = λ i h. absurd (omega arith) };
    inside = λ x h. omega (arith, unnumbered x h);
    first = λ x h. rw (unnumbered x h) to_top;
    second = λ x y h i m. absurd (none x y h i m);
  }

  module _ {rows : Rows} {k : ℕ} {p : Node → ℕ} {f : Node → Node → Type 0} (left : LeftRows sig t u n rows k p f) where
    pub left_grown : {seen : Rows} → Agree rows seen k → WellFormed sig k (seen k) → LeftRows sig t u n seen (suc k) p f
    left_grown agree w = record {
      formed = append (agreeing_formed left.formed agree) w;
      inside = λ x h. omega (arith, left.inside x h);
      first = λ x h. rw (← kept_same left.formed agree (p x) (left.inside x h)) (left.first x h);
      second = λ x y h i m. rw (← kept_same left.formed agree (p x) (left.inside x h)) (left.second x y h i m);
    }

    module _ {x : Node} (x_in : IsNode n x) {j : ℕ} (j_in : j < k) (above_x : Derives t (concept_of x) (concept_of_row rows j)) {g : Node → Node → Type 0}
        (marks : (a b : Node) → IsNode n a → IsNode n b → g a b → f a b ⊎ ((a ≡ x) × (Derives u (concept_of b) (concept_of_row rows j) → ⊥))) where
      -- x had no row
      pub left_taken : p x ≡ 0 → {q : Node → ℕ} → Moved n x (suc j) p q → LeftRows sig t u n rows k q g
      left_taken was moved = record {
        formed = left.formed;
        inside = λ a h. elim (moved a h) [ inl w ↦ omega (arith, w.1) | inr w ↦ omega (arith, w.1, left.inside a h) ];
        first = λ a h. elim (moved a h) [ inl w ↦ rw (w.1, w.0) above_x | inr w ↦ rw w.1 (left.first a h) ];
        second = λ a b h i m. elim (moved a h) [
          | inl w ↦ rw w.1 (elim (marks a b h i m) [
            | inl old ↦ absurd (left.second a b h i old (rw (w.0, was) to_top))
            | inr new ↦ new.1
          ])
          | inr w ↦ rw w.1 (elim (marks a b h i m) [
            | inl old ↦ left.second a b h i old
            | inr new ↦ absurd (w.0 new.0)
          ])
        ];
      }

      -- x had row i
      module _ {i : ℕ} (was : p x ≡ suc i) {seen : Rows} (agree : Agree rows seen k) (written : seen k ≡ row 2 i j) where
        old_in : i < k
        old_in = omega (arith, left.inside x x_in)

        new_formed : Formed sig seen (suc k)
        new_formed = append (agreeing_formed left.formed agree) (is_both written old_in j_in)

        joined_concept : concept_of_row seen k ≡ both (concept_of_row rows i) (concept_of_row rows j)
        joined_concept = rw (same_concept left.formed agree i old_in, same_concept left.formed agree j j_in) (both_row new_formed (omega arith) written old_in j_in)

        old_first : Derives t (concept_of x) (concept_of_row rows i)
        old_first = rw was at (left.first x x_in)

        pub left_joined : {q : Node → ℕ} → Moved n x (suc k) p q → LeftRows sig t u n seen (suc k) q g
        left_joined moved = record {
          formed = new_formed;
          inside = λ a h. elim (moved a h) [ inl w ↦ omega (arith, w.1) | inr w ↦ omega (arith, w.1, left.inside a h) ];
          first = λ a h. elim (moved a h) [
            | inl w ↦ rw (w.1, joined_concept, w.0) (meet old_first above_x)
            | inr w ↦ rw (w.1, ← kept_same left.formed agree (p a) (left.inside a h)) (left.first a h)
          ];
          second = λ a b h l m. elim (moved a h) [
            | inl w ↦ rw (w.1, joined_concept) (λ d. elim (marks a b h l m) [
              | inl old ↦ left.second a b h l old (rw (w.0, was) (d ▹ one))
              | inr new ↦ new.1 (d ▹ other)
            ])
            | inr w ↦ rw (w.1, ← kept_same left.formed agree (p a) (left.inside a h)) (elim (marks a b h l m) [
              | inl old ↦ left.second a b h l old
              | inr new ↦ absurd (w.0 new.0)
            ])
          ];
        }

    -- fewer marks
    pub left_fewer : {g : Node → Node → Type 0} → ((x y : Node) → IsNode n x → IsNode n y → g x y → f x y) → LeftRows sig t u n rows k p g
    left_fewer less = record { formed = left.formed; inside = left.inside; first = left.first; second = λ x y h i m. left.second x y h i (less x y h i m) }

-- the end
module _ {n : ℕ} {sig : Signature} {t u : Terminology} (given : Comparable n sig t u) (first_table : InclusionTable n t) (second_table : InclusionTable n u) where
  pub left_found : (f : Test Node Node) → Closed (IsNode n) (IsNode n) (Forward sig t u first_table.says second_table.says) f → {a : ℕ} → a < n → LeftWitness sig t u a → f (named a)
      (named a) ≡ true
  left_found f closed {a} a_in w = elim (which (f (named a) (named a))) [
    | inl h ↦ h
    | inr h ↦ absurd (w.not_second (above_kept given first_table second_table f closed w.above w.over (named a) (named a) (name_node a_in) (name_node a_in) h w.first))
  ]

  -- where nothing is left to take, the marks are closed
  pub record Quiet (kept : Test Node Node) : Type 0 where
    pub by_name : {b : ℕ} {x y : Node} → sig.has_name b ≡ true → IsNode n x → IsNode n y → first_table.says x (named b) ≡ true → kept x y ≡ true → second_table.says y (named b) ≡ true
    pub by_role : {a : Axiom} {r : ℕ} {x y : Node} → In t.axioms a → Link t first_table.says x r a → sig.has_role r ≡ true → IsNode n x → IsNode n y → kept x y ≡ true → Some u.axioms
        (λ b. Link u second_table.says y r b × (kept (filler_of a) (filler_of b) ≡ true))

  pub quiet_closed : (kept : Test Node Node) → Quiet kept → Closed (IsNode n) (IsNode n) (Forward sig t u first_table.says second_table.says) (λ x y. not (kept x y))
  quiet_closed kept quiet x y x_in y_in rule = elim (which (kept x y)) [ inr e ↦ rw e | inl e ↦ absurd (by_rule e rule) ]
    where
      by_rule : kept x y ≡ true → Forward sig t u first_table.says second_table.says (λ x y. not (kept x y)) x y → ⊥
      by_rule e (by_name chosen above_x not_above_y) = not_both (quiet.by_name chosen x_in y_in above_x e) not_above_y
      by_rule e (by_role a_in link chosen all_marked) = let s = quiet.by_role a_in link chosen x_in y_in e in not_both s.holds.1
          ((tells_false (kept _ (filler_of s.it))).sound (all_marked.at s.it s.member s.holds.0))
