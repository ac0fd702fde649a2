-- The rows that the station writes for a right report: a row for each marked pair of a node and a column, which lies below the node by the
-- first release, and not below the column by the second.
--   lost_grown                also when there are more rows
--   lost_of_part, lost_of_everything, lost_of_name, lost_of_role      such rows, as the rules of backward marks have them (el, Backward)
--   right_found               closed marks have the mark of a reported name
--   right_last, right_again   its row shows the difference, if it is the last; else a row more that is its conjunction with itself
use mathlib.Core.Path.{◌≡◌, refl}
use mathlib.Core.Logic.{inl, inr}
use mathlib.Core.Bool.{true, false}
use Prim.Native.Nat.{ℕ, suc, ◌≤◌, ◌<◌}
use native.Mathlib.Omega.{arith}
use Rattle.el.specs.Lists.{In}
use Rattle.el.specs.Concepts.{name, both, some, Node, named, concept_of}
use Rattle.el.specs.Axioms.{Axiom, parts_of, filler_of, Terminology}
use Rattle.el.specs.Derivability.{Derives, one, meet, same}
use Rattle.el.specs.Signatures.{Signature, RightWitness}
use Rattle.el.specs.Answers.{Test, Column, node, name_under, partner}
use Rattle.el.proofs.Tests.{which, not_both}
use Rattle.el.proofs.Derivations.{◌▹◌, Fills}
use Rattle.el.proofs.Nodes.{IsColumn, node_column}
use Rattle.el.specs.Terminologies.{IsNode, name_node, Comparable}
use Rattle.el.proofs.Saturation.{Closed}
use Rattle.el.proofs.Classification.{InclusionTable}
use Rattle.el.proofs.PlainNodes.{to_part_of, from_filler_of}
use Rattle.el.proofs.BackwardMarks.{PlainColumn, Backward, below_partner, below_kept}
use Rattle.concept_rows.proofs.Columns.{tells_under, top_lost}
use Rattle.concept_rows.specs.Rows.{Rows, row, is_both, concept_of_row, below, Shows}
use Rattle.concept_rows.specs.Written.{Formed, Agree, Lost}
use Rattle.concept_rows.proofs.Rows.{same_concept, agreeing_formed, top_row, name_row, both_row, some_row, append}

pub lost_grown : {sig : Signature} {t u : Terminology} {rows seen : Rows} {k l : ℕ} → Formed sig rows k → Agree rows seen k → k ≤ l → {x : Node} {y : Column} {j : ℕ} → Lost t u rows k x y j
    → Lost t u seen l x y j
lost_grown formed agree h {j = j} w = record {
  inside = omega (arith, w.inside);
  first = rw (← same_concept formed agree j w.inside) w.first;
  second = rw (← same_concept formed agree j w.inside) w.second;
}

-- a conjunct of the column
pub lost_of_part : {t u : Terminology} {rows : Rows} {k : ℕ} {x : Node} {y : Column} {b : Axiom} {z j : ℕ} → In u.axioms b → node (named b.left) ≡ y → In (parts_of b) z
    → Lost t u rows k x (node (named z)) j → Lost t u rows k x y j
lost_of_part b_in b_is_y z_in w = record { inside = w.inside; first = w.first; second = rw (← b_is_y) (λ d. w.second (to_part_of b_in refl z_in d)) }

module _ {n : ℕ} {sig : Signature} {t u : Terminology} (given : Comparable n sig t u) (first_table : InclusionTable n t) (second_table : InclusionTable n u) where
  module _ {rows : Rows} {k : ℕ} (formed : Formed sig rows k) where
    pub lost_of_everything : {x : Node} {y : Column} {j : ℕ} → PlainColumn u y → Derives t (concept_of_row rows j) (concept_of x) → j < k → rows j ≡ row 0 0 0 → Lost t u rows k x y j
    lost_of_everything {y = y} y_plain below_x j_in written = record {
      inside = j_in;
      first = below_x;
      second = rw (top_row formed written) (top_lost given second_table y y_plain);
    }

    pub lost_of_name : {x : Node} {y : Column} {b j : ℕ} → IsNode n x → IsColumn n y → sig.has_name b ≡ true → first_table.says (named b) x ≡ true
        → name_under second_table.says b y ≡ false → j < k → rows j ≡ row 1 b 0 → Lost t u rows k x y j
    lost_of_name {y = y} {b = b} {j = j} x_in y_in chosen below_x not_below_y j_in written =
        let is : concept_of_row rows j ≡ name b = name_row formed written in
        record {
          inside = j_in;
          first = rw is (first_table.sound (name_node (given.names_in b chosen)) x_in below_x);
          second = rw is (λ d. not_both ((tells_under given second_table chosen y y_in).complete d) not_below_y);
        }

    pub lost_of_role : {x : Node} {y : Column} {a : Axiom} {r j : ℕ} → PlainColumn u y → In t.axioms a → named a.left ≡ x → Fills t r a
        → Lost t u rows k (filler_of a) (partner u r y) j → {seen : Rows} → Agree rows seen k → Formed sig seen (suc k) → seen k ≡ row 3 r j → Lost t u seen (suc k) x y k
    lost_of_role {y = y} {r = r} {j = j} y_plain a_in a_is_x fills w {seen} agree grown written =
        let is : concept_of_row seen k ≡ some r (concept_of_row rows j) = rw (same_concept formed agree j w.inside) (some_row grown (omega arith) written w.inside) in
        record {
          inside = omega arith;
          first = rw is (from_filler_of a_in a_is_x fills w.first);
          second = rw is (λ d. w.second (below_partner u r (concept_of_row rows j) given.second_terms y y_plain d));
        }

  -- the end
  pub right_found : (f : Test Node Column) → Closed (IsNode n) (IsColumn n) (Backward sig t u first_table.says second_table.says) f → {a : ℕ} → a < n → RightWitness sig t u a
      → f (named a) (node (named a)) ≡ true
  right_found f closed {a} a_in w = elim (which (f (named a) (node (named a)))) [
    | inl h ↦ h
    | inr h ↦ absurd (w.not_second
        (below_kept given first_table second_table f closed w.below w.over (named a) (node (named a)) (name_node a_in) (node_column (name_node a_in)) h w.first))
  ]

module _ {sig : Signature} {t u : Terminology} {rows : Rows} {k : ℕ} (formed : Formed sig rows k) {a side j : ℕ} (is : side ≡ 2) (chosen : sig.has_name a ≡ true)
    (w : Lost t u rows k (named a) (node (named a)) j) where
  pub right_last : k ≡ suc j → Shows sig t u side a rows j
  right_last last = record { chosen = chosen; formed = λ i h. formed.at i (omega arith); differs = below is w.first w.second }

  pub right_again : {seen : Rows} → Agree rows seen k → seen k ≡ row 2 j j → Shows sig t u side a seen k
  right_again {seen} agree written =
      let grown : Formed sig seen (suc k) = append (agreeing_formed formed agree) (is_both written w.inside w.inside) in
      let twice : concept_of_row seen k ≡ both (concept_of_row rows j) (concept_of_row rows j) = rw (same_concept formed agree j w.inside)
      (both_row grown (omega arith) written w.inside w.inside) in
      record { chosen = chosen; formed = λ i h. grown.at i (omega arith); differs = below is (rw twice (one ▹ w.first)) (rw twice (λ d. w.second (meet same same ▹ d))) }
