-- What rows and marks of a right report keep.
--   report_asked, report_marked, report_grown     a pair asked for, a pair marked, one row more
use mathlib.Core.Path.{◌≡◌, sym, ◌∙◌}
use mathlib.Core.List.{List}
use Prim.Native.Nat.{ℕ, suc, ◌+◌, ◌≤◌}
use native.Mathlib.Omega.{arith}
use native.Mathlib.Decide.{ℕ_discrete}
use Rattle.el.specs.Signatures.{Signature}
use Rattle.concept_rows.specs.Rows.{Row, WellFormed}
use Rattle.concept_rows.proofs.Rows.{agreeing_formed, append}
use Rattle.concept_rows.proofs.RightRows.{lost_grown}
use Rattle.row_evaluation.specs.RowForms.{RowPut}
use Rattle.witness_above.proofs.LeftSteps.{put_agrees}
use Rattle.layout.specs.declared.Given.{Given}
use Rattle.witness_below.specs.Cells.{pair_of, value_at, CellPut}
use Rattle.witness_below.specs.Tasks.{RowFor, RightReport}
use Rattle.witness_below.proofs.Numbering.{pair_one}

module _ {sig : Signature} {given : Given} {k : ℕ} {ys w : List ℕ} (right : RightReport sig given k ys w) where
  pub report_asked : {p : ℕ} {v : List ℕ} → CellPut given.layout.marks p 1 w v → RightReport sig given k ys v
  report_asked {p} {v} put = record {
    formed = right.formed;
    lost = λ x y j h l e. elim (ℕ_discrete (pair_of given.layout.names x y) p) [
      | yes z ↦ absurd (let f : value_at v given.layout.marks p ≡ j + 2 = rw z at e in omega (arith, put.here))
      | no z ↦ right.lost x y j h l (sym (put.other (pair_of given.layout.names x y) z) ∙ e)
    ];
  }

  pub report_marked : (x y m : ℕ) {v : List ℕ} → y ≤ given.layout.names → RowFor given k ys x y m → CellPut given.layout.marks (pair_of given.layout.names x y) (m + 2) w v
      → RightReport sig given k ys v
  report_marked x y m {v} y_in new put = record {
    formed = right.formed;
    lost = λ a b j h l e. elim (ℕ_discrete (pair_of given.layout.names a b) (pair_of given.layout.names x y)) [
      | yes z ↦
          let one = pair_one given.layout.names a b x y l y_in z in
          let f : value_at v given.layout.marks (pair_of given.layout.names x y) ≡ j + 2 = rw z at e in
          let same : j ≡ m = omega (arith, put.here) in
          rw (one.0, one.1, same) new
      | no z ↦ right.lost a b j h l (sym (put.other (pair_of given.layout.names a b) z) ∙ e)
    ];
  }

  pub report_grown : {r : Row} {zs : List ℕ} → RowPut k r ys zs → WellFormed sig k r → RightReport sig given (suc k) zs w
  report_grown put well =
      let agree = put_agrees put in
      record {
        formed = append (agreeing_formed right.formed agree) (rw put.here well);
        lost = λ x y j h l e. lost_grown right.formed agree (omega arith) (right.lost x y j h l e);
      }
