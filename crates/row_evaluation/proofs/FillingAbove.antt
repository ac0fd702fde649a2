-- Rows filled with the names that lie above them, row after row.
use mathlib.Core.Path.{◌≡◌, sym, ◌∙◌}
use mathlib.Core.List.{List}
use Prim.Native.Nat.{ℕ, suc, ◌+◌, ◌≤◌, ◌<◌}
use native.Mathlib.Omega.{arith}
use native.Mathlib.Numerals.{add-one}
use lib.ListN.{get_or}
use mathlib.Core.Bool.{Bool, true, false}
use Rattle.el.proofs.Tests.{Tells, tells_as, never, not_both}
use Rattle.release.specs.Tables.{kind_at, role_at, filler_at, serves_at}
use Rattle.std.specs.Prelude.{Some}
use Rattle.concept_rows.specs.Lent.{row_at}
use Rattle.concept_rows.specs.Written.{Formed}
use Rattle.row_evaluation.specs.Cells.{cell, Holds, RowRoom, Adds}
use Rattle.row_evaluation.specs.declared.Evaluation.{Evaluation}
use Rattle.row_evaluation.specs.declared.rows.Form.{Form}
use Rattle.row_evaluation.specs.RowForms.{form_of}
use Rattle.row_evaluation.specs.Worlds.{WorldOf}
use Rattle.row_evaluation.specs.Above.{RowBelow, FilledAbove, PlainAbove, BlankAbove, AboveFilled}
use Rattle.row_evaluation.proofs.RowForms.{form_row, form_inside}
use Rattle.row_evaluation.proofs.RowBytes.{cell_base, rows_below, cell_next, cell_below, cell_first, told_more}
use Rattle.row_evaluation.proofs.Worlds.{world_after}
use Rattle.row_evaluation.proofs.AboveRows.{plain_above_sound, plain_above_complete}

-- by a restriction that defines the name y
module _ {E : Evaluation} {w : List ℕ} {r k y q : ℕ} (role : q ≡ role_at E.terminology.table.now y) {c : Bool} (told : c ≡ serves_at E.terminology.table.now r q) where
  pub filled_told : kind_at E.terminology.table.now y ≡ 4 → c ≡ true → {f : ℕ} → f ≡ filler_at E.terminology.table.now y → {z : Bool} → Tells z (RowBelow E w k f)
      → Tells z (FilledAbove E w r k y)
  filled_told kind serves filler tells = tells_as (λ h. record { kind = kind; role = rw (← role) (sym told ∙ serves); filler = rw (← filler) h }) (λ h. rw filler h.filler) tells

  pub other_role : c ≡ false → Tells c (FilledAbove E w r k y)
  other_role serves = rw serves (never (λ h. not_both (told ∙ rw role h.role) serves))

module _ {E : Evaluation} {ys : List ℕ} where
  module _ {k i : ℕ} {w v : List ℕ} (blank : BlankAbove E ys k w) (i_in : i < k) (filled : AboveFilled E ys i w v) where
    pub raised_room : RowRoom E.base E.square.names i v
    raised_room = record { inside = omega (arith, filled.long, blank.inside, cell_next E.base E.square.names i, rows_below E.base E.square.names (suc i) k i_in); few = blank.upward.few }

    raised_blank : (x : ℕ) → x ≤ E.square.names → Holds v E.base E.square.names i x → ⊥
    raised_blank x l h =
        let same : get_or v (cell E.base E.square.names i x) 0 ≡ get_or w (cell E.base E.square.names i x) 0 = filled.past (cell E.base E.square.names i x) (cell_first E.base E.square.names i x) in
        let zero : get_or w (cell E.base E.square.names i x) 0 ≡ 0 = blank.zero (cell E.base E.square.names i x) (cell_base E.base E.square.names i x)
        (omega (arith, cell_below E.base E.square.names i x l, cell_next E.base E.square.names i, rows_below E.base E.square.names (suc i) k i_in)) in
        omega (arith, h.is, same, zero)

    pub raised_more : {f : Form} → Some f ≡ form_of (row_at ys i) → {u : List ℕ} → Adds E.base E.square.names i (PlainAbove E v f) v u → AboveFilled E ys (i + 1) w u
    raised_more {f} read adds = rw add-one (record {
      long = adds.long ∙ filled.long;
      before = λ p l. adds.before p (omega (arith, cell_base E.base E.square.names i 0)) ∙ filled.before p l;
      past = λ p l. adds.past p (omega (arith, cell_next E.base E.square.names i)) ∙ filled.past p (omega (arith, rows_below E.base E.square.names i (suc i) (omega arith)));
      told = λ sig world names_in formed.
          let here : WorldOf E v = world_after blank.upward.apart filled.long filled.before world in
          let before : Formed sig (row_at ys) i = record { at = λ j h. formed.at j (omega arith) } in
          let told = filled.told sig world names_in before in
          told_more told adds raised_blank
          (λ x l m. plain_above_sound here ys told formed x f (form_row (row_at ys i) (sym read)) (form_inside (blank.fit i i_in) read) m)
          (λ x l m. plain_above_complete here ys told formed x f (form_row (row_at ys i) (sym read)) (form_inside (blank.fit i i_in) read) m);
    })
