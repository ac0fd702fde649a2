-- Rows filled with the nodes that lie below them: ∃ over a row, by name after name, and row after row.
use mathlib.Core.Path.{◌≡◌, refl, sym, ◌∙◌}
use mathlib.Core.Bool.{Bool, true, false}
use mathlib.Core.Logic.{inl, inr}
use mathlib.Core.List.{List}
use Prim.Native.Nat.{ℕ, suc, ◌+◌, ◌≤◌, ◌<◌}
use native.Mathlib.Omega.{arith}
use native.Mathlib.Numerals.{add-one}
use native.Mathlib.Decide.{ℕ_discrete}
use lib.ListN.{get_or}
use Rattle.std.specs.Prelude.{Some}
use Rattle.el.proofs.Tests.{Tells, tells_as, never}
use Rattle.concept_rows.specs.Lent.{row_at}
use Rattle.concept_rows.specs.Written.{Formed}
use Rattle.release.specs.Tables.{HasSuccessor, NoSuccessor}
use Rattle.marks.specs.Squares.{Marked}
use Rattle.marks.proofs.Squares.{refuted}
use Rattle.row_evaluation.specs.Cells.{cell, Holds, RowRoom, Adds}
use Rattle.row_evaluation.specs.declared.Evaluation.{Evaluation}
use Rattle.row_evaluation.specs.declared.rows.Form.{Form}
use Rattle.row_evaluation.specs.RowForms.{form_of}
use Rattle.row_evaluation.specs.Worlds.{WorldOf}
use Rattle.row_evaluation.specs.Below.{SuccessorIn, Reaches, BelowBy, Setting, BlankBelow, BelowFilled}
use Rattle.row_evaluation.proofs.RowForms.{form_row, form_inside}
use Rattle.row_evaluation.proofs.RowBytes.{cell_base, rows_below, cell_next, cell_below, cell_first, adds_none, adds_as, adds_then, earlier_row, row_earlier, marked_same}
use Rattle.row_evaluation.proofs.RowBytes.{same_marked, told_more}
use Rattle.row_evaluation.proofs.Worlds.{world_after}
use Rattle.row_evaluation.proofs.BelowRows.{below_by_sound, below_by_complete}

-- one name
module _ {E : Evaluation} {w : List ℕ} {j r b : ℕ} where
  pub successor_held : {y : ℕ} {z : Bool} → HasSuccessor E.terminology.table.now b r y → Tells z (Holds w E.base E.square.names j y) → Tells z (SuccessorIn E w j r b)
  successor_held leads tells = tells_as (λ h. record { is_restriction = leads.is_restriction; role = leads.role; below = rw leads.filler h })
      (λ s. rw leads.filler at s.below) tells

  pub no_successor : NoSuccessor E.terminology.table.now b r → Tells false (SuccessorIn E w j r b)
  no_successor none = never (λ s. none.none _ (record { role = s.role; is_restriction = s.is_restriction; filler = refl }))

-- by a name before e
abbrev pub SomeBefore : Evaluation → List ℕ → ℕ → ℕ → ℕ → ℕ → Type 0
SomeBefore E w j r e x = (k : Reaches E w j r x) × (k.by < e)

pub some_start : {E : Evaluation} {i j r : ℕ} {w : List ℕ} → Adds E.base E.square.names i (SomeBefore E w j r 0) w w
some_start = adds_none (λ x l k. omega (arith, k.1))

module _ {E : Evaluation} {i j r : ℕ} {w v : List ℕ} (setting : Setting E w) (j_in : j < i) where
  module _ {P : ℕ → Type 0} (adds : Adds E.base E.square.names i P w v) {b : ℕ} (b_in : b < E.square.names) {z : Bool} (tells : Tells z (SuccessorIn E v j r b)) where
    pub served : z ≡ true → SuccessorIn E w j r b
    served h = let s = tells.sound h in record { is_restriction = s.is_restriction; role = s.role; below = row_earlier adds j_in (setting.fillers b b_in s.is_restriction) s.below }

    pub not_served : z ≡ false → SuccessorIn E w j r b → ⊥
    not_served h s = refuted tells h (record { is_restriction = s.is_restriction; role = s.role; below = earlier_row adds j_in (setting.fillers b b_in s.is_restriction) s.below })

  module _ {b : ℕ} (b_in : b < E.square.names) (adds : Adds E.base E.square.names i (SomeBefore E w j r b) w v) where
    pub some_turn : {u : List ℕ} → SuccessorIn E w j r b → Adds E.base E.square.names i (λ x. Marked E.square v x b) v u → Adds E.base E.square.names i (SomeBefore E w j r (b + 1)) w u
    some_turn serves put = adds_then {R = SomeBefore E w j r (b + 1)} adds put
        (λ x l k. elim (ℕ_discrete k.0.by b) [
          | yes e ↦ inr (marked_same adds setting.room setting.apart l (omega arith) (rw e at k.0.above))
          | no e ↦ inl
              (k.0, omega (arith, k.1))
        ])
        (λ x l k. (k.0, omega (arith, k.1)))
        (λ x l m. (record { by = b; is_name = b_in; successor = serves; above = same_marked adds setting.room setting.apart l (omega arith) m }, omega arith))

    pub some_skip : (SuccessorIn E w j r b → ⊥) → Adds E.base E.square.names i (SomeBefore E w j r (b + 1)) w v
    some_skip none = adds_as (λ x l k. (k.0, omega (arith, k.1)))
        (λ x l k. elim (ℕ_discrete k.0.by b) [ yes e ↦ absurd (none (rw e at k.0.successor)) | no e ↦ (k.0, omega (arith, k.1)) ]) adds

pub some_end : {E : Evaluation} {i j r e : ℕ} {w v : List ℕ} → E.square.names ≤ e → Adds E.base E.square.names i (SomeBefore E w j r e) w v → Adds E.base E.square.names i
    (Reaches E w j r) w v
some_end h a = adds_as (λ x l k. k.0) (λ x l k. (k, omega (arith, k.is_name))) a

-- row after row
module _ {E : Evaluation} {ys : List ℕ} where
  module _ {k i : ℕ} {w v : List ℕ} (blank : BlankBelow E ys k w) (i_in : i < k) (filled : BelowFilled E ys i w v) where
    pub row_room : RowRoom E.base E.square.names i v
    row_room = record { inside = omega (arith, filled.long, blank.inside, cell_next E.base E.square.names i, rows_below E.base E.square.names (suc i) k i_in); few = blank.setting.few }

    pub row_blank : (x : ℕ) → x ≤ E.square.names → Holds v E.base E.square.names i x → ⊥
    row_blank x l h =
        let same : get_or v (cell E.base E.square.names i x) 0 ≡ get_or w (cell E.base E.square.names i x) 0 = filled.past (cell E.base E.square.names i x) (cell_first E.base E.square.names i x) in
        let zero : get_or w (cell E.base E.square.names i x) 0 ≡ 0 = blank.zero (cell E.base E.square.names i x) (cell_base E.base E.square.names i x)
        (omega (arith, cell_below E.base E.square.names i x l, cell_next E.base E.square.names i, rows_below E.base E.square.names (suc i) k i_in)) in
        omega (arith, h.is, same, zero)

    pub filled_more : {f : Form} → Some f ≡ form_of (row_at ys i) → {u : List ℕ} → Adds E.base E.square.names i (BelowBy E v f) v u → BelowFilled E ys (i + 1) w u
    filled_more {f} read adds = rw add-one (record {
      long = adds.long ∙ filled.long;
      before = λ p l. adds.before p (omega (arith, cell_base E.base E.square.names i 0)) ∙ filled.before p l;
      past = λ p l. adds.past p (omega (arith, cell_next E.base E.square.names i)) ∙ filled.past p (omega (arith, rows_below E.base E.square.names i (suc i) (omega arith)));
      told = λ sig world names_in formed.
          let here : WorldOf E v = world_after blank.setting.apart filled.long filled.before world in
          let before : Formed sig (row_at ys) i = record { at = λ j h. formed.at j (omega arith) } in
          let told = filled.told sig world names_in before in
          told_more told adds row_blank
          (λ x l m. below_by_sound E here ys formed told x l f (form_row (row_at ys i) (sym read)) (form_inside (blank.fit i i_in) read) m)
          (λ x l m. below_by_complete E here ys formed told x l f (form_row (row_at ys i) (sym read)) (form_inside (blank.fit i i_in) read) m);
    })
