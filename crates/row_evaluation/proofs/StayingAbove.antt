-- What lies above a row stays as it was while a later row gains names.
use mathlib.Core.Path.{◌≡◌}
use mathlib.Core.Bool.{Bool, true, false}
use mathlib.Core.Logic.{inl, inr}
use mathlib.Core.List.{List}
use Prim.Native.Nat.{ℕ, ◌≤◌, ◌<◌}
use native.Mathlib.Omega.{arith}
use lib.ListN.{length}
use Rattle.el.proofs.Tests.{Tells}
use Rattle.release.specs.Files.{joins, restricts}
use Rattle.marks.specs.Squares.{Marked}
use Rattle.marks.proofs.Squares.{refuted}
use Rattle.row_evaluation.specs.declared.Evaluation.{Evaluation}
use Rattle.row_evaluation.specs.declared.rows.Form.{Form}
use Rattle.row_evaluation.specs.declared.rows.Form.TheVariants.{Top, Name, Conjunction, Restriction}
use Rattle.row_evaluation.specs.RowForms.{FormIn}
use Rattle.row_evaluation.specs.Cells.{Holds, Adds}
use Rattle.row_evaluation.specs.Above.{RowBelow, top_above, parts_above, name_above, AboveBy, PlainAbove, ShapedBy, Upward}
use Rattle.row_evaluation.proofs.RowBytes.{earlier_row, row_earlier, marked_same, same_marked}

pub kind_2_joins : {k : ℕ} → k ≡ 2 → joins k ≡ true
kind_2_joins e = rw e

pub kind_4_restricts : {k : ℕ} → k ≡ 4 → restricts k ≡ true
kind_4_restricts e = rw e

-- the same by other memory with the same earlier rows and the same square
module _ {E : Evaluation} {w v : List ℕ} {i : ℕ} (shaped : ShapedBy E)
    (held : (j x : ℕ) → j < i → x ≤ E.square.names → Holds w E.base E.square.names j x → Holds v E.base E.square.names j x)
    (marks : (x y : ℕ) → x ≤ E.square.names → y ≤ E.square.names → Marked E.square w x y → Marked E.square v x y) where
  below_map : {j y : ℕ} → j < i → RowBelow E w j y → RowBelow E v j y
  below_map h (top_above e) = top_above e
  below_map {j} {y} h (parts_above l e p) = parts_above l e (record { each = λ k m. held j _ h (omega (arith, shaped.part y k l (kind_2_joins e) m)) (p.each k m) })
  below_map {j} {y} h (name_above l e m) = name_above l e (held j y h (omega arith) m)

  pub plain_map : (f : Form) → {y : ℕ} → FormIn E.square.names i f → PlainAbove E w f y → PlainAbove E v f y
  plain_map f {y} fits a = record { is_name = a.is_name; plain = a.plain; above = by_form f fits a.above }
    where
      y_in : y ≤ E.square.names
      y_in = omega (arith, a.is_name)

      by_form : (f : Form) → FormIn E.square.names i f → AboveBy E w f y → AboveBy E v f y
      by_form Top fits m = m
      by_form (Name b) fits m = marks b.0 y (omega (arith, fits)) y_in m
      by_form (Conjunction j k) fits m = elim m [ inl o ↦ inl (held j y fits.0 y_in o) | inr o ↦ inr (held k y fits.1 y_in o) ]
      by_form (Restriction r j) fits m = record { kind = m.kind; role = m.role; filler = below_map fits m.filler }

module _ {E : Evaluation} {w v : List ℕ} {i : ℕ} (upward : Upward E w) {P : ℕ → Type 0} (adds : Adds E.base E.square.names i P w v) {f : Form} {y : ℕ}
    (fits : FormIn E.square.names i f) {z : Bool} (tells : Tells z (PlainAbove E v f y)) where
  pub was_above : z ≡ true → PlainAbove E w f y
  was_above h = plain_map upward.shaped (λ j x l m k. row_earlier adds l m k) (λ x y l m k. same_marked adds upward.room upward.apart l m k) f fits (tells.sound h)

  pub was_not_above : z ≡ false → PlainAbove E w f y → ⊥
  was_not_above h a = refuted tells h (plain_map upward.shaped (λ j x l m k. earlier_row adds l m k) (λ x y l m k. marked_same adds upward.room upward.apart l m k) f fits a)

pub upward_after : {E : Evaluation} {w v : List ℕ} → length v ≡ length w → Upward E w → Upward E v
upward_after e s = record { shaped = s.shaped; room = record { small = s.room.small; fits = omega (arith, s.room.fits) }; apart = s.apart; few = s.few }
