-- By rule 1 the promise is that of a sheet without rules whose shares are rounded down, and that promise is the one by rule 1: each row, each
-- answer, and all that is said of what is lent.
use mathlib.Core.Path.{◌≡◌, refl, sym, ◌∙◌}
use mathlib.Core.List.{List}
use Prim.Native.Nat.{ℕ}
use native.Mathlib.Omega.{arith}
use lib.ListN.{length}
use Rattle.std.specs.Prelude.{Result}
use Rattle.meanings.specs.declared.Compared.{Compared}
use Rattle.branches.specs.declared.refusals.SheetRefusal.{SheetRefusal}
use Rattle.branches.specs.declared.row.Row.{Row}
use Rattle.branches.specs.Rows.{IsRow}
use Rattle.branches.specs.Sheets.{ruled_sheet, judged, sheet, Says}
use Rattle.branches.specs.RoundedDown.{RowDown, sheet_down, SaysDown}

row_down : {s t g : List ℕ} {r : Row} → IsRow 1 s t g r → RowDown s t g r
row_down row = record {
  bytes = row.bytes;
  are_bytes = row.are_bytes;
  is = rw (← row.is.share.down refl, ← row.is.chosen, ← row.is.left, ← row.is.right) refl;
}

down_row : {s t g : List ℕ} {r : Row} → RowDown s t g r → IsRow 1 s t g r
down_row row = record {
  bytes = row.bytes;
  are_bytes = row.are_bytes;
  is = rw row.is (record { chosen = refl; left = refl; right = refl; share = record { down = λ e. refl; to_nearest = λ e. absurd (omega arith) } });
}

answer_down : (s t gs : List ℕ) (q rows w : ℕ) → sheet s t gs q 1 rows w ≡ sheet_down s t gs q rows w
unfolding judged ruled_sheet sheet_down
answer_down s t gs q rows w = refl

module _ {s t gs : List ℕ} {q : ℕ} {ys zs : List Row} {w v : List ℕ} {r : Result Compared SheetRefusal} where
  pub rule_1_is_down : Says s t gs q 1 ys zs w v r → SaysDown s t gs q ys zs w v r
  rule_1_is_down says = record {
    answer = says.answer ∙ answer_down s t gs q (length ys) (length w);
    refused_rows = says.refused_rows;
    refused_work = says.refused_work;
    accepted_rows = λ e. let rows = says.accepted_rows e in record { filled = rows.filled; long = rows.long; each = λ i h. row_down (rows.each i h); rows = rows.rows };
    accepted_work = says.accepted_work;
  }

  pub down_is_rule_1 : SaysDown s t gs q ys zs w v r → Says s t gs q 1 ys zs w v r
  down_is_rule_1 says = record {
    answer = says.answer ∙ sym (answer_down s t gs q (length ys) (length w));
    refused_rows = says.refused_rows;
    refused_work = says.refused_work;
    accepted_rows = λ e. let rows = says.accepted_rows e in record { filled = rows.filled; long = rows.long; each = λ i h. down_row (rows.each i h); rows = rows.rows };
    accepted_work = says.accepted_work;
  }
