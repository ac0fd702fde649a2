-- Rows as they are lent: three numbers a row, one after the other; numbers behind the last whole row are no row.
--   row_at l i                  row i of the lent numbers l
--   row_count l                 how many rows l has
--   rows_needed n               how many rows the station must be lent for releases with n names
--   Last sig t u side a l k    the last of the first k rows of l shows the difference of the name a, and all k are well formed
use Rattle.std.specs.Prelude.{◌≡◌, List, ℕ, suc, ◌+◌, ◌*◌, ◌/◌, length, get_or}
use Rattle.el.specs.Axioms.{Terminology}
use Rattle.el.specs.Signatures.{Signature}
use Rattle.concept_rows.specs.Rows.{Row, Shows}

unfoldable pub row_at : List ℕ → ℕ → Row
row_at l i = record { kind = get_or l (3 * i) 0; one = get_or l (3 * i + 1) 0; other = get_or l (3 * i + 2) 0 }

unfoldable pub row_count : List ℕ → ℕ
row_count l = length l / 3

unfoldable pub rows_needed : ℕ → ℕ
rows_needed n = (n + 2) * (n + 2) * (n + 2)

pub record Last (sig : Signature) (t u : Terminology) (side a : ℕ) (l : List ℕ) (k : ℕ) : Type 0 where
  pub last : ℕ
  pub is_last : k ≡ suc last
  pub shows : Shows sig t u side a (row_at l) last
