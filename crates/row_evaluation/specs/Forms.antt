-- Rows that are well formed, over the bytes of a lent signature.
--   IsFormed g ys i     row i is well formed
--   AllFormed g ys k    the first k rows are
use Rattle.std.specs.Prelude.{List, ℕ}
use Rattle.concept_rows.specs.Rows.{WellFormed}
use Rattle.concept_rows.specs.Lent.{row_at}
use Rattle.concept_rows.specs.Written.{Formed}
use Rattle.signature.specs.Bytes.{signature_of}
use Rattle.signature.specs.declared.lent.LentSignature.{LentSignature}

abbrev pub IsFormed : LentSignature → List ℕ → ℕ → Type 0
IsFormed g ys i = WellFormed (signature_of g.names g.roles g.bytes.now) i (row_at ys i)

abbrev pub AllFormed : LentSignature → List ℕ → ℕ → Type 0
AllFormed g ys k = Formed (signature_of g.names g.roles g.bytes.now) (row_at ys) k
