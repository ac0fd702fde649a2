-- Each file of a session that can be edited is the canonical one of its axioms: those of rising left names, each as short as can be.
--   canonical_on     the theorem
use mathlib.Core.Path.{◌≡◌, ◌∙◌}
use mathlib.Core.Bool.{Bool, true, false, ◌&&◌}
use Prim.Native.Nat.{ℕ, ◌≤◌, ◌<◌}
use native.Mathlib.Omega.{arith}
use lib.Dec.{eqb}
use lib.ListN.{length}
use lib.Seq.{length-take-le, get_or-take}
use Rattle.el.specs.Lists.{pick}
use Rattle.rewriting.specs.Bytes.{Bytes, release_bytes}
use Rattle.splicing.specs.Places.{most_bytes}
use Rattle.splicing.proofs.Splices.{own_file}
use Rattle.editing.specs.declared.held.HeldFile.{HeldFile}
use Rattle.editing.specs.declared.Session.{Session}
use Rattle.editing.specs.Sessions.{text_of, is_side, file_on, names_in, roles_in, axioms_on, is_session, IsValue}
use Rattle.editing.proofs.Stepping.{Edits, edits, side_held, side_file}

side_value : (side : ℕ) (s : Session) → IsValue s → (length (file_on side s).bytes ≡ most_bytes) × Bytes (file_on side s).bytes
unfolding file_on
side_value side s h = choose (eqb side 1)
  where
    choose : (b : Bool) → (length (pick b s.first s.second).bytes ≡ most_bytes) × Bytes (pick b s.first s.second).bytes
    choose true = (h.first_long, h.first_bytes)
    choose false = (h.second_long, h.second_bytes)

text_bytes : (f : HeldFile) → Bytes f.bytes → f.length ≤ length f.bytes → Bytes (text_of f)
unfolding text_of
text_bytes f h l = record { each = λ i k. let j : i < f.length = omega (arith, length-take-le f.length f.bytes l) in rw (get_or-take f.length f.bytes i 0 j) (h.each i (omega arith)) }

module _ (side : ℕ) (s : Session) (valid : is_side side && is_session s ≡ true) (value : IsValue s) where
  editable : Edits side s
  editable = edits side s valid

  pub file_fits : (file_on side s).length ≤ length (file_on side s).bytes
  file_fits = omega (arith, (side_held editable).holds.fits, (side_value side s value).0)

  pub canonical_on : text_of (file_on side s) ≡ release_bytes 1 (names_in s) (roles_in s) (axioms_on side s)
  canonical_on =
      own_file (text_of (file_on side s)) (side_held editable).holds.file (text_bytes (file_on side s) (side_value side s value).1 file_fits)
      ∙ side_file editable (axioms_on side s)
