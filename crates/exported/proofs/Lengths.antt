-- What a call answers fits a lent number of 32 bits.
--   counts_fit          the counts of an accepted release
--   shown_fits          the place of an axiom shown: an accepted file is short
--   rewriting_short     the length of a rewritten file
--   page_length_fits, page_fits     the length of a page
--   practice_fits       the length of a practice release
--   rows_fit            how many rows of a concept are written
--   session_fits        the counts of a session
--   file_length_fits, signature_length_fits     how many bytes of it are copied
use mathlib.Core.Path.{◌≡◌, refl}
use mathlib.Core.Bool.{Bool, true, false}
use mathlib.Core.List.{List}
use Prim.Native.Nat.{ℕ, ◌+◌, ◌≤◌, ◌<◌}
use native.Mathlib.Omega.{arith}
use borrow.Author.Tests.{eqb-true}
use lib.Dec.{eqb}
use lib.ListN.{length, get_or}
use Rattle.el.specs.Lists.{pick}
use Rattle.release.specs.Files.{width_of, count_of, fault, accepted}
use Rattle.release.specs.Readings.{checked, counts_in}
use Rattle.release.specs.Refusals.{told}
use Rattle.release.specs.Shown.{shown_place, holder}
use Rattle.release.specs.declared.Counts.{Counts}
use Rattle.release.specs.declared.show.Place.{Place}
use Rattle.release.proofs.Checks.{header_sound}
use Rattle.release.proofs.Linked.{no_header_fault}
use Rattle.release.proofs.Places.{shown_within}
use Rattle.release.proofs.Refusing.{is_accepted}
use Rattle.std.specs.Prelude.{Result, Ok, Err, IfOk}
use Rattle.release.specs.declared.number.Version.{Version}
use Rattle.release.specs.declared.number.Version.TheVariants.{One, Two, Three}
use Rattle.release.specs.declared.TheConstants.Release.{LONGEST}
use Rattle.rewriting.specs.Rewriting.{Rewrites, RewritesAs}
use Rattle.rewriting.specs.Refusals.{rewrite_refusal}
use Rattle.rewriting.specs.declared.refusals.RewriteRefusal.{RewriteRefusal}
use Rattle.rewriting.proofs.Lengths.{accepted_few, length_found, length_few, count_few}
use Rattle.rewriting.proofs.RoundTrip.{wrote}
use Rattle.output.specs.Written.{WrittenAs}
use Rattle.practice.specs.Making.{Makes}
use Rattle.practice.specs.declared.refusals.PracticeRefusal.{PracticeRefusal}
use Rattle.practice.proofs.Accepted.{made_short}
use Rattle.report.specs.Pages.{page}
use Rattle.report.specs.PagesWritten.{length_answer, page_answer}
use Rattle.report.specs.declared.refusals.PageRefusal.{PageRefusal}
use Rattle.report.proofs.PageAnswers.{length_short, written_short}
use Rattle.witness.specs.Showing.{ShownAs}
use Rattle.witness.specs.declared.refusals.ShowRefusal.{ShowRefusal}
use Rattle.witness.proofs.Passing.{few_rows}
use Rattle.editing.specs.declared.Session.{Session}
use Rattle.editing.specs.Readers.{names_read, roles_read, file_read, signature_read}
use Rattle.editing.proofs.Readers.{names_few, roles_few}
use Rattle.session_bytes.specs.Layout.{Copies}
use Rattle.session_bytes.proofs.Layouts.{file_fits, signature_fits}
use Rattle.exported.specs.Codes.{Fits32}

-- counts
pub record CountsFit (a : Counts) : Type 0 where
  pub names : Fits32 a.names
  pub roles : Fits32 a.roles
  pub axioms : Fits32 a.axioms

pub counts_fit : (s : List ℕ) (a : Counts) → Ok a ≡ checked s → CountsFit a
unfolding checked
counts_fit s a h =
    let v = is_accepted 1 (fault s) (counts_in s) a h in
    let header = header_sound s (no_header_fault s v.0) in
    rw v.1 (record { names = omega (arith, header.names); roles = omega (arith, header.roles); axioms = omega (arith, header.names, header.count) })

pub record PlaceFits (p : Place) : Type 0 where
  pub start : Fits32 p.start
  pub length : Fits32 p.length

-- a part of one of two short files
part_fits : (s t : List ℕ) → length s ≤ LONGEST → length t ≤ LONGEST → (p : Place) → p.start + p.length ≤ length (holder s t p) → PlaceFits p
part_fits s t short short' p h = by_side (eqb p.side 2) h
  where
    by_side : (b : Bool) → p.start + p.length ≤ length (pick b t s) → PlaceFits p
    by_side true l = record { start = omega arith; length = omega arith }
    by_side false l = record { start = omega arith; length = omega arith }

pub shown_fits : (s t : List ℕ) → get_or s 10 0 < 256 → get_or t 10 0 < 256 → (side x : ℕ) (p : Place) → p ≡ shown_place s t side x → PlaceFits p
unfolding shown_place
shown_fits s t byte byte2 side x p e = rw e (by_files (accepted s) (accepted t) refl refl)
  where
    by_files : (a b : Bool) → accepted s ≡ a → accepted t ≡ b → PlaceFits (shown_place s t side x)
    by_files false b f g = rw (shown_place, f) (record { start = omega arith; length = omega arith })
    by_files true false f g = rw (shown_place, f, g) (record { start = omega arith; length = omega arith })
    by_files true true f g = part_fits s t (accepted_few s (eqb-true _ _ f) (omega arith)) (accepted_few t (eqb-true _ _ g) (omega arith)) (shown_place s t side x) (shown_within s t side x)

-- a rewritten file
short_in : (w : ℕ) (s : List ℕ) {o p : List ℕ} (a : Result ℕ RewriteRefusal) → Rewrites w s o p (told rewrite_refusal a) → w ≤ 2 → IfOk a Fits32
short_in w s {o} (Ok k) does h =
    let found = wrote w s o k does.answers in
    let ok = found.accepted in
    let long = length_found s ok (count_of s) (width_of s) refl refl w in
    let few = length_few s ok (count_of s) (width_of s) refl refl w h in
    omega (arith, found.long, long, few, count_few s ok)
short_in w s (Err e) does h = tt

pub rewriting_short : (v : Version) (s o p : List ℕ) (a : Result ℕ RewriteRefusal) → RewritesAs v s o p (told rewrite_refusal a) → IfOk a Fits32
rewriting_short One s o p a does = short_in 1 s a does (omega arith)
rewriting_short Two s o p a does = short_in 2 s a does (omega arith)
rewriting_short Three s o p (Ok k) does = let e = does.0 in absurd (cc)
rewriting_short Three s o p (Err e) does = tt

-- a page
pub page_length_fits : (bs : List ℕ) (a : Result ℕ PageRefusal) → a ≡ length_answer bs → IfOk a Fits32
page_length_fits bs (Ok k) is = omega (arith, length_short bs k is)
page_length_fits bs (Err e) is = tt

pub page_fits : (bs o q : List ℕ) (a : Result ℕ PageRefusal) → WrittenAs (page_answer bs o) (page bs) o q a → IfOk a Fits32
page_fits bs o q (Ok k) written = omega (arith, written_short bs o k written.answers)
page_fits bs o q (Err e) written = tt

-- a practice release
pub practice_fits : (seed n m : ℕ) {o q : List ℕ} (a : Result ℕ PracticeRefusal) → Makes seed n m o q a → IfOk a Fits32
practice_fits seed n m (Ok k) makes = omega (arith, made_short seed n m makes)
practice_fits seed n m (Err e) makes = tt

-- a concept shown
pub rows_fit : {s t g ys zs w v : List ℕ} {side x : ℕ} (a : Result ℕ ShowRefusal) → ShownAs s t g side x ys zs w v a → IfOk a Fits32
rows_fit (Ok k) shown = omega (arith, few_rows shown)
rows_fit (Err e) shown = tt

-- a session, whatever it holds
pub record SessionFits (s : Session) : Type 0 where
  pub names : Fits32 (names_read s)
  pub roles : Fits32 (roles_read s)

pub session_fits : (s : Session) → SessionFits s
session_fits s = record { names = omega (arith, names_few s); roles = omega (arith, roles_few s) }

pub file_length_fits : (side : ℕ) (s : Session) {o q : List ℕ} {k : ℕ} → Copies (file_read side s) o q k → Fits32 k
file_length_fits side s copies = omega (arith, copies.length_is, file_fits side s)

pub signature_length_fits : (s : Session) {o q : List ℕ} {k : ℕ} → Copies (signature_read s) o q k → Fits32 k
signature_length_fits s copies = omega (arith, copies.length_is, signature_fits s)
