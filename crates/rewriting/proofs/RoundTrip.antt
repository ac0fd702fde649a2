-- What calls that keep their promises give together.
--   copied              a file rewritten in its own version is the same file
--   written_same        a file that a call wrote has the names, roles, axioms and derivable inclusions of the release
--   round_trip          rewriting it in the version that the release had, with room enough, returns the release's bytes
use mathlib.Core.Path.{◌≡◌, refl, sym, ap, subst, ◌∙◌}
use mathlib.Core.Bool.{Bool, true, false}
use mathlib.Core.List.{List, ◌++◌}
use Prim.Native.Nat.{ℕ, zero, suc, ◌≤◌}
use native.Mathlib.Omega.{arith}
use borrow.Author.Tests.{le-ltb, ltb-false}
use lib.Dec.{ltb}
use lib.ListN.{length, take, drop}
use lib.Seq.{take_at}
use Rattle.release.specs.Files.{version_of, width_of, most_names_of, names_of, IsWidth}
use Rattle.release.proofs.Checks.{header_sound}
use Rattle.release.proofs.Linked.{no_header_fault}
use Rattle.std.specs.Prelude.{Result, Ok}
use Rattle.release.specs.Refusals.{Numbers}
use Rattle.rewriting.specs.Bytes.{Bytes}
use Rattle.rewriting.specs.Rewriting.{rewritten, refusal, answer_accepted, source_fault, answer_to, Rewritable, Rewrites, Same, Returned}
use Rattle.output.specs.Written.{WrittenAs}
use Rattle.output.proofs.Written.{fits, fitted_length, written_text}
use Rattle.rewriting.proofs.Accepted.{read_back}
use Rattle.rewriting.proofs.Answers.{source_none, source_rewritable}
use Rattle.rewriting.proofs.Canonical.{canonical, version_width}

-- not refused: the release is accepted, has names few enough, and its file fits the output
pub record Wrote (w : ℕ) (s o : List ℕ) (k : ℕ) : Type 0 where
  pub accepted : Rewritable s
  pub names : names_of s ≤ most_names_of w
  pub long : k ≡ length (rewritten w s)
  pub room : k ≤ length o

pub not_refused : (w : ℕ) (s o : List ℕ) → Rewritable s → names_of s ≤ most_names_of w → length (rewritten w s) ≤ length o → answer_to w s o ≡ Ok (length (rewritten w s))
unfolding answer_to answer_accepted
not_refused w s o ok names room =
    let few : ltb (most_names_of w) (names_of s) ≡ false = le-ltb _ _ names in
    simp (answer_to, source_none s ok, answer_accepted, few) (fits _ (rewritten w s) o room)

module _ (w : ℕ) (s o : List ℕ) (k : ℕ) where
  accepted_wrote : Rewritable s → Ok k ≡ answer_accepted w s o → Wrote w s o k
  unfolding answer_accepted
  accepted_wrote ok h = by_test (ltb (most_names_of w) (names_of s)) refl
    where
      by_test : (a : Bool) → ltb (most_names_of w) (names_of s) ≡ a → Wrote w s o k
      by_test true e =
          let i : Ok k ≡ refusal 40 1 = h ∙ rw (e, answer_accepted) in
          let z : ◌≡◌ {A = ℕ} 0 1 = cc in
          absurd (omega arith)
      by_test false e =
          let whole = fitted_length (record { number = 41; side = 0 }) (rewritten w s) o k (h ∙ rw (e, answer_accepted)) in
          record { accepted = ok; names = ltb-false _ _ e; long = whole.0; room = whole.1 }

  pub wrote : Ok k ≡ answer_to w s o → Wrote w s o k
  unfolding answer_to
  wrote h = by_fault (source_fault s) refl
    where
      by_fault : (f : ℕ) → source_fault s ≡ f → Wrote w s o k
      by_fault zero e = accepted_wrote (source_rewritable s e) (h ∙ rw e)
      by_fault (suc f) e =
          let i : Ok k ≡ refusal (suc f) 1 = h ∙ rw e in
          let z : ◌≡◌ {A = ℕ} 0 1 = cc in
          absurd (omega arith)

-- the bytes that a call wrote
module _ (w : ℕ) (s : List ℕ) {o q : List ℕ} {k : ℕ} (call : Rewrites w s o q (Ok k)) where
  pub written_bytes : take k q ≡ rewritten w s
  written_bytes = ap (take k) (written_text call) ∙ take_at (rewritten w s) (drop k o) k (sym (wrote w s o k call.answers).long)

  pub written_same : IsWidth w → Same w s (take k q)
  written_same width =
      let given = wrote w s o k call.answers in
      subst (Same w s) (sym written_bytes) (read_back w s width given.accepted given.names)

pub copied : (s : List ℕ) → Bytes s → Rewritable s → rewritten (version_of s) s ≡ s
copied s bytes ok = rw (version_width s bytes ok) (sym (canonical s bytes ok))

-- a release that says the same has the same file in each version
same_file : {w : ℕ} {s t : List ℕ} (v : ℕ) → Same w s t → rewritten v t ≡ rewritten v s
unfolding rewritten
same_file v same = rw (same.names, same.roles, same.axioms)

pub round_trip : (s : List ℕ) → Bytes s → {w : ℕ} → IsWidth w → {o q o' q' : List ℕ} {k : ℕ} {answer : Result ℕ Numbers} → Rewrites w s o q (Ok k)
    → Rewrites (version_of s) (take k q) o' q' answer → length s ≤ length o' → Returned s o' q' answer
round_trip s bytes {w} width {o} {q} {o'} {q'} {k} {answer} forth back room =
    let ok : Rewritable s = (wrote w s o k forth.answers).accepted in
    let t = take k q in
    let v = version_of s in
    let same : Same w s t = written_same w s forth width in
    let again : rewritten v t ≡ s = same_file v same ∙ copied s bytes ok in
    let few : names_of s ≤ most_names_of (width_of s) = (header_sound s (no_header_fault s ok.accepted)).names_by_width in
    let names : names_of t ≤ most_names_of v = rw (same.names, version_width s bytes ok) few in
    let full : answer_to v t o' ≡ Ok (length (rewritten v t)) = not_refused v t o' same.accepted names (rw again room) in
    let answers : answer ≡ Ok (length s) = back.answers ∙ full ∙ ap (λ (x : List ℕ). Ok (length x)) again in
    record {
      answers = answers;
      leaves = written_text (subst (λ (a : Result ℕ Numbers). WrittenAs (answer_to v t o') (rewritten v t) o' q' a) answers back) ∙ ap (λ (x : List ℕ). x ++ drop (length s) o') again;
    }

-- a release of version 2 rewritten as version 1 and then as version 2
pub round_trip_2 : (s : List ℕ) → Bytes s → version_of s ≡ 2 → {o q o' q' : List ℕ} {k : ℕ} {answer : Result ℕ Numbers} → Rewrites 1 s o q (Ok k)
    → Rewrites 2 (take k q) o' q' answer → length s ≤ length o' → Returned s o' q' answer
round_trip_2 s bytes e {o} {q} {o'} {q'} {k} {answer} forth back room =
    round_trip s bytes (record { some = omega arith; few = omega arith }) forth (subst (λ (v : ℕ). Rewrites v (take k q) o' q' answer) (sym e) back) room
