-- A held file: its text, its copy, what checking it answers, and the file that it holds after an edit.
use mathlib.Core.Path.{◌≡◌, refl, sym, ap, ap₂, ◌∙◌}
use mathlib.Core.Bool.{Bool, true, false, ◌||◌, false≢true}
use mathlib.Core.Logic.{◌⊎◌, inl, inr, ⊎_elim}
use mathlib.Core.List.{List}
use Prim.Native.Nat.{ℕ, ◌+◌, ◌≤◌, ◌<◌, min}
use native.Mathlib.Omega.{arith}
use native.Mathlib.Decide.{ℕ_discrete}
use borrow.Author.Tests.{le-leb, lt-leb, eq-eqb, ne_eqb, eqb-true}
use lib.Dec.{eqb}
use lib.ListN.{length, take, drop, replicate, take-append-drop, length-replicate}
use lib.Seq.{take_all}
use Rattle.std.specs.Prelude.{Ok, Err}
use Rattle.std.proofs.lemmas.Bool.{cases_lt}
use Rattle.release.specs.Files.{version_of, width_of, fault}
use Rattle.release.specs.Readings.{checked, counts_in}
use Rattle.release.specs.Refusals.{Numbers}
use Rattle.release.specs.declared.Counts.{Counts}
use Rattle.release.specs.Versions.{version_number, width}
use Rattle.release.specs.declared.number.Version.{Version}
use Rattle.release.specs.declared.number.Version.TheVariants.{Two, Three}
use Rattle.release.proofs.Numbers.{version_1_width}
use Rattle.release.proofs.Versions.{version_width}
use Rattle.release.proofs.Checks.{header_sound}
use Rattle.release.proofs.Linked.{no_header_fault}
use Rattle.release.proofs.Refusing.{is_refused, is_accepted}
use Rattle.rewriting.specs.Bytes.{Bytes}
use Rattle.output.specs.Places.{Put}
use Rattle.output.proofs.Puts.{put_next, put_at_start}
use Rattle.splicing.specs.Places.{most_bytes, file_with, file_without, Copied, PutsIn, TakesOut}
use Rattle.splicing.proofs.Splices.{filed_with, filed_without}
use Rattle.editing.specs.declared.held.HeldFile.{HeldFile}
use Rattle.editing.specs.Sessions.{text_of, holding, blank, is_held}
use Rattle.editing.specs.Judging.{Holds, Adds, Withdraws}

module _ (f : HeldFile) (long : length f.bytes ≡ most_bytes) where
  -- a length past the bytes is as good as theirs
  pub text_lent : (k : ℕ) → k ≡ min f.length most_bytes → take k f.bytes ≡ text_of f
  unfolding text_of
  text_lent k e = ⊎_elim past within (cases_lt most_bytes f.length) where
    past : most_bytes < f.length → take k f.bytes ≡ take f.length f.bytes
    past h = take_all k f.bytes (omega arith) ∙ sym (take_all f.length f.bytes (omega arith))

    within : f.length ≤ most_bytes → take k f.bytes ≡ take f.length f.bytes
    within h = let same : k ≡ f.length = omega arith in ap (λ (j : ℕ). take j f.bytes) same

  held_copy : Holds f → Copied (text_of f) f.bytes
  unfolding text_of
  held_copy h = record {
    file = h.file;
    stands = record { rest = drop f.length f.bytes; is = sym (take-append-drop f.length f.bytes) };
    room = omega arith;
  }

  held_put : {text q : List ℕ} {end : ℕ} → Put f.bytes 0 text q end → length text ≤ most_bytes → record { bytes = q; length = end } ≡ holding text f
  unfolding holding
  held_put {text} {q} {end} put h =
      let next : end ≡ 0 + length text = put_next (omega arith) put in
      let e : end ≡ length text = omega arith in
      ap₂ (λ (b : List ℕ) (l : ℕ). record { bytes = b; length = l }) (put_at_start put (omega arith)) e

  -- an axiom more, an axiom less
  pub adds_asks : {text : List ℕ} → Adds f text → Bytes text → PutsIn (text_of f) f.bytes text
  adds_asks h bytes = record { copied = held_copy h.holds; text_is = record { bytes = bytes; accepted = h.accepted }; free = h.free }

  pub adds : {text q : List ℕ} {end : ℕ} → Adds f text → Put f.bytes 0 (file_with (text_of f) text) q end → record { bytes = q; length = end } ≡ holding (file_with (text_of f) text) f
  adds {text} h put = held_put put (filed_with text h.holds.file h.accepted h.free).short

  pub withdraws_asks : {x : ℕ} → Withdraws f x → TakesOut (text_of f) f.bytes x
  withdraws_asks h = record { copied = held_copy h.holds; taken = h.taken }

  pub withdraws : {x : ℕ} {q : List ℕ} {end : ℕ} → Withdraws f x → Put f.bytes 0 (file_without (text_of f) x) q end
      → record { bytes = q; length = end } ≡ holding (file_without (text_of f) x) f
  withdraws {x} h put = held_put put (filed_without x h.holds.file).short

-- an accepted file has version 1 exactly where its names take one byte
module _ (s : List ℕ) (ok : fault s ≡ 0) where
  version_by : (w : ℕ) → w ≡ width_of s → eqb (version_of s) 1 ≡ eqb w 1
  version_by w e = by_version (ℕ_discrete (version_of s) 1) (ℕ_discrete (version_of s) 2) (ℕ_discrete (version_of s) 3)
    where
      other : (v : Version) → version_number v ≡ version_of s → (version_of s ≡ 1 → ⊥) → width v ≡ 2 → eqb (version_of s) 1 ≡ eqb w 1
      other v is n wide = let x : w ≡ 2 = e ∙ (version_width s v is ∙ wide) in ne_eqb (version_of s) 1 n ∙ sym (ne_eqb w 1 (λ z. omega arith))

      by_version : Dec (version_of s ≡ 1) → Dec (version_of s ≡ 2) → Dec (version_of s ≡ 3) → eqb (version_of s) 1 ≡ eqb w 1
      by_version (yes h) d f = eq-eqb (version_of s) 1 h ∙ sym (eq-eqb w 1 (e ∙ version_1_width s h))
      by_version (no n) (yes h) f = other Two (sym h) n refl
      by_version (no n) (no m) (yes h) = other Three (sym h) n refl
      by_version (no n) (no m) (no k) = absurd
          (false≢true (rw (ne_eqb (version_of s) 1 n, ne_eqb (version_of s) 2 m, ne_eqb (version_of s) 3 k) at (header_sound s (no_header_fault s ok)).version))

-- what checking answers
module _ (f : HeldFile) where
  pub held_past : most_bytes < f.length → is_held f ≡ false
  unfolding is_held
  held_past h = simp (lt-leb f.length most_bytes h)

  module _ (fits : f.length ≤ most_bytes) {s : List ℕ} (text : s ≡ text_of f) where
    pub held_refused : (n : Numbers) → Err n ≡ checked s → is_held f ≡ false
    unfolding is_held checked
    held_refused n h =
        let r = is_refused 1 (fault (text_of f)) (counts_in (text_of f)) n (rw text at h) in
        simp (le-leb f.length most_bytes fits, ne_eqb (fault (text_of f)) 0 (λ z. omega (arith, r.1)))

    module _ {c : Counts} (read : Ok c ≡ checked s) where
      ok : (fault (text_of f) ≡ 0) × (c ≡ counts_in (text_of f))
      unfolding checked
      ok = is_accepted 1 (fault (text_of f)) (counts_in (text_of f)) c (rw text at read)

      pub held_accepted : fault s ≡ 0
      held_accepted = rw text ok.0

      held_by : (w : ℕ) → w ≡ width_of s → is_held f ≡ eqb w 1
      unfolding is_held
      held_by w e = simp (le-leb f.length most_bytes fits, eq-eqb (fault (text_of f)) 0 ok.0, version_by (text_of f) ok.0 w (rw text at e))

      pub held_other : {w : ℕ} → w ≡ width_of s → (w ≡ 1 → ⊥) → is_held f ≡ false
      held_other {w} e n = held_by w e ∙ ne_eqb w 1 n

      pub held_counts : 1 ≡ width_of s → (is_held f ≡ true) × (c ≡ counts_in (text_of f))
      held_counts e = (held_by 1 e, ok.1)

-- a file put at the start of bytes that are 0
pub blank_put : {text q : List ℕ} {end : ℕ} → Put (replicate most_bytes 0) 0 text q end → length text ≤ most_bytes → record { bytes = q; length = end } ≡ holding text blank
blank_put put h = held_put blank (length-replicate {A = ℕ} most_bytes 0) put h
