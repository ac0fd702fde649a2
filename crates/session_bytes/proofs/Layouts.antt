-- The layout: a session read from its parts, written part by part, and read back from its bytes.
--   Arrays s        the lengths of a session's arrays
--   session_back    a session is read back from its bytes
use mathlib.Core.Path.{◌≡◌, refl, sym, ap, ap₂, ◌∙◌}
use mathlib.Core.Bool.{Bool, true, false, ◌&&◌}
use mathlib.Core.List.{List, [], ◌∷◌, ◌++◌, append_assoc, append-nil}
use Prim.Native.Nat.{ℕ, ◌+◌, ◌*◌, ◌/◌, ◌%◌, ◌≤◌, ◌<◌}
use native.Mathlib.Omega.{arith}
use lib.ListN.{length, get_or, take, drop, length-append, length-take}
use lib.Seq.{drop-length, take_at, drop_at, drop-drop}
use Rattle.std.specs.Prelude.{Result, Ok, Err}
use Rattle.el.specs.Lists.{pick}
use Rattle.el.specs.Axioms.{Axiom}
use Rattle.release.specs.Files.{number}
use Rattle.rewriting.specs.Bytes.{number_bytes}
use Rattle.rewriting.proofs.Pieces.{number_length}
use Rattle.rewriting.proofs.Parts.{number_back, two_fit}
use Rattle.output.specs.Places.{Put}
use Rattle.output.proofs.Puts.{put_at_start, put_next, put_then}
use Rattle.meanings.specs.declared.Compared.{Compared}
use Rattle.splicing.specs.Places.{most_bytes}
use Rattle.editing.specs.declared.held.HeldFile.{HeldFile}
use Rattle.editing.specs.declared.refusals.EditRefusal.{EditRefusal}
use Rattle.editing.specs.declared.Session.{Session}
use Rattle.editing.specs.declared.Step.{Step}
use Rattle.editing.specs.Sessions.{signature_room, result_room, text_of, is_side, file_on, names_in, roles_in, signature_in, is_session}
use Rattle.editing.specs.Starting.{Starts}
use Rattle.editing.specs.Steps.{Refusals, Steps}
use Rattle.editing.specs.Readers.{file_read, signature_read}
use Rattle.editing.proofs.Sessions.{whole}
use Rattle.splicing.proofs.Splices.{file_short}
use Rattle.editing.proofs.Readers.{counts_few}
use Rattle.editing.proofs.Stepping.{edits, side_held}
use Rattle.session_bytes.specs.Layout.{first_at, second_at, signature_at, result_at, session_length, session_bytes, session_in, Writes, Storable, Stores, Copies}

-- numbers of four bytes, read and written
pub four_is : (s : List ℕ) (p x : ℕ) → x ≡ get_or s p 0 + 256 * (get_or s (p + 1) 0 + 256 * (get_or s (p + 2) 0 + 256 * get_or s (p + 3) 0)) → x ≡ number 4 s p
unfolding number
four_is s p x e =
    let g : get_or s (p + 2) 0 ≡ get_or s (p + 1 + 1) 0 = ap (λ (i : ℕ). get_or s i 0) (omega arith) in
    let h : get_or s (p + 3) 0 ≡ get_or s (p + 1 + 1 + 1) 0 = ap (λ (i : ℕ). get_or s i 0) (omega arith) in
    omega arith

pub four_bytes_are : (x a b c d : ℕ) → a ≡ x % 256 → b ≡ x / 256 % 256 → c ≡ x / 65536 % 256 → d ≡ x / 16777216 % 256 → a ∷ (b ∷ (c ∷ (d ∷ []))) ≡ number_bytes 4 x
unfolding number_bytes
four_bytes_are x a b c d e f g h =
    let third : x / 65536 ≡ x / 256 / 256 = omega arith in
    let fourth : x / 16777216 ≡ x / 256 / 256 / 256 = omega arith in
    rw (e, f, g, h, third, fourth) refl

-- the lengths of a session's arrays, which every value of the type has
pub record Arrays (s : Session) : Type 0 where
  pub first : length s.first.bytes ≡ most_bytes
  pub second : length s.second.bytes ≡ most_bytes
  pub signature : length s.signature ≡ signature_room
  pub result : length s.result ≡ result_room

module _ (s : Session) (arrays : Arrays s) where
  abbrev a : List ℕ
  a = number_bytes 4 s.first.length

  abbrev b : List ℕ
  b = number_bytes 4 s.second.length

  abbrev after_lengths : List ℕ
  after_lengths = s.first.bytes ++ (s.second.bytes ++ (s.signature ++ s.result))

  pub bytes_length : length (session_bytes s) ≡ session_length
  unfolding session_bytes
  bytes_length =
      simp length-append (omega (arith, number_length 4 s.first.length, number_length 4 s.second.length, arrays.first, arrays.second, arrays.signature, arrays.result))

  -- what stands from each place on
  from_first : drop first_at (session_bytes s) ≡ after_lengths
  unfolding session_bytes
  from_first =
      ap (drop first_at) (sym (append_assoc a b after_lengths))
      ∙ drop_at (a ++ b) after_lengths first_at (simp length-append (omega (arith, number_length 4 s.first.length, number_length 4 s.second.length)))

  from_second : drop second_at (session_bytes s) ≡ s.second.bytes ++ (s.signature ++ s.result)
  from_second = sym (drop-drop most_bytes first_at (session_bytes s)) ∙ (ap (drop most_bytes) from_first ∙ drop_at s.first.bytes _ most_bytes arrays.first)

  from_signature : drop signature_at (session_bytes s) ≡ s.signature ++ s.result
  from_signature = sym (drop-drop most_bytes second_at (session_bytes s)) ∙ (ap (drop most_bytes) from_second ∙ drop_at s.second.bytes _ most_bytes arrays.second)

  from_result : drop result_at (session_bytes s) ≡ s.result ++ []
  from_result =
      sym (drop-drop signature_room signature_at (session_bytes s))
      ∙ (ap (drop signature_room) from_signature ∙ (drop_at s.signature s.result signature_room arrays.signature ∙ sym (append-nil s.result)))

  first_length : s.first.length < 65536 → number 4 (session_bytes s) 0 ≡ s.first.length
  unfolding session_bytes
  first_length h =
      number_back 4 s.first.length (ap (λ (x : ℕ). x / 256 / 256) (two_fit s.first.length h)) (record { rest = b ++ after_lengths; is = refl })

  second_length : s.second.length < 65536 → number 4 (session_bytes s) 4 ≡ s.second.length
  unfolding session_bytes
  second_length h =
      number_back 4 s.second.length (ap (λ (x : ℕ). x / 256 / 256) (two_fit s.second.length h))
      (record { rest = after_lengths; is = drop_at a (b ++ after_lengths) 4 (number_length 4 s.first.length) })

  session_back : s.first.length < 65536 → s.second.length < 65536 → session_in (session_bytes s) ≡ s
  unfolding session_in
  session_back l k =
      let one : take most_bytes (drop first_at (session_bytes s)) ≡ s.first.bytes = ap (take most_bytes) from_first ∙ take_at s.first.bytes _ most_bytes arrays.first in
      let two : take most_bytes (drop second_at (session_bytes s)) ≡ s.second.bytes = ap (take most_bytes) from_second ∙ take_at s.second.bytes _ most_bytes arrays.second in
      let three : take signature_room (drop signature_at (session_bytes s)) ≡ s.signature = ap (take signature_room) from_signature ∙ take_at s.signature _ signature_room arrays.signature in
      let four : take result_room (drop result_at (session_bytes s)) ≡ s.result = ap (take result_room) from_result ∙ take_at s.result [] result_room arrays.result in
      let first : ◌≡◌ {A = HeldFile} (record { bytes = take most_bytes (drop first_at (session_bytes s)); length = number 4 (session_bytes s) 0 }) s.first = ap₂
      (λ (x : List ℕ) (n : ℕ). record { bytes = x; length = n }) one (first_length l) in
      let second : ◌≡◌ {A = HeldFile} (record { bytes = take most_bytes (drop second_at (session_bytes s)); length = number 4 (session_bytes s) 4 }) s.second = ap₂
      (λ (x : List ℕ) (n : ℕ). record { bytes = x; length = n }) two (second_length k) in
      ap₂ (λ (x y : HeldFile). record { first = x; second = y; signature = take signature_room (drop signature_at (session_bytes s)); result = take result_room (drop result_at (session_bytes s)) })
      first second
      ∙ ap₂ (λ (x y : List ℕ). record { first = s.first; second = s.second; signature = x; result = y }) three four

  -- written over as many bytes
  written : {o q : List ℕ} {end : ℕ} → length o ≡ session_length → Put o 0 (session_bytes s) q end → q ≡ session_bytes s
  written {o} long put =
      let e : length (session_bytes s) ≡ length o = bytes_length ∙ sym long in
      put_at_start put (omega arith) ∙ (ap (λ (k : ℕ). session_bytes s ++ drop k o) e ∙ (ap (λ (l : List ℕ). session_bytes s ++ l) (drop-length o) ∙ append-nil (session_bytes s)))

  pub writes : {o q : List ℕ} {end : ℕ} → length o ≡ session_length → Put o 0 (session_bytes s) q end → Writes s q
  writes long put =
      let is = written long put in
      record { is = is; back = λ h. let held = whole s h in ap session_in is ∙ session_back (omega (arith, held.first.fits)) (omega (arith, held.second.fits)) }

-- one part after the other
pub parts_put : (s : Session) {o o1 o2 o3 o4 o5 q : List ℕ} {n1 n2 n3 n4 n5 end : ℕ} → Put o 0 (number_bytes 4 s.first.length) o1 n1 → Put o1 n1 (number_bytes 4 s.second.length) o2 n2
    → Put o2 n2 s.first.bytes o3 n3 → Put o3 n3 s.second.bytes o4 n4 → Put o4 n4 s.signature o5 n5 → Put o5 n5 s.result q end → Put o 0 (session_bytes s) q end
unfolding session_bytes
parts_put s p1 p2 p3 p4 p5 p6 = put_then p1 (put_then p2 (put_then p3 (put_then p4 (put_then p5 p6))))

-- what a step that keeps its promise has
pub started_storable : {s t g w v : List ℕ} {step : Step} → Starts s t g w v step → Storable step
started_storable h = record { valid = λ e. (h.accepted e).valid }

pub step_storable : {refusals : Refusals} {side : ℕ} {al : List Axiom} {s : Session} {w v : List ℕ} {step : Step} → Steps refusals side al s w v step → Storable step
step_storable h = record { valid = λ e. (h.accepted e).valid }

-- what a store does
pub store_accepted : (step : Step) (b : List ℕ) {c : List ℕ} {d : Compared} → Storable step → step.answer ≡ Ok d → Writes step.session c
    → Stores step b c step.answer
store_accepted step b {d = d} storable h writes =
    record {
      answer = refl;
      accepted = λ _. writes.is;
      again = λ _. writes.back (storable.valid h);
      refused = λ {k} z. let y : ◌≡◌ {A = Result Compared EditRefusal} (Ok d) (Err k) = sym h ∙ z in absurd (cc);
    }

-- what is copied fits
pub copied : {text o q : List ℕ} {k : ℕ} → Put o 0 text q k → length text ≤ length o → Copies text o q k
copied put h =
    let next = put_next (omega arith) put in
    record { length_is = omega (arith, next); stands = put_at_start put h }

pub file_fits : (side : ℕ) (s : Session) → length (file_read side s) ≤ most_bytes
unfolding file_read
file_fits side s = by_test (is_side side && is_session s) refl
  where
    by_test : (t : Bool) → is_side side && is_session s ≡ t → length (pick t (text_of (file_on side s)) []) ≤ most_bytes
    by_test true e = file_short (text_of (file_on side s)) (side_held (edits side s e)).holds.file
    by_test false e = omega arith

pub signature_fits : (s : Session) → length (signature_read s) ≤ signature_room
unfolding signature_read
signature_fits s = by_test (is_session s) refl
  where
    by_test : (t : Bool) → is_session s ≡ t → length (pick t (signature_in s) []) ≤ signature_room
    by_test true e = omega (arith, length-take (names_in s + roles_in s) s.signature, counts_few s e refl)
    by_test false e = omega arith
