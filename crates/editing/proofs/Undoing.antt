-- Adding an axiom and withdrawing it again brings the session back, but for bytes past the end of the side's file.
--   added_withdrawn    the theorem, of the promises of the two steps
use mathlib.Core.Path.{◌≡◌, sym, ap, ap₂, ◌∙◌}
use mathlib.Core.Bool.{true, ◌&&◌}
use mathlib.Core.List.{List}
use Prim.Native.Nat.{ℕ, ◌≤◌, ◌<◌}
use lib.ListN.{length}
use Rattle.std.specs.Prelude.{Ok}
use Rattle.el.specs.Axioms.{Axiom}
use Rattle.el.proofs.Tests.{and_left, and_both}
use Rattle.release.specs.Files.{names_of, roles_of}
use Rattle.rewriting.specs.Bytes.{release_bytes}
use Rattle.meanings.specs.Comparing.{work_length}
use Rattle.meanings.specs.declared.Compared.{Compared}
use Rattle.meanings.proofs.Judging.{told_value}
use Rattle.splicing.specs.Axioms.{has, inserted, withdrawn}
use Rattle.splicing.specs.Places.{text_fault, axiom_in}
use Rattle.splicing.proofs.Rising.{Rising, Sourced, left_small, has_member, inserted_itself, taken_back}
use Rattle.splicing.proofs.Splices.{rising, text_source}
use Rattle.editing.specs.declared.held.HeldFile.{HeldFile}
use Rattle.editing.specs.declared.Session.{Session}
use Rattle.editing.specs.declared.Step.{Step}
use Rattle.editing.specs.Sessions.{text_of, holding, is_side, file_on, with_file, with_result, names_in, roles_in, axioms_on, is_session, Current, IsValue}
use Rattle.editing.specs.Steps.{counted, Edited, Adding, Withdrawing}
use Rattle.release.specs.Refusals.{told}
use Rattle.editing.specs.Refusals.{edit_refusal}
use Rattle.editing.specs.Sequences.{Undoes}
use Rattle.editing.specs.Judging.{Holds}
use Rattle.editing.proofs.Stepping.{Edits, edits, which, side_held, Added, add_told, withdraw_accepted}
use Rattle.editing.proofs.Canonical.{canonical_on}
use Rattle.editing.proofs.Returning.{back_session}

module _ (side : ℕ) (text : List ℕ) (s : Session) (value : IsValue s) (current : Current s) {w v : List ℕ} {r : Step} {c : Compared}
    (there : Adding side text s w v r) (not_refused : r.answer ≡ Ok c) where
  added : Added side text s
  added = add_told side text (length w) s (sym there.answer ∙ ap (told edit_refusal) not_refused)

  editable : Edits side s
  editable = edits side s added.valid

  abbrev a : Axiom
  a = axiom_in text

  abbrev al : List Axiom
  al = axioms_on side s

  abbrev f : HeldFile
  f = file_on side s

  abbrev t : Session
  t = r.session

  holds : Holds f
  holds = (side_held editable).holds

  rises : Rising (names_of (text_of f)) (roles_of (text_of f)) 0 al
  rises = rising (text_of f) holds.file

  met : text_fault (names_of (text_of f)) (roles_of (text_of f)) text ≡ 0
  met = rw ((side_held editable).names, (side_held editable).roles) added.met

  source : Sourced (names_of (text_of f)) (roles_of (text_of f)) a
  source = text_source (names_of (text_of f)) (roles_of (text_of f)) text met

  edited : Edited side (inserted a al) s t
  edited = there.accepted not_refused

  same : withdrawn a.left (axioms_on side t) ≡ al
  same = ap (withdrawn a.left) edited.axioms ∙ taken_back a source rises added.free

  module _ {w2 v2 : List ℕ} {q : Step} (enough : work_length (names_in s) ≤ length w2) (back : Withdrawing side (axiom_in text).left r.session w2 v2 q) where
    back_accepted : q.answer ≡ Ok (counted t)
    back_accepted =
        let valid : is_side side && is_session t ≡ true = and_both (and_left (is_side side) (is_session s) added.valid) edited.valid in
        let small : a.left < names_in t = rw (edited.names, ← (side_held editable).names) (left_small source) in
        let taken : has a.left (axioms_on side t) ≡ true = ap (has a.left) edited.axioms ∙ has_member (inserted_itself a al) in
        told_value edit_refusal q.answer (counted t) (back.answer ∙ withdraw_accepted side a.left (length w2) t valid small taken (rw edited.names enough))

    pub added_withdrawn : Undoes side (release_bytes 1 (names_in s) (roles_in s) (inserted (axiom_in text) (axioms_on side s))) s q
    unfolding with_result with_file
    added_withdrawn =
        let longer : List ℕ = release_bytes 1 (names_in s) (roles_in s) (inserted a al) in
        record {
          answer = back_accepted ∙ ap₂ (λ (n m : ℕ). Ok (record { names = n; roles = m })) edited.names edited.roles;
          session =
              back_session side s t q.session (which editable) current edited (back.accepted back_accepted) same
              ∙ ap (λ (x : List ℕ). with_file side (holding x (holding longer f)) s) (sym (canonical_on side s added.valid value));
        }
