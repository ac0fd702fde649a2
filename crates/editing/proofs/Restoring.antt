-- Withdrawing an axiom and adding it again restores the session, every byte of it.
--   held_back          a file put over a shorter one that was put over it gives the bytes back
--   withdrawn_added    the theorem, of the promises of the two steps
use mathlib.Core.Path.{◌≡◌, sym, ap, ap₂, ◌∙◌}
use mathlib.Core.Bool.{true, false, ◌&&◌}
use mathlib.Core.List.{List, ◌++◌}
use Prim.Native.Nat.{ℕ, ◌+◌, ◌-◌, ◌≤◌}
use native.Mathlib.Omega.{arith}
use lib.ListN.{length, drop, take-append-drop}
use lib.Seq.{length-take-le, drop-append-add, drop-drop}
use Rattle.std.specs.Prelude.{Ok}
use Rattle.el.specs.Lists.{In}
use Rattle.el.specs.Axioms.{Axiom}
use Rattle.el.proofs.Tests.{and_both}
use Rattle.release.specs.Files.{names_of, roles_of, conjunct_defined}
use Rattle.release.proofs.Linked.{no_conjunct_defined}
use Rattle.rewriting.specs.Bytes.{axiom_bytes, release_bytes}
use Rattle.meanings.specs.Comparing.{work_length}
use Rattle.meanings.proofs.Judging.{told_value}
use Rattle.splicing.specs.Axioms.{has, inserted, withdrawn}
use Rattle.splicing.specs.Places.{text_fault, axiom_in}
use Rattle.splicing.proofs.Rising.{Rising, Sourced, left_small, member_source, has_member, withdrawn_has, restored}
use Rattle.splicing.proofs.Splices.{rising, own_text, not_longer}
use Rattle.editing.specs.declared.held.HeldFile.{HeldFile}
use Rattle.editing.specs.declared.Session.{Session}
use Rattle.editing.specs.declared.Step.{Step}
use Rattle.editing.specs.Sessions.{text_of, holding, is_side, file_on, with_file, with_result, names_in, roles_in, axioms_on, is_session, Current, IsValue}
use Rattle.editing.specs.Steps.{counted, Edited, Adding, Withdrawing}
use Rattle.editing.specs.Refusals.{edit_refusal}
use Rattle.editing.specs.Sequences.{Restores}
use Rattle.editing.specs.Judging.{Holds}
use Rattle.editing.proofs.Stepping.{Edits, edits, which, side_held, few_names_in, few_roles_in, side_file, Added, add_accepted, withdraw_accepted}
use Rattle.editing.proofs.After.{file_again}
use Rattle.editing.proofs.Canonical.{file_fits, canonical_on}
use Rattle.editing.proofs.Returning.{back_session}

pub held_back : (f : HeldFile) (shorter longer : List ℕ) → text_of f ≡ longer → f.length ≤ length f.bytes → length shorter ≤ length longer → holding longer (holding shorter f) ≡ f
unfolding text_of holding
held_back f shorter longer is fits l =
    let b = f.bytes in
    let long : length longer ≡ f.length = ap length (sym is) ∙ length-take-le f.length b fits in
    let k = length longer - length shorter in
    let e : length shorter + k ≡ length longer = omega arith in
    let rest : drop (length longer) (shorter ++ drop (length shorter) b) ≡ drop (length longer) b = ap (λ (j : ℕ). drop j (shorter ++ drop (length shorter) b)) (sym e) ∙
    (drop-append-add shorter (drop (length shorter) b) k ∙ (drop-drop k (length shorter) b ∙ ap (λ (j : ℕ). drop j b) e)) in
    let bytes : longer ++ drop (length longer) (shorter ++ drop (length shorter) b) ≡ b = ap₂ (λ (x y : List ℕ). x ++ y) (sym is) (rest ∙ ap (λ (j : ℕ). drop j b) long) ∙ take-append-drop
    f.length b in
    ap₂ (λ (x : List ℕ) (n : ℕ). record { bytes = x; length = n }) bytes long

module _ (side : ℕ) (s : Session) (side_is : is_side side ≡ true) (held : is_session s ≡ true) (value : IsValue s) (current : Current s) {a : Axiom} (member : In (axioms_on side s) a) where
  valid : is_side side && is_session s ≡ true
  valid = and_both side_is held

  editable : Edits side s
  editable = edits side s valid

  abbrev f : HeldFile
  f = file_on side s

  abbrev al : List Axiom
  al = axioms_on side s

  abbrev left : List Axiom
  left = withdrawn a.left al

  holds : Holds f
  holds = (side_held editable).holds

  rises : Rising (names_of (text_of f)) (roles_of (text_of f)) 0 al
  rises = rising (text_of f) holds.file

  source : Sourced (names_in s) (roles_in s) a
  source = rw ((side_held editable).names, (side_held editable).roles) at (member_source rises member)

  plain : conjunct_defined al ≡ false
  plain = no_conjunct_defined (text_of f) holds.file.accepted

  text_is : (text_fault (names_in s) (roles_in s) (axiom_bytes 1 a) ≡ 0) × (axiom_in (axiom_bytes 1 a) ≡ a)
  text_is = own_text source (few_names_in editable) (few_roles_in editable)

  -- the file of all axioms over the one without a's
  files_back : holding (release_bytes 1 (names_in s) (roles_in s) al) (holding (release_bytes 1 (names_in s) (roles_in s) left) f) ≡ f
  files_back =
      let l = not_longer a.left holds.file (has_member member) in
      let shorter : length (release_bytes 1 (names_in s) (roles_in s) left) ≤ length (release_bytes 1 (names_in s) (roles_in s) al) = rw (← side_file editable left, ← side_file editable al) l in
      held_back f (release_bytes 1 (names_in s) (roles_in s) left) (release_bytes 1 (names_in s) (roles_in s) al) (canonical_on side s valid value) (file_fits side s valid value) shorter

  module _ {w v : List ℕ} {r : Step} (enough : work_length (names_in s) ≤ length w) (out : Withdrawing side a.left s w v r) where
    out_accepted : r.answer ≡ Ok (counted s)
    out_accepted = told_value edit_refusal r.answer (counted s) (out.answer ∙ withdraw_accepted side a.left (length w) s valid (left_small source) (has_member member) enough)

    abbrev t : Session
    t = r.session

    out_edited : Edited side left s t
    out_edited = out.accepted out_accepted

    back_axioms : inserted (axiom_in (axiom_bytes 1 a)) (axioms_on side t) ≡ al
    back_axioms = ap₂ inserted text_is.1 out_edited.axioms ∙ restored rises member

    module _ {w2 v2 : List ℕ} {q : Step} (enough2 : work_length (names_in s) ≤ length w2) (back : Adding side (axiom_bytes 1 a) r.session w2 v2 q) where
      back_added : Added side (axiom_bytes 1 a) t
      back_added = record {
        valid = and_both side_is out_edited.valid;
        met = ap₂ (λ (n m : ℕ). text_fault n m (axiom_bytes 1 a)) out_edited.names out_edited.roles ∙ text_is.0;
        free = ap₂ (λ (b : Axiom) (bs : List Axiom). has b.left bs) text_is.1 out_edited.axioms ∙ withdrawn_has a.left rises;
        plain = ap conjunct_defined back_axioms ∙ plain;
      }

      back_accepted : q.answer ≡ Ok (counted t)
      back_accepted = told_value edit_refusal q.answer (counted t) (back.answer ∙ add_accepted side (axiom_bytes 1 a) (length w2) t back_added (rw out_edited.names enough2))

      abbrev u : Session
      u = q.session

      back_edited : Edited side (inserted (axiom_in (axiom_bytes 1 a)) (axioms_on side t)) t u
      back_edited = back.accepted back_accepted

      pub withdrawn_added : Restores s r q
      unfolding with_result
      withdrawn_added = record {
        first = out_accepted;
        second = back_accepted ∙ ap₂ (λ (n m : ℕ). Ok (record { names = n; roles = m })) out_edited.names out_edited.roles;
        session =
            back_session side s t u (which editable) current out_edited back_edited back_axioms
            ∙ ap (λ (g : HeldFile). with_result s.result (with_file side g s)) files_back
            ∙ ap (with_result s.result) (file_again side s);
      }
