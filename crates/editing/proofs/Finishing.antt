-- The end of a step: the comparison of the session with the edited file tells 15 and 32, and its bytes are those asked for.
--   answer_first, answer_second    what comparing answers where one file can meet 15 alone
--   Outcome                        the session that an accepted one ends with
--   Finishes                       what a step ends with, by the axioms on its side
use mathlib.Core.Path.{◌≡◌, refl, sym, ap₂, subst, ◌∙◌}
use mathlib.Core.Bool.{Bool, true, false}
use mathlib.Core.List.{List, ◌++◌}
use Prim.Native.Nat.{ℕ, ◌+◌, ◌*◌, ◌≤◌}
use native.Mathlib.Nat.{le_trans, mul-le-mul}
use native.Mathlib.Omega.{arith}
use borrow.Author.Tests.{le-leb, lt-leb, eq-eqb, ltb-true, ltb-false}
use lib.Dec.{ltb}
use lib.ListN.{length, take, drop, replicate}
use lib.Seq.{take-append_seam}
use Rattle.std.specs.Prelude.{Result, Ok, Err}
use Rattle.el.specs.Lists.{pick}
use Rattle.el.specs.Axioms.{Axiom}
use Rattle.el.specs.Comparison.{AreBytes}
use Rattle.el.specs.NoPairs.{without}
use Rattle.release.specs.Files.{most_roles, names_of, roles_of, conjunct_defined, fault}
use Rattle.release.specs.Readings.{checked}
use Rattle.release.specs.Refusals.{Numbers, told}
use Rattle.signature.specs.Bytes.{signature_fault, signature_of}
use Rattle.rewriting.specs.Bytes.{release_bytes}
use Rattle.meanings.specs.Comparing.{work_length, refused, same_counts, agreed, lent, judged, comparison, Says}
use Rattle.meanings.specs.Refusals.{compare_refusal}
use Rattle.meanings.specs.declared.Compared.{Compared}
use Rattle.meanings.specs.declared.refusals.CompareRefusal.{CompareRefusal}
use Rattle.splicing.proofs.Filed.{Filed, pairs_1, few_names, few_roles_of}
use Rattle.editing.specs.declared.held.HeldFile.{HeldFile}
use Rattle.editing.specs.declared.Session.{Session}
use Rattle.editing.specs.Sessions.{result_room, text_of, holding, on_side, file_on, with_file, with_result, names_in, roles_in, axioms_on, signature_in}
use Rattle.editing.specs.Steps.{counted}
use Rattle.editing.specs.Judging.{Compares}
use Rattle.editing.proofs.Sessions.{Whole}

-- few roles, and so few pairs of them
pub squares_fit : {m k : ℕ} → m ≤ most_roles → most_roles * most_roles ≤ k → m * m ≤ k
squares_fit few room = le_trans (mul-le-mul few few) room

-- after the releases: 17, 18, 31 and 50 are not met, 32 may be
module _ (n m : ℕ) (g : List ℕ) (o p w : ℕ) (signed : signature_fault n m g ≡ 0) (room : n ≤ o) (role_room : m * m ≤ p) where
  abbrev lasts : Result Compared Numbers
  lasts = pick (ltb w (work_length n)) (refused 32 0) (Ok (record { names = n; roles = m }))

  lent_is : lent g o p w (record { names = n; roles = m }) ≡ lasts
  unfolding lent
  lent_is = by_work (ltb w (work_length n)) refl
    where
      by_work : (b : Bool) → ltb w (work_length n) ≡ b → lent g o p w (record { names = n; roles = m }) ≡ lasts
      by_work true e = simp (signed, le-leb n o room, le-leb (m * m) p role_room, e, lt-leb (work_length n) w (ltb-true w (work_length n) e))
      by_work false e = simp (signed, le-leb n o room, le-leb (m * m) p role_room, e, le-leb (work_length n) w (ltb-false w (work_length n) e))

  module _ (s t : List ℕ) (names : names_of s ≡ n) (names2 : names_of t ≡ n) (roles : roles_of s ≡ m) (roles2 : roles_of t ≡ m) where
    both_accepted : fault s ≡ 0 → fault t ≡ 0 → comparison s t g o p w ≡ lasts
    unfolding checked judged agreed same_counts
    both_accepted ok ok2 =
        simp (ok, ok2, names, names2, roles, roles2, eq-eqb n n refl, eq-eqb m m refl) lent_is

    pub answer_first : (b : Bool) → fault s ≡ pick b 15 0 → fault t ≡ 0 → comparison s t g o p w ≡ pick b (refused 15 1) lasts
    unfolding checked judged agreed
    answer_first true e ok2 = simp e
    answer_first false e ok2 = both_accepted e ok2

    pub answer_second : (b : Bool) → fault s ≡ 0 → fault t ≡ pick b 15 0 → comparison s t g o p w ≡ pick b (refused 15 2) lasts
    unfolding checked judged agreed
    answer_second true ok e = simp (ok, e)
    answer_second false ok e = both_accepted ok e

-- the file of an edited side is the one put there
pub holding_text : (text : List ℕ) (f : HeldFile) → text_of (holding text f) ≡ text
unfolding text_of holding
holding_text text f = take-append_seam text (drop (length text) f.bytes)

-- the session with the bytes of its comparison, in terms of the session before
pub record Outcome (side : ℕ) (al : List Axiom) (s t : Session) : Type 0 where
  pub session : t ≡ with_result t.result (with_file side (holding (release_bytes 1 (names_in s) (roles_in s) al) (file_on side s)) s)
  pub bytes : AreBytes (names_in s) (signature_of (names_in s) (roles_in s) (signature_in s)) (without (on_side side al (axioms_on 1 s)))
      (without (on_side side (axioms_on 2 s) al)) (take (names_in s) t.result)
  pub past : drop (names_in s) t.result ≡ drop (names_in s) s.result

pub record Finishes (side : ℕ) (al : List Axiom) (s t : Session) (w v : List ℕ) (r : Result Compared CompareRefusal) : Type 0 where
  pub answer : told compare_refusal r ≡ pick (conjunct_defined al) (refused 15 side) (pick (ltb (length w) (work_length (names_in s))) (refused 32 0) (Ok (counted s)))
  pub refused_work : {k : CompareRefusal} → r ≡ Err k → v ≡ w
  pub accepted : {c : Compared} → r ≡ Ok c → Outcome side al s t
  pub cleared : {c : Compared} → r ≡ Ok c → v ≡ replicate (work_length (names_in s)) 0 ++ drop (work_length (names_in s)) w

module _ (s : Session) (whole : Whole s) (long : length s.result ≡ result_room) (al : List Axiom)
    (filed : Filed (names_in s) (roles_in s) al (release_bytes 1 (names_in s) (roles_in s) al)) where
  abbrev file : List ℕ
  file = release_bytes 1 (names_in s) (roles_in s) al

  abbrev edited : ℕ → Session
  edited side = with_file side (holding file (file_on side s)) s

  room : names_in s ≤ length s.result
  room = omega (arith, few_names (text_of s.first) whole.first.file.accepted whole.first.file.version)

  module _ {t : Session} {w v : List ℕ} {r : Result Compared CompareRefusal} where
    role_room : {e : Session} (h : Compares e t w v r) → roles_in s * roles_in s ≤ length h.roles_lent
    role_room h = squares_fit (few_roles_of (text_of s.first) whole.first.file.accepted whole.first.file.version) h.enough

    -- the first side
    pub finishes_1 : Compares (edited 1) t w v r → Finishes 1 al s t w v r
    unfolding with_file with_result file_on
    finishes_1 h =
        let on : List ℕ → List ℕ → Type 0 = λ x g. Says x (text_of s.second) g s.result t.result h.roles_lent h.role_result w v r in
        let said : on file (take (names_of file + roles_of file) s.signature) = subst (λ (x : List ℕ). on x (take (names_of x + roles_of x) s.signature))
        (holding_text file s.first) h.says in
        let says : on file (signature_in s) = subst (on file) (ap₂ (λ (n m : ℕ). take (n + m) s.signature) filed.names filed.roles) said in
        record {
          answer = says.answer ∙ answer_first (names_in s) (roles_in s) (signature_in s) (length s.result) (length h.roles_lent) (length w) whole.signature room (role_room h) file
              (text_of s.second) filed.names
              (sym whole.names) filed.roles (sym whole.roles) (conjunct_defined al) filed.fault_is whole.second.file.accepted;
          refused_work = λ e. says.refused_work e;
          accepted = λ e.
              let res = says.accepted e in
              record {
                session = h.kept;
                bytes = rw (filed.names, filed.roles, filed.axioms, pairs_1 file filed.version, pairs_1 (text_of s.second) whole.second.file.version) at res.bytes;
                past = rw filed.names at res.past;
              };
          cleared = λ e. rw filed.names at (says.accepted e).work;
        }

    -- the second side
    pub finishes_2 : Compares (edited 2) t w v r → Finishes 2 al s t w v r
    unfolding with_file with_result file_on
    finishes_2 h =
        let on : List ℕ → Type 0 = λ x. Says (text_of s.first) x (signature_in s) s.result t.result h.roles_lent h.role_result w v r in
        let says : on file = subst on
        (holding_text file s.second) h.says in
        record {
          answer = says.answer ∙ answer_second (names_in s) (roles_in s) (signature_in s) (length s.result) (length h.roles_lent) (length w) whole.signature room (role_room h)
              (text_of s.first) file refl filed.names
              refl filed.roles (conjunct_defined al) whole.first.file.accepted filed.fault_is;
          refused_work = λ e. says.refused_work e;
          accepted = λ e.
              let res = says.accepted e in
              record {
                session = h.kept;
                bytes = rw (filed.axioms, pairs_1 file filed.version, pairs_1 (text_of s.first) whole.first.file.version) at res.bytes;
                past = res.past;
              };
          cleared = λ e. (says.accepted e).work;
        }
