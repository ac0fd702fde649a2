-- What the private functions ask and answer: a held file and a session before an edit.
--   HasCounts f r            r are the counts of the release of version 1 that f holds, or none
--   HasSession s r           r are the counts of a session that can be edited, or none
--   Judged side s r          r is the side and these counts, or refusal 46
--   Holds f                 f holds an accepted release of version 1
--   Adds f text             the bytes `text` are an axiom of a name that has none in f;  Withdraws f x: x has one
--   Comparable s c           a session whose files have these counts;  Compares s t w v r: s became t by the comparison r of what it holds
--   Tries refusals side al s t w v r   a step in place, from s to t: where it is refused, nothing is said of t
--   Opens s t g q w v r      a start in place, which leaves q
--   HandsBack s t a r        r is the step from s that answered a and made t
use Rattle.std.specs.Prelude.{◌≡◌, true, false, ◌&&◌, List, ◌++◌, ℕ, ◌+◌, ◌*◌, ◌≤◌, length, drop, replicate, Option, MatchOption, Result, MatchResult, Ok, Err}
use Rattle.el.specs.Axioms.{Axiom}
use Rattle.release.specs.Files.{most_roles, names_of, roles_of, axioms_of}
use Rattle.release.specs.Readings.{counts_in}
use Rattle.release.specs.Refusals.{told}
use Rattle.release.specs.declared.Counts.{Counts}
use Rattle.meanings.specs.declared.Compared.{Compared}
use Rattle.meanings.specs.declared.refusals.CompareRefusal.{CompareRefusal}
use Rattle.meanings.specs.Comparing.{work_length, Says}
use Rattle.splicing.specs.Axioms.{has}
use Rattle.splicing.specs.Places.{most_bytes, IsFile, text_fault, axiom_in}
use Rattle.editing.specs.declared.held.HeldFile.{HeldFile}
use Rattle.editing.specs.declared.refusals.EditRefusal.{EditRefusal}
use Rattle.editing.specs.declared.refusals.EditRefusal.TheVariants.{NotEditable}
use Rattle.editing.specs.declared.sides.Side.{Side}
use Rattle.editing.specs.declared.Session.{Session}
use Rattle.editing.specs.declared.Step.{Step}
use Rattle.editing.specs.Refusals.{side_number, edit_refusal}
use Rattle.editing.specs.Sessions.{signature_room, text_of, is_side, with_result, names_in, roles_in, signature_in, is_held, is_session}
use Rattle.editing.specs.Steps.{Refusals, first_named, counted, Edited}
use Rattle.editing.specs.Starting.{start_refusals, counts_of, Started}

abbrev pub HasCounts : HeldFile → Option Counts → Type 0
HasCounts f r = MatchOption r (is_held f ≡ false) (λ c. (is_held f ≡ true) × (c ≡ counts_in (text_of f)))

abbrev pub HasSession : Session → Option Compared → Type 0
HasSession s r = MatchOption r (is_session s ≡ false) (λ c. (is_session s ≡ true) × (c ≡ counted s))

pub record Editable (side : ℕ) (s : Session) (d : Side) (c : Compared) : Type 0 where
  pub number : side_number d ≡ side
  pub valid : is_session s ≡ true
  pub is : c ≡ counted s

abbrev pub Judged : ℕ → Session → Result (Side × Compared) EditRefusal → Type 0
Judged side s r = MatchResult r (λ p. Editable side s p.0 p.1) (λ e. (e ≡ NotEditable) × (is_side side && is_session s ≡ false))

pub record Holds (f : HeldFile) : Type 0 where
  pub fits : f.length ≤ most_bytes
  pub file : IsFile (text_of f)

pub record Adds (f : HeldFile) (text : List ℕ) : Type 0 where
  pub holds : Holds f
  pub accepted : text_fault (names_of (text_of f)) (roles_of (text_of f)) text ≡ 0
  pub free : has (axiom_in text).left (axioms_of (text_of f)) ≡ false

pub record Withdraws (f : HeldFile) (x : ℕ) : Type 0 where
  pub holds : Holds f
  pub taken : has x (axioms_of (text_of f)) ≡ true

pub record Comparable (s : Session) (c : Compared) : Type 0 where
  pub names : c.names ≡ names_in s
  pub roles : c.roles ≡ roles_in s
  pub few : c.names + c.roles ≤ signature_room

pub record Compares (s t : Session) (w v : List ℕ) (r : Result Compared CompareRefusal) : Type 0 where
  pub roles_lent : List ℕ
  pub role_result : List ℕ
  pub enough : most_roles * most_roles ≤ length roles_lent
  pub says : Says (text_of s.first) (text_of s.second) (signature_in s) s.result t.result roles_lent role_result w v r
  pub kept : t ≡ with_result t.result s

pub record Tries (refusals : Refusals) (side : ℕ) (al : List Axiom) (s t : Session) (w v : List ℕ) (r : Result Compared EditRefusal) : Type 0 where
  pub answer : told edit_refusal r ≡ first_named refusals (Ok (counted s))
  pub refused_work : {k : EditRefusal} → r ≡ Err k → v ≡ w
  pub accepted : {c : Compared} → r ≡ Ok c → Edited side al s t
  pub cleared : {c : Compared} → r ≡ Ok c → v ≡ replicate (work_length (names_in s)) 0 ++ drop (work_length (names_in s)) w

pub record Opens (s t g : List ℕ) (q : Session) (w v : List ℕ) (r : Result Compared EditRefusal) : Type 0 where
  pub answer : told edit_refusal r ≡ first_named (start_refusals s t g (length w)) (Ok (counts_of s))
  pub refused_work : {k : EditRefusal} → r ≡ Err k → v ≡ w
  pub accepted : {c : Compared} → r ≡ Ok c → Started s t g q
  pub cleared : {c : Compared} → r ≡ Ok c → v ≡ replicate (work_length (names_of s)) 0 ++ drop (work_length (names_of s)) w

pub record HandsBack (s t : Session) (a : Result Compared EditRefusal) (r : Step) : Type 0 where
  pub answer : r.answer ≡ a
  pub accepted : {c : Compared} → a ≡ Ok c → r.session ≡ t
  pub refused : {k : EditRefusal} → a ≡ Err k → r.session ≡ s
