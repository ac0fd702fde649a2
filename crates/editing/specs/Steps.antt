-- A step: an axiom added to a side of a session or withdrawn from it, with every refusal in its order.
--   add_refusals side text w s        the conditions on adding the axiom `text` with w work bytes, in their order, and their refusals
--   withdraw_refusals side x w s      those on withdrawing the axiom of x
--   Edited side al s t               t is s with the axioms al on a side, and with the result of comparing what it then holds
--   Steps refusals side al s w v r   what a step from s promises of its answer, of the session handed back and of the work memory
--   Adding, Withdrawing              the two steps
use Rattle.std.specs.Prelude.{◌≡◌, Bool, true, ◌&&◌, not, List, [], ◌∷◌, ◌++◌, ℕ, eqb, ltb, leb, length, drop, replicate, Result, Ok, Err}
use Rattle.el.specs.Lists.{pick}
use Rattle.el.specs.Axioms.{Axiom}
use Rattle.release.specs.Files.{conjunct_defined}
use Rattle.release.specs.Refusals.{Numbers, told}
use Rattle.rewriting.specs.Bytes.{release_bytes}
use Rattle.meanings.specs.Comparing.{work_length}
use Rattle.meanings.specs.declared.Compared.{Compared}
use Rattle.splicing.specs.Axioms.{has, inserted, withdrawn}
use Rattle.splicing.specs.Places.{text_fault, axiom_in}
use Rattle.editing.specs.declared.Session.{Session}
use Rattle.editing.specs.declared.Step.{Step}
use Rattle.editing.specs.declared.refusals.EditRefusal.{EditRefusal}
use Rattle.editing.specs.Refusals.{edit_refusal}
use Rattle.editing.specs.Sessions.{holding, is_side, file_on, with_file, with_result, names_in, roles_in, axioms_on, is_session, Current}

-- conditions in their order, each with its refusal; the first that holds is named
abbrev pub Refusals : Type 0
Refusals = List (Bool × Numbers)

abbrev pub refusal : ℕ → ℕ → Numbers
refusal number side = record { number = number; side = side }

abbrev pub first_named : Refusals → Result Compared Numbers → Result Compared Numbers
first_named [] answer = answer
first_named (r ∷ rs) answer = pick r.0 (Err r.1) (first_named rs answer)

-- 46; 7 to 9 and 11 to 14; 47; 15 "over that side as it would stand"; 32
unfoldable pub add_refusals : ℕ → List ℕ → ℕ → Session → Refusals
add_refusals side text w s =
    (not (is_side side && is_session s), refusal 46 0)
    ∷ ((not (eqb (text_fault (names_in s) (roles_in s) text) 0), refusal (text_fault (names_in s) (roles_in s) text) side)
    ∷ ((has (axiom_in text).left (axioms_on side s), refusal 47 side)
    ∷ ((conjunct_defined (inserted (axiom_in text) (axioms_on side s)), refusal 15 side)
    ∷ ((ltb w (work_length (names_in s)), refusal 32 0) ∷ []))))

-- 46; 9; 48; 32
unfoldable pub withdraw_refusals : ℕ → ℕ → ℕ → Session → Refusals
withdraw_refusals side x w s =
    (not (is_side side && is_session s), refusal 46 0)
    ∷ ((leb (names_in s) x, refusal 9 side)
    ∷ ((not (has x (axioms_on side s)), refusal 48 side)
    ∷ ((ltb w (work_length (names_in s)), refusal 32 0) ∷ [])))

abbrev pub counted : Session → Compared
counted s = record { names = names_in s; roles = roles_in s }

-- the canonical file of the axioms al stands at the start of that side's bytes; besides, only the first n result bytes change
pub record Edited (side : ℕ) (al : List Axiom) (s t : Session) : Type 0 where
  pub session : t ≡ with_result t.result (with_file side (holding (release_bytes 1 (names_in s) (roles_in s) al) (file_on side s)) s)
  pub past : drop (names_in s) t.result ≡ drop (names_in s) s.result
  pub valid : is_session t ≡ true
  pub names : names_in t ≡ names_in s
  pub roles : roles_in t ≡ roles_in s
  pub axioms : axioms_on side t ≡ al
  pub current : Current t

pub record Steps (refusals : Refusals) (side : ℕ) (al : List Axiom) (s : Session) (w v : List ℕ) (r : Step) : Type 0 where
  pub answer : told edit_refusal r.answer ≡ first_named refusals (Ok (counted s))
  pub refused_session : {k : EditRefusal} → r.answer ≡ Err k → r.session ≡ s
  pub refused_work : {k : EditRefusal} → r.answer ≡ Err k → v ≡ w
  pub accepted : {c : Compared} → r.answer ≡ Ok c → Edited side al s r.session
  pub cleared : {c : Compared} → r.answer ≡ Ok c → v ≡ replicate (work_length (names_in s)) 0 ++ drop (work_length (names_in s)) w

-- the two steps: adding the axiom `text`, and withdrawing that of x
abbrev pub Adding : ℕ → List ℕ → Session → List ℕ → List ℕ → Step → Type 0
Adding side text s w v r = Steps (add_refusals side text (length w) s) side (inserted (axiom_in text) (axioms_on side s)) s w v r

abbrev pub Withdrawing : ℕ → ℕ → Session → List ℕ → List ℕ → Step → Type 0
Withdrawing side x s w v r = Steps (withdraw_refusals side x (length w) s) side (withdrawn x (axioms_on side s)) s w v r
