-- Several steps one after the other: what the theorems on sessions say.
--   Restores s r q              neither of two steps is refused, and the second hands back the session before the first
--   Undoes side longer s q      a step hands back s but for bytes past the end of a side's file, up to that of a longer one put over it
--   Orders order al             the list `order` has the axioms al, each once
--   Additions side order s rs   the steps rs, each with enough memory, add the axioms of a list one after the other, from s on
--   last_of s rs                 the session after them
--   Reaches side file s rs      none of them is refused, and the side holds the file in the end
use Rattle.std.specs.Prelude.{◌≡◌, false, List, [], ◌∷◌, ℕ, ◌≤◌, length, Ok}
use Rattle.el.specs.Lists.{In}
use Rattle.el.specs.Axioms.{Axiom}
use Rattle.rewriting.specs.Bytes.{axiom_bytes}
use Rattle.meanings.specs.Comparing.{work_length}
use Rattle.splicing.specs.Axioms.{has}
use Rattle.editing.specs.declared.Session.{Session}
use Rattle.editing.specs.declared.Step.{Step}
use Rattle.editing.specs.Sessions.{text_of, holding, file_on, with_file, names_in, Current}
use Rattle.editing.specs.Steps.{counted, Adding}

pub record Restores (s : Session) (r q : Step) : Type 0 where
  pub first : r.answer ≡ Ok (counted s)
  pub second : q.answer ≡ Ok (counted s)
  pub session : q.session ≡ s

-- the side's old file was put over the longer one, which was put over the old bytes: between the ends of the two the longer one's bytes stay
pub record Undoes (side : ℕ) (longer : List ℕ) (s : Session) (q : Step) : Type 0 where
  pub answer : q.answer ≡ Ok (counted s)
  pub session : q.session ≡ with_file side (holding (text_of (file_on side s)) (holding longer (file_on side s))) s

-- no name has two axioms
pub data Once : List Axiom → Type 0 where
  nothing : Once []
  more : {a : Axiom} {al : List Axiom} → has a.left al ≡ false → Once al → Once (a ∷ al)

pub record Orders (order al : List Axiom) : Type 0 where
  pub once : Once order
  pub among : {a : Axiom} → In order a → In al a
  pub all : {a : Axiom} → In al a → In order a

pub data Additions (side : ℕ) : List Axiom → Session → List Step → Type 0 where
  finished : {s : Session} → Additions side [] s []
  next : {a : Axiom} {order : List Axiom} {s : Session} {w v : List ℕ} {r : Step} {rs : List Step} → work_length (names_in s) ≤ length w → Adding side (axiom_bytes 1 a) s w v r → Additions side order
      r.session rs → Additions side (a ∷ order) s (r ∷ rs)

unfoldable pub last_of : Session → List Step → Session
last_of s [] = s
last_of s (r ∷ rs) = last_of r.session rs

pub record Reaches (side : ℕ) (file : List ℕ) (s : Session) (rs : List Step) : Type 0 where
  pub accepted : {r : Step} → In rs r → r.answer ≡ Ok (counted s)
  pub held : text_of (file_on side (last_of s rs)) ≡ file
  pub current : Current s → Current (last_of s rs)
