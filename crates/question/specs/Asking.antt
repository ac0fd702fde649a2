-- The question how C and D lie by a release, with its refusals in their order: "release, 19 for C, 19 for D, 32".
--   refusal_number s c d w      the number of the first refusal that the file s, the texts c and d and the work memory w meet, or 0
--   refusal_side s c d w        its side: 1 for the release and for C, 2 for D, 0 for the memory
--   AskedAs s c d w v r        the answer r, and the memory w that became v
use Rattle.std.specs.Prelude.{◌≡◌, Result, List, ℕ, ◌*◌, eqb, ltb, length}
use Rattle.el.specs.Lists.{pick}
use Rattle.release.specs.Files.{fault, first_of, names_of, content_of}
use Rattle.release.specs.Refusals.{told, answer}
use Rattle.demands.specs.Inputs.{text_ok, concept_in}
use Rattle.demands.specs.Lying.{Lies}
use Rattle.marks.specs.Memory.{size, Zeroed}
use Rattle.question.specs.declared.refusals.AskRefusal.{AskRefusal}
use Rattle.question.specs.declared.position.Position.{Position}
use Rattle.question.specs.Refusals.{ask_refusal}
use Rattle.question.specs.Positions.{position_number}

unfoldable pub refusal_number : List ℕ → List ℕ → List ℕ → List ℕ → ℕ
refusal_number s c d w = first_of (fault s) (pick (text_ok s c) (pick (text_ok s d) (pick (ltb (length w) (4 * size (names_of s))) 32 0) 19) 19)

unfoldable pub refusal_side : List ℕ → List ℕ → List ℕ → List ℕ → ℕ
refusal_side s c d w = pick (eqb (fault s) 0) (pick (text_ok s c) (pick (text_ok s d) 0 2) 1) 1

pub record AskedAs (s c d w v : List ℕ) (r : Result Position AskRefusal) : Type 0 where
  pub value : Position
  pub answer : told ask_refusal r ≡ answer (refusal_side s c d w) (refusal_number s c d w) value
  -- a refusal changes no byte
  pub unchanged : (refusal_number s c d w ≡ 0 → ⊥) → v ≡ w
  pub held : refusal_number s c d w ≡ 0 → Lies (content_of s) (concept_in s c) (concept_in s d) (position_number value)
  pub cleared : refusal_number s c d w ≡ 0 → Zeroed (4 * size (names_of s)) w v
