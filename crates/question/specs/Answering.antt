-- What the functions below the question ask and promise.
--   ToAnswer x c d w        what is asked to answer a question that nothing refuses, of the release and its table x
--   Answered s c d w v r    the answer r of such a question, and the memory w that became v
use Rattle.std.specs.Prelude.{◌≡◌, true, List, ℕ, ◌*◌, ◌≤◌, length}
use Rattle.release.specs.Files.{names_of, content_of}
use Rattle.release.specs.Tables.{Release}
use Rattle.release.specs.declared.terminology.Terminology.{Terminology}
use Rattle.demands.specs.Inputs.{text_ok, concept_in}
use Rattle.demands.specs.Lying.{Lies}
use Rattle.marks.specs.Memory.{size, Zeroed}
use Rattle.question.specs.declared.position.Position.{Position}
use Rattle.question.specs.Positions.{position_number}

-- answering where nothing is refused
pub record ToAnswer (x : Terminology) (c d w : List ℕ) : Type 0 where
  pub release : Release x.file.now x.table.now
  pub below : text_ok x.file.now c ≡ true
  pub above : text_ok x.file.now d ≡ true
  pub room : 4 * size (names_of x.file.now) ≤ length w

pub record Answered (s c d w v : List ℕ) (r : Position) : Type 0 where
  pub held : Lies (content_of s) (concept_in s c) (concept_in s d) (position_number r)
  pub cleared : Zeroed (4 * size (names_of s)) w v
