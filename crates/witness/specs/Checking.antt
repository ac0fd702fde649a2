-- Checking rows from any editor: the answer with every refusal in its order, and what becomes of the memory.
--   checking s t g k w        the answer for releases s and t, signature g, k rows and w work bytes: refused as by Compare without 31, with
--                             32 for less memory than a check of k rows needs
--   CheckedAs s t g side a ys w v r    what the call promises of its answer r for the rows ys, and of the memory at its end
use Rattle.std.specs.Prelude.{◌≡◌, ◌↔◌, Bool, true, List, ◌++◌, ℕ, eqb, leb, length, drop, replicate, Result, Ok, Err}
use Rattle.el.specs.Lists.{pick}
use Rattle.concept_rows.specs.Lent.{row_count}
use Rattle.release.specs.Files.{names_of}
use Rattle.release.specs.Readings.{checked}
use Rattle.release.specs.Refusals.{Numbers, told}
use Rattle.release.specs.declared.Counts.{Counts}
use Rattle.signature.specs.Bytes.{signature_fault}
use Rattle.meanings.specs.declared.Compared.{Compared}
use Rattle.meanings.specs.declared.refusals.CompareRefusal.{CompareRefusal}
use Rattle.meanings.specs.Comparing.{refused, agreed, and_then}
use Rattle.meanings.specs.Refusals.{compare_refusal}
use Rattle.witness.specs.Lent.{check_length, answered}
use Rattle.witness.specs.Showing.{LastShows}

-- 17 and 18, 32
unfoldable pub lent_to_check : List ℕ → ℕ → ℕ → Compared → Result Compared Numbers
lent_to_check g k w c =
    pick (eqb (signature_fault c.names c.roles g) 0)
    (pick (leb (check_length c.names k) w)
    (Ok c)
    (refused 32 0))
    (refused (signature_fault c.names c.roles g) 0)

unfoldable pub judged_to_check : Result Counts Numbers → Result Counts Numbers → List ℕ → ℕ → ℕ → Result Compared Numbers
judged_to_check first second g k w = and_then (agreed first second) (lent_to_check g k w)

abbrev pub checking : List ℕ → List ℕ → List ℕ → ℕ → ℕ → Result Compared Numbers
checking s t g k w = judged_to_check (checked s) (checked t) g k w

pub record CheckedAs (s t g : List ℕ) (side a : ℕ) (ys w v : List ℕ) (r : Result Bool CompareRefusal) : Type 0 where
  pub value : Bool
  pub answer : told compare_refusal r ≡ answered (checking s t g (row_count ys) (length w)) value
  pub refused_work : {k : CompareRefusal} → r ≡ Err k → v ≡ w
  pub held : {yes : Bool} → r ≡ Ok yes → (yes ≡ true) ↔ LastShows s t g side a ys (row_count ys)
  pub accepted_work : {yes : Bool} → r ≡ Ok yes → v ≡ replicate (check_length (names_of s) (row_count ys)) 0 ++ drop (check_length (names_of s) (row_count ys)) w
