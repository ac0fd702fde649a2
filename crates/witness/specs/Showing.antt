-- Writing a concept for a reported name: the answer with every refusal in its order, and what becomes of lent rows and memory.
--   showing s t g k w              the answer for releases s and t, signature g, k rows and w work bytes: refused as by Compare without 31,
--                                  then 44
--   LastShows s t g side a ys k    the last of the first k rows of ys shows the difference of the name a on that side, and all k are well formed
--   IsReported s t g side a        the name is reported on that side
--   RowsWritten s t g side a ys zs k   the rows ys became zs: k were written, at least one exactly where the name is reported on that side, and then
--                                  the last shows the difference; at most (n + 2)³; what is behind them is as before
--   ShownAs s t g side a ys zs w v r    what the call promises of its answer r, and of rows and memory at its end
use Rattle.std.specs.Prelude.{◌≡◌, ◌↔◌, List, ◌++◌, ℕ, ◌*◌, ◌≤◌, eqb, leb, length, drop, replicate, Result, Ok, Err}
use Rattle.el.specs.Lists.{pick}
use Rattle.concept_rows.specs.Rows.{ReportedOn}
use Rattle.concept_rows.specs.Lent.{row_count, rows_needed, Last}
use Rattle.release.specs.Files.{names_of, content_of}
use Rattle.release.specs.Readings.{checked}
use Rattle.release.specs.Refusals.{Numbers, told}
use Rattle.release.specs.declared.Counts.{Counts}
use Rattle.signature.specs.Bytes.{signature_fault}
use Rattle.demands.specs.Inputs.{chosen}
use Rattle.meanings.specs.declared.Compared.{Compared}
use Rattle.meanings.specs.Comparing.{work_length, refused, agreed, and_then}
use Rattle.witness.specs.declared.refusals.ShowRefusal.{ShowRefusal}
use Rattle.witness.specs.Refusals.{show_refusal}
use Rattle.witness.specs.Lent.{answered}

-- 17 and 18, 32, 44
unfoldable pub lent_to_show : List ℕ → ℕ → ℕ → Compared → Result Compared Numbers
lent_to_show g k w c =
    pick (eqb (signature_fault c.names c.roles g) 0)
    (pick (leb (work_length c.names) w)
    (pick (leb (rows_needed c.names) k)
    (Ok c)
    (refused 44 0))
    (refused 32 0))
    (refused (signature_fault c.names c.roles g) 0)

unfoldable pub judged_to_show : Result Counts Numbers → Result Counts Numbers → List ℕ → ℕ → ℕ → Result Compared Numbers
judged_to_show first second g k w = and_then (agreed first second) (lent_to_show g k w)

abbrev pub showing : List ℕ → List ℕ → List ℕ → ℕ → ℕ → Result Compared Numbers
showing s t g k w = judged_to_show (checked s) (checked t) g k w

abbrev pub LastShows : List ℕ → List ℕ → List ℕ → ℕ → ℕ → List ℕ → ℕ → Type 0
LastShows s t g side a ys k = Last (chosen s g) (content_of s) (content_of t) side a ys k

abbrev pub IsReported : List ℕ → List ℕ → List ℕ → ℕ → ℕ → Type 0
IsReported s t g side a = ReportedOn (chosen s g) (content_of s) (content_of t) side a

pub record RowsWritten (s t g : List ℕ) (side a : ℕ) (ys zs : List ℕ) (k : ℕ) : Type 0 where
  pub some : (1 ≤ k) ↔ IsReported s t g side a
  pub shows : 1 ≤ k → LastShows s t g side a zs k
  pub few : k ≤ rows_needed (names_of s)
  pub long : length zs ≡ length ys
  pub past : drop (3 * k) zs ≡ drop (3 * k) ys

pub record ShownAs (s t g : List ℕ) (side a : ℕ) (ys zs w v : List ℕ) (r : Result ℕ ShowRefusal) : Type 0 where
  pub count : ℕ
  pub answer : told show_refusal r ≡ answered (showing s t g (row_count ys) (length w)) count
  pub refused_rows : {k : ShowRefusal} → r ≡ Err k → zs ≡ ys
  pub refused_work : {k : ShowRefusal} → r ≡ Err k → v ≡ w
  pub accepted_rows : {k : ℕ} → r ≡ Ok k → RowsWritten s t g side a ys zs k
  pub accepted_work : {k : ℕ} → r ≡ Ok k → v ≡ replicate (work_length (names_of s)) 0 ++ drop (work_length (names_of s)) w
