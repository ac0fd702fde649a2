-- A sheet: two releases compared over q signatures, a row for each. The answer with every refusal in its order, and what becomes of
-- lent rows and memory.
--   signature_at n m gs i            the i-th of the signatures that stand one after another in gs, of n names and m roles
--   sheet s t gs q rule rows w       the answer for releases s and t, q signatures gs, the number of a rule, that many rows and w work bytes
--   Filled s t gs q rule ys zs       the rows ys became zs: the first q are the rows of the signatures in their order, the others as before
--   Says s t gs q rule ys zs w v r   what the call promises of its answer r, and of rows and memory at its end
use Rattle.std.specs.Prelude.{◌≡◌, List, ◌++◌, ℕ, ◌+◌, ◌*◌, ◌<◌, eqb, leb, length, get_or, take, drop, replicate, Result, Ok, Err}
use Rattle.el.specs.Lists.{pick}
use Rattle.release.specs.Files.{names_of, roles_of}
use Rattle.release.specs.Readings.{checked}
use Rattle.release.specs.Refusals.{Numbers, told}
use Rattle.release.specs.declared.Counts.{Counts}
use Rattle.signature.specs.Bytes.{signature_fault}
use Rattle.meanings.specs.declared.Compared.{Compared}
use Rattle.meanings.specs.Comparing.{work_length, refused, agreed, and_then}
use Rattle.branches.specs.declared.refusals.SheetRefusal.{SheetRefusal}
use Rattle.branches.specs.declared.row.Row.{Row}
use Rattle.branches.specs.Refusals.{sheet_refusal}
use Rattle.branches.specs.Shares.{is_rule}
use Rattle.branches.specs.Rows.{IsRow}

abbrev pub most_branches : ℕ
most_branches = 64

abbrev pub signature_at : ℕ → ℕ → List ℕ → ℕ → List ℕ
signature_at n m gs i = take (n + m) (drop (i * (n + m)) gs)

-- 42, 17 and 18, 43, 32
unfoldable pub lent_sheet : List ℕ → ℕ → ℕ → ℕ → Compared → Result Compared Numbers
lent_sheet gs q rows w c =
    pick (leb q most_branches)
    (pick (eqb (signature_fault (q * (c.names + c.roles)) 0 gs) 0)
    (pick (leb q rows)
    (pick (leb (work_length c.names) w)
    (Ok c)
    (refused 32 0))
    (refused 43 0))
    (refused (signature_fault (q * (c.names + c.roles)) 0 gs) 0))
    (refused 42 0)

-- 53 before these
unfoldable pub ruled_sheet : List ℕ → ℕ → ℕ → ℕ → ℕ → Compared → Result Compared Numbers
ruled_sheet gs q rule rows w c = pick (is_rule rule) (lent_sheet gs q rows w c) (refused 53 0)

unfoldable pub judged : Result Counts Numbers → Result Counts Numbers → List ℕ → ℕ → ℕ → ℕ → ℕ → Result Compared Numbers
judged first second gs q rule rows w = and_then (agreed first second) (ruled_sheet gs q rule rows w)

abbrev pub sheet : List ℕ → List ℕ → List ℕ → ℕ → ℕ → ℕ → ℕ → Result Compared Numbers
sheet s t gs q rule rows w = judged (checked s) (checked t) gs q rule rows w

abbrev pub no_row : Row
no_row = record { chosen = 0; left = 0; right = 0; share = 0 }

pub record Filled (s t gs : List ℕ) (q rule : ℕ) (ys zs : List Row) : Type 0 where
  pub filled : List Row
  pub long : length filled ≡ q
  pub each : (i : ℕ) → i < q → IsRow rule s t (signature_at (names_of s) (roles_of s) gs i) (get_or filled i no_row)
  pub rows : zs ≡ filled ++ drop q ys

pub record Says (s t gs : List ℕ) (q rule : ℕ) (ys zs : List Row) (w v : List ℕ) (r : Result Compared SheetRefusal) : Type 0 where
  pub answer : told sheet_refusal r ≡ sheet s t gs q rule (length ys) (length w)
  pub refused_rows : {e : SheetRefusal} → r ≡ Err e → zs ≡ ys
  pub refused_work : {e : SheetRefusal} → r ≡ Err e → v ≡ w
  pub accepted_rows : {c : Compared} → r ≡ Ok c → Filled s t gs q rule ys zs
  pub accepted_work : {c : Compared} → r ≡ Ok c → v ≡ replicate (work_length (names_of s)) 0 ++ drop (work_length (names_of s)) w
