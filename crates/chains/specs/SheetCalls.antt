-- Three sheets of accepted input, with rows and memory enough.
--   SheetInput s t gs q            accepted releases with the same counts, and accepted signatures of q branches, no more than a sheet has
--   EnoughRows s q k w             k rows and w bytes of work memory are enough for q branches and releases with as many names as s
--   IsFilled c                     the call c is not refused: it answers the counts of its releases
--   sheet_of c e                   the sheet then
--   ThreeSheets one two across     none of three calls by one rule is refused, and their rows are as AcrossSheets says
use Rattle.std.specs.Prelude.{◌≡◌, List, ℕ, ◌+◌, ◌*◌, ◌≤◌, Ok}
use Rattle.release.specs.Files.{fault, names_of, roles_of}
use Rattle.signature.specs.Bytes.{signature_fault}
use Rattle.meanings.specs.Comparing.{work_length}
use Rattle.branches.specs.declared.row.Row.{Row}
use Rattle.branches.specs.Sheets.{most_branches}
use Rattle.chains.specs.Chains.{end, step}
use Rattle.chains.specs.Sheets.{ComparesBranches, Sheet, AcrossSheets}

pub record SheetInput (s t gs : List ℕ) (q : ℕ) : Type 0 where
  pub first : fault s ≡ 0
  pub second : fault t ≡ 0
  pub names : names_of s ≡ names_of t
  pub roles : roles_of s ≡ roles_of t
  pub few : q ≤ most_branches
  pub signatures : signature_fault (q * (names_of s + roles_of s)) 0 gs ≡ 0

pub record EnoughRows (s : List ℕ) (q k w : ℕ) : Type 0 where
  pub rows : q ≤ k
  pub work : work_length (names_of s) ≤ w

abbrev pub IsFilled : {s t gs : List ℕ} {q rule : ℕ} {ys : List Row} {w : List ℕ} → ComparesBranches s t gs q rule ys w → Type 0
IsFilled {s = s} c = c.answer ≡ Ok (record { names = names_of s; roles = roles_of s })

abbrev pub sheet_of : {s t gs : List ℕ} {q rule : ℕ} {ys : List Row} {w : List ℕ} (c : ComparesBranches s t gs q rule ys w) → IsFilled c → Sheet gs q s t
sheet_of c e = record { rule = _; rows_lent = _; work_lent = _; call = c; counts = _; accepted = e }

pub record ThreeSheets {s t u gs : List ℕ} {q rule : ℕ} {ys ys' ys'' : List Row} {w w' w'' : List ℕ}
    (one : ComparesBranches s t gs q rule ys w) (two : ComparesBranches t u gs q rule ys' w') (across : ComparesBranches s u gs q rule ys'' w'') : Type 0 where
  pub one_accepted : IsFilled one
  pub two_accepted : IsFilled two
  pub across_accepted : IsFilled across
  pub skips : AcrossSheets (step (sheet_of one one_accepted) (step (sheet_of two two_accepted) end)) (sheet_of across across_accepted)
