-- Three calls of accepted input and with memory enough.
--   IsAccepted c                   the call c is not refused: it answers the counts of its releases
--   report_of c e                  what it reports then
--   ThreeCalls one two across      none of three calls is refused, and their reports are as Across says
use Rattle.std.specs.Prelude.{◌≡◌, List, ℕ, Ok}
use Rattle.release.specs.Files.{names_of, roles_of}
use Rattle.meanings.specs.Demand3.{Compares}
use Rattle.chains.specs.Reports.{Report, Across}

abbrev pub IsAccepted : {s t g o p w : List ℕ} → Compares s t g o p w → Type 0
IsAccepted {s = s} c = c.answer ≡ Ok (record { names = names_of s; roles = roles_of s })

abbrev pub report_of : {s t g o p w : List ℕ} (c : Compares s t g o p w) → IsAccepted c → Report g s t
report_of c e = record { result_lent = _; roles_lent = _; work_lent = _; call = c; counts = _; accepted = e }

pub record ThreeCalls {s t u g o p w o' p' w' o'' p'' w'' : List ℕ} (one : Compares s t g o p w) (two : Compares t u g o' p' w')
    (across : Compares s u g o'' p'' w'') : Type 0 where
  pub one_accepted : IsAccepted one
  pub two_accepted : IsAccepted two
  pub across_accepted : IsAccepted across
  pub skips : Across (report_of one one_accepted) (report_of two two_accepted) (report_of across across_accepted)
