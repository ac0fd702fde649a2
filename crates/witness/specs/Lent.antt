-- What both calls are lent, and how they answer.
--   check_length n k   how much work memory a check of k rows needs, for releases with n names
--   most_rows_needed   the station never needs more rows than this
--   answered r a       the answer: the refusal that r tells of, else a
use Rattle.std.specs.Prelude.{ℕ, suc, ◌+◌, ◌*◌, Result, Ok, Err}
use Rattle.release.specs.Refusals.{Numbers}
use Rattle.meanings.specs.declared.Compared.{Compared}
use Rattle.meanings.specs.Comparing.{work_length}

unfoldable pub check_length : ℕ → ℕ → ℕ
check_length n k = work_length n + 2 * suc n * k

-- (n + 2) × (n + 2) × (n + 2) for 1,023 names
abbrev pub most_rows_needed : ℕ
most_rows_needed = 1076890625

abbrev pub answered : {A : Type 0} → Result Compared Numbers → A → Result A Numbers
answered (Ok c) a = Ok a
answered (Err k) a = Err k
