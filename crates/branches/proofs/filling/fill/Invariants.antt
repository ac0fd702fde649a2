-- The rows so far are those of their signatures, and the memory is as the preparation left it.
use Rattle.std.proofs.Common.{◌≡◌, ℕ, ◌<◌, length, get_or}
use Rattle.branches.specs.Filling.{RowAt}
use Rattle.branches.specs.Shares.{rule_number}
use Rattle.branches.specs.Sheets.{no_row}
use Rattle.branches.proofs.filling.fill.Given as goal

abbrev pub invariant-loop-branch : goal.invariant-loop-branch
invariant-loop-branch l =
    (length l.rows ≡ length l.initial.rows)
    × ((i : ℕ) → i < l.branch → RowAt (rule_number l.fn.rounding) l.fn.releases.first.file.now l.fn.releases.second.file.now l.fn.signatures i (get_or l.rows i no_row))
    × (l.work ≡ l.initial.work)
