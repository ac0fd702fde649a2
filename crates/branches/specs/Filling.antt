-- The rows of a sheet filled, given the terminologies of its releases.
--   RowAt rule s t gs i r       r is row i, by the rule of that number and by the bytes that are computed
--   Fits r gs ys w              releases r, signatures gs, one for each of the rows ys, and memory that no refusal meets
--   RowsFilled rule r gs ys zs w v   the rows ys became zs, one for each signature, and the memory w became v: 0 as far as it was used
--   FilledPart s t gs q rule k ys zs w v r    the call was lent the first k of the rows ys, which became zs, and keeps its promise of these
use Rattle.std.specs.Prelude.{◌≡◌, List, ℕ, ◌+◌, ◌*◌, ◌≤◌, ◌<◌, length, get_or, take, drop, Result}
use Rattle.el.specs.Answers.{comparison_bytes}
use Rattle.release.specs.Files.{names_of, roles_of, content_of}
use Rattle.signature.specs.Bytes.{signature_fault}
use Rattle.demands.specs.Inputs.{chosen}
use Rattle.marks.specs.Memory.{size, Zeroed}
use Rattle.comparison.specs.declared.Releases.{Releases}
use Rattle.comparison.specs.Compared.{BothGiven}
use Rattle.meanings.specs.declared.Compared.{Compared}
use Rattle.branches.specs.declared.refusals.SheetRefusal.{SheetRefusal}
use Rattle.branches.specs.declared.row.Row.{Row}
use Rattle.branches.specs.Rows.{RowOf}
use Rattle.branches.specs.Sheets.{most_branches, signature_at, no_row, Says}

pub record RowAt (rule : ℕ) (s t gs : List ℕ) (i : ℕ) (r : Row) : Type 0 where
  pub is :
      let g = signature_at (names_of s) (roles_of s) gs i in
      RowOf rule (take (names_of s) g) (comparison_bytes (names_of s) (chosen s g) (content_of s) (content_of t)) r

pub record Fits (r : Releases) (gs : List ℕ) (ys : List Row) (w : List ℕ) : Type 0 where
  pub both : BothGiven r w
  pub roles : r.roles ≡ roles_of r.first.file.now
  pub few : length ys ≤ most_branches
  pub signatures : signature_fault (length ys * (r.names + r.roles)) 0 gs ≡ 0

pub record RowsFilled (rule : ℕ) (r : Releases) (gs : List ℕ) (ys zs : List Row) (w v : List ℕ) : Type 0 where
  pub long : length zs ≡ length ys
  pub each : (i : ℕ) → i < length ys → RowAt rule r.first.file.now r.second.file.now gs i (get_or zs i no_row)
  pub zeroed : Zeroed (4 * size r.names) w v

pub record FilledPart (s t gs : List ℕ) (q rule k : ℕ) (ys zs : List Row) (w v : List ℕ) (r : Result Compared SheetRefusal) : Type 0 where
  pub says : Says s t gs q rule (take k ys) (take k zs) w v r
  pub rest : drop k zs ≡ drop k ys
  pub long : length ys ≡ most_branches
  pub still_long : length zs ≡ most_branches
