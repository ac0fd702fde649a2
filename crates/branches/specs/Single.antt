-- "Each row tells what a single comparison would."
--   RowTells rule s t g r single     r is the row, by the rule of that number, of the comparison `single` of s and t over the signature g: with
--                                    memory enough that one is not refused, and where it is accepted, r is the row of its result
use Rattle.std.specs.Prelude.{◌≡◌, List, ℕ, length, take, Ok}
use Rattle.release.specs.Files.{names_of, roles_of}
use Rattle.meanings.specs.declared.Compared.{Compared}
use Rattle.meanings.specs.Demand3.{Enough, Compares}
use Rattle.branches.specs.declared.row.Row.{Row}
use Rattle.branches.specs.Rows.{RowOf}

pub record RowTells (rule : ℕ) (s t g : List ℕ) (r : Row) {o p w : List ℕ} (single : Compares s t g o p w) : Type 0 where
  pub accepted : Enough s (length o) (length p) (length w) → single.answer ≡ Ok (record { names = names_of s; roles = roles_of s })
  pub row : {c : Compared} → single.answer ≡ Ok c → RowOf rule (take (names_of s) g) (take (names_of s) single.result) r
