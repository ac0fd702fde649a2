-- What the programs print, by what the calls that they make promise.
--   Prints text o p r                the text stands at the start of the output, o before and p after it, and r is its length; where it
--                                    does not fit, the output is unchanged and r is none
--   signature_count c k               how many signatures k bytes hold, by the counts of a release that was checked
--   rule_named word                  the number that a word names: its digit where it is one byte, else 0, which is no rule's
--   StationPrints s t g w v o p r    the station, for the releases s and t and the signature g, with the work memory w, v after it: what
--                                    Compare says, with a result of as many bytes as there can be names, is what is printed
--   SheetPrints s t gs word w v o p r    the same of the sheet, for all signatures that gs holds, by the rule that the word names
use Rattle.std.specs.Prelude.{◌≡◌, List, ◌++◌, ℕ, ◌+◌, ◌-◌, ◌*◌, ◌/◌, ◌≤◌, ◌<◌, eqb, length, get_or, drop, Option, Some, None, Result, Ok, Err}
use Rattle.el.specs.Lists.{pick}
use Rattle.release.specs.Files.{most_names, most_roles}
use Rattle.release.specs.Readings.{checked}
use Rattle.release.specs.Refusals.{Numbers, told}
use Rattle.release.specs.declared.Counts.{Counts}
use Rattle.meanings.specs.declared.Compared.{Compared}
use Rattle.meanings.specs.declared.refusals.CompareRefusal.{CompareRefusal}
use Rattle.meanings.specs.Comparing as meanings
use Rattle.meanings.specs.Refusals.{compare_refusal}
use Rattle.branches.specs.declared.row.Row.{Row}
use Rattle.branches.specs.declared.refusals.SheetRefusal.{SheetRefusal}
use Rattle.branches.specs.Refusals.{sheet_refusal}
use Rattle.branches.specs.Sheets as branches
use Rattle.branches.specs.Sheets.{most_branches}
use Rattle.report.specs.declared.refusals.ReportRefusal.{ReportRefusal}
use Rattle.report.specs.declared.refusals.ReportRefusal.TheVariants.{ShortOutput}
use Rattle.output.specs.Written.{fitted, WrittenAs}
use Rattle.report.specs.Answered.{answer_text}
use Rattle.report.specs.Sheets.{sheet_text}

pub record Prints (text o p : List ℕ) (r : Option ℕ) : Type 0 where
  pub written : Result ℕ ReportRefusal
  pub writes : WrittenAs (fitted ShortOutput text o) text o p written
  pub whole : length text ≤ length o → (r ≡ Some (length text)) × (p ≡ text ++ drop (length text) o)
  pub short : length o < length text → (r ≡ None) × (p ≡ o)

unfoldable pub signature_count : Result Counts Numbers → ℕ → ℕ
signature_count (Err k) bytes = 0
signature_count (Ok c) bytes = pick (eqb (c.names + c.roles) 0) 0 (bytes / (c.names + c.roles))

unfoldable pub rule_named : List ℕ → ℕ
rule_named word = pick (eqb (length word) 1) (get_or word 0 0 - 48) 0

pub record StationPrints (s t g w v o p : List ℕ) (r : Option ℕ) : Type 0 where
  pub lent : List ℕ
  pub result : List ℕ
  pub answer : Result Compared CompareRefusal
  pub long : length lent ≡ most_names
  pub roles_lent : List ℕ
  pub role_result : List ℕ
  pub roles_long : length roles_lent ≡ most_roles * most_roles
  pub says : meanings.Says s t g lent result roles_lent role_result w v answer
  pub prints : Prints (answer_text (told compare_refusal answer) result) o p r

pub record SheetPrints (s t gs word w v o p : List ℕ) (r : Option ℕ) : Type 0 where
  pub lent : List Row
  pub rows : List Row
  pub answer : Result Compared SheetRefusal
  pub long : length lent ≡ most_branches
  pub says : branches.Says s t gs (signature_count (checked s) (length gs)) (rule_named word) lent rows w v answer
  pub prints : Prints (sheet_text (told sheet_refusal answer) (signature_count (checked s) (length gs)) rows) o p r
