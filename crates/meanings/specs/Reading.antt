-- Two releases read one after the other.
--   BothRead s t a b r     reading s and t gave the tables a and b, and r: the counts that they share, or the first refusal
--   AreRead s t c r        the releases r are s and t, each with its table, and c are the counts that they share
--   ReleasesRead s t r     reading s and t gave r: the counts and the releases, or the first refusal
use Rattle.std.specs.Prelude.{◌≡◌, List, ℕ, Result, Ok, Err}
use Rattle.release.specs.Readings.{checked}
use Rattle.release.specs.Refusals.{told}
use Rattle.release.specs.Tables.{Release}
use Rattle.release.specs.declared.table.Table.{Table}
use Rattle.comparison.specs.declared.Releases.{Releases}
use Rattle.meanings.specs.declared.Compared.{Compared}
use Rattle.meanings.specs.declared.refusals.CompareRefusal.{CompareRefusal}
use Rattle.meanings.specs.Comparing.{agreed}
use Rattle.meanings.specs.Refusals.{compare_refusal}

pub record BothRead (s t : List ℕ) (a b : Table) (r : Result Compared CompareRefusal) : Type 0 where
  pub answer : told compare_refusal r ≡ agreed (checked s) (checked t)
  pub first : {c : Compared} → r ≡ Ok c → Release s a
  pub second : {c : Compared} → r ≡ Ok c → Release t b

pub record AreRead (s t : List ℕ) (c : Compared) (r : Releases) : Type 0 where
  pub counts : Ok c ≡ agreed (checked s) (checked t)
  pub names : r.names ≡ c.names
  pub roles : r.roles ≡ c.roles
  pub first_file : r.first.file.now ≡ s
  pub second_file : r.second.file.now ≡ t
  pub first : Release s r.first.table.now
  pub second : Release t r.second.table.now

abbrev pub ReleasesRead : List ℕ → List ℕ → Result (Compared × Releases) CompareRefusal → Type 0
ReleasesRead s t (Ok read) = AreRead s t read.0 read.1
ReleasesRead s t (Err e) = Err (compare_refusal e) ≡ agreed (checked s) (checked t)
