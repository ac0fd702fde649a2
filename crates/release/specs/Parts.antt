-- The conjuncts of a name, given one after the other.
--   HasParts s t x       the file s holds all conjuncts of the name x of the table t
--   PartsOf s t x i p    p is a walk of x's conjuncts that has given the first i of them
--   SoFar s t x P p      p is such a walk, and P holds of how many it has given: what a loop over it keeps
--   PartGiven p r q      r is the conjunct at which p stands, and q goes on behind it; or r is none: p has given all, and q is p
--   SomePart s t x P, EachPart s t x P    P holds of one of the conjuncts, of each
use Rattle.std.specs.Prelude.{◌≡◌, List, ℕ, ◌+◌, ◌*◌, ◌-◌, ◌≤◌, ◌<◌, length, Option, MatchOption}
use Rattle.std.specs.Iterator.{Count, at_most}
use Rattle.release.specs.Files.{most_names, number, width_of}
use Rattle.release.specs.Tables.{tail_at, count_at, part_at}
use Rattle.release.specs.Versions.{width}
use Rattle.release.specs.declared.parts.Parts.{Parts}
use Rattle.release.specs.declared.table.Table.{Table}

pub record HasParts (s : List ℕ) (t : Table) (x : ℕ) : Type 0 where
  pub version : 3 < length s
  pub row : x < most_names
  pub inside : tail_at t x + 1 + width_of s * count_at s t x ≤ length s

pub record PartsOf (s : List ℕ) (t : Table) (x i : ℕ) (p : Parts) : Type 0 where
  pub file : p.file.now ≡ s
  pub version : width p.version ≡ width_of s
  pub first : p.first ≡ tail_at t x + 1
  pub count : p.count ≡ count_at s t x
  pub next : p.next ≡ i
  pub few : i ≤ count_at s t x
  pub inside : tail_at t x + 1 + width_of s * count_at s t x ≤ length s

pub record SoFar (s : List ℕ) (t : Table) (x : ℕ) (P : ℕ → Type 0) (p : Parts) : Type 0 where
  pub index : ℕ
  pub walk : PartsOf s t x index p
  pub kept : P index

-- what is left lies within the file
pub record CanGive (p : Parts) : Type 0 where
  pub inside : p.first + width p.version * p.count ≤ length p.file.now

abbrev pub further : Parts → Parts
further p = record { file = p.file; version = p.version; first = p.first; count = p.count; next = p.next + 1 }

unfoldable pub part_of : Parts → ℕ
part_of p = number (width p.version) p.file.now (p.first + width p.version * p.next)

pub record Gives (p : Parts) (y : ℕ) (q : Parts) : Type 0 where
  pub among : p.next < p.count
  pub part : y ≡ part_of p
  pub goes_on : q ≡ further p

abbrev pub PartGiven : Parts → Option ℕ → Parts → Type 0
PartGiven p r q = MatchOption r ((p.count ≤ p.next) × (q ≡ p)) (λ y. Gives p y q)

abbrev pub parts_left : Parts → Count
parts_left p = at_most (p.count - p.next)

-- P holds of one of the conjuncts, of each of them
pub record SomePart (s : List ℕ) (t : Table) (x : ℕ) (P : ℕ → Type 0) : Type 0 where
  pub index : ℕ
  pub among : index < count_at s t x
  pub holds : P (part_at s t x index)

pub record EachPart (s : List ℕ) (t : Table) (x : ℕ) (P : ℕ → Type 0) : Type 0 where
  pub at : (i : ℕ) → i < count_at s t x → P (part_at s t x i)
