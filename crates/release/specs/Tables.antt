-- A release by name, decoded into a table of rows: kind, role, filler, place of the tail in the file.
--   kind_at t x, role_at t x, filler_at t x, tail_at t x     the numbers in the row of the name x in the table t; kind 0: no axiom
--   count_at s t x, part_at s t x i                        the number of x's conjuncts, and the conjunct i, read from the file s
--   serves_at t r s                                     the role r serves where s is asked for
--   ServingAt t s set                                   the set has the roles that serve where s is asked for, of those that have a bit; where s has one, all
--   SuccessorOf t x r o                                 o is the filler of x's axiom where that is a restriction with a role that serves for r, else none
--   Stands c s p q                                       q is the place of one of the c axioms from place p of s on
--   Decoded n c s t                                      t is the table of the c axioms of s, which has n names
--   PairsRead m s t r                                    the table of roles t is that of the role pairs of s, or r is the first refusal among them
use Rattle.std.specs.Prelude.{◌≡◌, ◌↔◌, Bool, true, false, List, ℕ, suc, ◌+◌, ◌*◌, ◌≤◌, ◌<◌, length, get_or, Option, None, MatchOption, Result}
use Rattle.el.specs.Lists.{In}
use Rattle.el.specs.Axioms.{Axiom, is_conjunction, parts_of, role_of, filler_of}
use Rattle.release.specs.Files.{number, numbers, width_of, lists_pairs, header_length, pair_count, pairs_place, first_place, most_names, most_roles, names_of, count_of}
use Rattle.release.specs.Files.{joins, restricts, least_pair, pairs_fault, pairs_of, axiom_length, axioms_fault, fault, kind_of}
use Rattle.release.specs.Roles.{HasRole, serves_by, RolesOf}
use Rattle.release.specs.Versions.{width, has_pairs}
use Rattle.release.specs.Readings.{checked}
use Rattle.release.specs.Entries.{node_number, entry_of}
use Rattle.release.specs.Kinds.{kind_number, numbered, kind_of_byte}
use Rattle.release.specs.Refusals.{file_refusal, told, answer}
use Rattle.release.specs.declared.axiom.Entry.{Entry}
use Rattle.release.specs.declared.Counts.{Counts}
use Rattle.release.specs.declared.refusals.FileRefusal.{FileRefusal}
use Rattle.release.specs.declared.number.Version.{Version}
use Rattle.release.specs.declared.roles.RoleTable.{RoleTable}
use Rattle.release.specs.declared.table.Row as table
use Rattle.release.specs.declared.table.Table.{Table}

-- a row without an axiom, and the row of the name x
abbrev pub blank_row : table.Row
blank_row = record { kind = None; role = record { 0 = 0 }; filler = 0; tail = 0 }

abbrev pub row_at : Table → ℕ → table.Row
row_at t x = get_or t.rows x blank_row

unfoldable pub kind_at : Table → ℕ → ℕ
kind_at t x = numbered (row_at t x).kind

unfoldable pub role_at : Table → ℕ → ℕ
role_at t x = (row_at t x).role.0

unfoldable pub filler_at : Table → ℕ → ℕ
filler_at t x = (row_at t x).filler

unfoldable pub tail_at : Table → ℕ → ℕ
tail_at t x = (row_at t x).tail

unfoldable pub count_at : List ℕ → Table → ℕ → ℕ
count_at s t x = get_or s (tail_at t x) 0

unfoldable pub part_at : List ℕ → Table → ℕ → ℕ → ℕ
part_at s t x i = number (width_of s) s (tail_at t x + 1 + width_of s * i)

-- the role r serves where s is asked for: it lies under s
unfoldable pub serves_at : Table → ℕ → ℕ → Bool
serves_at t r s = serves_by t.roles r s

pub record ServingAt (t : Table) (s set : ℕ) : Type 0 where
  pub tells : (r : ℕ) → r < most_roles → HasRole set r ↔ (serves_at t r s ≡ true)
  pub all : s < most_roles → (r : ℕ) → HasRole set r ↔ (serves_at t r s ≡ true)

-- the axiom of x is a restriction to the filler y, with a role that serves for r: r leads from x to y; it leads to none
pub record HasSuccessor (t : Table) (x r y : ℕ) : Type 0 where
  pub role : serves_at t (role_at t x) r ≡ true
  pub is_restriction : restricts (kind_at t x) ≡ true
  pub filler : filler_at t x ≡ y

pub record NoSuccessor (t : Table) (x r : ℕ) : Type 0 where
  pub none : (y : ℕ) → HasSuccessor t x r y → ⊥

abbrev pub SuccessorOf : Table → ℕ → ℕ → Option ℕ → Type 0
SuccessorOf t x r o = MatchOption o (NoSuccessor t x r) (HasSuccessor t x r)

pub data Stands : ℕ → List ℕ → ℕ → ℕ → Type 0 where
  here : {c : ℕ} {s : List ℕ} {p : ℕ} → Stands (suc c) s p p
  there : {c : ℕ} {s : List ℕ} {p q : ℕ} → Stands c s (p + axiom_length (width_of s) s p) q → Stands (suc c) s p q

-- the row of a name holds an axiom's numbers
pub record Row (t : Table) (e : Entry) : Type 0 where
  pub kind : kind_at t e.left.0 ≡ kind_number e.kind
  pub role : role_at t e.left.0 ≡ e.role.0
  pub filler : filler_at t e.left.0 ≡ e.filler
  pub tail : tail_at t e.left.0 ≡ e.tail

-- a row as before; the row of an axiom put, and every other as before
pub record SameRow (t u : Table) (x : ℕ) : Type 0 where
  pub kind : kind_at u x ≡ kind_at t x
  pub role : role_at u x ≡ role_at t x
  pub filler : filler_at u x ≡ filler_at t x
  pub tail : tail_at u x ≡ tail_at t x

pub record Put (e : Entry) (t u : Table) : Type 0 where
  pub roles : u.roles ≡ t.roles
  pub row : Row u e
  pub other : (y : ℕ) → (y ≡ e.left.0 → ⊥) → SameRow t u y

-- there is a row for the axiom, and its numbers fit 16 bits
pub record Fits (e : Entry) : Type 0 where
  pub row : e.left.0 < most_names
  pub filler : e.filler ≤ 65535
  pub tail : e.tail ≤ 65535

-- the numbers of the axiom at place q
unfoldable pub entry_at : ℕ → List ℕ → ℕ → Entry
entry_at n s q = entry_of (width_of s) n (number (width_of s) s q) (kind_of_byte (get_or s (q + width_of s) 0)) s (q + width_of s + 1)

-- a row is blank, or that of an axiom of the file
pub data Origin (c : ℕ) (s : List ℕ) (t : Table) (x : ℕ) : Type 0 where
  blank : kind_at t x ≡ 0 → Origin c s t x
  of_axiom : {q : ℕ} → Stands c s (first_place s) q → number (width_of s) s q ≡ x → Origin c s t x

pub record Decoded (n c : ℕ) (s : List ℕ) (t : Table) : Type 0 where
  pub rows : n ≤ most_names
  pub row : (q : ℕ) → Stands c s (first_place s) q → Row t (entry_at n s q)
  pub origin : (x : ℕ) → x < n → Origin c s t x

-- before the pairs are read: a whole header; and after
pub record PairsReady (m : ℕ) (s : List ℕ) : Type 0 where
  pub long : pairs_place s ≤ length s
  pub few : m ≤ most_roles

pub record PairsRead (m : ℕ) (s : List ℕ) (t : RoleTable) (r : Result (Unit {0}) FileRefusal) : Type 0 where
  pub fault : told file_refusal r ≡ answer 1 (pairs_fault m (pair_count s) least_pair s (pairs_place s)) tt
  pub roles : pairs_fault m (pair_count s) least_pair s (pairs_place s) ≡ 0 → RolesOf (pairs_of s) t

-- before the axioms are read: a header and pairs without fault, and a blank row for each name
pub record Ready (n m c : ℕ) (s : List ℕ) (t : Table) : Type 0 where
  pub long : first_place s ≤ length s
  -- p is a byte
  pub few_pairs : pair_count s ≤ 255
  pub names : n ≤ most_names
  pub roles : m ≤ most_roles
  pub count : c ≤ n
  pub blank : (x : ℕ) → x < n → kind_at t x ≡ 0

-- the axioms read into a table: the first refusal, or the table
pub record AxiomsRead (n m c : ℕ) (s : List ℕ) (old t : Table) (r : Result (Unit {0}) FileRefusal) : Type 0 where
  pub fault : told file_refusal r ≡ answer 1 (axioms_fault (width_of s) n m c 0 s (first_place s)) tt
  pub decoded : axioms_fault (width_of s) n m c 0 s (first_place s) ≡ 0 → Decoded n c s t
  pub roles : t.roles ≡ old.roles

-- what the functions that read a header ask
pub record HasHeader (w : ℕ) (s : List ℕ) : Type 0 where
  pub is : w ≡ width_of s
  pub inside : header_length w false ≤ length s

-- and the one that reads the number of pairs
pub record HasPairCount (v : Version) (s : List ℕ) : Type 0 where
  pub width : width v ≡ width_of s
  pub pairs : has_pairs v ≡ lists_pairs s
  pub inside : pairs_place s ≤ length s

-- what the functions that read a row ask
pub record HasRow (x : ℕ) : Type 0 where
  pub row : x < most_names

pub record HasCount (s : List ℕ) (t : Table) (x : ℕ) : Type 0 where
  pub row : x < most_names
  pub inside : tail_at t x < length s

pub record HasPart (s : List ℕ) (t : Table) (x i : ℕ) : Type 0 where
  pub version : 3 < length s
  pub row : x < most_names
  pub inside : tail_at t x + 1 + width_of s * i + width_of s ≤ length s

-- the ranges that loops over a table rely on: a file with a version, rows for all names, roles that have a bit, fillers that are nodes,
-- conjuncts in the file that are names
pub record Shaped (n : ℕ) (s : List ℕ) (t : Table) : Type 0 where
  pub version : 3 < length s
  pub rows : n ≤ most_names
  pub role : (x : ℕ) → x < n → restricts (kind_at t x) ≡ true → role_at t x < most_roles
  pub filler : (x : ℕ) → x < n → restricts (kind_at t x) ≡ true → filler_at t x ≤ n
  pub inside : (x : ℕ) → x < n → joins (kind_at t x) ≡ true → tail_at t x + 1 + width_of s * count_at s t x ≤ length s
  pub part : (x i : ℕ) → x < n → joins (kind_at t x) ≡ true → i < count_at s t x → part_at s t x i < n

-- a conjunct of the name x is a left name of kind 2; some name has such a conjunct
pub record PartDefined (s : List ℕ) (t : Table) (x : ℕ) : Type 0 where
  pub at : ℕ
  pub among : at < count_at s t x
  pub is_defined : kind_at t (part_at s t x at) ≡ 2

pub record SomePartDefined (n : ℕ) (s : List ℕ) (t : Table) : Type 0 where
  pub left : ℕ
  pub is_name : left < n
  pub is_conjunctive : joins (kind_at t left) ≡ true
  pub part : PartDefined s t left

-- what the search in one name's conjuncts asks
pub record Conjunctive (n : ℕ) (s : List ℕ) (t : Table) (x : ℕ) : Type 0 where
  pub shaped : Shaped n s t
  pub is_name : x < n
  pub is_conjunctive : joins (kind_at t x) ≡ true

-- a table with a blank row for each name that there can be; and after reading a release into it
pub record Blank (t : Table) : Type 0 where
  pub blank : (x : ℕ) → x < most_names → kind_at t x ≡ 0

pub record ReleaseRead (s : List ℕ) (t : Table) (r : Result Counts FileRefusal) : Type 0 where
  pub answer : told file_refusal r ≡ checked s
  pub decoded : fault s ≡ 0 → Decoded (names_of s) (count_of s) s t
  pub roles : fault s ≡ 0 → RolesOf (pairs_of s) t.roles

-- an accepted file and its table: what the crates above are handed
pub record Release (s : List ℕ) (t : Table) : Type 0 where
  pub accepted : fault s ≡ 0
  pub decoded : Decoded (names_of s) (count_of s) s t
  pub roles : RolesOf (pairs_of s) t.roles

-- the row of an axiom, in the axiom's own terms
pub record AxiomRow (n : ℕ) (s : List ℕ) (t : Table) (a : Axiom) : Type 0 where
  pub kind : kind_at t a.left ≡ kind_of a
  pub parts : is_conjunction a ≡ true → parts_of a ≡ numbers (width_of s) (count_at s t a.left) s (tail_at t a.left + 1)
  pub role : is_conjunction a ≡ false → role_at t a.left ≡ role_of a
  pub filler : is_conjunction a ≡ false → filler_at t a.left ≡ node_number n (filler_of a)

-- a name has no axiom and a blank row, or an axiom
pub data NameRow (al : List Axiom) (t : Table) (x : ℕ) : Type 0 where
  no_axiom : kind_at t x ≡ 0 → ((a : Axiom) → In al a → a.left ≡ x → ⊥) → NameRow al t x
  has_axiom : {a : Axiom} → In al a → a.left ≡ x → NameRow al t x
