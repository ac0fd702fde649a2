-- What is known of the tables and edges that marks are put by, for n names.
--   edges_at edges x          the roles that the name x was found to have an edge with, a set;  HasEdge edges x r: it has the role r
--   Rowed n t                 the table t has a row for each of n names, its roles have bits, and its fillers are nodes
--   Edges n a edges           something was found of each of n names, and only restrictions of the table a have an edge
use Rattle.std.specs.Prelude.{ℕ, ◌≤◌, ◌<◌, ◌≡◌, true, List, length, get_or}
use Rattle.release.specs.declared.table.Table.{Table}
use Rattle.release.specs.declared.roles.RoleSet.{RoleSet}
use Rattle.release.specs.Files.{restricts, most_names, most_roles}
use Rattle.release.specs.Roles.{HasRole}
use Rattle.release.specs.Tables.{kind_at, role_at, filler_at}

abbrev pub edges_at : List RoleSet → ℕ → ℕ
edges_at edges x = (get_or edges x (record { 0 = 0 })).0

abbrev pub HasEdge : List RoleSet → ℕ → ℕ → Type 0
HasEdge edges x r = HasRole (edges_at edges x) r

pub record Rowed (n : ℕ) (t : Table) : Type 0 where
  pub rows : n ≤ most_names
  pub role : (x : ℕ) → x < n → restricts (kind_at t x) ≡ true → role_at t x < most_roles
  pub filler : (x : ℕ) → x < n → restricts (kind_at t x) ≡ true → filler_at t x ≤ n

pub record Edges (n : ℕ) (a : Table) (edges : List RoleSet) : Type 0 where
  pub long : n ≤ length edges
  pub restriction : (x r : ℕ) → x < n → HasEdge edges x r → restricts (kind_at a x) ≡ true
  pub few : (x r : ℕ) → x < n → HasEdge edges x r → r < most_roles
