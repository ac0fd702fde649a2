-- A role that is asked for.
--   Asks b a          the set of a has just the roles that serve for its role by the table b
--   SmallRole b x     the axiom of x has a role with a bit, where it is a restriction of the table b
--   Idle b a x        the axiom of x is no restriction of the table b with a role that serves for that of a
use Rattle.std.specs.Prelude.{◌≡◌, ◌↔◌, true, ℕ, ◌<◌}
use Rattle.release.specs.Files.{restricts, most_roles}
use Rattle.release.specs.Roles.{HasRole}
use Rattle.release.specs.Tables.{kind_at, role_at, serves_at}
use Rattle.release.specs.declared.table.Table.{Table}
use Rattle.forward.specs.declared.asked.Asked.{Asked}

pub record Asks (b : Table) (a : Asked) : Type 0 where
  pub each : (r : ℕ) → HasRole a.serving.0 r ↔ (serves_at b r a.role.0 ≡ true)

pub record SmallRole (b : Table) (x : ℕ) : Type 0 where
  pub few : restricts (kind_at b x) ≡ true → role_at b x < most_roles

pub record Idle (b : Table) (a : Asked) (x : ℕ) : Type 0 where
  pub none : restricts (kind_at b x) ≡ true → serves_at b (role_at b x) a.role.0 ≡ true → ⊥
