-- Roles: sets of them, each a number with a bit for each role, and which lie under which.
--   HasRole set r        the set has the role r;  NoRole set: it has none;  SomeRole set: it has one
--   With set r new       new is the set and the role r;  Joined a b new: new has the roles of both a and b
--   Met a b new          new has the roles that are in a and in b;  Without a b new: those that are in a and not in b
--   NextRole set from r  r is the first role of the set from `from` on, if there is one
--   entry t s            the roles under s by the table t, a set
--   serves_by t r s      by the table t the role r serves where s is asked for: r lies under s
--   Serving t s set      the set has the roles that serve for s by the table t, of those that have a bit; where s has one, these are all
--   RolesOf pairs t      the table t tells what lies under what by these pairs, chains included
use Rattle.std.specs.Prelude.{◌≡◌, ◌↔◌, Bool, true, List, ℕ, ◌<◌, eqb, ltb, get_or, Option, MatchOption, ◌⊎◌}
use Rattle.el.specs.Lists.{pick}
use Rattle.el.specs.Axioms.{RolePair}
use Rattle.el.specs.Derivability.{Under}
use Rattle.el.proofs.Tests.{Tells}
use Rattle.marks.specs.Squares.{bit, First, Nowhere}
use Rattle.release.specs.Files.{most_roles}
use Rattle.release.specs.declared.RoleIndex.{RoleIndex}
use Rattle.release.specs.declared.roles.RolePair as pair
use Rattle.release.specs.declared.roles.RoleTable.{RoleTable}

pub record HasRole (set r : ℕ) : Type 0 where
  pub is : bit set r ≡ 1

pub record NoRole (set : ℕ) : Type 0 where
  pub none : (r : ℕ) → HasRole set r → ⊥

pub record SomeRole (set : ℕ) : Type 0 where
  pub it : ℕ
  pub has : HasRole set it

-- a role from 32 on is in no set
pub record With (set r new : ℕ) : Type 0 where
  pub either : (q : ℕ) → HasRole new q ↔ (HasRole set q ⊎ ((q ≡ r) × (r < most_roles)))

pub record Joined (a b new : ℕ) : Type 0 where
  pub either : (r : ℕ) → HasRole new r ↔ (HasRole a r ⊎ HasRole b r)

pub record Met (a b new : ℕ) : Type 0 where
  pub both : (r : ℕ) → HasRole new r ↔ (HasRole a r × HasRole b r)

pub record Without (a b new : ℕ) : Type 0 where
  pub first_alone : (r : ℕ) → HasRole new r ↔ (HasRole a r × (HasRole b r → ⊥))

abbrev pub NextRole : ℕ → ℕ → Option RoleIndex → Type 0
NextRole set from o = MatchOption o (Nowhere (λ r. HasRole set r → ⊥) 31 from) (λ role. First (HasRole set) (λ r. HasRole set r → ⊥) 31 from role.0)

abbrev pub entry : RoleTable → ℕ → ℕ
entry t s = (get_or t.0 s (record { 0 = 0 })).0

-- a role from 32 on serves for itself alone
unfoldable pub serves_by : RoleTable → ℕ → ℕ → Bool
serves_by t r s = pick (ltb s most_roles) (eqb (bit (entry t s) r) 1) (eqb r s)

pub record Serving (t : RoleTable) (s set : ℕ) : Type 0 where
  pub tells : (r : ℕ) → r < most_roles → HasRole set r ↔ (serves_by t r s ≡ true)
  pub all : s < most_roles → (r : ℕ) → HasRole set r ↔ (serves_by t r s ≡ true)

pub record RolesOf (pairs : List RolePair) (t : RoleTable) : Type 0 where
  pub tells : (r s : ℕ) → Tells (serves_by t r s) (Under pairs r s)

-- a pair as the terminology has it; one of roles that have a bit
abbrev pub pair_of : pair.RolePair → RolePair
pair_of p = record { lower = p.lower.0; upper = p.upper.0 }

pub record Listable (p : pair.RolePair) : Type 0 where
  pub lower : p.lower.0 < most_roles
  pub upper : p.upper.0 < most_roles
