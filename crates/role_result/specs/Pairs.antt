-- The bytes of the role result, a row of m for each of m roles, for two releases and a signature c.
--   BothRead c                   the releases are accepted and read into their tables
--   is_chosen c r                the role r is in the signature
--   lost_pair c r s              both roles are in the signature, and r lies under s by the first release and not by the second
--   LostUnder c s set            the set has the roles that lie under s by the first release and not by the second
--   ColumnWritten c s k p q      the bytes p became q: the first k rows of column s say what is lost, and all else is as before
--   ColumnsWritten c k p q       the bytes p became q: the first k columns say what is lost, the others are 0, and later bytes are as before
--   RolesReported c p q               the bytes p became q: the first m × m are those of the role pairs, and later bytes are as before
use Rattle.std.specs.Prelude.{◌≡◌, ◌↔◌, Bool, true, false, ◌&&◌, not, List, ℕ, ◌+◌, ◌*◌, ◌≤◌, ◌<◌, eqb, ltb, length, get_or, take, drop}
use Rattle.el.specs.Lists.{pick}
use Rattle.el.specs.Comparison.{ArePairBytes}
use Rattle.release.specs.Files.{most_roles, content_of}
use Rattle.release.specs.Roles.{HasRole}
use Rattle.release.specs.Tables.{serves_at, Release}
use Rattle.signature.specs.Bytes.{signature_of}
use Rattle.el.specs.Signatures.{Signature}
use Rattle.role_result.specs.declared.RoleComparison.{RoleComparison}

abbrev pub over : RoleComparison → Signature
over c = signature_of c.signature.names c.signature.roles c.signature.bytes.now

abbrev pub is_chosen : RoleComparison → ℕ → Bool
is_chosen c r = (over c).has_role r

pub record BothRead (c : RoleComparison) : Type 0 where
  pub first : Release c.first.file.now c.first.table.now
  pub second : Release c.second.file.now c.second.table.now

unfoldable pub is_lost : RoleComparison → ℕ → ℕ → Bool
is_lost c r s = serves_at c.first.table.now r s && not (serves_at c.second.table.now r s)

unfoldable pub lost_pair : RoleComparison → ℕ → ℕ → Bool
lost_pair c r s = is_chosen c r && (is_chosen c s && is_lost c r s)

pub record LostUnder (c : RoleComparison) (s set : ℕ) : Type 0 where
  pub tells : (r : ℕ) → r < most_roles → HasRole set r ↔ (is_lost c r s ≡ true)

pub record ColumnWritten (c : RoleComparison) (s k : ℕ) (p q : List ℕ) : Type 0 where
  pub long : length q ≡ length p
  pub byte : (r z : ℕ) → r < c.signature.roles → z < c.signature.roles
      → get_or q (r * c.signature.roles + z) 0 ≡ pick (ltb r k && (eqb z s && lost_pair c r z)) 1 (get_or p (r * c.signature.roles + z) 0)
  pub past : (i : ℕ) → c.signature.roles * c.signature.roles ≤ i → get_or q i 0 ≡ get_or p i 0

pub record ColumnsWritten (c : RoleComparison) (k : ℕ) (p q : List ℕ) : Type 0 where
  pub long : length q ≡ length p
  pub byte : (r z : ℕ) → r < c.signature.roles → z < c.signature.roles → get_or q (r * c.signature.roles + z) 0 ≡ pick (ltb z k && lost_pair c r z) 1 0
  pub past : (i : ℕ) → c.signature.roles * c.signature.roles ≤ i → get_or q i 0 ≡ get_or p i 0

pub record RolesReported (c : RoleComparison) (p q : List ℕ) : Type 0 where
  pub bytes : ArePairBytes c.signature.roles (over c) (content_of c.first.file.now) (content_of c.second.file.now) (take (c.signature.roles * c.signature.roles) q)
  pub past : drop (c.signature.roles * c.signature.roles) q ≡ drop (c.signature.roles * c.signature.roles) p
