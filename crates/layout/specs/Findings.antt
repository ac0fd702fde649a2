-- What is found of a signature before marks are put: signature bytes g for n names and m roles, the tables a and b of the two releases. Of the
-- role of an axiom the roles of the signature above it are found, or those below it, as the position p says. Of those above it only the
-- lowest by the second release are kept: one for which another serves there has each partner of that other, so it is lost only with it.
--   lies p a q r                  the role r lies so to the role q by the table
--   RoleChosen p g a n m q r      so it does, and it is in the signature
--   ChosenRoles g n m set         the set has just the roles of the signature
--   EachAlone a                   by the table no role lies under another
--   RoleLies p a set q r          the role r is in the set, and lies so to q;  RolesFound p a set q found: these are the roles that are found
--   Stands p b q r                the role q stands for r: above, where it serves for it by the second release; below, for itself alone
--   StandsFor p b set r           one of the set stands for r
--   Lowest b set kept             some roles of the set, of which one serves for each of the set by a release with the table b
--   RolesStand p a b set q found  found are roles of the set that lie so to q, and one that stands for each of these
--   EachStands p g a b n m sets   so it is for each q, of the roles of the signature
--   EdgesOf a sets x set          the roles of x's edge: those of its own role, where its axiom is a restriction
--   EdgeChosen p g a n m x r      the axiom of x is a restriction, and r is chosen for its role
--   Found p g a b n m edges       that is told of each name: its edge has roles that are chosen for it, and one that stands for each of these
--   Handed p g given              what is handed on of g: the bytes of its names, and what was found of its roles
use Rattle.std.specs.Prelude.{◌≡◌, ◌↔◌, true, Bool, List, ℕ, ◌≤◌, ◌<◌, length, get_or}
use Rattle.release.specs.declared.table.Table.{Table}
use Rattle.release.specs.declared.roles.RoleSet.{RoleSet}
use Rattle.release.specs.Files.{restricts, most_roles}
use Rattle.release.specs.Roles.{HasRole}
use Rattle.release.specs.Tables.{kind_at, role_at, serves_at, Release}
use Rattle.signature.specs.Bytes.{signature_of}
use Rattle.layout.specs.declared.Given.{Given}
use Rattle.layout.specs.declared.edges.Position.{Position}
use Rattle.layout.specs.declared.edges.Position.TheVariants.{Above, Below}
use Rattle.layout.specs.Tables.{edges_at, HasEdge}

abbrev pub lies : Position → Table → ℕ → ℕ → Bool
lies Above a q r = serves_at a q r
lies Below a q r = serves_at a r q

pub record RoleChosen (p : Position) (g : List ℕ) (a : Table) (n m q r : ℕ) : Type 0 where
  pub in_signature : (signature_of n m g).has_role r ≡ true
  pub lies : lies p a q r ≡ true

pub record ChosenRoles (g : List ℕ) (n m set : ℕ) : Type 0 where
  pub tells : (r : ℕ) → HasRole set r ↔ ((signature_of n m g).has_role r ≡ true)

pub record EachAlone (a : Table) : Type 0 where
  pub alone : (q r : ℕ) → r < most_roles → serves_at a q r ≡ true → q ≡ r

pub record RoleLies (p : Position) (a : Table) (set q r : ℕ) : Type 0 where
  pub in_set : HasRole set r
  pub lies : lies p a q r ≡ true

pub record RolesFound (p : Position) (a : Table) (set q found : ℕ) : Type 0 where
  pub tells : (r : ℕ) → HasRole found r ↔ RoleLies p a set q r

abbrev pub Stands : Position → Table → ℕ → ℕ → Type 0
Stands Above b q r = serves_at b q r ≡ true
Stands Below b q r = q ≡ r

pub record StandsFor (p : Position) (b : Table) (set r : ℕ) : Type 0 where
  pub role : ℕ
  pub has : HasRole set role
  pub stands : Stands p b role r

-- by a release, since only there a role serves for itself and along chains
pub record Lowest (b : Table) (set kept : ℕ) : Type 0 where
  pub sound : (r : ℕ) → HasRole kept r → HasRole set r
  pub complete : (t : List ℕ) → Release t b → (r : ℕ) → HasRole set r → StandsFor Above b kept r

pub record RolesStand (p : Position) (a b : Table) (set q found : ℕ) : Type 0 where
  pub sound : (r : ℕ) → HasRole found r → RoleLies p a set q r
  pub complete : (t : List ℕ) → Release t b → (r : ℕ) → RoleLies p a set q r → StandsFor p b found r

pub record EachStands (p : Position) (g : List ℕ) (a b : Table) (n m : ℕ) (sets : List RoleSet) : Type 0 where
  pub set : ℕ
  pub chosen : ChosenRoles g n m set
  pub role : (q : ℕ) → q < most_roles → RolesStand p a b set q (edges_at sets q)

pub record EdgeChosen (p : Position) (g : List ℕ) (a : Table) (n m x r : ℕ) : Type 0 where
  pub is_restriction : restricts (kind_at a x) ≡ true
  pub small : role_at a x < most_roles
  pub role : RoleChosen p g a n m (role_at a x) r

pub record EdgesOf (a : Table) (sets : List RoleSet) (x set : ℕ) : Type 0 where
  pub tells : (r : ℕ) → HasRole set r ↔ ((restricts (kind_at a x) ≡ true) × (role_at a x < most_roles) × HasRole (edges_at sets (role_at a x)) r)

pub record Found (p : Position) (g : List ℕ) (a b : Table) (n m : ℕ) (edges : List RoleSet) : Type 0 where
  pub long : n ≤ length edges
  pub few : m ≤ most_roles
  pub sound : (x r : ℕ) → x < n → HasEdge edges x r → EdgeChosen p g a n m x r
  pub complete : (t : List ℕ) → Release t b → (x r : ℕ) → x < n → EdgeChosen p g a n m x r → StandsFor p b (edges_at edges x) r

pub record Handed (p : Position) (g : List ℕ) (given : Given) : Type 0 where
  pub same_names : (x : ℕ) → x < given.layout.names → get_or given.chosen_names.now x 0 ≡ get_or g x 0
  pub found : Found p g given.first.table.now given.second.table.now given.layout.names given.layout.roles given.edges.now
