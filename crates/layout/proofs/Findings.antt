-- Laws of what is found of a signature.
--   ChosenTo, chosen_none                  the roles of the signature, looked at one after the other
--   RolesTo, role_none, role_end           of a set those that lie so to a role, one after the other
--   AloneTo, alone_none, alone_more        roles that no other lies under;  found_itself: of these only the role itself lies so to it
--   lowest_all, lowest_less                of these the lowest by the second release
--   Written, written_none, written_more    sets written one after the other
--   edges_none                             a name without an edge
--   found_edges                            what was found can be read;  stands_itself: below, each role is there itself
--   name_handed                            the names handed on are those of the signature
use mathlib.Core.Path.{◌≡◌, refl, sym, ap}
use mathlib.Core.Bool.{true}
use mathlib.Core.List.{List}
use mathlib.Core.Logic.{inl, inr}
use Prim.Native.Nat.{ℕ, ◌+◌, ◌^◌, ◌≤◌, ◌<◌}
use native.Mathlib.Omega.{arith}
use native.Mathlib.Decide.{ℕ_discrete, dec_lt}
use borrow.Author.Tests.{le-ltb, ltb-true}
use lib.Dec.{ltb}
use lib.ListN.{length, set}
use lib.Seq.{get_or-set_same, get_or-set_other}
use Rattle.el.specs.Derivability.{same_role, through}
use Rattle.el.proofs.Tests.{and_left}
use Rattle.release.specs.declared.table.Table.{Table}
use Rattle.release.specs.declared.roles.RoleSet.{RoleSet}
use Rattle.release.specs.Files.{restricts, most_roles}
use Rattle.release.specs.Roles.{HasRole, NoRole, SomeRole, With, Without, Met}
use Rattle.release.specs.Tables.{kind_at, role_at, serves_at, ServingAt, Release}
use Rattle.release.proofs.Linked.{tells_serves_at}
use Rattle.release.proofs.RoleSets.{empty, some_role}
use Rattle.signature.specs.Bytes.{signature_of}
use Rattle.marks.specs.Squares.{Nowhere}
use Rattle.marks.proofs.WordBits.{bit_few}
use Rattle.layout.specs.declared.Given.{Given}
use Rattle.layout.specs.declared.edges.Position.{Position}
use Rattle.layout.specs.declared.edges.Position.TheVariants.{Above, Below}
use Rattle.layout.specs.Tables.{edges_at, Edges}
use Rattle.layout.specs.Layouts.{chosen}
use Rattle.layout.specs.Findings.{EachAlone, RoleLies, RolesFound, StandsFor, Lowest, EachStands, EdgesOf, Found, Handed}

role_below : (n m : ℕ) (g : List ℕ) (r : ℕ) → (signature_of n m g).has_role r ≡ true → r < m
role_below n m g r h = ltb-true r m (and_left (ltb r m) _ h)

-- the roles of the signature, of those before k
pub record ChosenTo (g : List ℕ) (n m k set : ℕ) : Type 0 where
  pub sound : (r : ℕ) → HasRole set r → (signature_of n m g).has_role r ≡ true
  pub complete : (r : ℕ) → r < k → (signature_of n m g).has_role r ≡ true → HasRole set r

module _ {g : List ℕ} {n m : ℕ} where
  pub chosen_none : ChosenTo g n m 0 0
  chosen_none = record { sound = λ r h. absurd (empty.none r h); complete = λ r l o. absurd (omega arith) }

-- those of a set that lie so to a role, of those before k
pub record RolesTo (p : Position) (a : Table) (set q k found : ℕ) : Type 0 where
  pub sound : (r : ℕ) → HasRole found r → RoleLies p a set q r
  pub complete : (r : ℕ) → r < k → RoleLies p a set q r → HasRole found r

module _ {p : Position} {a : Table} {set q : ℕ} where
  pub role_none : RolesTo p a set q 0 0
  role_none = record { sound = λ r h. absurd (empty.none r h); complete = λ r l o. absurd (omega arith) }

  pub role_end : {k found : ℕ} → set < 2 ^ 32 → Nowhere (λ i. HasRole set i → ⊥) 31 k → RolesTo p a set q k found → RolesFound p a set q found
  role_end {k} {found} few past f = record { tells = λ r. (f.sound r, λ o. by_place r o (dec_lt r k)) }
    where
      by_place : (r : ℕ) → RoleLies p a set q r → Dec (r < k) → HasRole found r
      by_place r o (yes l) = f.complete r l o
      by_place r o (no l) = let small : r < 32 = bit_few {d = 32} few o.in_set.is in absurd (past.each r (omega arith) (omega arith) o.in_set)

-- roles that no other lies under, of those before k
pub record AloneTo (a : Table) (k : ℕ) : Type 0 where
  pub alone : (q r : ℕ) → r < k → serves_at a q r ≡ true → q ≡ r

module _ {a : Table} where
  pub alone_none : AloneTo a 0
  alone_none = record { alone = λ q r l s. absurd (omega arith) }

  pub alone_more : {k under one others : ℕ} → k < most_roles → ServingAt a k under → With 0 k one → Without under one others → NoRole others → AloneTo a k → AloneTo a (k + 1)
  alone_more {k} {under} {one} {others} small serving with without none f = record { alone = λ q r l s. by_place q r l s (ℕ_discrete r k) }
    where
      not_one : (q : ℕ) → (q ≡ k → ⊥) → HasRole one q → ⊥
      not_one q e h = elim ((with.either q).0 h) [ inl i ↦ empty.none q i | inr i ↦ e i.0 ]

      by_role : (q : ℕ) → HasRole under q → Dec (q ≡ k) → q ≡ k
      by_role q h (yes e) = e
      by_role q h (no e) = absurd (none.none q ((without.first_alone q).1 (h, not_one q e)))

      by_place : (q r : ℕ) → r < k + 1 → serves_at a q r ≡ true → Dec (r ≡ k) → q ≡ r
      by_place q r l s (yes e) = rw e (by_role q ((serving.all small q).1 (rw e at s)) (ℕ_discrete q k))
      by_place q r l s (no e) = f.alone q r (omega arith) s

-- of those alone, only the role itself lies so to it
pub found_itself : {p : Position} {a : Table} {set q one met found : ℕ} → EachAlone a → set < 2 ^ 32 → q < most_roles → With 0 q one → Met set one met → RolesFound p a met q found
    → RolesFound p a set q found
found_itself {p} {a} {set} {q} {one} {met} {found} alone few small with meets f = record {
  tells = λ r. (
    λ h. let o = (f.tells r).0 h in record { in_set = ((meets.both r).0 o.in_set).0; lies = o.lies },
    λ o. (f.tells r).1 (record { in_set = (meets.both r).1 (o.in_set, (with.either r).1 (inr (same p r o, small))); lies = o.lies }),
  );
}
  where
    same : (p : Position) (r : ℕ) → RoleLies p a set q r → r ≡ q
    same Above r o = sym (alone.alone q r (bit_few {d = 32} few o.in_set.is) o.lies)
    same Below r o = alone.alone r q small o.lies

-- the lowest roles: at first all, then without one for which another serves
pub lowest_all : (b : Table) {set : ℕ} → Lowest b set set
lowest_all b = record {
  sound = λ r h. h;
  complete = λ t release r h. record { role = r; has = h; stands = (tells_serves_at release r r).complete same_role };
}

module _ {b : Table} {set kept others one under met r : ℕ} (before : Lowest b set kept) (with : With 0 r one) (without : Without kept one others)
    (serving : ServingAt b r under) (meets : Met others under met) (few : met < 2 ^ 32) (some : NoRole met → ⊥) where
  -- it is another one, and what the role stood for it stands for
  serving_one : SomeRole met
  serving_one = some_role some

  both : HasRole others serving_one.it × HasRole under serving_one.it
  both = (meets.both serving_one.it).0 serving_one.has

  serves : serves_at b serving_one.it r ≡ true
  serves = (serving.tells serving_one.it (bit_few {d = 32} few serving_one.has.is)).0 both.1

  pub lowest_less : Lowest b set others
  lowest_less = record {
    sound = λ q h. before.sound q ((without.first_alone q).0 h).0;
    complete = λ t release q h. let s = before.complete t release q h in by_place release s (ℕ_discrete s.role r);
  }
    where
      by_place : {t : List ℕ} {q : ℕ} → Release t b → (s : StandsFor Above b kept q) → Dec (s.role ≡ r) → StandsFor Above b others q
      by_place {q = q} release s (yes e) =
          let up : serves_at b r q ≡ true = rw (← e) s.stands in
          record {
            role = serving_one.it;
            has = both.0;
            stands = (tells_serves_at release serving_one.it q).complete (through ((tells_serves_at release serving_one.it r).sound serves) ((tells_serves_at release r q).sound up));
          }
      by_place {q = q} release s (no e) = record {
        role = s.role;
        has = (without.first_alone s.role).1 (s.has, λ h. elim ((with.either s.role).0 h) [ inl i ↦ empty.none s.role i | inr i ↦ e i.0 ]);
        stands = s.stands;
      }

-- the first k sets
pub record Written (Right : ℕ → ℕ → Type 0) (k : ℕ) (sets : List RoleSet) : Type 0 where
  pub at : (i : ℕ) → i < k → Right i (edges_at sets i)

module _ {Right : ℕ → ℕ → Type 0} where
  pub written_none : {sets : List RoleSet} → Written Right 0 sets
  written_none = record { at = λ i h. absurd (omega arith) }

  pub written_more : {k : ℕ} (one : RoleSet) {sets : List RoleSet} → k < length sets → Written Right k sets → Right k one.0 → Written Right (k + 1) (set sets k one)
  written_more {k} one {sets} h f right = record { at = λ i l. by_place i l (ℕ_discrete i k) }
    where
      by_place : (i : ℕ) → i < k + 1 → Dec (i ≡ k) → Right i (edges_at (set sets k one) i)
      by_place i l (yes e) =
          let same : edges_at (set sets k one) k ≡ one.0 = ap (λ (r : RoleSet). r.0) (get_or-set_same sets k one (record { 0 = 0 }) h) in
          rw (e, same) right
      by_place i l (no e) =
          let other : edges_at (set sets k one) i ≡ edges_at sets i = ap (λ (r : RoleSet). r.0) (get_or-set_other sets k i one (record { 0 = 0 }) e) in
          rw other (f.at i (omega arith))

-- the roles of an edge
module _ {a : Table} {sets : List RoleSet} {x : ℕ} where
  pub edges_none : ((restricts (kind_at a x) ≡ true) × (role_at a x < most_roles) → ⊥) → EdgesOf a sets x 0
  edges_none not = record { tells = λ r. (λ h. absurd (empty.none r h), λ h. absurd (not (h.0, h.1))) }

-- the edges are of chosen roles, and one stands for each of these
pub found_end : {p : Position} {g : List ℕ} {a b : Table} {n m k : ℕ} {sets edges : List RoleSet} → EachStands p g a b n m sets → m ≤ most_roles → n ≤ length edges → n ≤ k
    → Written (EdgesOf a sets) k edges → Found p g a b n m edges
found_end each few long told f = record {
  long = long;
  few = few;
  sound = λ x r i h.
      let e = ((f.at x (omega arith)).tells r).0 h in
      let lying = (each.role _ e.1).sound r e.2 in
      record { is_restriction = e.0; small = e.1; role = record { in_signature = (each.chosen.tells r).0 lying.in_set; lies = lying.lies } };
  complete = λ t release x r i o.
      let s = (each.role _ o.small).complete t release r (record { in_set = (each.chosen.tells r).1 o.role.in_signature; lies = o.role.lies }) in
      record { role = s.role; has = ((f.at x (omega arith)).tells s.role).1 (o.is_restriction, o.small, s.has); stands = s.stands };
}

pub found_edges : {p : Position} {g : List ℕ} {a b : Table} {n m : ℕ} {edges : List RoleSet} → Found p g a b n m edges → Edges n a edges
found_edges {g = g} {n = n} {m = m} f = record {
  long = f.long;
  restriction = λ x r i h. (f.sound x r i h).is_restriction;
  few = λ x r i h. omega (arith, f.few, role_below n m g r (f.sound x r i h).role.in_signature);
}

-- below, a role stands for itself alone
pub stands_itself : {b : Table} {set r : ℕ} → StandsFor Below b set r → HasRole set r
stands_itself s = rw (← s.stands) s.has

pub name_handed : {p : Position} {g : List ℕ} {given : Given} → Handed p g given → (x : ℕ) → (chosen given.layout given.chosen_names.now).has_name x ≡ (chosen given.layout g).has_name x
name_handed {given = given} handed x = elim (dec_lt x given.layout.names) [ yes h ↦ rw (handed.same_names x h) refl | no h ↦ rw (le-ltb x given.layout.names (omega arith)) refl ]
