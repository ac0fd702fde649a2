-- The role pairs of a file, read one after the other into the table of what lies under what.
--   lower_refused .. pair_read     what reading a pair answers
--   Bounded m k s p                k pairs from place p on lie in the file, and their roles are below m;  pairs_sound: so pairs without fault
--   PairsGoing m s t i least       the first i pairs of s are taken into t, and the next is at least `least`
use mathlib.Core.Path.{◌≡◌, refl, sym, ap, ◌∙◌}
use mathlib.Core.Bool.{Bool, true, false}
use mathlib.Core.List.{List, ◌∷◌}
use Prim.Native.Nat.{ℕ, zero, suc, ◌+◌, ◌-◌, ◌*◌, ◌≤◌, ◌<◌}
use native.Mathlib.Numerals.{add-one}
use native.Mathlib.Omega.{arith}
use lib.ListN.{length, get_or}
use Rattle.std.specs.Prelude.{Ok, Err}
use Rattle.el.specs.Lists.{In, first, later, pick}
use Rattle.el.specs.Axioms.{RolePair}
use Rattle.el.specs.Derivability.{Under, same_role, listed, through}
use Rattle.el.proofs.Lists.{each}
use Rattle.el.proofs.Tests.{tells_as}
use Rattle.release.specs.declared.RoleIndex.{RoleIndex}
use Rattle.release.specs.declared.roles.RolePair as pair
use Rattle.release.specs.declared.roles.RoleTable.{RoleTable}
use Rattle.release.specs.declared.refusals.FileRefusal.{FileRefusal}
use Rattle.release.specs.Files.{most_roles, pair_count, pairs_place, first_place, role_fault, pairs_of, pair_at, pairs_from, first_of, least_pair, after, precedes, pair_fault, pairs_fault}
use Rattle.release.specs.Entries.{role_reading, pair_reading}
use Rattle.release.specs.Refusals.{Numbers, file_refusal}
use Rattle.release.specs.Roles.{RolesOf, pair_of, Listable}
use Rattle.release.specs.Tables.{PairsReady, PairsRead}
use Rattle.release.proofs.Decoding.{both_none}
use Rattle.release.proofs.Faults.{role_first, role_passed}
use Rattle.release.proofs.Readings.{role_read, role_refused}
use Rattle.release.proofs.Refusing.{refuses, accepts, first_some, is_refused, is_accepted, passes_on}
use Rattle.release.proofs.RoleTables.{own, own_roles}
use Rattle.release.proofs.Sound.{role_sound}
use Rattle.release.proofs.Versions.{first_is}

-- one pair
module _ (m : ℕ) (least : RolePair) (s : List ℕ) (p : ℕ) where
  pub lower_refused : {k : Numbers} → Err k ≡ role_reading m s p → Err k ≡ pair_reading m least s p
  unfolding pair_reading pair_fault
  lower_refused h = role_refused m s p h (pair_fault m least s p) _ (role_first m s p _)

  module _ {lower : RoleIndex} (l : Ok lower ≡ role_reading m s p) where
    behind_lower : pair_fault m least s p ≡ role_fault m s (p + 1) (pick (precedes (pair_at s p) least) 49 0)
    unfolding pair_fault
    behind_lower = role_passed m s p _ (role_read m s p l).0

    pub upper_refused : {k : Numbers} → Err k ≡ role_reading m s (p + 1) → Err k ≡ pair_reading m least s p
    unfolding pair_reading
    upper_refused h = role_refused m s (p + 1) h (pair_fault m least s p) _ (λ some. behind_lower ∙ role_first m s (p + 1) _ some)

    module _ {upper : RoleIndex} (u : Ok upper ≡ role_reading m s (p + 1)) (before : Bool) (e : before ≡ precedes (record { lower = lower.0; upper = upper.0 }) least) where
      behind_roles : pair_fault m least s p ≡ pick before 49 0
      behind_roles =
          let is : record { lower = lower.0; upper = upper.0 } ≡ pair_at s p = rw ((role_read m s p l).1, (role_read m s (p + 1) u).1) in
          behind_lower ∙ role_passed m s (p + 1) _ (role_read m s (p + 1) u).0 ∙ ap (λ (b : Bool). pick b 49 0) (ap (λ (q : RolePair). precedes q least) (sym is) ∙ sym e)

      pub pair_refused : before ≡ true → Err (record { number = 49; side = 1 }) ≡ pair_reading m least s p
      unfolding pair_reading
      pair_refused f = refuses 1 49 _ _ (omega arith) (behind_roles ∙ rw f)

      pub pair_read : before ≡ false → Ok (record { lower = lower; upper = upper }) ≡ pair_reading m least s p
      unfolding pair_reading
      pair_read f = rw ((role_read m s p l).1, (role_read m s (p + 1) u).1) (accepts 1 (pair_fault m least s p) _ (behind_roles ∙ rw f))

-- pairs without fault
pub record Bounded (m k : ℕ) (s : List ℕ) (p : ℕ) : Type 0 where
  pub within : p + 2 * k ≤ length s
  pub below : (q : RolePair) → In (pairs_from k s p) q → (q.lower < m) × (q.upper < m)

pair_sound : (m : ℕ) (least : RolePair) (s : List ℕ) (p : ℕ) → pair_fault m least s p ≡ 0 → (p + 2 ≤ length s) × ((get_or s p 0 < m) × (get_or s (p + 1) 0 < m))
unfolding pair_fault
pair_sound m least s p e =
    let lower = role_sound m s p _ e in
    let upper = role_sound m s (p + 1) _ lower.1.1 in
    (omega (arith, upper.0), (lower.1.0, upper.1.0))

pub pairs_sound : (m k : ℕ) (least : RolePair) (s : List ℕ) (p : ℕ) → p ≤ length s → pairs_fault m k least s p ≡ 0 → Bounded m k s p
unfolding pairs_fault pairs_from
pairs_sound m zero least s p l e = record { within = omega arith; below = λ q i. elim i [ ] }
pairs_sound m (suc k) least s p l e =
    let z = both_none (pair_fault m least s p) _ e in
    let one = pair_sound m least s p z.0 in
    let more = pairs_sound m k (after (pair_at s p)) s (p + 2) one.0 z.1 in
    record { within = omega (arith, more.within); below = each (λ q. (q.lower < m) × (q.upper < m)) one.1 more.below }

-- so the axioms begin in the file
pub first_within : (m : ℕ) (s : List ℕ) → pairs_place s ≤ length s → pairs_fault m (pair_count s) least_pair s (pairs_place s) ≡ 0 → first_place s ≤ length s
first_within m s l e = omega (arith, first_is s, (pairs_sound m (pair_count s) least_pair s (pairs_place s) l e).within)

-- the pairs one after the other: the last of them may as well be the first
last_first : (k : ℕ) (s : List ℕ) (p : ℕ) {q : RolePair} → In (pair_at s (p + 2 * k) ∷ pairs_from k s p) q → In (pairs_from (suc k) s p) q
unfolding pairs_from
last_first zero s p h = let e : p + 2 * 0 ≡ p = omega arith in rw e at h
last_first (suc k) s p (later first) = first
last_first (suc k) s p (later (later h)) = later (last_first k s (p + 2) (later h))
last_first (suc k) s p first =
    let e : p + 2 * suc k ≡ p + 2 + 2 * k = omega arith in
    let w : In (pairs_from (suc k) s (p + 2)) (pair_at s (p + 2 + 2 * k)) = last_first k s (p + 2) first in
    rw e (later w)

first_last : (k : ℕ) (s : List ℕ) (p : ℕ) {q : RolePair} → In (pairs_from (suc k) s p) q → In (pair_at s (p + 2 * k) ∷ pairs_from k s p) q
unfolding pairs_from
first_last zero s p h = let e : p + 2 * 0 ≡ p = omega arith in rw e h
first_last (suc k) s p first = later first
first_last (suc k) s p (later h) =
    let e : p + 2 * suc k ≡ p + 2 + 2 * k = omega arith in
    rw e (behind (first_last k s (p + 2) h))
  where
    behind : {x y q : RolePair} {xs : List RolePair} → In (x ∷ xs) q → In (x ∷ y ∷ xs) q
    behind first = first
    behind (later i) = later (later i)

same_pairs : {ps qs : List RolePair} → ((q : RolePair) → In ps q → In qs q) → {r t : ℕ} → Under ps r t → Under qs r t
same_pairs f same_role = same_role
same_pairs f (listed h) = listed (f _ h)
same_pairs f (through u v) = through (same_pairs f u) (same_pairs f v)

known_last : (k : ℕ) (s : List ℕ) (p : ℕ) {t : RoleTable} → RolesOf (pair_at s (p + 2 * k) ∷ pairs_from k s p) t → RolesOf (pairs_from (k + 1) s p) t
known_last k s p known = rw add-one (record {
  tells = λ r q. tells_as (same_pairs (λ _ i. last_first k s p i)) (same_pairs (λ _ i. first_last k s p i)) (known.tells r q);
})

-- the first i of all pairs are taken in
pub record PairsGoing (m : ℕ) (s : List ℕ) (t : RoleTable) (i : ℕ) (least : RolePair) : Type 0 where
  pub fault : pairs_fault m (pair_count s) least_pair s (pairs_place s) ≡ pairs_fault m (pair_count s - i) least s (pairs_place s + 2 * i)
  pub within : pairs_place s + 2 * i ≤ length s
  pub roles : RolesOf (pairs_from i s (pairs_place s)) t

pub pairs_start : {m : ℕ} {s : List ℕ} → PairsReady m s → PairsGoing m s own 0 least_pair
unfolding pairs_from
pairs_start {s = s} ready = record {
  fault = let e : pair_count s - 0 ≡ pair_count s = omega arith in let f : pairs_place s + 2 * 0 ≡ pairs_place s = omega arith in rw (e, f);
  within = omega (arith, ready.long);
  roles = own_roles;
}

module _ {m : ℕ} {s : List ℕ} {t : RoleTable} {i : ℕ} {least : RolePair} (g : PairsGoing m s t i least) where
  pub pairs_end : pair_count s ≤ i → i ≤ pair_count s → PairsRead m s t (Ok tt)
  unfolding pairs_fault pairs_of
  pairs_end l h =
      let e : i ≡ pair_count s = omega arith in
      let z : pair_count s - i ≡ 0 = omega arith in
      record { fault = accepts 1 _ _ (g.fault ∙ rw z); roles = λ w. rw e at g.roles }

  module _ (more : i < pair_count s) where
    here : pairs_fault m (pair_count s - i) least s (pairs_place s + 2 * i) ≡ first_of (pair_fault m least s (pairs_place s + 2 * i))
        (pairs_fault m (pair_count s - (i + 1)) (after (pair_at s (pairs_place s + 2 * i))) s (pairs_place s + 2 * (i + 1)))
    unfolding pairs_fault
    here =
        let z : pair_count s - i ≡ suc (pair_count s - (i + 1)) = omega arith in
        let e : pairs_place s + 2 * (i + 1) ≡ pairs_place s + 2 * i + 2 = omega arith in
        rw (z, e) refl

    pub refuses_pair : {e : FileRefusal} → Err (file_refusal e) ≡ pair_reading m least s (pairs_place s + 2 * i) → PairsRead m s t (Err e)
    unfolding pair_reading
    refuses_pair {e} is =
        let z = is_refused 1 (pair_fault m least s (pairs_place s + 2 * i)) _ (file_refusal e) is in
        let f : pairs_fault m (pair_count s) least_pair s (pairs_place s) ≡ pair_fault m least s (pairs_place s + 2 * i) = g.fault ∙ here ∙ first_some _ _ z.1 in
        record { fault = passes_on 1 _ _ _ tt (file_refusal e) is (λ some. f); roles = λ w. absurd (omega (arith, f, w, z.1)) }

    module _ {pair : pair.RolePair} (is : Ok pair ≡ pair_reading m least s (pairs_place s + 2 * i)) where
      read : (pair_fault m least s (pairs_place s + 2 * i) ≡ 0) × (pair_of pair ≡ pair_at s (pairs_place s + 2 * i))
      unfolding pair_reading
      read = let a = is_accepted 1 (pair_fault m least s (pairs_place s + 2 * i)) _ pair is in (a.0, ap pair_of a.1)

      pub listable : m ≤ most_roles → Listable pair
      listable few =
          let one = (pair_sound m least s (pairs_place s + 2 * i) read.0).1 in
          let lower : pair.lower.0 ≡ get_or s (pairs_place s + 2 * i) 0 = ap (λ (q : RolePair). q.lower) read.1 in
          let upper : pair.upper.0 ≡ get_or s (pairs_place s + 2 * i + 1) 0 = ap (λ (q : RolePair). q.upper) read.1 in
          record { lower = omega (arith, one.0); upper = omega (arith, one.1) }

      pub pairs_next : {u : RoleTable} {next : RolePair} → ((pairs : List RolePair) → RolesOf pairs t → RolesOf (pair_of pair ∷ pairs) u) → next ≡ after (pair_of pair) → PairsGoing m s u (i + 1) next
      pairs_next {u} {next} taken e = record {
        fault = let f : next ≡ after (pair_at s (pairs_place s + 2 * i)) = e ∙ ap after read.1 in g.fault ∙ here ∙ rw (read.0, f);
        within = omega (arith, (pair_sound m least s (pairs_place s + 2 * i) read.0).0);
        roles = known_last i s (pairs_place s) (rw read.1 at (taken (pairs_from i s (pairs_place s)) g.roles));
      }
