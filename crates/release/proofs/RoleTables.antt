-- The table of the roles: entry s has the roles under s.
--   tells_entry, past_table    which role serves, of a role with an entry and of any other;  entry_serves, none_serves: the set of those that do
--   Taking p t u k             u is t with the pair p taken in by the entries below k;  taken: by all of them
--   own_roles                  the table of a release without pairs
use mathlib.Core.Path.{◌≡◌, refl, sym, ap, ◌∙◌}
use mathlib.Core.Bool.{Bool, true, false}
use mathlib.Core.Logic.{◌⊎◌, inl, inr, ◌↔◌}
use mathlib.Core.List.{List, [], ◌∷◌}
use Prim.Native.Nat.{ℕ, zero, suc, ◌+◌, ◌*◌, ◌%◌, ◌^◌, ◌≤◌, ◌<◌}
use native.Mathlib.Nat.{lt_of_lt_of_le}
use native.Mathlib.Omega.{arith}
use native.Mathlib.Decide.{ℕ_discrete, dec_lt}
use borrow.Author.Tests.{lt-ltb, le-ltb}
use lib.Dec.{eqb}
use lib.ListN.{length, get_or, set}
use lib.Seq.{get_or-set_same, get_or-set_other}
use Rattle.el.specs.Axioms.{RolePair}
use Rattle.el.specs.Derivability.{Under}
use Rattle.el.proofs.Tests.{Tells, tells_as, tells_eq}
use Rattle.el.proofs.Roles.{Once, used_once, from_once, under_equal, under_no_pairs}
use Rattle.marks.specs.Squares.{bit}
use Rattle.marks.proofs.Bits.{bit_same, bit_other}
use Rattle.release.specs.declared.roles.RoleSet.{RoleSet}
use Rattle.release.specs.declared.roles.RoleTable.{RoleTable}
use Rattle.release.specs.Roles.{HasRole, Joined, entry, serves_by, Serving, RolesOf}
use Rattle.release.proofs.RoleSets.{empty}

-- two tests that tell of the same thing
pub tells_same : {a b : Bool} {A : Type 0} → Tells a A → Tells b A → a ≡ b
tells_same {a} {b} {A} t u = by_tests a b t u
  where
    by_tests : (a b : Bool) → Tells a A → Tells b A → a ≡ b
    by_tests true b t u = sym (u.complete (t.sound refl))
    by_tests false true t u = t.complete (u.sound refl)
    by_tests false false t u = refl

pub tells_entry : (t : RoleTable) {r s : ℕ} → s < 32 → Tells (serves_by t r s) (HasRole (entry t s) r)
unfolding serves_by
tells_entry t {r} {s} l = rw (lt-ltb s 32 l) (tells_as (λ e. record { is = e }) (λ h. h.is) (tells_eq (bit (entry t s) r) 1))

pub past_table : (t : RoleTable) (r : ℕ) {s : ℕ} → 32 ≤ s → serves_by t r s ≡ eqb r s
unfolding serves_by
past_table t r {s} l = rw (le-ltb s 32 l)

pub entry_serves : (t : RoleTable) {s : ℕ} → s < 32 → Serving t s (entry t s)
entry_serves t l = record { tells = λ r h. ((tells_entry t l).complete, (tells_entry t l).sound); all = λ h r. ((tells_entry t l).complete, (tells_entry t l).sound) }

pub none_serves : (t : RoleTable) {s : ℕ} → 32 ≤ s → Serving t s 0
none_serves t {s} l = record {
  tells = λ r h. (λ k. absurd (empty.none r k), λ e. absurd (omega (arith, (tells_eq r s).sound (sym (past_table t r l) ∙ e))));
  all = λ h r. absurd (omega arith);
}

-- the roles of entry s once the pair is taken in
abbrev pub Enlarged : RolePair → RoleTable → ℕ → ℕ → Type 0
Enlarged p t s r = HasRole (entry t s) r ⊎ (HasRole (entry t p.lower) r × HasRole (entry t s) p.upper)

-- a pair taken in by the entries below k
pub record Taking (p : RolePair) (t u : RoleTable) (k : ℕ) : Type 0 where
  pub taken : (s : ℕ) → s < k → (r : ℕ) → HasRole (entry u s) r ↔ Enlarged p t s r
  pub rest : (s : ℕ) → k ≤ s → entry u s ≡ entry t s

pub take_none : {p : RolePair} (t : RoleTable) → Taking p t t 0
take_none t = record { taken = λ s l. absurd (omega arith); rest = λ s l. refl }

module _ {p : RolePair} {t u : RoleTable} {k : ℕ} (g : Taking p t u k) where
  same : entry u k ≡ entry t k
  same = g.rest k (omega arith)

  -- the entry k lacks the upper role
  pub take_not : (HasRole (entry u k) p.upper → ⊥) → Taking p t u (k + 1)
  take_not f = record { taken = λ s l. by_place l (ℕ_discrete s k); rest = λ s l. g.rest s (omega arith) }
    where
      by_place : {s : ℕ} → s < k + 1 → Dec (s ≡ k) → (r : ℕ) → HasRole (entry u s) r ↔ Enlarged p t s r
      by_place l (no e) r = g.taken _ (omega arith) r
      by_place l (yes e) r = rw (e, ← same) (inl, λ w. elim w [ inl h ↦ h | inr h ↦ absurd (f h.1) ])

  -- the entry k has it, and takes in the roles under the lower one
  pub take_both : {new : RoleSet} → k < length u.0 → HasRole (entry u k) p.upper → Joined (entry u k) (entry t p.lower) new.0 → Taking p t (record { 0 = set u.0 k new }) (k + 1)
  take_both {new} room has j = record { taken = λ s l. by_place l (ℕ_discrete s k); rest = λ s l. other (omega arith) ∙ g.rest s (omega arith) }
    where
      v : RoleTable
      v = record { 0 = set u.0 k new }

      other : {s : ℕ} → (s ≡ k → ⊥) → entry v s ≡ entry u s
      other {s} e = ap (λ (x : RoleSet). x.0) (get_or-set_other u.0 k s new (record { 0 = 0 }) e)

      here : entry v k ≡ new.0
      here = ap (λ (x : RoleSet). x.0) (get_or-set_same u.0 k new (record { 0 = 0 }) room)

      by_place : {s : ℕ} → s < k + 1 → Dec (s ≡ k) → (r : ℕ) → HasRole (entry v s) r ↔ Enlarged p t s r
      by_place l (no e) r = rw (other e) (g.taken _ (omega arith) r)
      by_place l (yes e) r = rw (e, here, ← same) ((λ h. elim ((j.either r).0 h) [ inl a ↦ inl a | inr b ↦ inr (b, has) ]), λ w. (j.either r).1 (elim w [ inl a ↦ inl a | inr b ↦ inr b.0 ]))

-- the pairs and one more
module _ {p : RolePair} {t u : RoleTable} {k : ℕ} (l : p.lower < 32) (f : p.upper < 32) (g : Taking p t u k) (all : 32 ≤ k) {pairs : List RolePair} (known : RolesOf pairs t) where
  old : {r s : ℕ} → s < 32 → HasRole (entry t s) r → Under pairs r s
  old {r} {s} h e = (known.tells r s).sound ((tells_entry t h).complete e)

  new : {r s : ℕ} → s < 32 → Under pairs r s → HasRole (entry t s) r
  new {r} {s} h e = (tells_entry t h).sound ((known.tells r s).complete e)

  alone : {r s : ℕ} → 32 ≤ s → Under pairs r s → r ≡ s
  alone {r} {s} h e = (tells_eq r s).sound (rw (past_table t r h) at ((known.tells r s).complete e))

  taken_once : {r s : ℕ} → Dec (s < 32) → Tells (serves_by u r s) (Once p pairs r s)
  taken_once {r} {s} (yes h) = tells_as (λ w. elim ((g.taken s (lt_of_lt_of_le h all) r).0 w) [ inl a ↦ inl (old h a) | inr b ↦ inr (old l b.0, old h b.1) ])
      (λ w. (g.taken s (lt_of_lt_of_le h all) r).1 (elim w [ inl a ↦ inl (new h a) | inr b ↦ inr (new l b.0, new h b.1) ])) (tells_entry u h)
  taken_once {r} {s} (no h) = rw (past_table u r {s = s} (omega arith))
      (tells_as (λ e. inl (under_equal e)) (λ w. elim w [ inl a ↦ alone (omega arith) a | inr b ↦ absurd (omega (arith, alone (omega arith) b.1)) ]) (tells_eq r s))

  pub taken_in : RolesOf (p ∷ pairs) u
  taken_in = record { tells = λ r s. tells_as from_once used_once (taken_once (dec_lt s 32)) }

-- each role under itself alone
abbrev own_from : ℕ → ℕ → List RoleSet
own_from i zero = []
own_from i (suc k) = record { 0 = 1 * 2 ^ i % 2 ^ 32 } ∷ own_from (suc i) k

abbrev pub own : RoleTable
own = record { 0 = own_from 0 32 }

own_entry : (i k s : ℕ) → s < k → (get_or (own_from i k) s (record { 0 = 0 })).0 ≡ 1 * 2 ^ (i + s) % 2 ^ 32
own_entry i zero s l = absurd (omega arith)
own_entry i (suc k) zero l = ap (λ (n : ℕ). 1 * 2 ^ n % 2 ^ 32) (omega arith)
own_entry i (suc k) (suc s) l = own_entry (suc i) k s (omega arith) ∙ ap (λ (n : ℕ). 1 * 2 ^ n % 2 ^ 32) (omega arith)

only_own : {r s : ℕ} → s < 32 → HasRole (1 * 2 ^ s % 2 ^ 32) r → r ≡ s
only_own {r} {s} l h = elim (ℕ_discrete r s) [ yes e ↦ e | no e ↦ absurd (omega (arith, bit_other 32 s r l e, h.is)) ]

pub own_roles : RolesOf [] own
own_roles = record { tells = λ r s. tells_as under_equal under_no_pairs (by_order r s (dec_lt s 32)) }
  where
    by_order : (r s : ℕ) → Dec (s < 32) → Tells (serves_by own r s) (r ≡ s)
    by_order r s (yes l) =
        let e : entry own s ≡ 1 * 2 ^ s % 2 ^ 32 = own_entry 0 32 s l ∙ ap (λ (n : ℕ). 1 * 2 ^ n % 2 ^ 32) (omega arith) in
        tells_as (λ h. only_own l (rw e at h)) (λ f. record { is = rw (e, f) (bit_same 32 s l) }) (tells_entry own l)
    by_order r s (no l) = rw (past_table own r {s = s} (omega arith)) (tells_eq r s)
