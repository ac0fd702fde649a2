-- Roles under roles.
--   tells_under            the test of specs/Answers tells of Under; under_decided: so it is decided
--   used_once, from_once   one pair more is used once, or not at all
--   under_no_pairs         without pairs a role lies under itself only
--   in_above, in_under     the roles above a role, and under it, are in the lists of specs/Answers
--   wider_under            what each pair takes along, Under takes along
use mathlib.Core.Path.{◌≡◌, refl}
use mathlib.Core.Logic.{◌⊎◌, inl, inr}
use mathlib.Core.List.{List, [], ◌∷◌, map}
use Prim.Native.Nat.{ℕ}
use Rattle.el.specs.Lists.{In, first, later}
use Rattle.el.specs.Axioms.{RolePair}
use Rattle.el.specs.Derivability.{Under, same_role, listed, through}
use Rattle.el.specs.Answers.{is_under, roles_above, roles_under}
use Rattle.el.proofs.Lists.{in_map}
use Rattle.el.proofs.Tests.{Tells, decided, tells_as, tells_eq, tells_and, tells_or}

pub under_no_pairs : {r s : ℕ} → Under [] r s → r ≡ s
under_no_pairs same_role = refl
under_no_pairs (listed h) = elim h [ ]
under_no_pairs (through u v) = cc (under_no_pairs u, under_no_pairs v)

pub under_equal : {ps : List RolePair} {r s : ℕ} → r ≡ s → Under ps r s
under_equal e = rw e same_role

-- one pair more: it is used once, or not at all
more_pairs : {p : RolePair} {ps : List RolePair} {r s : ℕ} → Under ps r s → Under (p ∷ ps) r s
more_pairs same_role = same_role
more_pairs (listed h) = listed (later h)
more_pairs (through u v) = through (more_pairs u) (more_pairs v)

abbrev pub Once : RolePair → List RolePair → ℕ → ℕ → Type 0
Once p ps r s = Under ps r s ⊎ (Under ps r p.lower × Under ps p.upper s)

once_then : {p : RolePair} {ps : List RolePair} {q r s : ℕ} → Once p ps q r → Once p ps r s → Once p ps q s
once_then (inl u) (inl v) = inl (through u v)
once_then (inl u) (inr w) = inr (through u w.0, w.1)
once_then (inr w) (inl v) = inr (w.0, through w.1 v)
once_then (inr w) (inr x) = inr (w.0, x.1)

pub used_once : {p : RolePair} {ps : List RolePair} {r s : ℕ} → Under (p ∷ ps) r s → Once p ps r s
used_once same_role = inl same_role
used_once (listed first) = inr (same_role, same_role)
used_once (listed (later h)) = inl (listed h)
used_once (through u v) = once_then (used_once u) (used_once v)

pub from_once : {p : RolePair} {ps : List RolePair} {r s : ℕ} → Once p ps r s → Under (p ∷ ps) r s
from_once (inl u) = more_pairs u
from_once (inr w) = through (more_pairs w.0) (through (listed first) (more_pairs w.1))

pub tells_under : (ps : List RolePair) (r s : ℕ) → Tells (is_under ps r s) (Under ps r s)
tells_under [] r s = tells_as under_equal under_no_pairs (tells_eq r s)
tells_under (p ∷ ps) r s = tells_as from_once used_once (tells_or (tells_under ps r s) (tells_and (tells_under ps r p.lower) (λ _. tells_under ps p.upper s)))

pub under_decided : (ps : List RolePair) (r s : ℕ) → Dec (Under ps r s)
under_decided ps r s = decided (tells_under ps r s)

-- a role above another is that one, or the upper role of a pair; and the same for the lower
same_or_upper : {ps : List RolePair} {r s : ℕ} → Under ps r s → (r ≡ s) ⊎ In (map (λ (p : RolePair). p.upper) ps) s
same_or_upper same_role = inl refl
same_or_upper (listed h) = inr (in_map (λ (p : RolePair). p.upper) h)
same_or_upper (through u v) = elim (same_or_upper v) [ inl e ↦ rw e at (same_or_upper u) | inr h ↦ inr h ]

same_or_lower : {ps : List RolePair} {r s : ℕ} → Under ps r s → (r ≡ s) ⊎ In (map (λ (p : RolePair). p.lower) ps) r
same_or_lower same_role = inl refl
same_or_lower (listed h) = inr (in_map (λ (p : RolePair). p.lower) h)
same_or_lower (through u v) = elim (same_or_lower u) [ inl e ↦ rw (← e) at (same_or_lower v) | inr h ↦ inr h ]

pub in_above : {ps : List RolePair} {r s : ℕ} → Under ps r s → In (roles_above ps r) s
in_above u = elim (same_or_upper u) [ inl e ↦ rw e first | inr h ↦ later h ]

pub in_under : {ps : List RolePair} {r s : ℕ} → Under ps r s → In (roles_under ps s) r
in_under u = elim (same_or_lower u) [ inl e ↦ rw e first | inr h ↦ later h ]

-- what each pair takes along, Under does
pub wider_under : {ps : List RolePair} (Edge : ℕ → Type 0) → ((p : RolePair) → In ps p → Edge p.lower → Edge p.upper) → {r s : ℕ} → Under ps r s → Edge r → Edge s
wider_under Edge step same_role e = e
wider_under Edge step (listed h) e = step _ h e
wider_under Edge step (through u v) e = wider_under Edge step v (wider_under Edge step u e)
