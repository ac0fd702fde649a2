-- Steps of derivations that all later modules take.
--   p ▹ q              first p, then q
--   Fills t r a        a is A ≡ ∃s.B, and r lies under s by t: then ∃r.C ⊑ A for each C ⊑ B
--   Restricts t a r d  a is A ⊑ ∃s.B or A ≡ ∃s.B, s lies under r by t, and d is B: then A ⊑ ∃r.d
-- Not here: what is not derivable (Terminologies).
use mathlib.Core.Path.{◌≡◌, refl, sym}
use mathlib.Core.Logic.{◌↔◌}
use mathlib.Core.Bool.{true, false, true≢false}
use mathlib.Core.List.{List, [], ◌∷◌}
use Prim.Native.Nat.{ℕ}
use Rattle.el.specs.Lists.{In, first, later}
use Rattle.el.specs.Concepts.{Concept, name, both, some, concept_of, all_of}
use Rattle.el.specs.Axioms.{Right, conjunction, restriction, Axiom, right_of, is_conjunction, parts_of, role_of, filler_of, Terminology}
use Rattle.el.specs.Derivability.{Under, through, Derives, same, to_top, one, other, meet, under, chain, stated, defined, widen}
use Rattle.el.specs.Terminologies.{Joins}

infixr 5 ◌▹◌
pub ◌▹◌ : {t : Terminology} {c d e : Concept} → Derives t c d → Derives t d e → Derives t c e
p ▹ q = chain p q

pub both_above : {t : Terminology} {c d e : Concept} → Derives t c (both d e) ↔ (Derives t c d × Derives t c e)
both_above = (λ p. (p ▹ one, p ▹ other), λ p. meet p.0 p.1)

-- the names of a conjunction
pub to_all : {t : Terminology} (c : Concept) (xs : List ℕ) → ((z : ℕ) → In xs z → Derives t c (name z)) → Derives t c (all_of xs)
to_all c [] f = to_top
to_all c (x ∷ []) f = f x first
to_all c (x ∷ (y ∷ xs)) f = meet (f x first) (to_all c (y ∷ xs) (λ z h. f z (later h)))

pub from_all : {t : Terminology} {xs : List ℕ} {z : ℕ} → In xs z → Derives t (all_of xs) (name z)
from_all (first {xs = []}) = same
from_all (first {xs = y ∷ xs}) = one
from_all (later {xs = []} h) = elim h [ ]
from_all (later {xs = y ∷ xs} h) = other ▹ from_all h

-- the two forms of a right side
pub right_conjunction : (a : Axiom) → is_conjunction a ≡ true → right_of a ≡ all_of (parts_of a)
right_conjunction a k = by_form a.right refl
  where
    by_form : (q : Right) → a.right ≡ q → right_of a ≡ all_of (parts_of a)
    by_form (conjunction xs) e = rw e
    by_form (restriction r b) e = absurd (true≢false (sym (rw e at k)))

pub right_restriction : (a : Axiom) → is_conjunction a ≡ false → right_of a ≡ some (role_of a) (concept_of (filler_of a))
right_restriction a k = by_form a.right refl
  where
    by_form : (q : Right) → a.right ≡ q → right_of a ≡ some (role_of a) (concept_of (filler_of a))
    by_form (conjunction xs) e = absurd (true≢false (rw e at k))
    by_form (restriction r b) e = rw e

pub has_part : (a : Axiom) {z : ℕ} → In (parts_of a) z → is_conjunction a ≡ true
has_part a {z} h = by_form a.right refl
  where
    by_form : (q : Right) → a.right ≡ q → is_conjunction a ≡ true
    by_form (conjunction xs) e = rw e
    by_form (restriction r b) e = elim (rw e at h) [ ]

-- what an axiom gives
pub record Fills (t : Terminology) (r : ℕ) (a : Axiom) : Type 0 where
  pub is_defined : a.defined ≡ true
  pub is_restriction : is_conjunction a ≡ false
  pub role : Under t.roles r (role_of a)

pub record Restricts (t : Terminology) (a : Axiom) (r : ℕ) (d : Concept) : Type 0 where
  pub is_restriction : is_conjunction a ≡ false
  pub role : Under t.roles (role_of a) r
  pub filler : concept_of (filler_of a) ≡ d

pub fills_by : {t : Terminology} {q r : ℕ} {a : Axiom} → Under t.roles q r → Fills t r a → Fills t q a
fills_by u f = record { is_defined = f.is_defined; is_restriction = f.is_restriction; role = through u f.role }

pub restricts_by : {t : Terminology} {a : Axiom} {r s : ℕ} {d : Concept} → Under t.roles r s → Restricts t a r d → Restricts t a s d
restricts_by u f = record { is_restriction = f.is_restriction; role = through f.role u; filler = f.filler }

-- ∃r.c ⊑ ∃s.d
pub widened : {t : Terminology} {r s : ℕ} {c d : Concept} → Under t.roles r s → Derives t c d → Derives t (some r c) (some s d)
widened u p = under p ▹ widen u

module _ {t : Terminology} {a : Axiom} (a_in : In t.axioms a) where
  by_axiom : Derives t (name a.left) (right_of a)
  by_axiom = stated a_in

  pub to_part : {z : ℕ} → In (parts_of a) z → Derives t (name a.left) (name z)
  to_part z_in = rw (right_conjunction a (has_part a z_in)) at by_axiom ▹ from_all z_in

  pub from_parts : {c : Concept} → Joins a → ((z : ℕ) → In (parts_of a) z → Derives t c (name z)) → Derives t c (name a.left)
  from_parts {c} joins f =
      let p : Derives t c (right_of a) = rw (right_conjunction a joins.is_conjunctive) (to_all c (parts_of a) f) in
      p ▹ defined a_in joins.is_defined

  pub to_filler : {r : ℕ} {d : Concept} → Restricts t a r d → Derives t (name a.left) (some r d)
  to_filler restricts = rw (right_restriction a restricts.is_restriction, restricts.filler) at by_axiom ▹ widen restricts.role

  pub from_filler : {r : ℕ} {c : Concept} → Fills t r a → Derives t c (concept_of (filler_of a)) → Derives t (some r c) (name a.left)
  from_filler {r} {c} fills p =
      let q : Derives t (some r c) (right_of a) = rw (right_restriction a fills.is_restriction) (widened fills.role p) in
      q ▹ defined a_in fills.is_defined
