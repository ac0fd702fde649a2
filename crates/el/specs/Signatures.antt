-- Signatures, what they make of a comparison, and equality over one.
--   Signature                     the concept names and role names that are chosen
--   is_over sig c                  c is a signature concept: it uses chosen names and roles only, and may be ⊤
--   LeftWitness sig t u a         "left witness": some signature concept lies above a by t and not by u
--   RightWitness sig t u a        "right witness": some signature concept lies below a by t and not by u
--   RoleWitness sig t u r s       a reported role pair: both roles are chosen, and r lies under s by t and not by u
--   EqualOver sig t u             "equal over" sig: each inclusion of signature concepts is derivable from both or from neither
-- Not here: the bytes in which a caller lends a signature (crate release).
use Rattle.std.specs.Prelude.{◌≡◌, ◌↔◌, Bool, true, ◌&&◌, ℕ}
use Rattle.el.specs.Concepts.{Concept, top, name, both, some}
use Rattle.el.specs.Axioms.{Terminology}
use Rattle.el.specs.Derivability.{Under, Derives}

pub record Signature : Type 0 where
  pub has_name : ℕ → Bool
  pub has_role : ℕ → Bool

abbrev pub is_over : Signature → Concept → Bool
is_over sig top = true
is_over sig (name x) = sig.has_name x
is_over sig (both c d) = is_over sig c && is_over sig d
is_over sig (some r c) = sig.has_role r && is_over sig c

pub record LeftWitness (sig : Signature) (t u : Terminology) (a : ℕ) : Type 0 where
  pub above : Concept
  pub over : is_over sig above ≡ true
  pub first : Derives t (name a) above
  pub not_second : Derives u (name a) above → ⊥

pub record RightWitness (sig : Signature) (t u : Terminology) (a : ℕ) : Type 0 where
  pub below : Concept
  pub over : is_over sig below ≡ true
  pub first : Derives t below (name a)
  pub not_second : Derives u below (name a) → ⊥

pub record RoleWitness (sig : Signature) (t u : Terminology) (r s : ℕ) : Type 0 where
  pub lower_chosen : sig.has_role r ≡ true
  pub upper_chosen : sig.has_role s ≡ true
  pub first : Under t.roles r s
  pub not_second : Under u.roles r s → ⊥

pub record EqualOver (sig : Signature) (t u : Terminology) : Type 0 where
  pub alike : (c d : Concept) → is_over sig c ≡ true → is_over sig d ≡ true → Derives t c d ↔ Derives u c d
