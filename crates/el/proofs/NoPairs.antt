-- Terminologies without role pairs: all is as it was before there were any.
--   derives_plain       without role pairs the other rules derive the same
--   reports_no_pair     a terminology without pairs reports none against any other
use mathlib.Core.Path.{◌≡◌}
use mathlib.Core.Logic.{◌↔◌}
use mathlib.Core.List.{List, []}
use Prim.Native.Nat.{ℕ}
use native.Mathlib.Omega.{arith}
use Rattle.el.specs.Concepts.{Concept}
use Rattle.el.specs.Axioms.{Axiom, Terminology}
use Rattle.el.specs.Derivability.{Under, Derives, same, to_top, one, other, meet, under, chain, stated, defined, widen}
use Rattle.el.specs.NoPairs.{without, PlainDerives, p_same, p_to_top, p_one, p_other, p_meet, p_under, p_chain, p_stated, p_defined}
use Rattle.el.specs.Signatures.{Signature}
use Rattle.el.specs.Comparison.{ReportsNoPair}
use Rattle.el.proofs.Roles.{under_no_pairs, under_equal}

to_plain : {al : List Axiom} {c d : Concept} → Derives (without al) c d → PlainDerives al c d
to_plain same = p_same
to_plain to_top = p_to_top
to_plain one = p_one
to_plain other = p_other
to_plain (meet p q) = p_meet (to_plain p) (to_plain q)
to_plain (under p) = p_under (to_plain p)
to_plain (chain p q) = p_chain (to_plain p) (to_plain q)
to_plain (stated h) = p_stated h
to_plain (defined h e) = p_defined h e
to_plain (widen u) = rw (under_no_pairs u) p_same

from_plain : {al : List Axiom} {c d : Concept} → PlainDerives al c d → Derives (without al) c d
from_plain p_same = same
from_plain p_to_top = to_top
from_plain p_one = one
from_plain p_other = other
from_plain (p_meet p q) = meet (from_plain p) (from_plain q)
from_plain (p_under p) = under (from_plain p)
from_plain (p_chain p q) = chain (from_plain p) (from_plain q)
from_plain (p_stated h) = stated h
from_plain (p_defined h e) = defined h e

pub derives_plain : {al : List Axiom} {c d : Concept} → Derives (without al) c d ↔ PlainDerives al c d
derives_plain = (to_plain, from_plain)

-- "releases without pairs, which report no role pair"
pub reports_no_pair : (m : ℕ) (sig : Signature) (t u : Terminology) → t.roles ≡ [] → ReportsNoPair m sig t u
reports_no_pair m sig t u e r s r_in s_in = record {
  small = omega arith;
  reported = (λ k. absurd (omega arith), λ w. absurd (w.not_second (let v : Under [] r s = rw e at w.first in under_equal (under_no_pairs v))));
}
