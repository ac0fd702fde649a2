-- How two concepts lie is one number, and the other way round 1 and 2 are exchanged.
--   lies_once, lies_exchanged
--   low_bit     the low bit answers whether the first lies below the second
use mathlib.Core.Path.{◌≡◌, refl}
use Prim.Native.Nat.{ℕ, zero, suc, ◌+◌, ◌*◌, ◌%◌, ◌≤◌}
use native.Mathlib.Omega.{arith}
use Rattle.el.specs.Concepts.{Concept}
use Rattle.el.specs.Axioms.{Terminology}
use Rattle.el.specs.Derivability.{IsAnswer}
use Rattle.demands.specs.Lying.{Lies, exchanged}

-- a direction has one answer
answer_once : {t : Terminology} {c d : Concept} (u v : ℕ) → IsAnswer t c d u → IsAnswer t c d v → u ≡ v
answer_once zero zero a b = refl
answer_once zero (suc v) a b = absurd (omega (arith, a.derivable.1 (b.derivable.0 (omega (arith, b.small)))))
answer_once (suc u) zero a b = absurd (omega (arith, b.derivable.1 (a.derivable.0 (omega (arith, a.small)))))
answer_once (suc u) (suc v) a b = omega (arith, a.small, b.small)

pub lies_once : {t : Terminology} {c d : Concept} {v w : ℕ} → Lies t c d v → Lies t c d w → v ≡ w
lies_once a b = omega (arith, a.number, b.number, answer_once a.upward b.upward a.below b.below, answer_once a.downward b.downward a.above b.above)

pub low_bit : {t : Terminology} {c d : Concept} {v : ℕ} → Lies t c d v → IsAnswer t c d (v % 2)
low_bit {v = v} a = let z : v % 2 ≡ a.upward = omega (arith, a.number, a.below.small) in rw z a.below

exchanged_number : (u v : ℕ) → u ≤ 1 → v ≤ 1 → exchanged (u + 2 * v) ≡ v + 2 * u
exchanged_number zero zero h k = refl
exchanged_number zero (suc zero) h k = refl
exchanged_number zero (suc (suc v)) h k = absurd (omega arith)
exchanged_number (suc zero) zero h k = refl
exchanged_number (suc zero) (suc zero) h k = refl
exchanged_number (suc zero) (suc (suc v)) h k = absurd (omega arith)
exchanged_number (suc (suc u)) v h k = absurd (omega arith)

pub lies_exchanged : {t : Terminology} {c d : Concept} {v : ℕ} → Lies t c d v → Lies t d c (exchanged v)
lies_exchanged a = record {
  upward = a.downward;
  downward = a.upward;
  below = a.above;
  above = a.below;
  number = rw a.number (exchanged_number a.upward a.downward a.below.small a.above.small);
}
