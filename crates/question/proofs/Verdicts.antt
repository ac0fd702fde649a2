-- What the rows show of the answer.
--   verdict     one direction, by whether row 0 of D has lost root 0 of C
--   lying       both, of any concepts that the outlines are of
use mathlib.Core.Path.{◌≡◌, refl}
use mathlib.Core.Bool.{Bool, true, false}
use Rattle.std.specs.Prelude.{not}
use Prim.Native.Nat.{ℕ, ◌+◌, ◌*◌, ◌<◌}
use native.Mathlib.Omega.{arith}
use Rattle.el.specs.Concepts.{Concept}
use Rattle.el.specs.Axioms.{Terminology}
use Rattle.el.specs.Derivability.{Derives, IsAnswer}
use Rattle.el.proofs.Tests.{Tells, tells_as, tells_not}
use Rattle.el.proofs.Derivations.{◌▹◌}
use Rattle.demands.specs.Lying.{Lies}
use Rattle.marks.proofs.Squares.{refuted}
use Rattle.outline.specs.declared.Outline.{Outline}
use Rattle.outline.specs.Atoms.{Same}
use Rattle.points.specs.declared.Pairs.{Pairs}
use Rattle.points.specs.declared.Classified.{Classified}
use Rattle.points.specs.Grids.{Pair}
use Rattle.question.specs.Positions.{answer_number}
use Rattle.question.specs.Evaluation.{content_in, root_point, Lost}

pub verdict : {g : Classified} {c o : Outline} {l : Pairs} → Lost g c o l → 0 < c.extent.roots → {b : Bool} → Tells b (Pair l 0 0)
    → Tells (not b) (Derives (content_in g) (root_point c 0) (root_point o 0))
verdict lost whole tells = tells_as (λ kept. lost.kept.kept 0 whole kept) (λ p k. lost.kept.lost 0 whole k p) (tells_not tells)

module _ {t : Terminology} {c d a b : Concept} (first : Same t c a) (second : Same t d b) where
  direction : (v : Bool) → Tells v (Derives t a b) → IsAnswer t c d (answer_number v)
  direction true tells = record { small = omega arith; derivable = (λ e. first.to ▹ tells.sound refl ▹ second.from, λ p. refl) }
  direction false tells = record { small = omega arith; derivable = (λ e. absurd (omega arith), λ p. absurd (refuted tells refl (first.from ▹ p ▹ second.to))) }

pub lying : {t : Terminology} {c d a b : Concept} → Same t c a → Same t d b → {u v : Bool} → Tells u (Derives t a b) → Tells v (Derives t b a)
    → {n : ℕ} → n ≡ answer_number u + 2 * answer_number v → Lies t c d n
lying first second {u} {v} up down number = record {
  upward = answer_number u;
  downward = answer_number v;
  below = direction first second u up;
  above = direction second first v down;
  number = number;
}
