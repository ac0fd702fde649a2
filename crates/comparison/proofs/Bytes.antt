-- Laws of the result bytes.
--   written_none, written_more, written_end      bytes written one after the other
--   is_byte                                      the byte by the marks is the byte of the comparison
use mathlib.Core.Path.{◌≡◌, refl, ap, ◌∙◌}
use mathlib.Core.Bool.{Bool, true, false}
use mathlib.Core.List.{List, ◌++◌}
use mathlib.Core.Logic.{inl, inr, ◌↔◌}
use Prim.Native.Nat.{ℕ, ◌+◌, ◌-◌, ◌≤◌, ◌<◌}
use native.Mathlib.Omega.{arith}
use native.Mathlib.Decide.{ℕ_discrete}
use lib.ListN.{length, get_or, set, take, drop, length-set, get_or-append}
use lib.Seq.{get_or-set_same, get_or-set_other, get_or-drop, get_or-append_right, length_front}
use Rattle.el.specs.Concepts.{named}
use Rattle.el.specs.Signatures.{LeftWitness, RightWitness}
use Rattle.el.specs.Comparison.{IsByte}
use Rattle.el.specs.Answers.{node}
use Rattle.el.proofs.Tests.{Tells, which, not_both}
use Rattle.el.proofs.ForwardMarks.{LostAbove}
use Rattle.el.proofs.BackwardMarks.{LostBelow}
use Rattle.el.proofs.Demand3.{byte_left, byte_right, byte_small}
use Rattle.release.specs.Files.{content_of}
use Rattle.marks.specs.Squares.{Marked}
use Rattle.classification.proofs.Nodes.{at_name}
use Rattle.layout.specs.declared.Layout.{Layout}
use Rattle.layout.specs.Layouts.{mark_square, chosen}
use Rattle.forward.specs.Forward.{ForwardMarked}
use Rattle.backward.specs.Backward.{BackwardMarked}
use Rattle.backward.proofs.Columns.{column_name}
use Rattle.comparison.specs.Bytes.{ByMarks, ByteAt, Written}

module _ {g : List ℕ} {f h : Layout} {w : List ℕ} where
  pub written_none : {r : List ℕ} → Written g f h w 0 r r
  written_none = record { long = refl; byte = λ a l. absurd (omega arith); past = λ i l. refl }

  pub written_more : {k : ℕ} (b : ℕ) {r p : List ℕ} → k < length p → Written g f h w k r p → ByteAt g f h w k b → Written g f h w (k + 1) r (set p k b)
  written_more {k} b {r} {p} l z y = record
      { long = length-set p k b ∙ z.long; byte = λ a i. by_place a i (ℕ_discrete a k); past = λ i j. get_or-set_other p k i b 0 (λ e. omega arith) ∙ z.past i (omega arith) }
    where
      by_place : (a : ℕ) → a < k + 1 → Dec (a ≡ k) → ByteAt g f h w a (get_or (set p k b) a 0)
      by_place a i (yes e) = rw (e, get_or-set_same p k b 0 l) y
      by_place a i (no e) = rw (get_or-set_other p k a b 0 e) (z.byte a (omega arith))

  -- the first bytes of a memory were lent, and are all written
  pub written_end : {i k : ℕ} {r p : List ℕ} → length p ≡ k → length (take k r) ≡ k → k ≤ i → Written g f h w i (take k r) p → Written g f h w k r (p ++ drop k r)
  written_end {i} {k} {r} {p} l m o z = record {
    long = length_front r p k z.long;
    byte = λ a j. rw (get_or-append p (drop k r) 0 a (omega (arith, l))) (z.byte a (omega arith));
    past = λ a j.
        let e : k + (a - length p) ≡ a = omega (arith, l) in
        get_or-append_right p (drop k r) a 0 (omega (arith, l)) ∙ get_or-drop k r (a - length p) 0 ∙ ap (λ x. get_or r x 0) e;
  }

-- the marks of the cell a, a tell of witnesses
module _ {g s t : List ℕ} {f : Layout} {w : List ℕ} {a : ℕ} (a_in : a < f.names) where
  pub left_by_mark : {b : Bool} → ForwardMarked g s t f w → Tells b (Marked (mark_square f) w a a) → (b ≡ true) ↔ LeftWitness (chosen f g) (content_of s) (content_of t) a
  left_by_mark {b} marked tells = (λ e. there e, λ x. elim (which b) [ inl e ↦ e | inr e ↦ absurd (none e x) ])
    where
      there : b ≡ true → LeftWitness (chosen f g) (content_of s) (content_of t) a
      there e = let lost : LostAbove (chosen f g) (content_of s) (content_of t) (named a) (named a) = rw (at_name f.names a a_in)
          at (marked.sound a a (omega arith) (omega arith) (tells.sound e)) in record { above = lost.it; over = lost.over; first = lost.by_first; not_second = lost.not_second }

      none : b ≡ false → LeftWitness (chosen f g) (content_of s) (content_of t) a → ⊥
      none e x = x.not_second (rw (at_name f.names a a_in) at (marked.kept a a (omega arith) (omega arith) (λ m. not_both (tells.complete m) e) x.above x.over (rw (at_name f.names a a_in) x.first)))

  pub right_by_mark : {b : Bool} → BackwardMarked g s t f w → Tells b (Marked (mark_square f) w a a) → (b ≡ true) ↔ RightWitness (chosen f g) (content_of s) (content_of t) a
  right_by_mark {b} marked tells = (λ e. there e, λ x. elim (which b) [ inl e ↦ e | inr e ↦ absurd (none e x) ])
    where
      there : b ≡ true → RightWitness (chosen f g) (content_of s) (content_of t) a
      there e = let lost : LostBelow (chosen f g) (content_of s) (content_of t) (named a) (node (named a)) = rw (at_name f.names a a_in, column_name f.names a a_in)
          at (marked.sound a a (omega arith) (omega arith) (tells.sound e)) in record { below = lost.it; over = lost.over; first = lost.by_first; not_second = lost.not_second }

      none : b ≡ false → RightWitness (chosen f g) (content_of s) (content_of t) a → ⊥
      none e x = x.not_second (rw (column_name f.names a a_in)
          at (marked.kept a a (omega arith) (omega arith) (λ m. not_both (tells.complete m) e) x.below x.over (rw (at_name f.names a a_in) x.first)))

pub is_byte : {g s t : List ℕ} {f h : Layout} {w : List ℕ} {a b : ℕ} → h.names ≡ f.names → chosen h g ≡ chosen f g → a < f.names → ForwardMarked g s t f w
    → BackwardMarked g s t h w → ByteAt g f h w a b → IsByte (chosen f g) (content_of s) (content_of t) a b
is_byte {g} {s} {t} {f} {h} {w} {a} {b} names same a_in forward backward y = elim (which ((chosen f g).has_name a)) [
  | inl i ↦ by_marks i (y.inside i)
  | inr o ↦ record { outside = y.outside; small = rw (y.outside o) (omega arith); left = λ z. absurd (not_both z o); right = λ z. absurd (not_both z o) }
]
  where
    by_marks : (chosen f g).has_name a ≡ true → ByMarks f h w a b → IsByte (chosen f g) (content_of s) (content_of t) a b
    by_marks i m = record {
      outside = λ z. absurd (not_both i z);
      small = rw m.is (byte_small m.is_left m.is_right);
      left = λ z. rw (m.is, byte_left m.is_left m.is_right) (left_by_mark a_in forward m.left);
      right = λ z. rw (m.is, byte_right m.is_left m.is_right, ← same) (right_by_mark (omega arith) backward m.right);
    }
