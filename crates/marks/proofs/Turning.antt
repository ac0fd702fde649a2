-- Laws of a square whose rows become columns, one after the other.
use mathlib.Core.Path.{◌≡◌}
use mathlib.Core.Bool.{Bool}
use mathlib.Core.List.{List}
use mathlib.Core.Logic.{inl, inr}
use Prim.Native.Nat.{ℕ, ◌+◌, ◌≤◌, ◌<◌}
use native.Mathlib.Omega.{arith}
use native.Mathlib.Decide.{ℕ_discrete, dec_lt}
use Rattle.marks.specs.declared.Square.{Square}
use Rattle.marks.specs.Squares.{span, Marked, Unmarked, Touches, Put, First, Nowhere, NotMarked}
use Rattle.marks.specs.Inclusions.{TurnedBelow, Turned}
use Rattle.marks.proofs.Squares.{touches_frame, frame_marked, marked_frame}

-- the rows below x, and row x below column y
pub record TurnedTo (q : Square) (w : List ℕ) (p : Square) (x y : ℕ) : Type 0 where
  pub below : TurnedBelow q w p w x
  pub row : (b : ℕ) → b < y → b ≤ q.names → Marked q w x b → Marked p w b x

-- the square q lies before p, of which the rows are touched
module _ {q p : Square} (apart : q.base + span q.names ≤ p.base) {w v : List ℕ} (t : Touches p w v) where
  pub still_marked : {x y : ℕ} → x ≤ q.names → y ≤ q.names → Marked q w x y → Marked q v x y
  still_marked h l m = frame_marked (touches_frame t) (inl apart) h l m

  pub was_marked : {x y : ℕ} → x ≤ q.names → y ≤ q.names → Marked q v x y → Marked q w x y
  was_marked h l m = marked_frame (touches_frame t) (inl apart) h l m

module _ {q p : Square} where
  pub turned_none : {w : List ℕ} → q.names ≡ p.names → Unmarked p w → TurnedBelow q w p w 0
  turned_none e u = record { to = λ x y h. absurd (omega arith); from = λ x y h l m. absurd (u.none y x (omega arith) (omega arith) m) }

  pub turned_start : {w : List ℕ} {x : ℕ} → TurnedBelow q w p w x → TurnedTo q w p x 0
  turned_start b = record { below = b; row = λ i h l m. absurd (omega arith) }

  pub turned_more : {w v : List ℕ} {x y k : ℕ} {f : Bool} → q.base + span q.names ≤ p.base → q.names ≡ p.names → x ≤ q.names → First (Marked q w x) (NotMarked q w x) q.names k y
      → Put p y x w v f → TurnedTo q w p x k → TurnedTo q v p x (y + 1)
  turned_more {w} {v} {x} {y} {k} apart e xb n put b = record {
    below = record {
      to = λ i j h l k m. put.extends.stays j i (b.below.to i j h l k (was_marked apart put.hints.touches l k m));
      from = λ i j h l m. still_marked apart put.hints.touches h l (elim (put.only j i (omega arith) (omega arith) m) [ inl g ↦ b.below.from i j h l g | inr g ↦ rw (g.0, g.1) n.there ]);
    };
    row = λ i h l m. by_place i h l (was_marked apart put.hints.touches xb l m) (dec_lt i k) (ℕ_discrete i y);
  }
    where
      by_place : (i : ℕ) → i < y + 1 → i ≤ q.names → Marked q w x i → Dec (i < k) → Dec (i ≡ y) → Marked p v i x
      by_place i h l m (yes g) j = put.extends.stays i x (b.row i g l m)
      by_place i h l m (no g) (yes j) = rw j put.there
      by_place i h l m (no g) (no j) = absurd (n.before i (omega arith) (omega arith) m)

  pub turned_end : {w : List ℕ} {x k : ℕ} → Nowhere (NotMarked q w x) q.names k → TurnedTo q w p x k → TurnedBelow q w p w (x + 1)
  turned_end {w} {x} {k} n b = record { to = λ i j h l g m. by_place i j h l g m (ℕ_discrete i x) (dec_lt j k); from = b.below.from }
    where
      by_place : (i j : ℕ) → i < x + 1 → i ≤ q.names → j ≤ q.names → Marked q w i j → Dec (i ≡ x) → Dec (j < k) → Marked p w j i
      by_place i j h l g m (yes e) (yes f) = let c : Marked q w x j = rw e at m in rw e (b.row j f g c)
      by_place i j h l g m (yes e) (no f) = absurd (n.each j (omega arith) g (rw e at m))
      by_place i j h l g m (no e) f = b.below.to i j (omega arith) l g m

  pub turned_all : {w : List ℕ} {k : ℕ} → q.names < k → TurnedBelow q w p w k → Turned q w p w
  turned_all h b = record { to = λ x y l g m. b.to x y (omega arith) l g m; from = b.from }
