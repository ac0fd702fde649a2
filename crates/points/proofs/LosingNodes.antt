-- The names that are idle for an ∃, and the nodes that a row loses: what the loops keep, and one law for each turn.
--   by_filler            whether an axiom reaches, by its filler
--   idle_.., active_..   the line, name by name: an axiom that does not reach, and one that does
--   first_reaches        whether a node lies below the ∃, by the first column above it that is not in the line
use mathlib.Core.Path.{◌≡◌}
use mathlib.Core.Bool.{Bool, true, false}
use mathlib.Core.Logic.{◌⊎◌, inl, inr}
use mathlib.Core.List.{List}
use Prim.Native.Nat.{ℕ, ◌+◌, ◌<◌}
use native.Mathlib.Omega.{arith}
use native.Mathlib.Decide.{ℕ_discrete, dec_lt}
use borrow.Author.Tests.{ltb-true, lt-ltb}
use lib.Dec.{ltb}
use Rattle.std.specs.Prelude.{not}
use Rattle.el.proofs.Tests.{Tells, tells_as, tells_not}
use Rattle.release.specs.Files.{restricts}
use Rattle.release.specs.Tables.{kind_at, role_at, filler_at, serves_at}
use Rattle.marks.specs.Lines.{Has, Spans, Added, MarkedOutside}
use Rattle.marks.specs.Squares.{Marked, First}
use Rattle.marks.proofs.Squares.{refuted}
use Rattle.points.specs.declared.Grid.{Grid}
use Rattle.points.specs.declared.Classified.{Classified}
use Rattle.points.specs.Grids.{Set}
use Rattle.points.specs.Above.{table_in}
use Rattle.points.specs.Nodes.{AxiomReaches, NodeReaches}

-- a line of the names before e whose axioms do not reach
pub record IdleBefore (g : Classified) (l : Grid) (r j e : ℕ) (k : List ℕ) : Type 0 where
  pub spans : Spans g.square.names k
  pub none : (b : ℕ) → Has k b → AxiomReaches g l r j b → ⊥
  pub all : (b : ℕ) → b < e → Has k b ⊎ AxiomReaches g l r j b

module _ {g : Classified} {l : Grid} {r j b : ℕ} where
  pub by_filler : {z : Bool} → restricts (kind_at (table_in g) b) ≡ true → serves_at (table_in g) (role_at (table_in g) b) r ≡ true → Tells z (Set l j (filler_at (table_in g) b))
      → Tells (not z) (AxiomReaches g l r j b)
  by_filler restriction serves tells = tells_as (λ kept. record { is_restriction = restriction; role = serves; kept = kept }) (λ reaches. reaches.kept) (tells_not tells)

module _ {g : Classified} {l : Grid} {r j e : ℕ} {k : List ℕ} (before : IdleBefore g l r j e k) {z : Bool} (tells : Tells z (AxiomReaches g l r j e)) where
  pub active_passed : z ≡ true → IdleBefore g l r j (e + 1) k
  active_passed is = record { spans = before.spans; none = before.none; all = λ b h. by_place b h (ℕ_discrete b e) }
    where
      by_place : (b : ℕ) → b < e + 1 → Dec (b ≡ e) → Has k b ⊎ AxiomReaches g l r j b
      by_place b h (yes y) = inr (rw y (tells.sound is))
      by_place b h (no y) = before.all b (omega arith)

  pub idle_added : {m : List ℕ} → z ≡ false → Added e k m → IdleBefore g l r j (e + 1) m
  idle_added {m} is added = record {
    spans = record { inside = omega (arith, before.spans.inside, added.long) };
    none = λ b h reaches. elim (added.only b h) [ inl y ↦ before.none b y reaches | inr y ↦ refuted tells is (rw y at reaches) ];
    all = λ b h. by_place b h (ℕ_discrete b e);
  }
    where
      by_place : (b : ℕ) → b < e + 1 → Dec (b ≡ e) → Has m b ⊎ AxiomReaches g l r j b
      by_place b h (yes y) = inl (rw y added.there)
      by_place b h (no y) = elim (before.all b (omega arith)) [ inl x ↦ inl (added.stays b x) | inr x ↦ inr x ]

module _ {g : Classified} {k : List ℕ} {x y : ℕ} (first : First (MarkedOutside g.square g.work.now x k) (λ z. Marked g.square g.work.now x z → Has k z) g.square.names 0 y) where
  pub first_reaches : Tells (ltb y g.square.names) (NodeReaches g k x)
  first_reaches = record {
    sound = λ h. record { by = y; is_name = ltb-true _ _ h; above = first.there.marked; not_idle = first.there.out };
    complete = λ reaches. lt-ltb _ _ (by_order reaches (dec_lt reaches.by y));
  }
    where
      by_order : (reaches : NodeReaches g k x) → Dec (reaches.by < y) → y < g.square.names
      by_order reaches (yes l) = absurd (reaches.not_idle (first.before reaches.by (omega arith) l reaches.above))
      by_order reaches (no l) = omega (arith, l, reaches.is_name)
