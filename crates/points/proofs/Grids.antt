-- Grids: rows that gain places one after the other.
--   same_cell                              a place of a row is of no other row
--   adds_more, adds_skipped                a turn of a row's loop that sets the place, and one that does not
--   place_kept, place_lost                 the same by a test of what is not lost
--   adds_as                                what is gained and what is not, in other words
--   adds_row                               another row has what it had
use mathlib.Core.Path.{◌≡◌}
use mathlib.Core.Logic.{◌⊎◌, inl, inr}
use mathlib.Core.Bool.{Bool, true, false}
use mathlib.Core.List.{List}
use Prim.Native.Nat.{ℕ, ◌+◌, ◌<◌}
use native.Mathlib.Omega.{arith}
use native.Mathlib.Decide.{ℕ_discrete}
use Rattle.std.proofs.lemmas.Nat.{same_from_place}
use Rattle.el.proofs.Tests.{Tells}
use Rattle.marks.specs.Lines.{Added}
use Rattle.marks.proofs.Squares.{refuted}
use Rattle.points.specs.Grids.{cell, SetIn, Adds}

same_cell : (c a b k e : ℕ) → b < c → e < c → cell c a b ≡ cell c k e → (a ≡ k) × (b ≡ e)
unfolding cell
same_cell c a b k e h l z = same_from_place a b k e c h l z

module _ {P Q : ℕ → Type 0} {c k : ℕ} {w : List ℕ} where
  pub adds_skipped : {e : ℕ} {v : List ℕ} → Adds c k e P Q w v → Q e → Adds c k (e + 1) P Q w v
  adds_skipped {e} {v} adds skipped = record {
    old = adds.old;
    all = λ y h. by_place y h (ℕ_discrete y e);
    only = λ a b l m. elim (adds.only a b l m) [ inl z ↦ inl z | inr z ↦ inr (z.0, (omega (arith, z.1.0), z.1.1)) ];
  }
    where
      by_place : (y : ℕ) → y < e + 1 → Dec (y ≡ e) → SetIn c v k y ⊎ Q y
      by_place y h (yes z) = inr (rw z skipped)
      by_place y h (no z) = adds.all y (omega arith)

  module _ {e : ℕ} {u v : List ℕ} (adds : Adds c k e P Q w u) (p : P e) (small : e < c) (added : Added (cell c k e) u v) where
    pub adds_more : Adds c k (e + 1) P Q w v
    adds_more = record {
      old = λ a b m. added.stays _ (adds.old a b m);
      all = λ y h. by_place y h (ℕ_discrete y e);
      only = λ a b l m. elim (added.only _ m) [
        | inl z ↦ elim (adds.only a b l z) [ inl x ↦ inl x | inr x ↦ inr (x.0, (omega (arith, x.1.0), x.1.1)) ]
        | inr z ↦ let same = same_cell c a b k e l small z in inr (same.0, (omega (arith, same.1), rw same.1 p))
      ];
    }
      where
        by_place : (y : ℕ) → y < e + 1 → Dec (y ≡ e) → SetIn c v k y ⊎ Q y
        by_place y h (yes z) = inl (rw z added.there)
        by_place y h (no z) = elim (adds.all y (omega arith)) [ inl x ↦ inl (added.stays _ x) | inr x ↦ inr x ]

-- a turn of a row's loop that takes what a test does not tell
module _ {B : ℕ → Type 0} {c k e : ℕ} {w u : List ℕ} (adds : Adds c k e (λ y. B y → ⊥) B w u) {z : Bool} (tells : Tells z (B e)) where
  pub place_kept : z ≡ true → Adds c k (e + 1) (λ y. B y → ⊥) B w u
  place_kept is = adds_skipped adds (tells.sound is)

  pub place_lost : {v : List ℕ} → z ≡ false → e < c → Added (cell c k e) u v → Adds c k (e + 1) (λ y. B y → ⊥) B w v
  place_lost is small added = adds_more adds (refuted tells is) small added

pub adds_end : {P Q : ℕ → Type 0} {c k e f : ℕ} {w v : List ℕ} → e ≡ f → Adds c k e P Q w v → Adds c k f P Q w v
adds_end z adds = rw (← z) adds

pub adds_as : {P Q R S : ℕ → Type 0} {c k e : ℕ} {w v : List ℕ} → ((y : ℕ) → P y → R y) → ((y : ℕ) → Q y → S y) → Adds c k e P Q w v → Adds c k e R S w v
adds_as f g adds = record {
  old = adds.old;
  all = λ y h. elim (adds.all y h) [ inl z ↦ inl z | inr z ↦ inr (g y z) ];
  only = λ a b l m. elim (adds.only a b l m) [ inl z ↦ inl z | inr z ↦ inr (z.0, (z.1.0, f b z.1.1)) ];
}

-- another row
pub adds_row : {P Q : ℕ → Type 0} {c k e : ℕ} {w v : List ℕ} → Adds c k e P Q w v → (a b : ℕ) → (a ≡ k → ⊥) → b < c → SetIn c v a b → SetIn c w a b
adds_row adds a b apart l m = elim (adds.only a b l m) [ inl z ↦ z | inr z ↦ absurd (apart z.0) ]
