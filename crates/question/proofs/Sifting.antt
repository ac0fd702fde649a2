-- Rows that lose the points that do not lie below an atom, atom after atom, in any order.
--   sifted_none, sifted_more     the rows before any atom, and after one more
--   sifted_row                   a row all of whose atoms are done has lost just the points that do not lie below its root
use mathlib.Core.Path.{◌≡◌}
use mathlib.Core.Logic.{◌⊎◌, inl, inr}
use mathlib.Core.List.{List}
use Prim.Native.Nat.{ℕ, ◌≤◌, ◌<◌}
use native.Mathlib.Omega.{arith}
use Rattle.el.specs.Concepts.{Concept}
use Rattle.el.specs.Axioms.{Terminology}
use Rattle.el.specs.Derivability.{Derives}
use Rattle.el.proofs.Derivations.{◌▹◌}
use Rattle.marks.specs.Lines.{Empty}
use Rattle.outline.specs.declared.Outline.{Outline}
use Rattle.outline.specs.Atoms.{owner_at, Shape}
use Rattle.points.specs.Grids.{most_roots, SetIn, Adds}
use Rattle.question.specs.Evaluation.{KeptRow, root_point, atom_in, Sifted}
use Rattle.question.proofs.OwnAtoms.{below_own_atom, below_own_atoms}

pub sifted_none : {c : ℕ} {t : Terminology} {point : ℕ → Concept} {e : ℕ} {l : List ℕ} {o : Outline} {Done : ℕ → Type 0}
    → Empty l → ((i : ℕ) → i < o.extent.atoms → Done i → ⊥)
    → Sifted c t point e l o Done
sifted_none empty none = record { lost = λ j x h m k q. empty.none _ k; kept = λ i x h done m k. absurd (none i h done) }

-- atom i, where This holds; the row may lose places behind the points too
module _ {c : ℕ} {t : Terminology} {point : ℕ → Concept} {e f : ℕ} (few : e ≤ f) (wide : f ≤ c) {n : ℕ} {o : Outline} (shape : Shape n o) {i : ℕ} (h : i < o.extent.atoms)
    {This : Type 0} {Below Old New : ℕ → Type 0} (sound : This → (x : ℕ) → x < e → Below x → Derives t (point x) (atom_in o i))
    (complete : (x : ℕ) → x < e → Derives t (point x) (atom_in o i) → Below x) (step : (j : ℕ) → New j → Old j ⊎ ((j ≡ i) × This))
    {l v : List ℕ} (before : Sifted c t point e l o Old) (adds : Adds c (owner_at o.atoms i) f (λ x. Below x → ⊥) Below l v) where
  this_kept : This → (x : ℕ) → x < e → (SetIn c v (owner_at o.atoms i) x → ⊥) → Derives t (point x) (atom_in o i)
  this_kept this x m k = elim (adds.all x (omega arith)) [ inl z ↦ absurd (k z) | inr z ↦ sound this x m z ]

  pub sifted_more : Sifted c t point e v o New
  sifted_more = record {
    lost = λ j x small m k q. elim (adds.only j x (omega arith) k) [
      | inl z ↦ before.lost j x small m z q
      | inr z ↦ z.1.1 (complete x m ((rw z.0 at q) ▹ below_own_atom shape {t = t} i h))
    ];
    kept = λ j x inside done m k. elim (step j done) [
      | inl z ↦ before.kept j x inside z m (λ y. k (adds.old _ x y))
      | inr z ↦ rw z.0 (this_kept z.1 x m (rw z.0 at k))
    ];
  }

pub sifted_row : {c : ℕ} {t : Terminology} {point : ℕ → Concept} {e n : ℕ} {l : List ℕ} {o : Outline} {Done : ℕ → Type 0} → Shape n o → Sifted c t point e l o Done
    → (j : ℕ) → j < most_roots → ((i : ℕ) → i < o.extent.atoms → owner_at o.atoms i ≡ j → Done i) → KeptRow c t point e l j (root_point o j)
sifted_row {t = t} shape sifted j small done = record {
  lost = λ x m k q. sifted.lost j x small m k q;
  kept = λ x m k. below_own_atoms shape {t = t} j (λ i h own. sifted.kept i x h (done i h own) m (λ y. k (rw own at y)));
}
