-- Searches through the conjuncts of a name, and through the names: what is known of those that were passed.
--   to_walk, part_inside                     the conjuncts of a name, each of which is a name
--   NoneBefore, none_start, none_more        no conjunct so far;  part_found, no_part_found: the answers
--   BestBefore, best_more, best_stays, best_found     the best conjunct so far
--   NoName                                   no name so far
use mathlib.Core.Path.{◌≡◌, refl, sym}
use mathlib.Core.Bool.{true, false≢true}
use mathlib.Core.List.{List}
use Rattle.std.specs.Prelude.{Option, Some, None, is_some}
use Prim.Native.Nat.{ℕ, ◌+◌, ◌<◌}
use native.Mathlib.Omega.{arith}
use native.Mathlib.Decide.{ℕ_discrete}
use Rattle.release.specs.Tables.{kind_at, count_at, part_at, Shaped}
use Rattle.release.specs.Parts.{HasParts}
use Rattle.release.proofs.PartWalks.{has_parts}
use Rattle.layout.specs.declared.Given.{Given}
use Rattle.witness_below.specs.Finding.{PartIs, NoPart, PartFound, LostName}
use Rattle.release.specs.declared.table.Table.{Table}

-- a walk of the conjuncts
module _ {n x : ℕ} {s : List ℕ} {t : Table} (shaped : Shaped n s t) (x_in : x < n) (kind : kind_at t x ≡ 2) where
  pub to_walk : HasParts s t x
  to_walk = has_parts (record { shaped = shaped; is_name = x_in; is_conjunctive = rw kind refl })

  pub part_inside : {i p : ℕ} → i < count_at s t x → p ≡ part_at s t x i → p < n
  part_inside {i} h e = rw e (shaped.part x i x_in (rw kind refl) h)

-- conjuncts
pub record NoneBefore (s : List ℕ) (t : Table) (z : ℕ) (D : ℕ → Type 0) (i : ℕ) : Type 0 where
  pub none : (j : ℕ) → j < i → D (part_at s t z j) → ⊥

module _ {s : List ℕ} {t : Table} {z : ℕ} {D : ℕ → Type 0} where
  pub none_start : NoneBefore s t z D 0
  none_start = record { none = λ j h. absurd (omega arith) }

  pub none_more : {i p : ℕ} → NoneBefore s t z D i → p ≡ part_at s t z i → (D p → ⊥) → NoneBefore s t z D (i + 1)
  none_more {i} {p} before e k = record { none = λ j h d. elim (ℕ_discrete j i) [ yes q ↦ k (rw e (rw q at d)) | no q ↦ before.none j (omega arith) d ] }

  pub no_part_found : NoneBefore s t z D (count_at s t z) → NoPart s t z D
  no_part_found before = record { none = before.none }

  pub part_found : {n i p : ℕ} → i < count_at s t z → p ≡ part_at s t z i → p < n → D p → PartIs s t n z D p
  part_found {i = i} h e small d = record { part = record { at = i; inside = h; is = sym e }; is_name = small; holds = d }

-- the best conjunct so far
pub data BestBefore (s : List ℕ) (t : Table) (n z : ℕ) (D : ℕ → Type 0) (i : ℕ) : Option ℕ → Type 0 where
  best_none : NoneBefore s t z D i → BestBefore s t n z D i None
  best_is : {p : ℕ} → PartIs s t n z D p → BestBefore s t n z D i (Some p)

module _ {s : List ℕ} {t : Table} {n z : ℕ} {D : ℕ → Type 0} where
  -- one more that is not better, or is not looked at
  pub best_more : {i p : ℕ} {r : Option ℕ} → BestBefore s t n z D i r → p ≡ part_at s t z i → (D p → ⊥) → BestBefore s t n z D (i + 1) r
  best_more (best_none before) e k = best_none (none_more before e k)
  best_more (best_is found) e k = best_is found

  pub best_stays : {i : ℕ} {r : Option ℕ} → BestBefore s t n z D i r → is_some r ≡ true → BestBefore s t n z D (i + 1) r
  best_stays (best_none before) e = absurd (false≢true e)
  best_stays (best_is found) e = best_is found

  pub best_found : {r : Option ℕ} → BestBefore s t n z D (count_at s t z) r → PartFound s t n z D r
  best_found (best_none before) = no_part_found before
  best_found (best_is found) = found

-- names
pub record NoName (given : Given) (w : List ℕ) (x y i : ℕ) : Type 0 where
  pub none : (b : ℕ) → b < i → LostName given w x y b → ⊥
