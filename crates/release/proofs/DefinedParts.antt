-- The search for a conjunct that is itself a left name of kind 2: that what it reads is there, and what it tells of the names.
use mathlib.Core.Path.{◌≡◌, subst}
use mathlib.Core.Bool.{Bool, true, false}
use mathlib.Core.List.{List}
use Prim.Native.Nat.{ℕ, ◌<◌}
use native.Mathlib.Omega.{arith}
use lib.ListN.{length, get_or}
use Rattle.std.specs.Prelude.{MatchBool}
use Rattle.std.specs.List.{HoldsAt, AllWithin, range_with_len}
use Rattle.std.proofs.lemmas.List.FromFn.{length-range_with_len, get_or-range_with_len}
use Rattle.el.proofs.Tests.{Tells, always, never}
use Rattle.release.specs.Files.{joins, width_of}
use Rattle.release.specs.Tables.{kind_at, count_at, HasRow, HasCount, HasPart, Shaped, Conjunctive, PartDefined, SomePartDefined}
use Rattle.release.specs.declared.table.Table.{Table}
use Rattle.release.proofs.Numbers.{step_within}

pub has_row : (n : ℕ) (s : List ℕ) (t : Table) (x : ℕ) → Shaped n s t → x < n → HasRow x
has_row n s t x h l = record { row = omega (arith, h.rows) }

module _ (n : ℕ) (s : List ℕ) (t : Table) (x : ℕ) (h : Conjunctive n s t x) where
  pub has_count : HasCount s t x
  has_count = record { row = (has_row n s t x h.shaped h.is_name).row; inside = omega (arith, h.shaped.inside x h.is_name h.is_conjunctive) }

  pub has_part : (i : ℕ) → i < count_at s t x → HasPart s t x i
  has_part i l = record {
    version = h.shaped.version;
    row = (has_row n s t x h.shaped h.is_name).row;
    inside = omega (arith, step_within (width_of s) i (count_at s t x) l, h.shaped.inside x h.is_name h.is_conjunctive);
  }

-- the name x has such a conjunct
abbrev pub HasPartDefined : List ℕ → Table → ℕ → Type 0
HasPartDefined s t x = joins (kind_at t x) ≡ true × PartDefined s t x

-- the names asked one after the other by `any`
module _ {n : ℕ} {s : List ℕ} {t : Table} where
  pub some_told : (r : Bool) → MatchBool r ((k : ℕ) × (k < length (range_with_len 0 n)) × HoldsAt (HasPartDefined s t) (range_with_len 0 n) k)
      (AllWithin (λ x. HasPartDefined s t x → ⊥) (range_with_len 0 n) 0 (length (range_with_len 0 n))) → Tells r (SomePartDefined n s t)
  some_told true h =
      let below : h.0 < n = omega (arith, h.1, length-range_with_len 0 n) in
      let at : get_or (range_with_len 0 n) h.0 0 ≡ h.0 = omega (arith, get_or-range_with_len 0 n h.0 0 below) in
      let here : HasPartDefined s t h.0 = subst (HasPartDefined s t) at (h.2 0) in
      always (record { left = h.0; is_name = below; is_conjunctive = here.0; part = here.1 })
  some_told false h = never (λ z.
      let at : z.left ≡ get_or (range_with_len 0 n) z.left 0 = omega (arith, get_or-range_with_len 0 n z.left 0 z.is_name) in
      h z.left 0 (omega arith) (omega (arith, z.is_name, length-range_with_len 0 n)) (subst (HasPartDefined s t) at (z.is_conjunctive, z.part)))
