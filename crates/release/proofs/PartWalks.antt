-- A walk of a name's conjuncts: the item is the conjunct at the walk's index, the index grows by one, and at the end it is the count.
--   begun, item, among, gone_on, ended     what a loop over the conjuncts keeps: at its start, at an item, behind it, at the end
use mathlib.Core.Path.{◌≡◌, sym, ap, ◌∙◌, subst}
use mathlib.Core.List.{List}
use Prim.Native.Nat.{ℕ, ◌+◌, ◌<◌}
use native.Mathlib.Omega.{arith}
use Rattle.std.specs.Prelude.{Some, None}
use Rattle.release.specs.Tables.{count_at, part_at, Conjunctive}
use Rattle.release.specs.Parts.{HasParts, PartsOf, SoFar, CanGive, PartGiven, part_of}
use Rattle.release.specs.declared.parts.Parts.{Parts}
use Rattle.release.specs.declared.table.Table.{Table}
use Rattle.release.proofs.DefinedParts.{has_row}

pub has_parts : {n : ℕ} {s : List ℕ} {t : Table} {x : ℕ} → Conjunctive n s t x → HasParts s t x
has_parts {n} {s} {t} {x} h = record { version = h.shaped.version; row = (has_row n s t x h.shaped h.is_name).row; inside = h.shaped.inside x h.is_name h.is_conjunctive }

module _ {s : List ℕ} {t : Table} {x : ℕ} where
  -- the walk itself, with its index i
  pub can_give : {i : ℕ} {p : Parts} → PartsOf s t x i p → CanGive p
  can_give h = record { inside = rw (h.first, h.version, h.count, h.file) h.inside }

  pub part_is : {i y : ℕ} {p q : Parts} → PartsOf s t x i p → PartGiven p (Some y) q → y ≡ part_at s t x i
  unfolding part_of part_at
  part_is h g = g.part ∙ rw (h.version, h.file, h.first, h.next)

  pub part_among : {i y : ℕ} {p q : Parts} → PartsOf s t x i p → PartGiven p (Some y) q → i < count_at s t x
  part_among h g = omega (arith, g.among, h.next, h.count)

  pub walk_on : {i y : ℕ} {p q : Parts} → PartsOf s t x i p → PartGiven p (Some y) q → PartsOf s t x (i + 1) q
  walk_on {i} h g = subst (PartsOf s t x (i + 1)) (sym g.goes_on) (record {
    file = h.file;
    version = h.version;
    first = h.first;
    count = h.count;
    next = ap (λ (k : ℕ). k + 1) h.next;
    few = omega (arith, part_among h g);
    inside = h.inside;
  })

  pub all_given : {i : ℕ} {p q : Parts} → PartsOf s t x i p → PartGiven p None q → i ≡ count_at s t x
  all_given h g = omega (arith, h.few, g.0, h.next, h.count)

  -- what a loop keeps of the conjuncts given so far
  pub begun : {P : ℕ → Type 0} {p q : Parts} → PartsOf s t x 0 p → q ≡ p → P 0 → SoFar s t x P q
  begun h e z = record { index = 0; walk = subst (PartsOf s t x 0) (sym e) h; kept = z }

  pub can_go_on : {P : ℕ → Type 0} {p : Parts} → SoFar s t x P p → CanGive p
  can_go_on h = can_give h.walk

  pub item : {P : ℕ → Type 0} {y : ℕ} {p q : Parts} → (h : SoFar s t x P p) → PartGiven p (Some y) q → y ≡ part_at s t x h.index
  item h g = part_is h.walk g

  pub among : {P : ℕ → Type 0} {y : ℕ} {p q : Parts} → (h : SoFar s t x P p) → PartGiven p (Some y) q → h.index < count_at s t x
  among h g = part_among h.walk g

  pub gone_on : {P Q : ℕ → Type 0} {y : ℕ} {p q : Parts} → (h : SoFar s t x P p) → PartGiven p (Some y) q → Q (h.index + 1) → SoFar s t x Q q
  gone_on h g z = record { index = h.index + 1; walk = walk_on h.walk g; kept = z }

  pub ended : {P : ℕ → Type 0} {p q : Parts} → SoFar s t x P p → PartGiven p None q → P (count_at s t x)
  ended {P} h g = subst P (all_given h.walk g) h.kept
