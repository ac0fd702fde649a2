-- The names that a row gains: what its loop keeps, and one law for each turn. Whether an atom lies below a name stays as it was while the row of
-- its owner gains names, since only the row of its child is read.
--   other_role, by_filler     whether an ∃ lies below a name that is defined by one
--   raise_..                  the turns
use mathlib.Core.Path.{◌≡◌, ap}
use mathlib.Core.Bool.{Bool, true, false}
use Prim.Native.Nat.{ℕ, ◌+◌, ◌<◌}
use native.Mathlib.Omega.{arith}
use Rattle.el.proofs.Tests.{Tells, never, not_both, tells_as}
use Rattle.release.specs.Files.{joins, restricts}
use Rattle.release.specs.Tables.{kind_at, role_at, filler_at, serves_at}
use Rattle.release.specs.declared.RoleIndex.{RoleIndex}
use Rattle.marks.specs.Lines.{Added}
use Rattle.marks.proofs.Squares.{refuted}
use Rattle.outline.specs.declared.Atom.{Atom}
use Rattle.outline.specs.declared.Conjunct.TheVariants.{Restriction}
use Rattle.outline.specs.Atoms.{Rooted, number_in, child_number}
use Rattle.points.specs.declared.Grid.{Grid}
use Rattle.points.specs.declared.Classified.{Classified}
use Rattle.points.specs.Grids.{most_nodes, cell, Set, Adds}
use Rattle.points.specs.Above.{table_in, Ranges, RootBelow, top_above, parts_above, name_above, AtomBelow, name_below, some_below, OfAtom}
use Rattle.points.proofs.Grids.{adds_more, adds_skipped, adds_row}

pub kind_2_joins : {k : ℕ} → k ≡ 2 → joins k ≡ true
kind_2_joins e = rw e

pub kind_4_restricts : {k : ℕ} → k ≡ 4 → restricts k ≡ true
kind_4_restricts e = rw e

-- the root of an ∃ is not the whole concept
pub has_root : (b : Atom) {role : RoleIndex} {k : ℕ} → b.conjunct ≡ Restriction role k → Rooted b → 0 < child_number b
has_root b {k = k} is rooted = let z : 0 < k = rw is at rooted in omega (arith, ap number_in is)

-- whether an ∃ lies below a name that is defined by one
module _ {g : Classified} {b : Atom} {role : RoleIndex} {k : ℕ} (is : b.conjunct ≡ Restriction role k) (rooted : Rooted b) {a : Grid} {y : ℕ} where
  pub other_role : serves_at (table_in g) role.0 (role_at (table_in g) y) ≡ false → Tells false (AtomBelow g b a y)
  other_role missed = never by_form
    where
      by_form : AtomBelow g b a y → ⊥
      by_form (name_below z c m) = omega (arith, has_root b is rooted)
      by_form (some_below z c r m) = not_both (rw is at r) missed

  pub by_filler : {t : Bool} → kind_at (table_in g) y ≡ 4 → serves_at (table_in g) role.0 (role_at (table_in g) y) ≡ true → Tells t (RootBelow g a k (filler_at (table_in g) y))
      → Tells t (AtomBelow g b a y)
  by_filler filled serves tells = tells_as (λ m. some_below filled (has_root b is rooted) (rw is serves) (rw is m)) by_form tells
    where
      by_form : AtomBelow g b a y → RootBelow g a k (filler_at (table_in g) y)
      by_form (name_below z c m) = absurd (omega (arith, has_root b is rooted))
      by_form (some_below z c r m) = rw is at m

-- the same by another grid with the same row
pub same_row : {g : Classified} {a b : Grid} {k y : ℕ} → Ranges g → ((z : ℕ) → z < most_nodes → Set a k z → Set b k z) → RootBelow g a k y → RootBelow g b k y
same_row ranges f (top_above e) = top_above e
same_row {y = y} ranges f (parts_above h e p) = parts_above h e (record { each = λ i l. f _ (omega (arith, ranges.few, ranges.shaped.part y i h (kind_2_joins e) l)) (p.each i l) })
same_row ranges f (name_above h e m) = name_above h e (f _ (omega (arith, ranges.few)) m)

-- raising an atom changes the row of its owner only, and reads that of its child
module _ {g : Classified} {c : Atom} (given : OfAtom g c) {a : Grid} {P Q : ℕ → Type 0} {e : ℕ} {b : Grid} (adds : Adds most_nodes c.owner e P Q a.rows b.rows) where
  as_before : {y : ℕ} → AtomBelow g c b y → AtomBelow g c a y
  as_before (name_below z k m) = name_below z k m
  as_before (some_below z k r m) = some_below z k r (same_row given.ranges (λ x h. adds_row adds _ x (λ same. omega (arith, given.atom.later k)) h) m)

  as_after : {y : ℕ} → AtomBelow g c a y → AtomBelow g c b y
  as_after (name_below z k m) = name_below z k m
  as_after (some_below z k r m) = some_below z k r (same_row given.ranges (λ x h k. adds.old _ x k) m)

  pub tells_before : {r : Bool} {y : ℕ} → Tells r (AtomBelow g c b y) → Tells r (AtomBelow g c a y)
  tells_before tells = tells_as as_before as_after tells

-- the turns
module _ {g : Classified} {c : Atom} (given : OfAtom g c) {a : Grid} {e : ℕ} {b : Grid}
    (adds : Adds most_nodes c.owner e (AtomBelow g c a) (λ y. AtomBelow g c a y → ⊥) a.rows b.rows) {r : Bool} (tells : Tells r (AtomBelow g c b e)) where
  pub raise_sets : {v : Grid} (row : ℕ) → row ≡ c.owner → e < g.square.names → r ≡ true → Added (cell most_nodes row e) b.rows v.rows
      → Adds most_nodes c.owner (e + 1) (AtomBelow g c a) (λ y. AtomBelow g c a y → ⊥) a.rows v.rows
  raise_sets row is h z added = adds_more adds ((tells_before given adds tells).sound z) (omega (arith, given.ranges.few)) (rw is at added)

  pub raise_skips : r ≡ false → Adds most_nodes c.owner (e + 1) (AtomBelow g c a) (λ y. AtomBelow g c a y → ⊥) a.rows b.rows
  raise_skips z = adds_skipped adds (refuted (tells_before given adds tells) z)
