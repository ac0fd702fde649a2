-- The roots that a row loses: what its loops keep, and one law for each turn.
--   other_role, by_root     whether an ∃ of C lies below one of D
--   same_atom               an atom of a loop over the atoms that are written
--   reaching_..             the line of the roots of which an atom reaches, atom by atom
--   lost_outside            the row that lost the roots outside that line
use mathlib.Core.Path.{◌≡◌, sym, ap, ◌∙◌}
use mathlib.Core.List.{List}
use mathlib.Core.Logic.{inl, inr}
use mathlib.Core.Bool.{Bool, true, false}
use Prim.Native.Nat.{ℕ, ◌+◌, ◌≤◌, ◌<◌}
use native.Mathlib.Omega.{arith}
use native.Mathlib.Decide.{ℕ_discrete}
use lib.ListN.{length, get_or, take}
use lib.Seq.{get_or-take, length-take-le}
use Rattle.std.specs.Prelude.{not}
use Rattle.el.proofs.Tests.{Tells, never, not_both, tells_as, tells_not}
use Rattle.release.specs.Tables.{serves_at}
use Rattle.release.specs.declared.RoleIndex.{RoleIndex}
use Rattle.marks.specs.Lines.{Has, Added}
use Rattle.marks.proofs.Squares.{refuted}
use Rattle.outline.specs.declared.Atom.{Atom}
use Rattle.outline.specs.declared.Conjunct.TheVariants as conjunct
use Rattle.outline.specs.declared.Outline.{Outline}
use Rattle.outline.specs.Atoms.{Rooted, blank, atom_at, owner_at}
use Rattle.points.specs.declared.Pairs.{Pairs}
use Rattle.points.specs.declared.Classified.{Classified}
use Rattle.points.specs.declared.Restriction.{Restriction}
use Rattle.points.specs.Above.{table_in}
use Rattle.points.specs.Grids.{Pair, most_roots, Adds}
use Rattle.points.specs.Roots.{AtomReaches, name_reaches, some_reaches, RootReaches, Reaching, LostNotReaching}
use Rattle.points.proofs.Grids.{adds_as}
use Rattle.points.proofs.Raising.{has_root}

-- whether an ∃ of C lies below one of D
module _ {g : Classified} {e : Atom} {role : RoleIndex} {k : ℕ} (is : e.conjunct ≡ conjunct.Restriction role k) (rooted : Rooted e) {i : List ℕ} {l : Pairs} {r j : ℕ} where
  pub other_role : serves_at (table_in g) role.0 r ≡ false → Tells false (AtomReaches g e i l r j)
  other_role missed = never by_form
    where
      by_form : AtomReaches g e i l r j → ⊥
      by_form (name_reaches c m) = omega (arith, has_root e is rooted)
      by_form (some_reaches c s m) = not_both (rw is at s) missed

  pub by_root : {z : Bool} → serves_at (table_in g) role.0 r ≡ true → Tells z (Pair l j k) → Tells (not z) (AtomReaches g e i l r j)
  by_root serves tells = tells_as (λ kept. some_reaches (has_root e is rooted) (rw is serves) (rw is kept)) by_form (tells_not tells)
    where
      by_form : AtomReaches g e i l r j → Pair l j k → ⊥
      by_form (name_reaches c m) = absurd (omega (arith, has_root e is rooted))
      by_form (some_reaches c s m) = rw is at m

-- an atom of a loop over the atoms that are written
pub same_atom : (o : Outline) {s : List Atom} {i : ℕ} → o.extent.atoms ≤ length o.atoms → s ≡ take o.extent.atoms o.atoms → i < length s
    → (i < o.extent.atoms) × (get_or s i blank ≡ atom_at o.atoms i)
same_atom o {s} {i} inside is h =
    let there : i < o.extent.atoms = omega (arith, h, ap length is, length-take-le o.extent.atoms o.atoms inside) in
    (there, rw is (get_or-take _ _ i blank there))

module _ {g : Classified} {o : Outline} {i : List ℕ} {l : Pairs} {r j e : ℕ} {v : List ℕ} (before : Reaching g o e i l r j v) {x : Atom} (is : x ≡ atom_at o.atoms e) where
  pub reaching_not : {z : Bool} → Tells z (AtomReaches g x i l r j) → z ≡ false → Reaching g o (e + 1) i l r j v
  reaching_not tells z = record { long = before.long; sound = before.sound; complete = λ a h m. by_place a h m (ℕ_discrete a e) }
    where
      by_place : (a : ℕ) → a < e + 1 → AtomReaches g (atom_at o.atoms a) i l r j → Dec (a ≡ e) → Has v (owner_at o.atoms a)
      by_place a h m (yes y) = absurd (refuted tells z (rw (y, ← is) at m))
      by_place a h m (no y) = before.complete a (omega arith) m

  pub reaching_more : {u : List ℕ} {z : Bool} → e < o.extent.atoms → Tells z (AtomReaches g x i l r j) → z ≡ true → Added x.owner v u → Reaching g o (e + 1) i l r j u
  reaching_more {u} inside tells z added = record {
    long = omega (arith, before.long, added.long);
    sound = λ b h. elim (added.only b h) [
      | inl y ↦ before.sound b y
      | inr y ↦ record { by = e; is_atom = inside; owner = sym own ∙ sym y; reaches = rw (← is) (tells.sound z) }
    ];
    complete = λ a h m. by_place a h m (ℕ_discrete a e);
  }
    where
      own : x.owner ≡ owner_at o.atoms e
      own = ap (λ (a : Atom). a.owner) is

      by_place : (a : ℕ) → a < e + 1 → AtomReaches g (atom_at o.atoms a) i l r j → Dec (a ≡ e) → Has u (owner_at o.atoms a)
      by_place a h m (yes y) = rw (y, ← own) added.there
      by_place a h m (no y) = added.stays _ (before.complete a (omega arith) m)

-- the line of all atoms, and the row that lost what is outside
pub lost_outside : {g : Classified} {o : Outline} {x : Restriction} {row : ℕ} {l m : Pairs} {v : List ℕ} → Reaching g o o.extent.atoms x.idle.now l x.role.0 x.root v
    → Adds most_roots row most_roots (λ k. Has v k → ⊥) (Has v) l.rows m.rows → LostNotReaching g o row x l m
lost_outside {g} {o} {x} {row} {l} {m} {v} reaching adds = record { adds = adds_as (λ k n h. n (back k h)) (λ k h. reaching.sound k h) adds }
  where
    back : (k : ℕ) → RootReaches g o x.idle.now l k x.role.0 x.root → Has v k
    back k h = rw h.owner at (reaching.complete h.by h.is_atom h.reaches)
