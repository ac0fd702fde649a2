-- What the constructor of a text shows: the byte that it is, and how many bytes are left after it.
--   Splits w k s t     s is the constructor k, its name of w bytes, and then t, said without reading
--   splits             what is split off is that
--   same_split         a text is split in one way
--   Lengths w k s t    what is left is shorter, also where the concepts after the constructor are counted, or the atoms that it makes
use mathlib.Core.Path.{◌≡◌, refl, sym, ap, ◌∙◌}
use mathlib.Core.Bool.{Bool, true, false}
use mathlib.Core.List.{List, [], ◌∷◌}
use Prim.Native.Nat.{ℕ, zero, suc, ◌+◌, ◌*◌, ◌≤◌, ◌<◌}
use native.Mathlib.Omega.{arith}
use borrow.Author.Tests.{leb-true, le-leb}
use lib.Dec.{leb}
use lib.ListN.{length, drop, length-drop}
use Rattle.std.specs.Prelude.{None}
use Rattle.el.specs.Lists.{pick}
use Rattle.el.specs.Concepts.{Concept}
use Rattle.concept.specs.Bytes.{number, Spelled, is_top, is_name, is_both, is_some}
use Rattle.outline.specs.declared.Constructor.{Constructor}
use Rattle.outline.specs.declared.Constructor.TheVariants.{Top, Name, Conjunction, Restriction}
use Rattle.outline.specs.Constructors.{arity, atoms_of, found, split}

pub name_split : (w : ℕ) (s : List ℕ) → w ≤ length s → split w (1 ∷ s) ≡ found (Name (number w s)) (drop w s)
name_split w s long = rw (le-leb w (length s) long) refl

-- a concept's text begins with one
pub record Begun (w : ℕ) (s : List ℕ) : Type 0 where
  pub first : Constructor
  pub after : List ℕ
  pub is : split w s ≡ found first after

pub begun : {w : ℕ} {c : Concept} {s t : List ℕ} → Spelled w c s t → Begun w s
begun (is_top {t = u}) = record { first = Top; after = u; is = refl }
begun {w} (is_name {s = u} long is after) = record { first = Name (number w u); after = drop w u; is = name_split w u long }
begun (is_both {s = u} one_half other_half) = record { first = Conjunction; after = u; is = refl }
begun (is_some {r = r} {s = u} filler) = record { first = Restriction (record { 0 = r }); after = u; is = refl }

pub data Splits (w : ℕ) : Constructor → List ℕ → List ℕ → Type 0 where
  at_top : {t : List ℕ} → Splits w Top (0 ∷ t) t
  at_name : {s : List ℕ} → w ≤ length s → Splits w (Name (number w s)) (1 ∷ s) (drop w s)
  at_both : {t : List ℕ} → Splits w Conjunction (2 ∷ t) t
  at_some : {r : ℕ} {t : List ℕ} → Splits w (Restriction (record { 0 = r })) (3 ∷ (r ∷ t)) t

pub record SameSplit (k j : Constructor) (t u : List ℕ) : Type 0 where
  pub first : k ≡ j
  pub rest : t ≡ u

pub no_split : {k : Constructor} {t : List ℕ} → None ≡ found k t → ⊥
no_split e = let z : ◌≡◌ {A = ℕ} 0 1 = cc in omega arith

same_parts : {k j : Constructor} {t u : List ℕ} → found k t ≡ found j u → SameSplit k j t u
same_parts {k} {j} {t} {u} e =
    let z : ◌≡◌ {A = Constructor × List ℕ} (k, t) (j, u) = cc in
    record { first = ap (λ (p : Constructor × List ℕ). p.0) z; rest = ap (λ (p : Constructor × List ℕ). p.1) z }

pub same_split : (w : ℕ) (s : List ℕ) {t u : List ℕ} {k j : Constructor} → split w s ≡ found k t → split w s ≡ found j u → SameSplit k j t u
same_split w s e f = same_parts (sym e ∙ f)

module _ {w : ℕ} where
  name_splits : {s t : List ℕ} {k : Constructor} (b : Bool) → leb w (length s) ≡ b → pick b (found (Name (number w s)) (drop w s)) None ≡ found k t → Splits w k (1 ∷ s) t
  name_splits true h e = let same = same_parts e in rw (← same.first, ← same.rest) (at_name (leb-true _ _ h))
  name_splits false h e = absurd (no_split e)

  pub splits : (s : List ℕ) {t : List ℕ} {k : Constructor} → split w s ≡ found k t → Splits w k s t
  splits [] e = absurd (no_split e)
  splits (zero ∷ s) e = let same = same_parts e in rw (← same.first, ← same.rest) at_top
  splits (suc zero ∷ s) e = name_splits (leb w (length s)) refl e
  splits (suc (suc zero) ∷ s) e = let same = same_parts e in rw (← same.first, ← same.rest) at_both
  splits (suc (suc (suc zero)) ∷ []) e = absurd (no_split e)
  splits (suc (suc (suc zero)) ∷ (r ∷ s)) e = let same = same_parts e in rw (← same.first, ← same.rest) at_some
  splits (suc (suc (suc (suc b))) ∷ s) e = absurd (no_split e)

pub record Lengths (w : ℕ) (k : Constructor) (s t : List ℕ) : Type 0 where
  pub shorter : length t < length s
  pub concepts : arity k + length t ≤ length s + 1
  pub atoms : 1 ≤ w → 2 * atoms_of k + length t ≤ length s

pub lengths : {w : ℕ} {k : Constructor} {s t : List ℕ} → Splits w k s t → Lengths w k s t
lengths at_top = record { shorter = omega arith; concepts = omega arith; atoms = λ h. omega arith }
lengths {w} (at_name {s = s} long) = record { shorter = omega (arith, length-drop w s); concepts = omega (arith, length-drop w s); atoms = λ h. omega (arith, length-drop w s) }
lengths at_both = record { shorter = omega arith; concepts = omega arith; atoms = λ h. omega arith }
lengths at_some = record { shorter = omega arith; concepts = omega arith; atoms = λ h. omega arith }
