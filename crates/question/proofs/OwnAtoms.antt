-- A root of an outline and its own atoms, each with the whole of its filler.
--   below_own_atom, below_own_atoms     a root lies below each of its atoms; what lies below each of them lies below the root
--   some_atom_below                     a root lies below ∃r.d only where one of its atoms does
--   child_later                         the atoms of an ∃'s filler come after it
use mathlib.Core.Path.{◌≡◌, refl, sym, ap, ◌∙◌}
use mathlib.Core.Logic.{inl, inr}
use mathlib.Core.List.{List}
use Prim.Native.Nat.{ℕ, zero, suc, ◌+◌, ◌-◌, ◌≤◌, ◌<◌}
use native.Mathlib.Omega.{arith}
use native.Mathlib.Decide.{ℕ_discrete, dec_lt}
use Rattle.el.specs.Concepts.{Concept, some}
use Rattle.el.specs.Axioms.{Terminology}
use Rattle.el.specs.Derivability.{Derives, same, to_top, one, other, meet}
use Rattle.el.specs.Terminologies.{Normalised}
use Rattle.el.proofs.Derivations.{◌▹◌}
use Rattle.el.proofs.Terminologies.{top_below_some, both_below_some}
use Rattle.outline.specs.declared.Atom.{Atom}
use Rattle.outline.specs.declared.Outline.{Outline}
use Rattle.outline.specs.Atoms.{value_at, owner_at, child_at, atoms_from, atom_concept, root_of, Shape}
use Rattle.outline.proofs.Atoms.{root_own, root_other, root_none}
use Rattle.question.specs.Evaluation.{root_point, atom_in}

-- the concept of atom i, of the atoms before `end`
abbrev pub atom_up_to : List Atom → ℕ → ℕ → Concept
atom_up_to o end i = atom_concept (child_at o i) (value_at o i) (root_of (atoms_from o (suc i) (end - suc i)) (child_at o i))

-- atoms of other roots before do not matter
root_skips : (o : List Atom) (k j m left : ℕ) → ((i : ℕ) → i < j + m → owner_at o i ≡ k → ⊥) → root_of (atoms_from o j (m + left)) k ≡ root_of (atoms_from o (j + m) left) k
root_skips o k j zero left apart =
    let z : j + 0 ≡ j = omega arith in
    let y : 0 + left ≡ left = omega arith in
    rw (z, y)
root_skips o k j (suc m) left apart =
    let z : suc j + m ≡ j + suc m = omega arith in
    let y : suc m + left ≡ suc (m + left) = omega arith in
    rw y (root_other o j (m + left) k (apart j (omega arith)) ∙ (root_skips o k (suc j) m left (λ i h. apart i (omega arith)) ∙ rw z))

-- an atom of root k below ∃r.d, among those from j on
pub record SomeAtom (t : Terminology) (o : List Atom) (j left k r : ℕ) (d : Concept) : Type 0 where
  pub at : ℕ
  pub from : j ≤ at
  pub inside : at < j + left
  pub owner : owner_at o at ≡ k
  pub below : Derives t (atom_up_to o (j + left) at) (some r d)

module _ {t : Terminology} (o : List Atom) where
  root_longer : (j left k : ℕ) → Derives t (root_of (atoms_from o j (suc left)) k) (root_of (atoms_from o (suc j) left) k)
  root_longer j left k = by_owner (ℕ_discrete (owner_at o j) k)
    where
      by_owner : Dec (owner_at o j ≡ k) → Derives t (root_of (atoms_from o j (suc left)) k) (root_of (atoms_from o (suc j) left) k)
      by_owner (yes e) = rw (root_own o j left k e) other
      by_owner (no e) = rw (root_other o j left k e) same

  own_atom : (j left i : ℕ) → j ≤ i → i < j + left → Derives t (root_of (atoms_from o j left) (owner_at o i)) (atom_up_to o (j + left) i)
  own_atom j zero i h l = absurd (omega arith)
  own_atom j (suc left) i h l = by_place (ℕ_discrete j i) (λ h l. own_atom (suc j) left i h l)
    where
      by_place : Dec (j ≡ i) → (suc j ≤ i → i < suc j + left → Derives t (root_of (atoms_from o (suc j) left) (owner_at o i)) (atom_up_to o (suc j + left) i))
          → Derives t (root_of (atoms_from o j (suc left)) (owner_at o i)) (atom_up_to o (j + suc left) i)
      by_place (yes e) f =
          let z : j + suc left - suc j ≡ left = omega arith in
          rw (← e, z, root_own o j left (owner_at o j) refl) one
      by_place (no e) f =
          let z : suc j + left ≡ j + suc left = omega arith in
          root_longer j left (owner_at o i) ▹ rw z at (f (omega arith) (omega arith))

  -- what lies below each atom of a root lies below the root
  below_all : (j left k : ℕ) {c : Concept} → ((i : ℕ) → j ≤ i → i < j + left → owner_at o i ≡ k → Derives t c (atom_up_to o (j + left) i))
      → Derives t c (root_of (atoms_from o j left) k)
  below_all j zero k f = rw (root_none o j k) to_top
  below_all j (suc left) k {c} f = by_owner (ℕ_discrete (owner_at o j) k) (below_all (suc j) left k further)
    where
      further : (i : ℕ) → suc j ≤ i → i < suc j + left → owner_at o i ≡ k → Derives t c (atom_up_to o (suc j + left) i)
      further i h l e =
          let z : suc j + left ≡ j + suc left = omega arith in
          rw z (f i (omega arith) (omega arith) e)

      by_owner : Dec (owner_at o j ≡ k) → Derives t c (root_of (atoms_from o (suc j) left) k) → Derives t c (root_of (atoms_from o j (suc left)) k)
      by_owner (yes e) p =
          let z : j + suc left - suc j ≡ left = omega arith in
          rw (root_own o j left k e) (meet (rw z at (f j (omega arith) (omega arith) e)) p)
      by_owner (no e) p = rw (root_other o j left k e) p

  pub some_atom_below : Normalised t → (j left k r : ℕ) (d : Concept) → Derives t (root_of (atoms_from o j left) k) (some r d) → SomeAtom t o j left k r d
  some_atom_below terms j zero k r d p = absurd (top_below_some terms (rw (root_none o j k) at p))
  some_atom_below terms j (suc left) k r d p = by_owner (ℕ_discrete (owner_at o j) k) (λ z. further (some_atom_below terms (suc j) left k r d z))
    where
      further : SomeAtom t o (suc j) left k r d → SomeAtom t o j (suc left) k r d
      further s =
          let z : suc j + left ≡ j + suc left = omega arith in
          record { at = s.at; from = omega (arith, s.from); inside = omega (arith, s.inside); owner = s.owner; below = rw z at s.below }

      by_owner : Dec (owner_at o j ≡ k) → (Derives t (root_of (atoms_from o (suc j) left) k) (some r d) → SomeAtom t o j (suc left) k r d) → SomeAtom t o j (suc left) k r d
      by_owner (yes e) f = elim ((both_below_some terms).0 (rw (root_own o j left k e) at p)) [
        | inl x ↦ (
            let z : j + suc left - suc j ≡ left = omega arith in
            record { at = j; from = omega arith; inside = omega arith; owner = e; below = rw z x })
        | inr x ↦ f x
      ]
      by_owner (no e) f = f (rw (root_other o j left k e) at p)

module _ {n : ℕ} {o : Outline} (shape : Shape n o) where
  -- the filler of an ∃ is the whole root
  child_whole : (i : ℕ) → i < o.extent.atoms → 0 < child_at o.atoms i → root_of (atoms_from o.atoms (suc i) (o.extent.atoms - suc i)) (child_at o.atoms i) ≡ root_point o (child_at o.atoms i)
  child_whole i h c =
      let z : suc i + (o.extent.atoms - suc i) ≡ o.extent.atoms = omega arith in
      let y : 0 + suc i ≡ suc i = omega arith in
      sym (rw (z, y) at (root_skips o.atoms (child_at o.atoms i) 0 (suc i) (o.extent.atoms - suc i) (λ j l e. omega (arith, shape.later i j h (omega arith) c))))

  pub atom_whole : (i : ℕ) → i < o.extent.atoms → atom_up_to o.atoms o.extent.atoms i ≡ atom_in o i
  atom_whole i h = by_child (ℕ_discrete (child_at o.atoms i) 0)
    where
      by_child : Dec (child_at o.atoms i ≡ 0) → atom_up_to o.atoms o.extent.atoms i ≡ atom_in o i
      by_child (yes e) = rw e
      by_child (no e) = ap (atom_concept (child_at o.atoms i) (value_at o.atoms i)) (child_whole i h (omega arith))

  pub below_own_atom : {t : Terminology} (i : ℕ) → i < o.extent.atoms
      → Derives t (root_point o (owner_at o.atoms i)) (atom_in o i)
  below_own_atom {t} i h =
      let z : 0 + o.extent.atoms ≡ o.extent.atoms = omega arith in
      rw (z, atom_whole i h) at (own_atom {t = t} o.atoms 0 o.extent.atoms i (omega arith) (omega arith))

  pub below_own_atoms : {t : Terminology} (k : ℕ) {c : Concept} → ((i : ℕ) → i < o.extent.atoms → owner_at o.atoms i ≡ k → Derives t c (atom_in o i)) → Derives t c (root_point o k)
  below_own_atoms {t} k {c} f =
      let z : 0 + o.extent.atoms ≡ o.extent.atoms = omega arith in
      below_all {t = t} o.atoms 0 o.extent.atoms k (λ i h l e. let inside : i < o.extent.atoms = omega arith in rw (z, atom_whole i inside) (f i inside e))

  -- the atoms of an ∃'s filler come after it
  pub child_later : (i : ℕ) → i < o.extent.atoms → 0 < child_at o.atoms i → (j : ℕ) → owner_at o.atoms j ≡ child_at o.atoms i → i < j
  child_later i h c j e = by_place (dec_lt i j)
    where
      by_place : Dec (i < j) → i < j
      by_place (yes l) = l
      by_place (no l) = absurd (omega (arith, shape.later i j h (omega arith) c))
