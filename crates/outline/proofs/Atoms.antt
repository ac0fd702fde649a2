-- Atoms in memory.
--   Written n k c o      c atoms are written, over the roots below k: their ranges and order
--   atoms_more           one atom more at the end
--   root_own, root_other     a root by its first atom, of its own or another root's
-- Not here: what the atoms mean (Roots).
use mathlib.Core.Path.{◌≡◌, refl, ap, ◌∙◌}
use mathlib.Core.List.{List, [], ◌∷◌, ◌++◌}
use Prim.Native.Nat.{ℕ, zero, suc, ◌+◌, ◌≤◌, ◌<◌}
use native.Mathlib.Numerals.{add-one}
use native.Mathlib.Omega.{arith}
use native.Mathlib.Decide.{ℕ_discrete}
use borrow.Author.Tests.{eq-eqb, ne_eqb}
use lib.ListN.{length, set}
use lib.Seq.{get_or-set_same, get_or-set_other}
use Rattle.el.specs.Concepts.{top, both}
use Rattle.outline.specs.declared.Atom.{Atom}
use Rattle.outline.specs.Atoms.{value_of, child_number, Rooted, value_at, owner_at, child_at, blank, atom_at, atoms_from, atom_concept, root_of}

-- an atom put
module _ (o : List Atom) (i : ℕ) (a : Atom) where
  put_there : i < length o → atom_at (set o i a) i ≡ a
  put_there h = get_or-set_same o i a blank h

  put_other : (j : ℕ) → j < i → atom_at (set o i a) j ≡ atom_at o j
  put_other j h = get_or-set_other o i j a blank (λ z. omega arith)

pub record Written (n k c : ℕ) (o : List Atom) : Type 0 where
  pub owner : (i : ℕ) → i < c → owner_at o i < k
  pub child : (i : ℕ) → i < c → child_at o i < k
  pub named : (i : ℕ) → i < c → child_at o i ≡ 0 → value_at o i < n
  pub rooted : (i : ℕ) → i < c → Rooted (atom_at o i)
  pub later : (i j : ℕ) → i < c → j ≤ i → 0 < child_at o i → owner_at o j < child_at o i

pub written_none : {n k : ℕ} {o : List Atom} → Written n k 0 o
written_none = record {
  owner = λ i h. absurd (omega arith);
  child = λ i h. absurd (omega arith);
  named = λ i h. absurd (omega arith);
  rooted = λ i h. absurd (omega arith);
  later = λ i j h. absurd (omega arith);
}

-- an atom more: a name of an old root; or an ∃ of one, with a new root
module _ {n k c : ℕ} {o : List Atom} (before : Written n k c o) (a : Atom) (l : ℕ) (h : c < length o) (old_owner : a.owner < k) (more : k ≤ l) (child_inside : child_number a < l)
    (a_name : child_number a ≡ 0 → value_of a < n) (is_rooted : Rooted a) (new_child : 0 < child_number a → k ≤ child_number a) where
  abbrev after : List Atom
  after = set o c a

  there : atom_at after c ≡ a
  there = put_there o c a h

  old : (j : ℕ) → j < c → atom_at after j ≡ atom_at o j
  old j z = put_other o c a j z

  -- what holds of each atom before and of the new one holds of each
  each : (P : Atom → Type 0) → ((j : ℕ) → j < c → P (atom_at o j)) → P a → (j : ℕ) → j < c + 1 → P (atom_at after j)
  each P before_each new j m = elim (ℕ_discrete j c) [
    | yes e ↦ rw (e, there) new
    | no e ↦ let z : j < c = omega arith in rw (old j z) (before_each j z)
  ]

  owner_at_lem : (j : ℕ) → j < c + 1 → owner_at after j < k
  owner_at_lem = each (λ b. b.owner < k) before.owner old_owner

  child_at_lem : (j : ℕ) → j < c + 1 → child_at after j < l
  child_at_lem = each (λ b. child_number b < l) (λ j z. omega (arith, before.child j z)) child_inside

  later_at : (i j : ℕ) → i < c + 1 → j ≤ i → 0 < child_at after i → owner_at after j < child_at after i
  later_at i j m g p = elim (ℕ_discrete i c) [
    | yes e ↦ (
        let z : child_at after i ≡ child_number a = rw (e, there) refl in
        omega (arith, owner_at_lem j (omega arith), new_child (omega (arith, z)), z))
    | no e ↦ (
        let z : i < c = omega arith in
        let y : j < c = omega arith in
        let child_same : child_at after i ≡ child_at o i = ap child_number (old i z) in
        let owner_same : owner_at after j ≡ owner_at o j = ap (λ (b : Atom). b.owner) (old j y) in
        omega (arith, owner_same, child_same, before.later i j z g (omega (arith, child_same))))
  ]

  pub written_more : Written n l (c + 1) after
  written_more = record {
    owner = λ j m. omega (arith, owner_at_lem j m);
    child = child_at_lem;
    named = each (λ b. child_number b ≡ 0 → value_of b < n) before.named a_name;
    rooted = each Rooted before.rooted is_rooted;
    later = later_at;
  }

-- atoms as lists
atoms_same : (o p : List Atom) (i c : ℕ) → ((j : ℕ) → j < i + c → atom_at o j ≡ atom_at p j) → atoms_from o i c ≡ atoms_from p i c
unfolding atoms_from
atoms_same o p i zero f = refl
atoms_same o p i (suc c) f = rw (f i (omega arith), atoms_same o p (suc i) c (λ j h. f j (omega arith)))

atoms_last : (o : List Atom) (i c : ℕ) → atoms_from o i (suc c) ≡ atoms_from o i c ++ (atom_at o (i + c) ∷ [])
unfolding atoms_from
atoms_last o i zero = let z : i + 0 ≡ i = omega arith in rw z
atoms_last o i (suc c) = let z : suc i + c ≡ i + suc c = omega arith in ap (λ (l : List Atom). atom_at o i ∷ l) (atoms_last o (suc i) c ∙ rw z)

pub atoms_more : (o : List Atom) (c : ℕ) (a : Atom) → c < length o → atoms_from (set o c a) 0 (c + 1) ≡ atoms_from o 0 c ++ (a ∷ [])
atoms_more o c a h =
    let z : 0 + c ≡ c = omega arith in
    rw (add-one c, atoms_last (set o c a) 0 c, z, put_there o c a h, atoms_same (set o c a) o 0 c (λ j l. put_other o c a j (omega arith)))

-- roots by their first atom
module _ (o : List Atom) (i left k : ℕ) where
  pub root_own : owner_at o i ≡ k → root_of (atoms_from o i (suc left)) k ≡ both (atom_concept (child_at o i) (value_at o i) (root_of (atoms_from o (suc i) left) (child_at o i)))
      (root_of (atoms_from o (suc i) left) k)
  unfolding root_of atoms_from
  root_own e = rw (eq-eqb _ _ e)

  pub root_other : (owner_at o i ≡ k → ⊥) → root_of (atoms_from o i (suc left)) k ≡ root_of (atoms_from o (suc i) left) k
  unfolding root_of atoms_from
  root_other e = rw (ne_eqb _ _ e)

pub root_none : (o : List Atom) (i k : ℕ) → root_of (atoms_from o i 0) k ≡ top
unfolding root_of atoms_from
root_none o i k = refl
