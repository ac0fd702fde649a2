-- The pieces of which numbers, names, axioms and the file consist, as the code reads and writes them.
use mathlib.Core.Path.{◌≡◌, refl, sym, ap, ◌∙◌}
use mathlib.Core.Bool.{true, false}
use mathlib.Core.List.{List, [], ◌∷◌, ◌++◌, append_assoc}
use Prim.Native.Nat.{ℕ, zero, suc, ◌+◌, ◌≤◌, ◌<◌, ◌/◌, ◌%◌}
use native.Mathlib.Nat.{mod-eq_of_lt}
use native.Mathlib.Omega.{arith}
use lib.ListN.{length, get_or}
use Rattle.el.specs.Axioms.{Axiom}
use Rattle.release.specs.Files.{mark, number, numbers, width_of, joins, filler_node, right_at, axiom_at, axiom_length, axioms_from, kind_of}
use Rattle.rewriting.specs.Bytes.{number_bytes, names_bytes, filler_number, tail_bytes, axiom_bytes, axioms_bytes, header_of, release_bytes}
use Rattle.output.proofs.Rest.{Begins}

-- a number has as many bytes as its width
pub number_length : (w x : ℕ) → length (number_bytes w x) ≡ w
unfolding number_bytes
number_length zero x = refl
number_length (suc w) x = ap suc (number_length w (x / 256))

module _ (w x : ℕ) where
  pub narrow_bytes : w ≡ 1 → (b : ℕ) → b ≡ x % 256 → b ∷ [] ≡ number_bytes w x
  unfolding number_bytes
  narrow_bytes e b f = rw (e, f)

  pub wide_bytes : w ≡ 2 → (b d : ℕ) → b ≡ x % 256 → d ≡ x / 256 % 256 → (b ∷ []) ++ (d ∷ []) ≡ number_bytes w x
  unfolding number_bytes
  wide_bytes e b d f g = rw (e, f, g)

-- names
pub numbers_length : (w k : ℕ) (s : List ℕ) (p : ℕ) → length (numbers w k s p) ≡ k
unfolding numbers
numbers_length w zero s p = refl
numbers_length w (suc k) s p = ap suc (numbers_length w k s (p + w))

module _ (v w : ℕ) (s : List ℕ) (p left : ℕ) where
  pub first_name : (j : ℕ) → left ≡ suc j → (x : ℕ) → x ≡ number w s p → Begins (names_bytes v (numbers w left s p)) (number_bytes v x) (names_bytes v (numbers w j s (p + w)))
  unfolding names_bytes numbers
  first_name j more x e = record { is = ap (λ (k : ℕ). names_bytes v (numbers w k s p)) more ∙ rw e }

  pub no_name : left ≤ 0 → names_bytes v (numbers w left s p) ≡ []
  unfolding names_bytes numbers
  no_name h = let none : left ≡ 0 = omega arith in rw none

-- the tail of an axiom: its first byte, as it stands in the file, and what follows
one_byte : (x : ℕ) → x < 256 → number_bytes 1 x ≡ x ∷ []
unfolding number_bytes
one_byte x small = ap (λ (y : ℕ). y ∷ []) (mod-eq_of_lt small)

module _ (v w kind : ℕ) (s : List ℕ) (p : ℕ) (small : get_or s p 0 < 256) where
  pub joined_bytes : joins kind ≡ true → (get_or s p 0 ∷ []) ++ names_bytes v (numbers w (get_or s p 0) s (p + 1)) ≡ tail_bytes v (right_at w kind s p)
  unfolding tail_bytes
  joined_bytes j = rw (j, tail_bytes) (rw (numbers_length w (get_or s p 0) s (p + 1), one_byte (get_or s p 0) small))

  pub restricted_bytes : joins kind ≡ false → (b f : ℕ) → b ≡ number w s (p + 1) → f ≡ filler_number v (filler_node w b)
      → (get_or s p 0 ∷ []) ++ number_bytes v f ≡ tail_bytes v (right_at w kind s p)
  unfolding tail_bytes
  restricted_bytes j b f g h = rw (j, ← g, h, tail_bytes) (rw (one_byte (get_or s p 0) small))

-- an axiom, once its kind is known; x is the width as the code reads it
pub axiom_pieces : (v w : ℕ) (s : List ℕ) (p l x : ℕ) → l ≡ number w s p → x ≡ w → get_or s (p + w) 0 ≡ kind_of (axiom_at w s p) → get_or s (p + x) 0 < 256
    → number_bytes v l ++ ((get_or s (p + x) 0 ∷ []) ++ tail_bytes v (right_at w (get_or s (p + x) 0) s (p + x + 1))) ≡ axiom_bytes v (axiom_at w s p)
unfolding axiom_bytes axiom_at
axiom_pieces v w s p l x e width_is kind small =
    let byte : number_bytes 1 (kind_of (axiom_at w s p)) ≡ get_or s (p + w) 0 ∷ [] = ap (number_bytes 1) (sym kind) ∙ one_byte (get_or s (p + w) 0) (rw (← width_is) small) in
    rw (width_is, e, byte) refl

-- axioms one after the other
module _ (v : ℕ) (s : List ℕ) (p left : ℕ) where
  pub first_axiom : (j : ℕ) → left ≡ suc j → (w : ℕ) → w ≡ width_of s
      → Begins (axioms_bytes v (axioms_from left s p)) (axiom_bytes v (axiom_at w s p)) (axioms_bytes v (axioms_from j s (p + axiom_length w s p)))
  unfolding axioms_bytes axioms_from
  first_axiom j more w e = record { is = ap (λ (k : ℕ). axioms_bytes v (axioms_from k s p)) more ∙ rw e }

  pub no_axiom : left ≤ 0 → axioms_bytes v (axioms_from left s p) ≡ []
  unfolding axioms_bytes axioms_from
  no_axiom h = let none : left ≡ 0 = omega arith in rw none

-- the file: its header and its axioms
five_pieces : (a b c d e : List ℕ) → (a ++ (b ++ (c ++ d))) ++ e ≡ a ++ (b ++ (c ++ (d ++ e)))
five_pieces a b c d e =
    append_assoc a (b ++ (c ++ d)) e ∙ ap (λ (x : List ℕ). a ++ x) (append_assoc b (c ++ d) e ∙ ap (λ (x : List ℕ). b ++ x) (append_assoc c d e))

pub header_pieces : (w n m : ℕ) (al : List Axiom) → header_of w n m (length al) ++ axioms_bytes w al ≡ release_bytes w n m al
unfolding header_of release_bytes
header_pieces w n m al =
    ap (λ (x : List ℕ). mark ++ x) (five_pieces (number_bytes 2 w) (number_bytes w n) (number_bytes 1 m) (number_bytes w (length al)) (axioms_bytes w al))
