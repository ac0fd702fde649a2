-- The walk over a file's axioms to a place.
--   Ahead x s left at     the place of x is as far past `at` as the lower ones among the `left` axioms from there on take
use mathlib.Core.Path.{◌≡◌, sym, ap, subst, ◌∙◌}
use mathlib.Core.List.{List, [], ◌∷◌}
use Prim.Native.Nat.{ℕ, suc, ◌+◌, ◌-◌, ◌≤◌, ◌<◌}
use native.Mathlib.Omega.{arith}
use lib.ListN.{length, get_or, length-append}
use Rattle.el.specs.Axioms.{Axiom}
use Rattle.release.specs.Files.{number, width_of, names_of, roles_of, count_of, axiom_length, axiom_at, axioms_from}
use Rattle.release.specs.Tables.{HasHeader, here, there}
use Rattle.release.proofs.Checks.{header_sound}
use Rattle.release.proofs.Linked.{no_header_fault}
use Rattle.rewriting.specs.Bytes.{axiom_bytes, axioms_bytes}
use Rattle.rewriting.specs.Stands.{AxiomStands}
use Rattle.rewriting.proofs.Lengths.{own_length}
use Rattle.rewriting.proofs.Stands.{AllStand, all_stand}
use Rattle.splicing.specs.Axioms.{lower}
use Rattle.splicing.specs.Places.{IsFile, place_of}
use Rattle.splicing.proofs.Rising.{Rising, after_first, lower_nothing, lower_takes}
use Rattle.splicing.proofs.Filed.{width_1, plain_1, first_1, rising_of}

pub has_header : (s : List ℕ) → IsFile s → HasHeader 1 s
has_header s file =
    let one = width_1 s file.accepted file.version in
    record { is = sym one; inside = omega (arith, one, (header_sound s (no_header_fault s file.accepted)).long) }

pub byte_number : (s : List ℕ) (p : ℕ) → number 1 s p ≡ get_or s p 0
unfolding number
byte_number s p = omega arith

pub record Ahead (x : ℕ) (s : List ℕ) (left at : ℕ) : Type 0 where
  pub rest : place_of x s ≡ at + length (axioms_bytes 1 (lower x (axioms_from left s at)))
  pub width : width_of s ≡ 1
  pub stand : AllStand left s at
  pub least : ℕ
  pub rising : Rising (names_of s) (roles_of s) least (axioms_from left s at)

pub ahead_start : (x : ℕ) (s : List ℕ) → IsFile s → (left at : ℕ) → left ≡ count_of s → at ≡ 8 → Ahead x s left at
unfolding place_of
ahead_start x s file left at e f =
    let one = width_1 s file.accepted file.version in
    let first = first_1 s file.accepted file.version in
    let stand : AllStand (count_of s) s 8 = rw first at (all_stand s (record { accepted = file.accepted; plain = plain_1 s file.accepted file.version })) in
    let rising : Rising (names_of s) (roles_of s) 0 (axioms_from (count_of s) s 8) = rw first at (rising_of s file.accepted file.version) in
    let start : Ahead x s (count_of s) 8 = record { rest = rw first; width = one; stand = stand; least = 0; rising = rising } in
    rw (e, f) start

module _ (x : ℕ) (s : List ℕ) (c at : ℕ) (h : Ahead x s (suc c) at) where
  abbrev first_axiom : Axiom
  first_axiom = axiom_at 1 s at

  opened : axioms_from (suc c) s at ≡ axiom_at 1 s at ∷ axioms_from c s (at + axiom_length 1 s at)
  unfolding axioms_from
  opened = rw h.width

  left_is : (axiom_at 1 s at).left ≡ get_or s at 0
  unfolding axiom_at
  left_is = byte_number s at

  rises : Rising (names_of s) (roles_of s) (suc (axiom_at 1 s at).left) (axioms_from c s (at + axiom_length 1 s at))
  rises = after_first (subst (Rising (names_of s) (roles_of s) h.least) opened h.rising)

  stands_first : AxiomStands 1 s at
  stands_first = rw h.width at (h.stand.each here)

  here_suc : x ≤ get_or s at 0 → at ≡ place_of x s
  unfolding axioms_bytes
  here_suc l =
      let none : lower x (axioms_from (suc c) s at) ≡ [] = ap (lower x) opened ∙ lower_nothing x (axiom_at 1 s at) rises (omega (arith, left_is)) in
      let e : length (axioms_bytes 1 (lower x (axioms_from (suc c) s at))) ≡ 0 = ap (λ (bs : List Axiom). length (axioms_bytes 1 bs)) none in
      omega (arith, h.rest)

  next_suc : get_or s at 0 < x → Ahead x s c (at + axiom_length 1 s at)
  unfolding axioms_bytes
  next_suc l =
      let others : AllStand c s (at + axiom_length (width_of s) s at) = record { each = λ i. h.stand.each (there i) } in
      let rest_axioms = axioms_from c s (at + axiom_length 1 s at) in
      let a = axiom_at 1 s at in
      let taken : lower x (axioms_from (suc c) s at) ≡ a ∷ lower x rest_axioms = ap (lower x) opened ∙ lower_takes x a rest_axioms (omega (arith, left_is)) in
      let e : length (axioms_bytes 1 (lower x (axioms_from (suc c) s at))) ≡ axiom_length 1 s at + length (axioms_bytes 1 (lower x rest_axioms)) = ap
      (λ (bs : List Axiom). length (axioms_bytes 1 bs)) taken ∙ (length-append (axiom_bytes 1 a) (axioms_bytes 1 (lower x rest_axioms)) ∙ ap
      (λ (k : ℕ). k + length (axioms_bytes 1 (lower x rest_axioms))) (sym (own_length 1 s at))) in
      record {
        rest = omega (arith, h.rest);
        width = h.width;
        stand = rw h.width at others;
        least = suc a.left;
        rising = rises;
      }

-- as the loop counts
module _ (x : ℕ) (s : List ℕ) (left at : ℕ) (h : Ahead x s left at) where
  pub ahead_end : left ≤ 0 → at ≡ place_of x s
  unfolding axioms_from lower axioms_bytes
  ahead_end l = let e : left ≡ 0 = omega arith in by_none (subst (λ (k : ℕ). Ahead x s k at) e h)
    where
      by_none : Ahead x s 0 at → at ≡ place_of x s
      by_none z = omega (arith, z.rest)

  module _ (more : 0 < left) where
    counted : Ahead x s (suc (left - 1)) at
    counted = let e : left ≡ suc (left - 1) = omega arith in subst (λ (k : ℕ). Ahead x s k at) e h

    pub ahead_stands : AxiomStands 1 s at
    ahead_stands = stands_first x s (left - 1) at counted

    pub ahead_here : x ≤ get_or s at 0 → at ≡ place_of x s
    ahead_here = here_suc x s (left - 1) at counted

    pub ahead_next : (k : ℕ) → k ≡ axiom_length 1 s at → get_or s at 0 < x → Ahead x s (left - 1) (at + k)
    ahead_next k e l = rw e (next_suc x s (left - 1) at counted l)
