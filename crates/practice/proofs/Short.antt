-- A practice release is short: an axiom has at most 7 bytes, since it has at most 4 conjuncts.
use mathlib.Core.Path.{◌≡◌, refl, ap}
use mathlib.Core.Bool.{Bool, true, false}
use mathlib.Core.List.{List, [], ◌∷◌, ◌++◌}
use Prim.Native.Nat.{ℕ, suc, ◌+◌, ◌*◌, ◌≤◌, ◌<◌}
use native.Mathlib.Omega.{arith}
use lib.ListN.{length, length-append}
use Rattle.el.specs.Lists.{pick}
use Rattle.release.specs.Files.{most_names_of, joins, kind_of}
use Rattle.rewriting.specs.Bytes.{number_bytes, filler_number, tail_bytes, axiom_bytes, axioms_bytes}
use Rattle.rewriting.proofs.Pieces.{number_length}
use Rattle.rewriting.proofs.Lengths.{header_bytes}
use Rattle.practice.specs.Draws.{next, drawn, after_draws}
use Rattle.practice.specs.Practice.{kinds, rising, on_from, part_count, filler_from, conjunction_from, restriction_from, right_from}
use Rattle.practice.specs.Practice.{axiom_from, has_axiom, axioms_for, practice_pool, practice_axioms, practice_file}
use Rattle.practice.proofs.Choices.{few_parts, PartsDrawn}
use Rattle.practice.proofs.NameKinds.{kinds_length, has_parts}
use Rattle.practice.proofs.Orders.{RisingNames, on_length}
use Rattle.practice.proofs.Pools.{practice_rises}
use Rattle.practice.proofs.Pieces.{start_within, parts_within, conjunction_bytes, right_joined, right_restricted}

module _ (n m : ℕ) (pool : List ℕ) (few : n ≤ 256) (rises : RisingNames n 0 pool) where
  conjunction_short : (s : ℕ) → 0 < length pool → length (tail_bytes 1 (conjunction_from pool s)) ≤ 5
  conjunction_short s some =
      let k = part_count (length pool) s in
      let start = drawn (next (next s)) (length pool) in
      let parts_are : PartsDrawn (length pool) s k start = record { counted = refl; started = refl } in
      let names = on_length pool start k (start_within few rises s some parts_are) (parts_within few rises s some parts_are) in
      let bytes = ap length (conjunction_bytes few rises s some parts_are) in
      omega (arith, bytes, length-append (number_bytes 1 k) (rising (on_from pool start k)), number_length 1 k, names, (few_parts (length pool) s some).four)

  restriction_short : (s : ℕ) → length (tail_bytes 1 (restriction_from n m s)) ≤ 5
  unfolding tail_bytes restriction_from
  restriction_short s =
      let r = drawn (next s) m in
      let f = filler_number 1 (filler_from n (drawn (next (next s)) (n + 1))) in
      omega (arith, length-append (number_bytes 1 r) (number_bytes 1 f), number_length 1 r, number_length 1 f)

  right_short : (kind s : ℕ) → has_axiom (length pool) kind ≡ true → length (tail_bytes 1 (right_from n m pool kind s)) ≤ 5
  right_short kind s has = by_kind (joins kind) refl
    where
      by_kind : (b : Bool) → joins kind ≡ b → length (tail_bytes 1 (right_from n m pool kind s)) ≤ 5
      by_kind true e = rw (right_joined n m pool kind s e) (conjunction_short s (has_parts (length pool) kind has e))
      by_kind false e = rw (right_restricted n m pool kind s e) (restriction_short s)

  axiom_short : (x kind s : ℕ) → has_axiom (length pool) kind ≡ true → length (axiom_bytes 1 (axiom_from n m pool x kind s)) ≤ 7
  unfolding axiom_bytes axiom_from
  axiom_short x kind s has =
      let k = kind_of (axiom_from n m pool x kind s) in
      let tail = tail_bytes 1 (right_from n m pool kind s) in
      omega (
        arith,
        length-append (number_bytes 1 x) (number_bytes 1 k ++ tail),
        length-append (number_bytes 1 k) tail,
        number_length 1 x,
        number_length 1 k,
        right_short kind s has,
      )

  axioms_short : (x : ℕ) (ks : List ℕ) (s : ℕ) → length (axioms_bytes 1 (axioms_for n m pool x ks s)) ≤ 7 * length ks
  unfolding axioms_for axioms_bytes
  axioms_short x [] s = omega arith
  axioms_short x (k ∷ ks) s = by_has (has_axiom (length pool) k) refl (axioms_short (suc x) ks (next (next s))) (axioms_short (suc x) ks s)
    where
      by_has : (b : Bool) → has_axiom (length pool) k ≡ b → length (axioms_bytes 1 (axioms_for n m pool (suc x) ks (next (next s)))) ≤ 7 * length ks
          → length (axioms_bytes 1 (axioms_for n m pool (suc x) ks s)) ≤ 7 * length ks
          → length (axioms_bytes 1 (pick b (axiom_from n m pool x k s ∷ axioms_for n m pool (suc x) ks (next (next s))) (axioms_for n m pool (suc x) ks s))) ≤ 7 * suc (length ks)
      by_has true e f g =
          let first = axiom_bytes 1 (axiom_from n m pool x k s) in
          let others = axioms_bytes 1 (axioms_for n m pool (suc x) ks (next (next s))) in
          omega (arith, length-append first others, axiom_short x k s e, f)
      by_has false e f g = omega (arith, g)

pub practice_short : (seed n m : ℕ) → n ≤ most_names_of 1 → length (practice_file seed n m) ≤ 897
unfolding practice_file practice_axioms
practice_short seed n m few =
    let axioms = axioms_short n m (practice_pool seed n m) (omega arith) (practice_rises seed n m) 0 (kinds m n seed) (after_draws n seed) in
    omega (arith, header_bytes 1 n m (practice_axioms seed n m), axioms, kinds_length m n seed)
