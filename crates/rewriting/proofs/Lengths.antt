-- How long a file is: 6 bytes, two for each axiom, and else only numbers of a name's width.
--   numbers_in al        how many names the axioms al have, each counted where it stands
--   accepted_length     the length of an accepted file
use mathlib.Core.Path.{◌≡◌, refl, sym, ap, ◌∙◌}
use mathlib.Core.Bool.{Bool, true, false}
use mathlib.Core.List.{List, [], ◌∷◌, ◌++◌}
use Prim.Native.Nat.{ℕ, zero, suc, ◌+◌, ◌*◌, ◌-◌, ◌/◌, ◌≤◌, ◌<◌}
use native.Mathlib.Nat.{mul-le-mul, mul-div_cancel_left, div-le_self}
use native.Mathlib.Omega.{arith}
use borrow.Author.Tests.{ltb-false}
use lib.Dec.{ltb}
use lib.ListN.{length, get_or, length-append}
use Rattle.el.specs.Axioms.{Axiom, Right, conjunction, restriction}
use Rattle.release.specs.Files.{number, width_of, names_of, roles_of, count_of, joins, first_place, axioms_fault, axiom_at, axiom_length, axioms_from, axioms_of, fault, kind_of}
use Rattle.release.specs.declared.TheConstants.Release.{LONGEST}
use Rattle.release.proofs.Numbers.{is_width}
use Rattle.release.proofs.Sound.{axiom_sound, tail_within, passed}
use Rattle.release.proofs.Decoding.{both_none}
use Rattle.release.proofs.Checks.{header_sound}
use Rattle.release.proofs.Linked.{no_header_fault, no_axiom_fault, first_inside}
use Rattle.release.proofs.Versions.{header_near, first_is, few_pairs, first_plain}
use Rattle.rewriting.specs.Bytes.{number_bytes, names_bytes, filler_number, tail_bytes, axiom_bytes, axioms_bytes, release_bytes}
use Rattle.rewriting.specs.Rewriting.{rewritten, Rewritable}
use Rattle.rewriting.proofs.Pieces.{number_length, numbers_length}

-- names on a right side, and in axioms
unfoldable names_in : Right → ℕ
names_in (conjunction xs) = length xs
names_in (restriction r b) = 1

unfoldable numbers_in : List Axiom → ℕ
numbers_in [] = 0
numbers_in (a ∷ al) = 1 + names_in a.right + numbers_in al

names_length : (w : ℕ) (xs : List ℕ) → length (names_bytes w xs) ≡ w * length xs
unfolding names_bytes
names_length w [] = omega arith
names_length w (x ∷ xs) = length-append (number_bytes w x) (names_bytes w xs) ∙ omega (arith, number_length w x, names_length w xs)

tail_length_lem : (w : ℕ) (r : Right) → length (tail_bytes w r) ≡ 1 + w * names_in r
unfolding tail_bytes names_in
tail_length_lem w (conjunction xs) = length-append (number_bytes 1 (length xs)) (names_bytes w xs) ∙ omega (arith, number_length 1 (length xs), names_length w xs)
tail_length_lem w (restriction r b) = length-append (number_bytes 1 r) (number_bytes w (filler_number w b)) ∙ omega (arith, number_length 1 r, number_length w (filler_number w b))

axiom_length_lem : (w : ℕ) (a : Axiom) → length (axiom_bytes w a) ≡ 2 + w + w * names_in a.right
unfolding axiom_bytes
axiom_length_lem w a =
    length-append (number_bytes w a.left) (number_bytes 1 (kind_of a) ++ tail_bytes w a.right)
    ∙ omega (arith, length-append (number_bytes 1 (kind_of a)) (tail_bytes w a.right), number_length w a.left, number_length 1 (kind_of a), tail_length_lem w a.right)

axioms_length : (w : ℕ) (al : List Axiom) → length (axioms_bytes w al) ≡ 2 * length al + w * numbers_in al
unfolding axioms_bytes numbers_in
axioms_length w [] = omega arith
axioms_length w (a ∷ al) = length-append (axiom_bytes w a) (axioms_bytes w al) ∙ omega (arith, axiom_length_lem w a, axioms_length w al)

-- the axioms' bytes in a file, after a header whose length its width tells
pub header_bytes : (w n m : ℕ) (al : List Axiom) → length (release_bytes w n m al) ≡ 6 + 2 * w + length (axioms_bytes w al)
unfolding release_bytes
header_bytes w n m al =
    simp length-append (omega (arith, number_length 2 w, number_length w n, number_length 1 m, number_length w (length al)))

release_length : (w n m : ℕ) (al : List Axiom) → length (release_bytes w n m al) ≡ 6 + 2 * length al + w * (2 + numbers_in al)
release_length w n m al = header_bytes w n m al ∙ omega (arith, axioms_length w al)

-- an axiom takes as many bytes in the file as it has in the file's own version
module _ (w : ℕ) (s : List ℕ) (p : ℕ) where
  joined_names : joins (get_or s (p + w) 0) ≡ true → names_in (axiom_at w s p).right ≡ get_or s (p + w + 1) 0
  unfolding axiom_at names_in
  joined_names e = rw e (numbers_length w (get_or s (p + w + 1) 0) s (p + w + 1 + 1))

  restricted_names : joins (get_or s (p + w) 0) ≡ false → names_in (axiom_at w s p).right ≡ 1
  unfolding axiom_at names_in
  restricted_names e = rw (e, names_in)

  pub own_length : axiom_length w s p ≡ length (axiom_bytes w (axiom_at w s p))
  own_length = by_kind (joins (get_or s (p + w) 0)) refl
    where
      by_kind : (b : Bool) → joins (get_or s (p + w) 0) ≡ b → axiom_length w s p ≡ length (axiom_bytes w (axiom_at w s p))
      by_kind true e = rw e (sym (axiom_length_lem w (axiom_at w s p) ∙ rw (joined_names e) (omega arith)))
      by_kind false e = rw e (sym (axiom_length_lem w (axiom_at w s p) ∙ rw (restricted_names e) (omega arith)))

pub count_length : (c : ℕ) (s : List ℕ) (p : ℕ) → length (axioms_from c s p) ≡ c
unfolding axioms_from
count_length zero s p = refl
count_length (suc c) s p = ap suc (count_length c s (p + axiom_length (width_of s) s p))

-- c axioms from place p on, without fault: then the file ends
record Ends (c : ℕ) (s : List ℕ) (p : ℕ) : Type 0 where
  is : length s ≡ p + length (axioms_bytes (width_of s) (axioms_from c s p))
  few : length s ≤ p + 36 * c

axioms_end : (n m c least : ℕ) (s : List ℕ) (p : ℕ) → axioms_fault (width_of s) n m c least s p ≡ 0 → p ≤ length s → Ends c s p
unfolding axioms_fault axioms_from axioms_bytes
axioms_end n m zero least s p h l =
    let e : length s ≤ p = ltb-false p (length s) (passed (ltb p (length s)) 13 0 h).0 in
    record { is = omega arith; few = omega arith }
axioms_end n m (suc c) least s p h l =
    let z = both_none _ _ h in
    let w = width_of s in
    let t = tail_within w n m (get_or s (p + w) 0) s (p + w + 1) (axiom_sound w n m least s p z.0).tail in
    let r = axioms_end n m c (suc (number w s p)) s (p + axiom_length w s p) z.1 (omega (arith, t.0)) in
    record {
      is = omega (arith, r.is, own_length w s p, length-append (axiom_bytes w (axiom_at w s p)) (axioms_bytes w (axioms_from c s (p + axiom_length w s p))));
      few = omega (arith, r.few, t.1 (is_width s).few, (is_width s).few);
    }

-- an accepted file of any version, with 255 pairs at most and 1,023 axioms of 36 bytes
pub accepted_few : (s : List ℕ) → fault s ≡ 0 → get_or s 10 0 ≤ 255 → length s ≤ LONGEST
accepted_few s ok byte =
    let end = axioms_end (names_of s) (roles_of s) (count_of s) 0 s (first_place s) (no_axiom_fault s ok) (first_inside s ok) in
    let header = header_sound s (no_header_fault s ok) in
    omega (arith, end.few, first_is s, header_near s, few_pairs s byte, header.names, header.count)

module _ (s : List ℕ) (ok : Rewritable s) where
  end : Ends (count_of s) s (first_place s)
  end = axioms_end (names_of s) (roles_of s) (count_of s) 0 s (first_place s) (no_axiom_fault s ok.accepted) (first_inside s ok.accepted)

  pub accepted_ends : length s ≡ first_place s + length (axioms_bytes (width_of s) (axioms_of s))
  accepted_ends = end.is

  abbrev all_numbers : ℕ
  all_numbers = 2 + numbers_in (axioms_of s)

  accepted_length : length s ≡ 6 + 2 * count_of s + width_of s * all_numbers
  accepted_length = omega (arith, end.is, first_plain s ok.plain, axioms_length (width_of s) (axioms_of s), count_length (count_of s) s (first_place s))

  rewritten_length : (v : ℕ) → length (rewritten v s) ≡ 6 + 2 * count_of s + v * all_numbers
  unfolding rewritten
  rewritten_length v = release_length v (names_of s) (roles_of s) (axioms_of s) ∙ omega (arith, count_length (count_of s) s (first_place s))

  -- the code's way to the length
  module _ (a w : ℕ) (e : a ≡ count_of s) (f : w ≡ width_of s) where
    numbers_found : (length s - (6 + 2 * a)) / w ≡ all_numbers
    numbers_found =
        let z : length s - (6 + 2 * a) ≡ width_of s * all_numbers = omega (arith, accepted_length) in
        let p : 0 < width_of s = omega (arith, (is_width s).some) in
        rw (z, f) (mul-div_cancel_left all_numbers p)

    pub length_found : (v : ℕ) → 6 + 2 * a + v * ((length s - (6 + 2 * a)) / w) ≡ length (rewritten v s)
    length_found v = rw (numbers_found, e) (sym (rewritten_length v))

    pub length_few : (v : ℕ) → v ≤ 2 → v * ((length s - (6 + 2 * a)) / w) ≤ 2 * 36838
    length_few v h =
        let few : length s ≤ 36838 = omega (
          arith,
          end.few,
          first_plain s ok.plain,
          (is_width s).few,
          (header_sound s (no_header_fault s ok.accepted)).names,
          (header_sound s (no_header_fault s ok.accepted)).count,
        ) in
        let d : (length s - (6 + 2 * a)) / w ≤ 36838 = omega (arith, div-le_self (length s - (6 + 2 * a)) w) in
        mul-le-mul h d

  pub count_few : count_of s ≤ 1023
  count_few = omega (arith, (header_sound s (no_header_fault s ok.accepted)).names, (header_sound s (no_header_fault s ok.accepted)).count)

  pub singles_within : 6 + 2 * count_of s ≤ length s
  singles_within = omega (arith, accepted_length)
