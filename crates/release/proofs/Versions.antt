-- What the version of a file says: the width of its names, whether it lists role pairs, and so where its pairs and its axioms stand.
--   listing, no_listing        whether it lists pairs, by the low byte of its version
--   version_known, version_width, version_listing      what is said by a version that was read
--   header_far, header_near    the header ends behind the counts, with at most 11 bytes
--   few_pairs                  the pairs are at most 255;  end_of, listed_count: where the header ends, and how many pairs its last byte says
--   plain_version              a file of version 1 or 2 lists no pairs: no_pairs, and its axioms stand behind the counts: first_plain
use mathlib.Core.Path.{◌≡◌, refl, sym}
use mathlib.Core.Bool.{Bool, true, false, false≢true}
use mathlib.Core.List.{List, []}
use Prim.Native.Nat.{ℕ, ◌+◌, ◌*◌, ◌≤◌, ◌<◌}
use native.Mathlib.Omega.{arith}
use borrow.Author.Tests.{eq-eqb, ne_eqb}
use lib.Dec.{eqb}
use lib.ListN.{get_or}
use Rattle.el.specs.Lists.{pick}
use Rattle.release.specs.Files.{is_version, version_of, width_of, lists_pairs, header_length, pair_count, pairs_place, first_place, pairs_from, pairs_of}
use Rattle.release.specs.Tables.{HasPairCount}
use Rattle.release.specs.Versions.{version_number, width, has_pairs}
use Rattle.release.specs.declared.number.Version.{Version}
use Rattle.release.specs.declared.number.Version.TheVariants.{One, Two, Three}
use Rattle.release.proofs.Numbers.{width_2, two_bytes, version_1_width, version_2_width}

-- by the low byte
module _ (s : List ℕ) where
  pub listing : get_or s 3 0 ≡ 3 → true ≡ lists_pairs s
  unfolding lists_pairs
  listing e = sym (eq-eqb _ _ e)

  pub no_listing : (get_or s 3 0 ≡ 3 → ⊥) → false ≡ lists_pairs s
  unfolding lists_pairs
  no_listing d = sym (ne_eqb _ _ d)

  -- by a version that was read
  low_byte : {v : ℕ} → v ≡ version_of s → v < 256 → get_or s 3 0 ≡ v
  low_byte e l = omega (arith, two_bytes s 3, e)

  pub version_known : (v : Version) → version_number v ≡ version_of s → is_version (version_of s) ≡ true
  version_known One e = rw (← e)
  version_known Two e = rw (← e)
  version_known Three e = rw (← e)

  pub version_width : (v : Version) → version_number v ≡ version_of s → width_of s ≡ width v
  version_width One e = version_1_width s (sym e)
  version_width Two e = version_2_width s (sym e)
  version_width Three e = sym (width_2 s (λ z. omega (arith, low_byte e (omega arith))))

  pub version_listing : (v : Version) → version_number v ≡ version_of s → lists_pairs s ≡ has_pairs v
  version_listing One e = sym (no_listing (λ z. omega (arith, low_byte e (omega arith))))
  version_listing Two e = sym (no_listing (λ z. omega (arith, low_byte e (omega arith))))
  version_listing Three e = sym (listing (low_byte e (omega arith)))

  -- where the pairs and the axioms stand
  pub header_far : header_length (width_of s) false ≤ pairs_place s
  unfolding pairs_place
  header_far = by_test (lists_pairs s)
    where
      by_test : (b : Bool) → header_length (width_of s) false ≤ header_length (width_of s) b
      by_test true = omega arith
      by_test false = omega arith

  pub header_near : pairs_place s ≤ 11
  unfolding pairs_place width_of
  header_near = by_tests (eqb (get_or s 3 0) 1) (lists_pairs s)
    where
      by_tests : (a b : Bool) → header_length (pick a 1 2) b ≤ 11
      by_tests true true = omega arith
      by_tests true false = omega arith
      by_tests false true = omega arith
      by_tests false false = omega arith

  pub first_is : first_place s ≡ pairs_place s + 2 * pair_count s
  unfolding first_place
  first_is = refl

  pub few_pairs : get_or s 10 0 ≤ 255 → pair_count s ≤ 255
  unfolding pair_count
  few_pairs l = by_test (lists_pairs s)
    where
      by_test : (b : Bool) → pick b (get_or s 10 0) 0 ≤ 255
      by_test true = omega arith
      by_test false = omega arith

  -- by a version that is known
  pub end_known : (v : Version) → width v ≡ width_of s → has_pairs v ≡ lists_pairs s → header_length (width v) (has_pairs v) ≡ pairs_place s
  unfolding pairs_place
  end_known v e f = rw (e, f)

  module _ (v : Version) (h : HasPairCount v s) where
    pub end_of : header_length (width v) (has_pairs v) ≡ pairs_place s
    end_of = end_known v h.width h.pairs

    pub listed_count : has_pairs v ≡ true → (header_length (width v) (has_pairs v) ≡ 11) × (get_or s 10 0 ≡ pair_count s)
    unfolding pair_count
    listed_count e = (by_version v e, rw (← h.pairs, e))
      where
        by_version : (v : Version) → has_pairs v ≡ true → header_length (width v) (has_pairs v) ≡ 11
        by_version One e = absurd (false≢true e)
        by_version Two e = absurd (false≢true e)
        by_version Three e = refl

  -- versions 1 and 2
  module _ (plain : lists_pairs s ≡ false) where
    pub no_count : pair_count s ≡ 0
    unfolding pair_count
    no_count = rw plain

    pub no_pairs : pairs_of s ≡ []
    unfolding pairs_of pairs_from
    no_pairs = rw no_count refl

    pub first_plain : first_place s ≡ header_length (width_of s) false
    unfolding pairs_place
    first_plain = let e : pairs_place s ≡ header_length (width_of s) false = rw plain in omega (arith, first_is, no_count, e)

  pub plain_version : version_of s < 3 → lists_pairs s ≡ false
  plain_version l = sym (no_listing (λ e. omega (arith, two_bytes s 3)))
