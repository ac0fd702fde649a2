-- Laws of the header's refusals, 1 to 6, in their order: each has as premises what the code has tested when it answers.
use mathlib.Core.Path.{◌≡◌, refl, sym, ap₂, ◌∙◌}
use mathlib.Core.Bool.{Bool, true, false, ◌&&◌}
use mathlib.Core.List.{List, [], ◌∷◌}
use Prim.Native.Nat.{ℕ, ◌≤◌, ◌<◌}
use borrow.Author.Tests.{lt-ltb, le-ltb, lt-leb, le-leb, ne_eqb}
use native.Mathlib.Omega.{arith}
use lib.Dec.{eqb}
use lib.ListN.{length, take}
use native.Mathlib.Decide.{ℕ_discrete}
use Rattle.std.specs.Cmp.Lexicographic.{pointwise}
use Rattle.release.specs.declared.number.Version.{Version}
use Rattle.release.specs.Tables.{HasHeader}
use Rattle.release.specs.Versions.{version_number, width, has_pairs, said_version}
use Rattle.release.proofs.Versions.{version_known, version_width, version_listing, header_far}
use Rattle.release.specs.Files.{mark, starts_with, is_version, version_of, width_of, lists_pairs, pairs_place, names_of, roles_of, count_of, header_length, most_names_of, most_roles, header_fault}

-- the mark, as the library tests it
pub starts_same : (xs s : List ℕ) → pointwise eqb xs (take (length xs) s) ≡ starts_with xs s
starts_same [] s = refl
starts_same (x ∷ xs) [] = refl
starts_same (x ∷ xs) (y ∷ s) = ap₂ ◌&&◌ (same_test x y) (starts_same xs s)
  where
    same_test : (x y : ℕ) → eqb x y ≡ eqb y x
    same_test x y = elim (ℕ_discrete x y) [ yes e ↦ rw e | no d ↦ ne_eqb x y d ∙ sym (ne_eqb y x (λ e. d (sym e))) ]

pub marked : (s : List ℕ) {b c : Bool} → b ≡ pointwise eqb mark (take (length mark) s) → b ≡ c → starts_with mark s ≡ c
marked s h e = sym (starts_same mark s) ∙ (sym h ∙ e)

-- the version that a file says
module _ (s : List ℕ) where
  pub says_none : length s < 8 → 0 ≡ said_version s
  unfolding said_version
  says_none h = sym (simp (lt-leb 8 (length s) h))

  pub unmarked_none : 8 ≤ length s → starts_with mark s ≡ false → 0 ≡ said_version s
  unfolding said_version
  unmarked_none long h = sym (simp (le-leb 8 (length s) long, h))

  pub says_it : 8 ≤ length s → starts_with mark s ≡ true → {v : ℕ} → v ≡ version_of s → v ≡ said_version s
  unfolding said_version
  says_it long h i = i ∙ sym (simp (le-leb 8 (length s) long, h))

pub header_1 : (s : List ℕ) → length s < header_length 1 false → header_fault s ≡ 1
unfolding header_fault
header_1 s h = simp (header_fault, lt-ltb _ _ h)

module _ (s : List ℕ) (long : header_length 1 false ≤ length s) where
  pub header_2 : starts_with mark s ≡ false → header_fault s ≡ 2
  unfolding header_fault
  header_2 h = simp (header_fault, le-ltb _ _ long, h)

  pub header_3 : starts_with mark s ≡ true → is_version (version_of s) ≡ false → header_fault s ≡ 3
  unfolding header_fault
  header_3 m h = simp (header_fault, le-ltb _ _ long, m, h)

-- a file that starts with the mark and a version
pub record Started (s : List ℕ) (v : Version) : Type 0 where
  pub long : header_length 1 false ≤ length s
  pub marked : starts_with mark s ≡ true
  pub version : version_number v ≡ version_of s

pub started : (s : List ℕ) (v : Version) {b : Bool} {k least : ℕ} → least ≡ header_length 1 false → least ≤ length s → b ≡ pointwise eqb mark (take (length mark) s) → b ≡ true
    → k ≡ version_of s → version_number v ≡ k → Started s v
started s v least l h e i j = record { long = rw least at l; marked = marked s h e; version = j ∙ i }

-- and holds its whole header
pub record Headed (s : List ℕ) (v : Version) : Type 0 where
  pub start : Started s v
  pub whole : header_length (width v) (has_pairs v) ≤ length s

pub headed : (s : List ℕ) (v : Version) {b : Bool} {k least most : ℕ} → least ≡ header_length 1 false → least ≤ length s → b ≡ pointwise eqb mark (take (length mark) s) → b ≡ true
    → k ≡ version_of s → version_number v ≡ k → most ≡ header_length (width v) (has_pairs v) → most ≤ length s → Headed s v
headed s v least l h e i j most m = record { start = started s v least l h e i j; whole = rw most at m }

module _ (s : List ℕ) (v : Version) (h : Started s v) where
  known : is_version (version_of s) ≡ true
  known = version_known s v h.version

  width_is : width_of s ≡ width v
  width_is = version_width s v h.version

  listing_is : lists_pairs s ≡ has_pairs v
  listing_is = version_listing s v h.version

  -- where the header ends
  end_is : pairs_place s ≡ header_length (width v) (has_pairs v)
  unfolding pairs_place
  end_is = rw (width_is, listing_is)

  pub header_short : length s < header_length (width v) (has_pairs v) → header_fault s ≡ 1
  unfolding header_fault
  header_short l = simp (header_fault, le-ltb _ _ h.long, h.marked, known, end_is, lt-ltb _ _ l)

module _ (s : List ℕ) (v : Version) (h : Headed s v) where
  marked_is : starts_with mark s ≡ true
  marked_is = h.start.marked

  known_is : is_version (version_of s) ≡ true
  known_is = known s v h.start

  same_width : width_of s ≡ width v
  same_width = width_is s v h.start

  same_end : pairs_place s ≡ header_length (width v) (has_pairs v)
  same_end = end_is s v h.start

  within : header_length (width v) false ≤ length s
  within = omega (arith, rw same_end at (rw same_width at (header_far s)), h.whole)

  pub has_header : HasHeader (width v) s
  has_header = record { is = sym same_width; inside = within }

  pub header_4 : most_names_of (width v) < names_of s → header_fault s ≡ 4
  unfolding header_fault
  header_4 l = simp (header_fault, le-ltb _ _ h.start.long, marked_is, known_is, same_end, le-ltb _ _ h.whole, same_width, lt-ltb _ _ l)

  module _ (names : names_of s ≤ most_names_of (width v)) where
    pub header_5 : most_roles < roles_of s → header_fault s ≡ 5
    unfolding header_fault
    header_5 l = simp (header_fault, le-ltb _ _ h.start.long, marked_is, known_is, same_end, le-ltb _ _ h.whole, same_width, le-ltb _ _ names, lt-ltb _ _ l)

    module _ (roles : roles_of s ≤ most_roles) where
      pub header_6 : names_of s < count_of s → header_fault s ≡ 6
      unfolding header_fault
      header_6 l = simp (header_fault, le-ltb _ _ h.start.long, marked_is, known_is, same_end, le-ltb _ _ h.whole, same_width, le-ltb _ _ names, le-ltb _ _ roles, lt-ltb _ _ l)

      pub header_none : count_of s ≤ names_of s → header_fault s ≡ 0
      unfolding header_fault
      header_none l = simp (header_fault, le-ltb _ _ h.start.long, marked_is, known_is, same_end, le-ltb _ _ h.whole, same_width, le-ltb _ _ names, le-ltb _ _ roles, le-ltb _ _ l)
