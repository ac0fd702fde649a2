-- A rewritten file is accepted, and says what the release says.
--   read_back       so does the file of an accepted release in a version that has room for its names
use mathlib.Core.Path.{◌≡◌, refl, sym, ap, subst, ◌∙◌}
use mathlib.Core.Bool.{Bool, true, false}
use mathlib.Core.List.{List, ◌++◌}
use Prim.Native.Nat.{ℕ, zero, suc, ◌+◌, ◌≤◌}
use native.Mathlib.Nat.{mod-eq_of_lt}
use native.Mathlib.Omega.{arith}
use lib.Dec.{eqb}
use lib.ListN.{length, get_or}
use Rattle.el.specs.Lists.{pick}
use Rattle.el.specs.Axioms.{Axiom, Terminology}
use Rattle.el.specs.Derivability.{Derives}
use Rattle.release.specs.Files.{mark, starts_with, version_of, width_of, most_names_of, top_number, header_length, first_place, pairs_place, pair_count, lists_pairs, least_pair}
use Rattle.release.specs.Files.{names_of, roles_of, count_of, header_fault, pairs_fault}
use Rattle.release.specs.Files.{axioms_fault, axioms_from, axioms_of, content_of, conjunct_defined, fault, IsWidth}
use Rattle.release.proofs.Numbers.{width_1, width_2}
use Rattle.release.specs.declared.number.Version.{Version}
use Rattle.release.specs.declared.number.Version.TheVariants.{One, Two}
use Rattle.release.specs.Versions.{version_number, has_pairs}
use Rattle.release.specs.Versions.{width as version_width}
use Rattle.release.proofs.Versions.{no_listing, no_count, no_pairs, first_plain}
use Rattle.release.proofs.Headers.{Headed, header_none}
use Rattle.release.proofs.Checks.{header_sound}
use Rattle.release.proofs.Linked.{no_header_fault, no_axiom_fault, no_conjunct_defined}
use Rattle.rewriting.specs.Bytes.{number_bytes, axioms_bytes, release_bytes}
use Rattle.rewriting.specs.Rewriting.{rewritten, Rewritable, Same}
use Rattle.rewriting.proofs.Lengths.{header_bytes, count_length}
use Rattle.rewriting.proofs.Parts.{At, at_start, at_place, at_later, at_byte, number_back, fits, two_fit, byte_back, at_number, at_next}
use Rattle.rewriting.proofs.ReadBack.{axioms_back}

-- the version whose names have this width
version_with : (w : ℕ) → IsWidth w → (v : Version) × ((version_number v ≡ w) × ((version_width v ≡ w) × (has_pairs v ≡ false)))
version_with zero h = absurd (omega arith)
version_with (suc zero) h = (One, (refl, (refl, refl)))
version_with (suc (suc zero)) h = (Two, (refl, (refl, refl)))
version_with (suc (suc (suc w))) h = absurd (omega arith)

-- the header of a file of n names, m roles and the axioms al
module _ (w n m : ℕ) (al : List Axiom) (width : IsWidth w) (few : n ≤ most_names_of w) (few_roles : m ≤ 32) (few_axioms : length al ≤ n) where
  abbrev t : List ℕ
  t = release_bytes w n m al

  abbrev from_count : List ℕ
  from_count = number_bytes w (length al) ++ axioms_bytes w al

  abbrev from_roles : List ℕ
  from_roles = number_bytes 1 m ++ from_count

  abbrev from_names : List ℕ
  from_names = number_bytes w n ++ from_roles

  at_version : At t 3 (number_bytes 2 w ++ from_names)
  unfolding release_bytes
  at_version = at_later mark (number_bytes 2 w ++ from_names) (at_start t)

  at_names : At t 5 from_names
  at_names = at_next 2 w from_names at_version

  at_roles : At t (5 + w) from_roles
  at_roles = at_next w n from_roles at_names

  at_count : At t (6 + w) from_count
  at_count = at_place (omega arith) (at_next 1 m from_count at_roles)

  pub at_axioms : At t (header_length w false) (axioms_bytes w al)
  at_axioms = at_place (omega arith) (at_next w (length al) (axioms_bytes w al) at_count)

  pub version_back : version_of t ≡ w
  version_back = number_back 2 w (two_fit w (omega (arith, width.few))) (at_number 2 w from_names at_version)

  low_byte : get_or t 3 0 ≡ w
  unfolding number_bytes
  low_byte = at_byte (at_number 2 w from_names at_version) ∙ mod-eq_of_lt (omega (arith, width.few))

  pub width_back : width_of t ≡ w
  width_back = by_width w width low_byte
    where
      by_width : (x : ℕ) → IsWidth x → get_or t 3 0 ≡ x → width_of t ≡ x
      by_width zero h e = absurd (omega arith)
      by_width (suc zero) h e = sym (width_1 t e)
      by_width (suc (suc zero)) h e = sym (width_2 t (λ z. omega (arith, e, z)))
      by_width (suc (suc (suc x))) h e = absurd (omega arith)

  pub plain_back : lists_pairs t ≡ false
  plain_back = sym (no_listing t (λ e. omega (arith, low_byte, e, width.few)))

  within_top : (x : ℕ) → x ≤ n → x ≤ top_number w
  within_top x h = by_width (eqb w 1) few
    where
      by_width : (b : Bool) → n ≤ pick b 127 1023 → x ≤ pick b 255 65535
      by_width true l = omega arith
      by_width false l = omega arith

  pub names_back : names_of t ≡ n
  unfolding names_of
  names_back = rw width_back (number_back w n (fits w n width (within_top n (omega arith))) (at_number w n from_roles at_names))

  pub roles_back : roles_of t ≡ m
  unfolding roles_of
  roles_back = rw width_back (byte_back m (omega arith) (at_number 1 m from_count at_roles))

  pub count_back : count_of t ≡ length al
  unfolding count_of
  count_back = rw width_back (number_back w (length al) (fits w (length al) width (within_top (length al) few_axioms)) (at_number w (length al) (axioms_bytes w al) at_count))

  marked : starts_with mark t ≡ true
  unfolding release_bytes
  marked = refl

  pub header_back : header_fault t ≡ 0
  header_back = by_version (version_with w width)
    where
      by_version : (v : Version) × ((version_number v ≡ w) × ((version_width v ≡ w) × (has_pairs v ≡ false))) → header_fault t ≡ 0
      by_version (v, (f, (e, g))) =
          let l = header_bytes w n m al in
          let headed : Headed t v = record {
            start = record { long = omega (arith, l, width.some); marked = marked; version = f ∙ sym version_back };
            whole = rw g (omega (arith, l, e));
          } in
          header_none t v headed (rw (e, names_back) few) (rw roles_back few_roles) (rw (count_back, names_back) few_axioms)

-- the whole file
module _ (w : ℕ) (s : List ℕ) (width : IsWidth w) (ok : Rewritable s) (few : names_of s ≤ most_names_of w) where
  abbrev n : ℕ
  n = names_of s

  abbrev m : ℕ
  m = roles_of s

  abbrev al : List Axiom
  al = axioms_of s

  abbrev u : List ℕ
  u = release_bytes w n m al

  few_roles : m ≤ 32
  few_roles = (header_sound s (no_header_fault s ok.accepted)).roles

  counted : length al ≡ count_of s
  counted = count_length (count_of s) s (first_place s)

  few_axioms : length al ≤ n
  few_axioms = omega (arith, counted, (header_sound s (no_header_fault s ok.accepted)).count)

  u_width : width_of u ≡ w
  u_width = width_back w n m al width few few_roles few_axioms

  u_names : names_of u ≡ n
  u_names = names_back w n m al width few few_roles few_axioms

  u_roles : roles_of u ≡ m
  u_roles = roles_back w n m al width few few_roles few_axioms

  u_count : count_of u ≡ count_of s
  u_count = count_back w n m al width few few_roles few_axioms ∙ counted

  u_plain : lists_pairs u ≡ false
  u_plain = plain_back w n m al width few few_roles few_axioms

  u_first : first_place u ≡ header_length w false
  u_first = first_plain u u_plain ∙ ap (λ (x : ℕ). header_length x false) u_width

  read_axioms : (axioms_fault w n m (count_of s) 0 u (header_length w false) ≡ 0) × (axioms_from (count_of s) u (header_length w false) ≡ al)
  read_axioms =
      let r = axioms_back w n m s u width few few_roles (sym u_width) (count_of s) 0 (first_place s) (header_length w false) (no_axiom_fault s ok.accepted)
      (at_axioms w n m al width few few_roles few_axioms) (header_bytes w n m al) in
      (r.none, r.same)

  u_axioms : axioms_of u ≡ al
  u_axioms = rw (u_count, u_first) read_axioms.1

  u_accepted : fault u ≡ 0
  unfolding fault pairs_fault
  u_accepted =
      let head : header_fault u ≡ 0 = header_back w n m al width few few_roles few_axioms in
      let rest : axioms_fault (width_of u) (names_of u) (roles_of u) (count_of u) 0 u (first_place u) ≡ 0 = rw (u_first, u_width, u_names, u_roles, u_count) read_axioms.0 in
      let pairs : pairs_fault (roles_of u) (pair_count u) least_pair u (pairs_place u) ≡ 0 = rw (no_count u u_plain) refl in
      let last : conjunct_defined (axioms_of u) ≡ false = ap conjunct_defined u_axioms ∙ no_conjunct_defined s ok.accepted in
      simp (head, pairs, rest, last)

  u_content : content_of u ≡ content_of s
  u_content = rw (u_axioms, no_pairs u u_plain, no_pairs s ok.plain) refl

  pub read_back : Same w s (rewritten w s)
  unfolding rewritten
  read_back = record {
    accepted = record { accepted = u_accepted; plain = u_plain };
    version = version_back w n m al width few few_roles few_axioms;
    width = u_width;
    names = u_names;
    roles = u_roles;
    axioms = u_axioms;
    inclusions = λ c d. (subst (λ (t : Terminology). Derives t c d) u_content, subst (λ (t : Terminology). Derives t c d) (sym u_content));
  }
