-- The file of rising axioms in version 1: what it says, and which refusal it can meet.
--   axioms_back     where the bytes of rising axioms stand to the end of a file, they are read without a fault
--   Filed           the file of the axioms al has them, its length is within the limit, and only 15 can be met
--   rising_of       the axioms of an accepted file of version 1 rise
--   fewer_plain     fewer axioms make no conjunct a defined one
use mathlib.Core.Path.{◌≡◌, refl, sym, ap, ap₂, ◌∙◌}
use mathlib.Core.Bool.{Bool, true, false, true≢false}
use mathlib.Core.List.{List, [], ◌∷◌, ◌++◌, append_assoc}
use Prim.Native.Nat.{ℕ, zero, suc, ◌+◌, ◌≤◌}
use native.Mathlib.Omega.{arith}
use borrow.Author.Tests.{le-ltb}
use lib.ListN.{length, length-append}
use Rattle.el.specs.Lists.{In, pick}
use Rattle.el.specs.Axioms.{Axiom}
use Rattle.release.specs.Files.{IsWidth, number, version_of, width_of, names_of, roles_of, count_of, lists_pairs, header_length, pair_count, pairs_place, first_place, least_pair}
use Rattle.release.specs.Files.{header_fault, pairs_fault}
use Rattle.release.specs.Files.{axiom_fault, axiom_length, axiom_at, axioms_fault, axioms_from, axioms_of, pairs_of, conjunct_defined, fault}
use Rattle.release.proofs.Numbers.{version_1_width}
use Rattle.release.proofs.Sound.{axiom_sound}
use Rattle.release.proofs.Decoding.{both_none}
use Rattle.release.proofs.NormalForm.{Listed, tells_listed}
use Rattle.release.proofs.Checks.{header_sound}
use Rattle.release.proofs.Versions.{no_count, no_pairs, first_plain, plain_version}
use Rattle.release.proofs.Linked.{no_header_fault, no_axiom_fault}
use Rattle.rewriting.specs.Bytes.{axiom_bytes, axioms_bytes, release_bytes}
use Rattle.rewriting.proofs.Lengths.{own_length, header_bytes}
use Rattle.rewriting.proofs.Parts.{At, at_first, at_later, at_place, at_as}
use Rattle.rewriting.proofs.ReadBack.{axiom_back}
use Rattle.rewriting.proofs.Accepted.{at_axioms, version_back, width_back, plain_back, names_back, roles_back, count_back, header_back}
use Rattle.splicing.specs.Axioms.{withdrawn}
use Rattle.splicing.proofs.Rising.{Sourced, Rising, nothing, more, other_least, source_left, few_axioms, few_bytes, withdrawn_in}

-- names of one byte
pub one_byte : IsWidth 1
one_byte = record { some = omega arith; few = omega arith }

module _ (n m : ℕ) (t : List ℕ) (few : n ≤ 127) (few_roles : m ≤ 32) (is : width_of t ≡ 1) where
  pub record Back (least : ℕ) (al : List Axiom) (q : ℕ) : Type 0 where
    pub none : axioms_fault 1 n m (length al) least t q ≡ 0
    pub same : axioms_from (length al) t q ≡ al

  pub axioms_back : {least : ℕ} {al : List Axiom} → Rising n m least al → (q : ℕ) → At t q (axioms_bytes 1 al) → length t ≡ q + length (axioms_bytes 1 al) → Back least al q
  unfolding axioms_fault axioms_from axioms_bytes
  axioms_back nothing q stands end = record { none = simp (le-ltb q (length t) (omega arith)); same = refl }
  axioms_back {least = least} {al = a ∷ al} (more l s r) q stands end =
      let here : At t q (axiom_bytes 1 (axiom_at 1 s.text s.at)) = at_as (ap (axiom_bytes 1) (sym s.is)) (at_first (axiom_bytes 1 a) (axioms_bytes 1 al) stands) in
      let one = axiom_back 1 1 n s.text t one_byte few m 0 s.at q few_roles s.none here in
      let left : number 1 t q ≡ a.left = one.left ∙ source_left s in
      let met : axiom_fault 1 n m least t q ≡ 0 = other_least n m 0 least t q one.none (omega (arith, left)) in
      let same : axiom_at 1 t q ≡ a = one.same ∙ s.is in
      let long : axiom_length 1 t q ≡ length (axiom_bytes 1 a) = own_length 1 t q ∙ ap (λ (b : Axiom). length (axiom_bytes 1 b)) same in
      let next : At t (q + axiom_length 1 t q) (axioms_bytes 1 al) = at_place (ap (λ (k : ℕ). q + k) (sym long)) (at_later (axiom_bytes 1 a) (axioms_bytes 1 al) stands) in
      let rest = axioms_back r (q + axiom_length 1 t q) next (omega (arith, long, length-append (axiom_bytes 1 a) (axioms_bytes 1 al))) in
      record {
        none = simp (met, left, rest.none);
        same = rw is (ap₂ (λ (b : Axiom) (bs : List Axiom). b ∷ bs) same rest.same);
      }

pub record Filed (n m : ℕ) (al : List Axiom) (t : List ℕ) : Type 0 where
  pub fault_is : fault t ≡ pick (conjunct_defined al) 15 0
  pub version : version_of t ≡ 1
  pub width : width_of t ≡ 1
  pub names : names_of t ≡ n
  pub roles : roles_of t ≡ m
  pub axioms : axioms_of t ≡ al
  pub short : length t ≤ 2421

module _ (n m : ℕ) (al : List Axiom) (rising : Rising n m 0 al) (few : n ≤ 127) (few_roles : m ≤ 32) where
  abbrev t : List ℕ
  t = release_bytes 1 n m al

  few_al : length al ≤ n
  few_al = omega (arith, few_axioms rising)

  is_1 : width_of t ≡ 1
  is_1 = width_back 1 n m al one_byte few few_roles few_al

  plain : lists_pairs t ≡ false
  plain = plain_back 1 n m al one_byte few few_roles few_al

  first : first_place t ≡ 8
  first = first_plain t plain ∙ ap (λ (w : ℕ). header_length w false) is_1

  back : Back n m t few few_roles is_1 0 al 8
  back = axioms_back n m t few few_roles is_1 rising 8 (at_axioms 1 n m al one_byte few few_roles few_al) (header_bytes 1 n m al)

  t_axioms : axioms_of t ≡ al
  t_axioms = rw (count_back 1 n m al one_byte few few_roles few_al, first) back.same

  pub filed : Filed n m al t
  unfolding fault pairs_fault
  filed =
      let names = names_back 1 n m al one_byte few few_roles few_al in
      let roles = roles_back 1 n m al one_byte few few_roles few_al in
      let count = count_back 1 n m al one_byte few few_roles few_al in
      let head : header_fault t ≡ 0 = header_back 1 n m al one_byte few few_roles few_al in
      let read : axioms_fault (width_of t) (names_of t) (roles_of t) (count_of t) 0 t (first_place t) ≡ 0 = rw (first, is_1, names, roles, count) back.none in
      let pairs : pairs_fault (roles_of t) (pair_count t) least_pair t (pairs_place t) ≡ 0 = rw (no_count t plain) refl in
      record {
        fault_is = simp (head, pairs, read, t_axioms);
        version = version_back 1 n m al one_byte few few_roles few_al;
        width = is_1;
        names = names;
        roles = roles;
        axioms = t_axioms;
        short = omega (arith, header_bytes 1 n m al, few_bytes rising, few_al);
      }

-- a file of version 1 lists no role pairs
pub pairs_1 : (s : List ℕ) → version_of s ≡ 1 → pairs_of s ≡ []
pairs_1 s e = no_pairs s (plain_version s (omega (arith, e)))

-- an accepted file of version 1
module _ (s : List ℕ) (ok : fault s ≡ 0) (version : version_of s ≡ 1) where
  pub width_1 : width_of s ≡ 1
  width_1 = version_1_width s version

  pub plain_1 : lists_pairs s ≡ false
  plain_1 = plain_version s (omega (arith, version))

  pub first_1 : first_place s ≡ 8
  first_1 = first_plain s plain_1 ∙ ap (λ (w : ℕ). header_length w false) width_1

  pub few_names : names_of s ≤ 127
  few_names = rw width_1 at (header_sound s (no_header_fault s ok)).names_by_width

  pub few_roles_of : roles_of s ≤ 32
  few_roles_of = (header_sound s (no_header_fault s ok)).roles

  pub rising_from : (c least p : ℕ) → axioms_fault 1 (names_of s) (roles_of s) c least s p ≡ 0 → Rising (names_of s) (roles_of s) least (axioms_from c s p)
  unfolding axioms_fault axioms_from axiom_at
  rising_from zero least p h = nothing
  rising_from (suc c) least p h =
      let z = both_none _ _ h in
      let met = other_least (names_of s) (roles_of s) least 0 s p z.0 (omega arith) in
      let sound = axiom_sound 1 (names_of s) (roles_of s) least s p z.0 in
      let source : Sourced (names_of s) (roles_of s) (axiom_at 1 s p) = record { text = s; at = p; none = met; is = refl } in
      rw width_1 (more sound.rises source (rising_from c (suc (number 1 s p)) (p + axiom_length 1 s p) z.1))

  pub rising_of : Rising (names_of s) (roles_of s) 0 (axioms_of s)
  rising_of = rw first_1 (rising_from (count_of s) 0 8 (rw (first_1, width_1) at (no_axiom_fault s ok)))

-- 15 is not met by fewer axioms
pub fewer_plain : {al bl : List Axiom} → ((a : Axiom) → In bl a → In al a) → conjunct_defined al ≡ false → conjunct_defined bl ≡ false
fewer_plain {al} {bl} within h = by_test (conjunct_defined bl) refl
  where
    among : Listed bl → Listed al
    among w = record {
      it = w.it;
      member = within w.it w.member;
      holds = record {
        it = w.holds.it;
        member = w.holds.member;
        holds = record { it = w.holds.holds.it; member = within w.holds.holds.it w.holds.holds.member; holds = w.holds.holds.holds };
      };
    }

    by_test : (b : Bool) → conjunct_defined bl ≡ b → conjunct_defined bl ≡ false
    by_test true e = absurd (true≢false (sym ((tells_listed al).complete (among ((tells_listed bl).sound e))) ∙ h))
    by_test false e = e

pub still_plain : {n m least : ℕ} {al : List Axiom} (x : ℕ) → Rising n m least al → conjunct_defined al ≡ false → conjunct_defined (withdrawn x al) ≡ false
still_plain x r h = fewer_plain (λ a i. withdrawn_in x r i) h

-- the bytes of axioms one after the other
pub bytes_append : (xs ys : List Axiom) → axioms_bytes 1 (xs ++ ys) ≡ axioms_bytes 1 xs ++ axioms_bytes 1 ys
unfolding axioms_bytes
bytes_append [] ys = refl
bytes_append (a ∷ xs) ys = ap (λ (s : List ℕ). axiom_bytes 1 a ++ s) (bytes_append xs ys) ∙ sym (append_assoc (axiom_bytes 1 a) (axioms_bytes 1 xs) (axioms_bytes 1 ys))
