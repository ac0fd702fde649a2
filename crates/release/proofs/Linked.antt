-- An accepted file and its table, linked to the logic.
--   ranges            the table has the ranges that loops rely on
--   tells_serves_at   where the table says that a role serves for another, it lies under that by the file's pairs
--   axiom_row         each axiom's row is that axiom's
--   name_row          each name has an axiom, or a blank row
--   role_small        an axiom's role is one of 32;  pairs_below: those of the pairs are below m
--   first_inside      the axioms begin in the file
--   formed            all names of the axioms are below n
--   normalised        one axiom a name, and no conjunct is itself defined by a conjunction
use mathlib.Core.Path.{◌≡◌, refl, sym, ap, subst, ◌∙◌}
use mathlib.Core.Bool.{Bool, true, false, ◌||◌, true≢false, false≢true}
use mathlib.Core.Logic.{◌⊎◌, inl, inr}
use mathlib.Core.List.{List}
use Prim.Native.Nat.{ℕ, zero, suc, ◌+◌, ◌≤◌, ◌<◌}
use native.Mathlib.Omega.{arith}
use borrow.Author.Tests.{ltb-true}
use lib.Dec.{eqb, ltb}
use lib.ListN.{length, get_or}
use Rattle.el.specs.Lists.{In, pick}
use Rattle.el.specs.Concepts.{everything}
use Rattle.el.specs.Axioms.{Axiom, is_conjunction, parts_of, role_of, filler_of, RolePair}
use Rattle.el.specs.Derivability.{Under}
use Rattle.el.specs.Terminologies.{Normalised, IsNode, top_node, name_node, Formed}
use Rattle.el.proofs.Tests.{Tells, not_both}
use Rattle.release.specs.Files.{most_roles, number, width_of, pair_count, pairs_place, first_place, names_of, roles_of, count_of, joins, restricts, defines, is_filler, top_number}
use Rattle.release.specs.Files.{filler_node, header_fault, axiom_fault}
use Rattle.release.specs.Files.{least_pair, pairs_fault, axioms_fault, axiom_length, axiom_at, axioms_of, pairs_of, content_of, conjunct_defined, fault, first_of, kind_of}
use Rattle.release.specs.Tables.{kind_at, serves_at, Stands, here, there, blank, of_axiom, Shaped, Release, AxiomRow, NameRow, no_axiom, has_axiom}
use Rattle.release.specs.Entries.{node_number}
use Rattle.release.specs.declared.table.Table.{Table}
use Rattle.release.proofs.Sound.{Sound, Tail, joined, restricted, tail_kind}
use Rattle.release.proofs.Faults.{no_kind}
use Rattle.release.proofs.Decoding.{holds, kind_is, count_is, stands_sound, both_none, shaped, in_stands, stands_in, axiom_joins, axiom_parts, axiom_no_parts}
use Rattle.release.proofs.NormalForm.{tells_listed}
use Rattle.release.proofs.Numbers.{numbers_at}
use Rattle.release.proofs.RolePairs.{Bounded, pairs_sound}
use Rattle.release.proofs.Versions.{first_is}
use Rattle.release.proofs.Checks.{header_sound}

-- an accepted file meets none of the refusals
module _ (s : List ℕ) (ok : fault s ≡ 0) where
  abbrev pair_number : ℕ
  pair_number = pairs_fault (roles_of s) (pair_count s) least_pair s (pairs_place s)

  abbrev axiom_number : ℕ
  axiom_number = axioms_fault (width_of s) (names_of s) (roles_of s) (count_of s) 0 s (first_place s)

  abbrev conjunct_number : ℕ
  conjunct_number = pick (conjunct_defined (axioms_of s)) 15 0

  all_none : (header_fault s ≡ 0) × (first_of pair_number (first_of axiom_number conjunct_number) ≡ 0)
  unfolding fault
  all_none = both_none (header_fault s) (first_of pair_number (first_of axiom_number conjunct_number)) ok

  behind_header : (pair_number ≡ 0) × (first_of axiom_number conjunct_number ≡ 0)
  behind_header = both_none pair_number (first_of axiom_number conjunct_number) all_none.1

  pub no_header_fault : header_fault s ≡ 0
  no_header_fault = all_none.0

  pub no_pair_fault : pair_number ≡ 0
  no_pair_fault = behind_header.0

  pub no_axiom_fault : axiom_number ≡ 0
  no_axiom_fault = (both_none axiom_number conjunct_number behind_header.1).0

  pub no_conjunct_defined : conjunct_defined (axioms_of s) ≡ false
  no_conjunct_defined = by_test (conjunct_defined (axioms_of s)) (both_none axiom_number conjunct_number behind_header.1).1
    where
      by_test : (b : Bool) → ◌≡◌ {A = ℕ} (pick b 15 0) 0 → b ≡ false
      by_test true h = absurd (omega arith)
      by_test false h = refl

  -- the pairs lie in the file before the axioms, and their roles are below m
  bounded : Bounded (roles_of s) (pair_count s) s (pairs_place s)
  bounded = pairs_sound (roles_of s) (pair_count s) least_pair s (pairs_place s) (header_sound s no_header_fault).whole no_pair_fault

  pub first_inside : first_place s ≤ length s
  first_inside = omega (arith, first_is s, bounded.within)

  pub pairs_below : {q : RolePair} → In (pairs_of s) q → (q.lower < roles_of s) × (q.upper < roles_of s)
  unfolding pairs_of
  pairs_below {q} i = bounded.below q i

  pub sound_at : {q : ℕ} → Stands (count_of s) s (first_place s) q → Sound (width_of s) (names_of s) (roles_of s) 0 s q
  sound_at {q} i = (stands_sound (names_of s) (roles_of s) (count_of s) 0 s (first_place s) q no_axiom_fault i).0

-- an axiom's form, by its bytes
module _ (w : ℕ) (s : List ℕ) (q : ℕ) where
  axiom_role : joins (get_or s (q + w) 0) ≡ false → role_of (axiom_at w s q) ≡ get_or s (q + w + 1) 0
  unfolding axiom_at
  axiom_role e = rw (e, axiom_at)

  axiom_filler : joins (get_or s (q + w) 0) ≡ false → filler_of (axiom_at w s q) ≡ filler_node w (number w s (q + w + 1 + 1))
  unfolding axiom_at
  axiom_filler e = rw (e, axiom_at)

  axiom_no_filler : joins (get_or s (q + w) 0) ≡ true → filler_of (axiom_at w s q) ≡ everything
  unfolding axiom_at
  axiom_no_filler e = rw (e, axiom_at)

  axiom_left : (axiom_at w s q).left ≡ number w s q
  unfolding axiom_at
  axiom_left = refl

  axiom_defined : (axiom_at w s q).defined ≡ defines (get_or s (q + w) 0)
  unfolding axiom_at
  axiom_defined = refl

-- the kind byte of an axiom without fault says its form
form_is : (k : ℕ) → (joins k ≡ true) ⊎ (restricts k ≡ true) → k ≡ pick (joins k) (pick (defines k) 2 1) (pick (defines k) 4 3)
form_is zero (inl e) = absurd (false≢true e)
form_is zero (inr e) = absurd (false≢true e)
form_is (suc zero) e = refl
form_is (suc (suc zero)) e = refl
form_is (suc (suc (suc zero))) e = refl
form_is (suc (suc (suc (suc zero)))) e = refl
form_is (suc (suc (suc (suc (suc k))))) (inl e) = absurd (true≢false (sym e ∙ (no_kind (suc (suc (suc (suc (suc k))))) (inr (omega arith))).0))
form_is (suc (suc (suc (suc (suc k))))) (inr e) = absurd (true≢false (sym e ∙ (no_kind (suc (suc (suc (suc (suc k))))) (inr (omega arith))).1))

pub axiom_kind : {n m : ℕ} (w : ℕ) (s : List ℕ) (q : ℕ) → Tail w n m (get_or s (q + w) 0) s (q + w + 1) → get_or s (q + w) 0 ≡ kind_of (axiom_at w s q)
axiom_kind w s q t = form_is (get_or s (q + w) 0) (tail_kind t) ∙ rw (axiom_joins w s q, axiom_defined w s q)

-- the table
module _ {s : List ℕ} {t : Table} (r : Release s t) where
  abbrev n : ℕ
  n = names_of s

  pub ranges : Shaped n s t
  ranges = shaped (roles_of s) r.decoded (no_axiom_fault s r.accepted) (header_sound s (no_header_fault s r.accepted)).roles (first_inside s r.accepted)

  pub tells_serves_at : (p q : ℕ) → Tells (serves_at t p q) (Under (content_of s).roles p q)
  unfolding serves_at
  tells_serves_at p q = r.roles.tells p q

  row_at_lem : {q : ℕ} → Stands (count_of s) s (first_place s) q → AxiomRow n s t (axiom_at (width_of s) s q)
  row_at_lem {q} i =
      let h = holds r.decoded i in
      let l = axiom_left (width_of s) s q in
      record {
        kind = ap (kind_at t) l ∙ (kind_is (roles_of s) r.decoded (no_axiom_fault s r.accepted) i ∙ axiom_kind (width_of s) s q (sound_at s r.accepted i).tail);
        parts = λ e. axiom_parts (width_of s) s q (sym (axiom_joins (width_of s) s q) ∙ e) ∙ rw (l, count_is r.decoded i, h.tail);
        role = λ e. let j = sym (axiom_joins (width_of s) s q) ∙ e in rw l (h.role j) ∙ sym (axiom_role (width_of s) s q j);
        filler = λ e. let j = sym (axiom_joins (width_of s) s q) ∙ e in rw l (h.filler j) ∙ sym (ap (node_number n) (axiom_filler (width_of s) s q j));
      }

  pub axiom_row : {a : Axiom} → In (axioms_of s) a → AxiomRow n s t a
  axiom_row i = let p = in_stands (count_of s) s (first_place s) i in subst (AxiomRow n s t) p.is (row_at_lem p.stands)

  pub name_row : (x : ℕ) → x < n → NameRow (axioms_of s) t x
  name_row x l = elim (r.decoded.origin x l) [
    | blank z ↦ no_axiom z (λ a i e. let w = (axiom_row i).kind in kind_not_0 a (sym w ∙ (ap (kind_at t) e ∙ z)))
    | of_axiom {q = q} i z ↦ has_axiom (stands_in i) (axiom_left (width_of s) s q ∙ z)
  ]
    where
      kind_not_0 : (a : Axiom) → kind_of a ≡ 0 → ⊥
      kind_not_0 a h = by_form (is_conjunction a) a.defined h
        where
          by_form : (b c : Bool) → ◌≡◌ {A = ℕ} (pick b (pick c 2 1) (pick c 4 3)) 0 → ⊥
          by_form true true h = omega arith
          by_form true false h = omega arith
          by_form false true h = omega arith
          by_form false false h = omega arith

-- the axioms
module _ (s : List ℕ) (ok : fault s ≡ 0) where
  filler_in : (w n b : ℕ) → is_filler w n b ≡ true → IsNode n (filler_node w b)
  filler_in w n b h = by_test (eqb b (top_number w)) refl
    where
      or_false : (t : Bool) → t || false ≡ true → t ≡ true
      or_false true z = refl
      or_false false z = z

      by_test : (t : Bool) → eqb b (top_number w) ≡ t → IsNode n (filler_node w b)
      by_test true e = rw e top_node
      by_test false e = rw e (name_node (ltb-true b n (or_false (ltb b n) (rw e at h))))

  filler_at_lem : {q : ℕ} → Stands (count_of s) s (first_place s) q → IsNode (names_of s) (filler_of (axiom_at (width_of s) s q))
  filler_at_lem {q} i = by_tail (sound_at s ok i).tail
    where
      by_tail : Tail (width_of s) (names_of s) (roles_of s) (get_or s (q + width_of s) 0) s (q + width_of s + 1) → IsNode (names_of s) (filler_of (axiom_at (width_of s) s q))
      by_tail (joined e j) = rw (axiom_no_filler (width_of s) s q e) top_node
      by_tail (restricted e f j) = rw (axiom_filler (width_of s) s q e) (filler_in (width_of s) (names_of s) (number (width_of s) s (q + width_of s + 1 + 1)) j.filler)

  part_at_lem : {q x : ℕ} → Stands (count_of s) s (first_place s) q → In (parts_of (axiom_at (width_of s) s q)) x → x < names_of s
  part_at_lem {q} {x} i h = by_tail (sound_at s ok i).tail
    where
      by_tail : Tail (width_of s) (names_of s) (roles_of s) (get_or s (q + width_of s) 0) s (q + width_of s + 1) → x < names_of s
      by_tail (joined e j) =
          let v = numbers_at (width_of s) (get_or s (q + width_of s + 1) 0) s (q + width_of s + 1 + 1) (rw (axiom_parts (width_of s) s q e) at h) in
          rw (← v.is) (j.parts.each v.place v.small)
      by_tail (restricted e f j) = elim (rw (axiom_no_parts (width_of s) s q e) at h) [ ]

  role_within : {q : ℕ} → Stands (count_of s) s (first_place s) q → is_conjunction (axiom_at (width_of s) s q) ≡ false → role_of (axiom_at (width_of s) s q) < roles_of s
  role_within {q} i h = by_tail (sound_at s ok i).tail
    where
      by_tail : Tail (width_of s) (names_of s) (roles_of s) (get_or s (q + width_of s) 0) s (q + width_of s + 1) → role_of (axiom_at (width_of s) s q) < roles_of s
      by_tail (joined e j) = absurd (not_both (axiom_joins (width_of s) s q ∙ e) h)
      by_tail (restricted e f j) = rw (axiom_role (width_of s) s q e) j.role

  -- so a role is one of 32
  pub role_small : {a : Axiom} → In (axioms_of s) a → is_conjunction a ≡ false → role_of a < most_roles
  role_small {a} i h =
      let p = in_stands (count_of s) s (first_place s) i in
      let below : role_of a < roles_of s = subst (λ (a : Axiom). is_conjunction a ≡ false → role_of a < roles_of s) p.is (role_within p.stands) h in
      omega (arith, below, (header_sound s (no_header_fault s ok)).roles)

  pub formed : Formed (names_of s) (content_of s)
  formed = record {
    left_in = λ i. let p = in_stands (count_of s) s (first_place s) i in subst (λ (a : Axiom). a.left < names_of s) p.is (rw (axiom_left (width_of s) s p.at) (sound_at s ok p.stands).left);
    parts_in = λ i h. let p = in_stands (count_of s) s (first_place s) i in part_at_lem p.stands (rw (← p.is) at h);
    filler_in = λ i. let p = in_stands (count_of s) s (first_place s) i in subst (λ (a : Axiom). IsNode (names_of s) (filler_of a)) p.is (filler_at_lem p.stands);
  }

  -- left names rise, so a name has one axiom at most
  pub rises : (c least p j : ℕ) → axioms_fault (width_of s) (names_of s) (roles_of s) (suc c) least s p ≡ 0 → Stands c s (p + axiom_length (width_of s) s p) j
      → number (width_of s) s p < number (width_of s) s j
  unfolding axioms_fault
  rises c least p j h k = (stands_sound (names_of s) (roles_of s) c (suc (number (width_of s) s p)) s (p + axiom_length (width_of s) s p) j
      (both_none (axiom_fault (width_of s) (names_of s) (roles_of s) least s p) _ h).1 k).1

  one_place : (c least p q j : ℕ) → axioms_fault (width_of s) (names_of s) (roles_of s) c least s p ≡ 0 → Stands c s p q → Stands c s p j → number (width_of s) s q ≡ number (width_of s) s j → q ≡ j
  unfolding axioms_fault
  one_place zero least p q j h absent _ e = elim absent [ ]
  one_place (suc c) least p q j h here here e = refl
  one_place (suc c) least p q j h here (there k) e = absurd (omega (arith, rises c least p j h k))
  one_place (suc c) least p q j h (there i) here e = absurd (omega (arith, rises c least p q h i))
  one_place (suc c) least p q j h (there i) (there k) e = one_place c (suc (number (width_of s) s p)) (p + axiom_length (width_of s) s p) q j
      (both_none (axiom_fault (width_of s) (names_of s) (roles_of s) least s p) _ h).1 i k e

  pub normalised : Normalised (content_of s)
  normalised = record {
    one_axiom = λ i k e.
        let p = in_stands (count_of s) s (first_place s) i in
        let q = in_stands (count_of s) s (first_place s) k in
        let z = one_place (count_of s) 0 (first_place s) p.at q.at (no_axiom_fault s ok) p.stands q.stands
        (sym (axiom_left (width_of s) s p.at) ∙
        (ap (λ (a : Axiom). a.left) p.is ∙ (e ∙ (ap (λ (a : Axiom). a.left) (sym q.is) ∙ axiom_left (width_of s) s q.at)))) in
        sym p.is ∙ (ap (axiom_at (width_of s) s) z ∙ q.is);
    plain_parts = λ {a} {b} i k j h. true≢false
        (sym ((tells_listed (axioms_of s)).complete
        (record { it = a; member = i; holds = record { it = b.left; member = h; holds = record { it = b; member = k; holds = (refl, (j.is_defined, j.is_conjunctive)) } } })) ∙
        no_conjunct_defined s ok);
  }
