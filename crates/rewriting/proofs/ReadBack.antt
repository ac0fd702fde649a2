-- Axioms written in one width are read back in it: no refusal is met, and the axioms are the same.
--   Parted, Conjoined, Restricted, Tailed, Axiomed, Listed     what reading answers where the bytes of names, of a conjunction, of
--                                                              a restriction, of a tail, of an axiom, of axioms stand
use mathlib.Core.Path.{◌≡◌, refl, sym, ap, ap₂, ◌∙◌}
use mathlib.Core.Bool.{Bool, true, false, ◌||◌}
use mathlib.Core.Logic.{inl, inr}
use mathlib.Core.List.{List, ◌∷◌, ◌++◌}
use Prim.Native.Nat.{ℕ, zero, suc, ◌+◌, ◌≤◌, ◌<◌}
use native.Mathlib.Omega.{arith}
use borrow.Author.Tests.{le-ltb, ltb-true, ltb-false, leb-false, eq-eqb, ne_eqb}
use lib.Dec.{eqb, ltb, leb}
use lib.ListN.{length, get_or, length-append}
use Rattle.el.specs.Lists.{pick}
use Rattle.el.specs.Axioms.{Axiom, Right, conjunction, restriction}
use Rattle.release.specs.Files.{number, numbers, width_of, most_names_of, top_number, ends, most_conjuncts, IsWidth, kind_of}
use Rattle.release.specs.Files.{parts_fault, conjunction_fault, restriction_fault, tail_fault, axiom_fault, axioms_fault, joins, restricts, is_filler, filler_node, right_at}
use Rattle.release.specs.Files.{axiom_at, axiom_length, axioms_from}
use Rattle.release.proofs.Sound.{passed, axiom_sound}
use Rattle.release.proofs.Faults.{is_filler_lem}
use Rattle.release.proofs.Decoding.{both_none}
use Rattle.release.proofs.Linked.{axiom_kind}
use Rattle.rewriting.specs.Bytes.{number_bytes, names_bytes, filler_number, tail_bytes, axiom_bytes, axioms_bytes}
use Rattle.rewriting.proofs.Pieces.{numbers_length}
use Rattle.rewriting.proofs.Lengths.{own_length}
use Rattle.rewriting.proofs.Parts.{At, at_first, at_later, at_place, number_back, fits, byte_back, at_number, at_next, number_inside}

-- names of a file s with the width v, written with the width w in a file t
module _ (v w n : ℕ) (s t : List ℕ) (width : IsWidth w) (few : n ≤ most_names_of w) where
  names_fit : (x : ℕ) → x < n → x < top_number w
  names_fit x h = by_width (eqb w 1) few
    where
      by_width : (b : Bool) → n ≤ pick b 127 1023 → x < pick b 255 65535
      by_width true l = omega arith
      by_width false l = omega arith

  name_back : (x q : ℕ) → x < n → At t q (number_bytes w x) → number w t q ≡ x
  name_back x q h a = number_back w x (fits w x width (omega (arith, names_fit x h))) a

  record Parted (k least p q : ℕ) : Type 0 where
    none : parts_fault w n k least t q ≡ 0
    same : numbers w k t q ≡ numbers v k s p

  parts_back : (k least p q : ℕ) → parts_fault v n k least s p ≡ 0 → At t q (names_bytes w (numbers v k s p)) → Parted k least p q
  unfolding parts_fault numbers names_bytes
  parts_back zero least p q h a = record { none = refl; same = refl }
  parts_back (suc k) least p q h a =
      let x = number v s p in
      let e1 = passed (ends v s p) 6 _ h in
      let e2 = passed (leb n x) 8 _ e1.1 in
      let e3 = passed (ltb x least) 12 _ e2.1 in
      let here : At t q (number_bytes w x) = at_number w x (names_bytes w (numbers v k s (p + v))) a in
      let e : number w t q ≡ x = name_back x q (leb-false n x e2.0) here in
      let inside : ends w t q ≡ false = le-ltb (length t) (q + w) (number_inside w x width here) in
      let r = parts_back k (suc x) (p + v) (q + w) e3.1 (at_next w x (names_bytes w (numbers v k s (p + v))) a) in
      record {
        none = simp (inside, e, e2.0, e3.0, r.none);
        same = ap₂ (λ (y : ℕ) (ys : List ℕ). y ∷ ys) e r.same;
      }

  -- a conjunction
  record Conjoined (p q : ℕ) : Type 0 where
    none : conjunction_fault w n t q ≡ 0
    count : get_or t q 0 ≡ get_or s p 0
    same : numbers w (get_or t q 0) t (q + 1) ≡ numbers v (get_or s p 0) s (p + 1)

  conjunction_back : (p q : ℕ) → conjunction_fault v n s p ≡ 0 → At t q (tail_bytes w (conjunction (numbers v (get_or s p 0) s (p + 1)))) → Conjoined p q
  unfolding conjunction_fault tail_bytes
  conjunction_back p q h a =
      let k = get_or s p 0 in
      let names = numbers v k s (p + 1) in
      let e1 = passed (ends 1 s p) 6 _ h in
      let e2 = passed (ltb most_conjuncts k) 11 _ e1.1 in
      let small : k ≤ 16 = ltb-false most_conjuncts k e2.0 in
      let l : length names ≡ k = numbers_length v k s (p + 1) in
      let here : At t q (number_bytes 1 (length names)) = at_number 1 (length names) (names_bytes w names) a in
      let count : get_or t q 0 ≡ k = byte_back (length names) (omega arith) here ∙ l in
      let inside : ends 1 t q ≡ false = le-ltb (length t) (q + 1) (number_inside 1 (length names) (record { some = omega arith; few = omega arith }) here) in
      let r = parts_back k 0 (p + 1) (q + 1) e2.1 (at_next 1 (length names) (names_bytes w names) a) in
      record {
        none = simp (inside, count, e2.0, r.none);
        count = count;
        same = ap (λ (j : ℕ). numbers w j t (q + 1)) count ∙ r.same;
      }

  -- a restriction
  record Restricted (m p q : ℕ) : Type 0 where
    none : restriction_fault w n m t q ≡ 0
    role : get_or t q 0 ≡ get_or s p 0
    filler : filler_node w (number w t (q + 1)) ≡ filler_node v (number v s (p + 1))

  record Filled (b q : ℕ) : Type 0 where
    is : is_filler w n (number w t q) ≡ true
    same : filler_node w (number w t q) ≡ filler_node v b

  filler_back : (b q : ℕ) → is_filler v n b ≡ true → At t q (number_bytes w (filler_number w (filler_node v b))) → Filled b q
  filler_back b q h a = by_top (eqb b (top_number v)) refl
    where
      left : (x : Bool) → x || false ≡ true → x ≡ true
      left true z = refl
      left false z = z

      by_top : (x : Bool) → eqb b (top_number v) ≡ x → Filled b q
      by_top true e =
          let here : At t q (number_bytes w (top_number w)) = rw e at a in
          let f : number w t q ≡ top_number w = number_back w (top_number w) (fits w (top_number w) width (omega arith)) here in
          record { is = is_filler_lem w n (number w t q) (inr f); same = simp (eq-eqb _ _ f, e) }
      by_top false e =
          let here : At t q (number_bytes w b) = rw e at a in
          let l : b < n = ltb-true b n (left (ltb b n) (rw e at h)) in
          let f : number w t q ≡ b = name_back b q l here in
          let d : eqb b (top_number w) ≡ false = ne_eqb b (top_number w) (λ z. omega (arith, names_fit b l)) in
          record { is = rw f (is_filler_lem w n b (inl l)); same = simp (f, d, e) }

  restriction_back : (m p q : ℕ) → m ≤ 32 → restriction_fault v n m s p ≡ 0 → At t q (tail_bytes w (restriction (get_or s p 0) (filler_node v (number v s (p + 1))))) → Restricted m p q
  unfolding restriction_fault tail_bytes
  restriction_back m p q few_roles h a =
      let r = get_or s p 0 in
      let b = number v s (p + 1) in
      let filler_bytes = number_bytes w (filler_number w (filler_node v b)) in
      let e1 = passed (ends 1 s p) 6 _ h in
      let e2 = passed (leb m r) 10 _ e1.1 in
      let e3 = passed (ends v s (p + 1)) 6 _ e2.1 in
      let small : r < m = leb-false m r e2.0 in
      let here : At t q (number_bytes 1 r) = at_number 1 r filler_bytes a in
      let role : get_or t q 0 ≡ r = byte_back r (omega arith) here in
      let there : At t (q + 1) filler_bytes = at_next 1 r filler_bytes a in
      let filled = filler_back b (q + 1) (is_true (is_filler v n b) e3.1) there in
      let inside : ends 1 t q ≡ false = le-ltb (length t) (q + 1) (number_inside 1 r (record { some = omega arith; few = omega arith }) here) in
      let inside_2 : ends w t (q + 1) ≡ false = le-ltb (length t) (q + 1 + w) (number_inside w (filler_number w (filler_node v b)) width there) in
      record { none = simp (inside, role, e2.0, inside_2, filled.is); role = role; filler = filled.same }
    where
      is_true : (x : Bool) → ◌≡◌ {A = ℕ} (pick x 0 9) 0 → x ≡ true
      is_true true z = refl
      is_true false z = absurd (omega arith)

  -- a tail
  record Tailed (m kind p q : ℕ) : Type 0 where
    none : tail_fault w n m kind t q ≡ 0
    same : right_at w kind t q ≡ right_at v kind s p

  tail_back : (m kind p q : ℕ) → m ≤ 32 → tail_fault v n m kind s p ≡ 0 → At t q (tail_bytes w (right_at v kind s p)) → Tailed m kind p q
  unfolding tail_fault
  tail_back m kind p q few_roles h a = by_kind (joins kind) (restricts kind) refl refl
    where
      by_kind : (j r : Bool) → joins kind ≡ j → restricts kind ≡ r → Tailed m kind p q
      by_kind true r e f =
          let c = conjunction_back p q (rw e at h) (rw e at a) in
          record { none = simp (e, c.none); same = simp (e, c.same) }
      by_kind false true e f =
          let c = restriction_back m p q few_roles (rw (e, f) at h) (rw e at a) in
          record { none = simp (e, f, c.none); same = simp (e, c.role, c.filler) }
      by_kind false false e f = let z : ◌≡◌ {A = ℕ} 8 0 = rw (e, f) at h in absurd (omega arith)

  -- an axiom
  pub record Axiomed (m least p q : ℕ) : Type 0 where
    pub none : axiom_fault w n m least t q ≡ 0
    pub left : number w t q ≡ number v s p
    pub same : axiom_at w t q ≡ axiom_at v s p

  pub axiom_back : (m least p q : ℕ) → m ≤ 32 → axiom_fault v n m least s p ≡ 0 → At t q (axiom_bytes w (axiom_at v s p)) → Axiomed m least p q
  unfolding axiom_fault axiom_bytes axiom_at
  axiom_back m least p q few_roles h a =
      let x = number v s p in
      let kind = get_or s (p + v) 0 in
      let right = right_at v kind s (p + v + 1) in
      let written = kind_of (axiom_at v s p) in
      let e1 = passed (ends v s p) 6 _ h in
      let e2 = passed (leb n x) 8 _ e1.1 in
      let e3 = passed (ltb x least) 9 _ e2.1 in
      let e4 = passed (ends 1 s (p + v)) 6 _ e3.1 in
      let is_kind : kind ≡ written = axiom_kind v s p (axiom_sound v n m least s p h).tail in
      let here : At t q (number_bytes w x) = at_number w x (number_bytes 1 written ++ tail_bytes w right) a in
      let there : At t (q + w) (number_bytes 1 written ++ tail_bytes w right) = at_next w x (number_bytes 1 written ++ tail_bytes w right) a in
      let kind_here : At t (q + w) (number_bytes 1 written) = at_number 1 written (tail_bytes w right) there in
      let left : number w t q ≡ x = name_back x q (leb-false n x e2.0) here in
      let f : get_or t (q + w) 0 ≡ kind = byte_back written (small (axiom_at v s p)) kind_here ∙ sym is_kind in
      let r = tail_back m kind (p + v + 1) (q + w + 1) few_roles e4.1 (at_next 1 written (tail_bytes w right) there) in
      let inside : ends w t q ≡ false = le-ltb (length t) (q + w) (number_inside w x width here) in
      let inside_2 : ends 1 t (q + w) ≡ false = le-ltb (length t) (q + w + 1) (number_inside 1 written (record { some = omega arith; few = omega arith }) kind_here) in
      record {
        none = simp (inside, left, e2.0, e3.0, inside_2, f, r.none);
        left = left;
        same = simp (left, f, r.same);
      }
    where
      small : (a : Axiom) → kind_of a < 256
      small a = by_form a.right a.defined
        where
          by_form : (r : Right) (d : Bool) → kind_of (record { left = 0; defined = d; right = r }) < 256
          by_form (conjunction xs) true = omega arith
          by_form (conjunction xs) false = omega arith
          by_form (restriction r b) true = omega arith
          by_form (restriction r b) false = omega arith

-- axioms of a file s, written with the width w at the end of a file t whose names have that width
module _ (w n m : ℕ) (s t : List ℕ) (width : IsWidth w) (few : n ≤ most_names_of w) (few_roles : m ≤ 32) (is : w ≡ width_of t) where
  pub record Listed (c least p q : ℕ) : Type 0 where
    pub none : axioms_fault w n m c least t q ≡ 0
    pub same : axioms_from c t q ≡ axioms_from c s p

  pub axioms_back : (c least p q : ℕ) → axioms_fault (width_of s) n m c least s p ≡ 0 → At t q (axioms_bytes w (axioms_from c s p))
      → length t ≡ q + length (axioms_bytes w (axioms_from c s p)) → Listed c least p q
  unfolding axioms_fault axioms_from axioms_bytes
  axioms_back zero least p q h a end =
      let ended : ltb q (length t) ≡ false = le-ltb q (length t) (omega arith) in
      record { none = simp ended; same = refl }
  axioms_back (suc c) least p q h a end =
      let v = width_of s in
      let first = axiom_bytes w (axiom_at v s p) in
      let others = axioms_bytes w (axioms_from c s (p + axiom_length v s p)) in
      let z = both_none _ _ h in
      let one = axiom_back v w n s t width few m least p q few_roles z.0 (at_first first others a) in
      let l : axiom_length w t q ≡ length first = own_length w t q ∙ ap (λ (x : Axiom). length (axiom_bytes w x)) one.same in
      let next : At t (q + axiom_length w t q) others = at_place (ap (λ (k : ℕ). q + k) (sym l)) (at_later first others a) in
      let rest = axioms_back c (suc (number v s p)) (p + axiom_length v s p) (q + axiom_length w t q) z.1 next (omega (arith, l, length-append first others)) in
      record {
        none = simp (one.none, one.left, rest.none);
        same = rw (← is) (ap₂ (λ (x : Axiom) (xs : List Axiom). x ∷ xs) one.same rest.same);
      }
