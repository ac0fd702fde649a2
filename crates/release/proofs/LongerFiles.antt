-- A file longer than the longest accepted release is refused by its first 37,350 bytes as by all of it.
--   Alike k s t     the files s and t have at least k bytes, and the same ones at the first k places
-- Each refusal of a header, a pair or an axiom looks at places below 11 + 2 × 255 + 36 × 1,023 only, and where none is met there, 14 is.
use mathlib.Core.Path.{◌≡◌, refl, sym, ap, ◌∙◌}
use mathlib.Core.Bool.{Bool, true, false}
use mathlib.Core.List.{List, [], ◌∷◌}
use Prim.Native.Nat.{ℕ, zero, suc, ◌+◌, ◌*◌, ◌≤◌, ◌<◌}
use native.Mathlib.Nat.{mul-le-mul}
use native.Mathlib.Omega.{arith}
use borrow.Author.Tests.{lt-ltb, le-ltb, ltb-false}
use lib.Dec.{ltb}
use lib.ListN.{length, get_or, take}
use lib.Seq.{length-take-le, get_or-take}
use Rattle.release.specs.Files.{number, width_of, lists_pairs, most_conjuncts, mark, starts_with, header_length, pair_count, pairs_place, first_place, names_of, roles_of, count_of}
use Rattle.release.specs.Files.{header_fault, ends, pair_at, least_pair, after, pair_fault, pairs_fault, parts_fault, conjunction_fault, restriction_fault, tail_fault, axiom_fault}
use Rattle.release.specs.Files.{axiom_length, axioms_fault, fault}
use Rattle.el.specs.Axioms.{RolePair}
use Rattle.release.specs.Readings.{checked}
use Rattle.release.specs.declared.TheConstants.Release.{LONGEST}
use Rattle.release.proofs.Numbers.{is_width}
use Rattle.release.proofs.Sound.{axiom_sound, tail_within}
use Rattle.release.proofs.Checks.{header_sound}
use Rattle.release.proofs.Versions.{header_near, few_pairs, first_is}

record Alike (k : ℕ) (s t : List ℕ) : Type 0 where
  long : k ≤ length s
  long' : k ≤ length t
  same : (i : ℕ) → i < k → get_or s i 0 ≡ get_or t i 0

goes_on : (k w : ℕ) (s : List ℕ) (p : ℕ) → k ≤ length s → p + w ≤ k → ends w s p ≡ false
goes_on k w s p h l = le-ltb (length s) (p + w) (omega arith)

starts_alike : (xs s t : List ℕ) → length xs ≤ length s → length xs ≤ length t → ((i : ℕ) → i < length xs → get_or s i 0 ≡ get_or t i 0) → starts_with xs s ≡ starts_with xs t
starts_alike [] s t h l same = refl
starts_alike (x ∷ xs) [] t h l same = absurd (omega arith)
starts_alike (x ∷ xs) (a ∷ s) [] h l same = absurd (omega arith)
starts_alike (x ∷ xs) (a ∷ s) (b ∷ t) h l same =
    let e : a ≡ b = same 0 (omega arith) in
    let rest : starts_with xs s ≡ starts_with xs t = starts_alike xs s t (omega arith) (omega arith) (λ i m. same (suc i) (omega arith)) in
    simp (e, rest)

module _ {k : ℕ} {s t : List ℕ} (alike : Alike k s t) where
  number_alike : (w p : ℕ) → p + w ≤ k → number w s p ≡ number w t p
  unfolding number
  number_alike zero p h = refl
  number_alike (suc w) p h =
      let low : get_or s p 0 ≡ get_or t p 0 = alike.same p (omega arith) in
      let more : number w s (p + 1) ≡ number w t (p + 1) = number_alike w (p + 1) (omega arith) in
      rw (low, more)

  -- the pairs
  pair_alike : (m : ℕ) (least : RolePair) (p : ℕ) → p + 2 ≤ k → pair_fault m least s p ≡ pair_fault m least t p
  unfolding pair_fault
  pair_alike m least p h =
      let e : ends 1 s p ≡ false = goes_on k 1 s p alike.long (omega arith) in
      let f : ends 1 t p ≡ false = goes_on k 1 t p alike.long' (omega arith) in
      let g : get_or s p 0 ≡ get_or t p 0 = alike.same p (omega arith) in
      let e' : ends 1 s (p + 1) ≡ false = goes_on k 1 s (p + 1) alike.long (omega arith) in
      let f' : ends 1 t (p + 1) ≡ false = goes_on k 1 t (p + 1) alike.long' (omega arith) in
      let g' : get_or s (p + 1) 0 ≡ get_or t (p + 1) 0 = alike.same (p + 1) (omega arith) in
      simp (e, f, g, e', f', g')

  pairs_alike : (m c : ℕ) (least : RolePair) (p : ℕ) → p + 2 * c ≤ k → pairs_fault m c least s p ≡ pairs_fault m c least t p
  unfolding pairs_fault
  pairs_alike m zero least p h = refl
  pairs_alike m (suc c) least p h =
      let one : pair_fault m least s p ≡ pair_fault m least t p = pair_alike m least p (omega arith) in
      let g : get_or s p 0 ≡ get_or t p 0 = alike.same p (omega arith) in
      let g' : get_or s (p + 1) 0 ≡ get_or t (p + 1) 0 = alike.same (p + 1) (omega arith) in
      let more : pairs_fault m c (after (pair_at t p)) s (p + 2) ≡ pairs_fault m c (after (pair_at t p)) t (p + 2) = pairs_alike m c (after (pair_at t p)) (p + 2) (omega arith) in
      rw (one, g, g', more)

  parts_alike : (w n c least p : ℕ) → p + w * c ≤ k → parts_fault w n c least s p ≡ parts_fault w n c least t p
  unfolding parts_fault
  parts_alike w n zero least p h = refl
  parts_alike w n (suc c) least p h =
      let e : ends w s p ≡ false = goes_on k w s p alike.long (omega arith) in
      let f : ends w t p ≡ false = goes_on k w t p alike.long' (omega arith) in
      let g : number w s p ≡ number w t p = number_alike w p (omega arith) in
      let more : parts_fault w n c (suc (number w t p)) s (p + w) ≡ parts_fault w n c (suc (number w t p)) t (p + w) = parts_alike w n c (suc (number w t p)) (p + w) (omega arith) in
      simp (e, f, g, more)

  module _ (w : ℕ) (narrow : w ≤ 2) where
    conjunction_alike : (n p : ℕ) → p + 33 ≤ k → conjunction_fault w n s p ≡ conjunction_fault w n t p
    unfolding conjunction_fault
    conjunction_alike n p h = by_count (ltb most_conjuncts (get_or t p 0)) refl
      where
        e : ends 1 s p ≡ false
        e = goes_on k 1 s p alike.long (omega arith)

        f : ends 1 t p ≡ false
        f = goes_on k 1 t p alike.long' (omega arith)

        g : get_or s p 0 ≡ get_or t p 0
        g = alike.same p (omega arith)

        by_count : (b : Bool) → ltb most_conjuncts (get_or t p 0) ≡ b → conjunction_fault w n s p ≡ conjunction_fault w n t p
        by_count true z = simp (conjunction_fault, e, f, g, z)
        by_count false z =
            let few : get_or t p 0 ≤ most_conjuncts = ltb-false most_conjuncts (get_or t p 0) z in
            let l : w * get_or t p 0 ≤ 2 * 16 = mul-le-mul narrow few in
            let more : parts_fault w n (get_or t p 0) 0 s (p + 1) ≡ parts_fault w n (get_or t p 0) 0 t (p + 1) = parts_alike w n (get_or t p 0) 0 (p + 1) (omega arith) in
            simp (conjunction_fault, e, f, g, z, more)

    restriction_alike : (n m p : ℕ) → p + 3 ≤ k → restriction_fault w n m s p ≡ restriction_fault w n m t p
    unfolding restriction_fault
    restriction_alike n m p h =
        let e : ends 1 s p ≡ false = goes_on k 1 s p alike.long (omega arith) in
        let f : ends 1 t p ≡ false = goes_on k 1 t p alike.long' (omega arith) in
        let g : get_or s p 0 ≡ get_or t p 0 = alike.same p (omega arith) in
        let e' : ends w s (p + 1) ≡ false = goes_on k w s (p + 1) alike.long (omega arith) in
        let f' : ends w t (p + 1) ≡ false = goes_on k w t (p + 1) alike.long' (omega arith) in
        let g' : number w s (p + 1) ≡ number w t (p + 1) = number_alike w (p + 1) (omega arith) in
        simp (e, f, g, e', f', g')

    tail_alike : (n m kind p : ℕ) → p + 33 ≤ k → tail_fault w n m kind s p ≡ tail_fault w n m kind t p
    unfolding tail_fault
    tail_alike n m kind p h =
        let c : conjunction_fault w n s p ≡ conjunction_fault w n t p = conjunction_alike n p h in
        let r : restriction_fault w n m s p ≡ restriction_fault w n m t p = restriction_alike n m p (omega arith) in
        simp (c, r)

    axiom_alike : (n m least p : ℕ) → p + 36 ≤ k → axiom_fault w n m least s p ≡ axiom_fault w n m least t p
    unfolding axiom_fault
    axiom_alike n m least p h =
        let e : ends w s p ≡ false = goes_on k w s p alike.long (omega arith) in
        let f : ends w t p ≡ false = goes_on k w t p alike.long' (omega arith) in
        let g : number w s p ≡ number w t p = number_alike w p (omega arith) in
        let e' : ends 1 s (p + w) ≡ false = goes_on k 1 s (p + w) alike.long (omega arith) in
        let f' : ends 1 t (p + w) ≡ false = goes_on k 1 t (p + w) alike.long' (omega arith) in
        let g' : get_or s (p + w) 0 ≡ get_or t (p + w) 0 = alike.same (p + w) (omega arith) in
        let tail : tail_fault w n m (get_or t (p + w) 0) s (p + w + 1) ≡ tail_fault w n m (get_or t (p + w) 0) t (p + w + 1) = tail_alike n m (get_or t (p + w) 0) (p + w + 1) (omega arith) in
        simp (e, f, g, e', f', g', tail)

    lengths_alike : (p : ℕ) → p + 36 ≤ k → axiom_length w s p ≡ axiom_length w t p
    lengths_alike p h =
        let g : get_or s (p + w) 0 ≡ get_or t (p + w) 0 = alike.same (p + w) (omega arith) in
        let g' : get_or s (p + w + 1) 0 ≡ get_or t (p + w + 1) 0 = alike.same (p + w + 1) (omega arith) in
        simp (g, g')

    -- what holds of c axioms from place p on: the same refusal, and one is met, at the latest 14
    abbrev Refused : ℕ → ℕ → ℕ → ℕ → ℕ → Type 0
    Refused n m c least p =
        (axioms_fault w n m c least s p ≡ axioms_fault w n m c least t p) × (axioms_fault w n m c least t p ≡ 0 → ⊥)

    axioms_alike : (n m c least p : ℕ) → p + 36 * c < k → Refused n m c least p
    unfolding axioms_fault
    axioms_alike n m zero least p h =
        let e : ltb p (length s) ≡ true = lt-ltb p (length s) (omega (arith, alike.long)) in
        let f : ltb p (length t) ≡ true = lt-ltb p (length t) (omega (arith, alike.long')) in
        (simp (e, f), λ z. let y : ◌≡◌ {A = ℕ} 14 0 = simp f at z in omega arith)
    axioms_alike n m (suc c) least p h = by_first (axiom_fault w n m least t p) refl (λ l q. axioms_alike n m c l q)
      where
        first : axiom_fault w n m least s p ≡ axiom_fault w n m least t p
        first = axiom_alike n m least p (omega arith)

        by_first : (a : ℕ) → axiom_fault w n m least t p ≡ a → ((l q : ℕ) → q + 36 * c < k → Refused n m c l q) → Refused n m (suc c) least p
        by_first zero z more =
            let short = (tail_within w n m (get_or t (p + w) 0) t (p + w + 1) (axiom_sound w n m least t p z).tail).1 narrow in
            let g : number w s p ≡ number w t p = number_alike w p (omega arith) in
            let l : axiom_length w s p ≡ axiom_length w t p = lengths_alike p (omega arith) in
            let rest : Refused n m c (suc (number w t p)) (p + axiom_length w t p) = more (suc (number w t p)) (p + axiom_length w t p) (omega (arith, short)) in
            let one : axioms_fault w n m (suc c) least t p ≡ axioms_fault w n m c (suc (number w t p)) t (p + axiom_length w t p) = rw (z, axioms_fault) in
            let two : axioms_fault w n m (suc c) least s p ≡ axioms_fault w n m c (suc (number w s p)) s (p + axiom_length w s p) = rw (first ∙ z, axioms_fault) in
            let three : axioms_fault w n m c (suc (number w s p)) s (p + axiom_length w s p) ≡ axioms_fault w n m c (suc (number w t p)) s (p + axiom_length w t p) =
            ap (λ (x : ℕ). axioms_fault w n m c (suc x) s (p + axiom_length w s p)) g ∙ ap (λ (x : ℕ). axioms_fault w n m c (suc (number w t p)) s (p + x)) l in
            (two ∙ three ∙ rest.0 ∙ sym one, λ y. rest.1 (sym one ∙ y))
        by_first (suc j) z more =
            let one : axioms_fault w n m (suc c) least t p ≡ suc j = rw (z, axioms_fault) in
            let two : axioms_fault w n m (suc c) least s p ≡ suc j = rw (first ∙ z, axioms_fault) in
            (two ∙ sym one, λ y. let x : suc j ≡ 0 = sym one ∙ y in omega arith)

  -- the header: its width, and the counts in it
  width_alike : 11 ≤ k → width_of s ≡ width_of t
  unfolding width_of
  width_alike h = let low : get_or s 3 0 ≡ get_or t 3 0 = alike.same 3 (omega arith) in simp low

  lists_alike : 11 ≤ k → lists_pairs s ≡ lists_pairs t
  unfolding lists_pairs
  lists_alike h = let low : get_or s 3 0 ≡ get_or t 3 0 = alike.same 3 (omega arith) in simp low

  end_alike : 11 ≤ k → pairs_place s ≡ pairs_place t
  unfolding pairs_place
  end_alike h = rw (width_alike h, lists_alike h)

  pair_count_alike : 11 ≤ k → pair_count s ≡ pair_count t
  unfolding pair_count
  pair_count_alike h = rw (lists_alike h, alike.same 10 (omega arith))

  first_alike : 11 ≤ k → first_place s ≡ first_place t
  first_alike h = omega (arith, first_is s, first_is t, end_alike h, pair_count_alike h)

  names_alike : 11 ≤ k → names_of s ≡ names_of t
  unfolding names_of
  names_alike h = rw (width_alike h) (number_alike (width_of t) 5 (omega (arith, (is_width t).few)))

  roles_alike : 11 ≤ k → roles_of s ≡ roles_of t
  unfolding roles_of
  roles_alike h = rw (width_alike h) (alike.same (5 + width_of t) (omega (arith, (is_width t).few)))

  count_alike : 11 ≤ k → count_of s ≡ count_of t
  unfolding count_of
  count_alike h = rw (width_alike h) (number_alike (width_of t) (6 + width_of t) (omega (arith, (is_width t).few)))

  header_alike : 11 ≤ k → header_fault s ≡ header_fault t
  unfolding header_fault
  header_alike h =
      let e : ltb (length s) (header_length 1 false) ≡ false = le-ltb (length s) (header_length 1 false) (omega (arith, alike.long)) in
      let f : ltb (length t) (header_length 1 false) ≡ false = le-ltb (length t) (header_length 1 false) (omega (arith, alike.long')) in
      let starts : starts_with mark s ≡ starts_with mark t = starts_alike mark s t (omega (arith, alike.long)) (omega (arith, alike.long')) (λ i l. alike.same i (omega arith)) in
      let version : number 2 s 3 ≡ number 2 t 3 = number_alike 2 3 (omega arith) in
      let place : pairs_place s ≡ pairs_place t = end_alike h in
      let e' : ltb (length s) (pairs_place t) ≡ false = le-ltb (length s) (pairs_place t) (omega (arith, alike.long, header_near t)) in
      let f' : ltb (length t) (pairs_place t) ≡ false = le-ltb (length t) (pairs_place t) (omega (arith, alike.long', header_near t)) in
      let width : width_of s ≡ width_of t = width_alike h in
      let names : names_of s ≡ names_of t = names_alike h in
      let roles : roles_of s ≡ roles_of t = roles_alike h in
      let count : count_of s ≡ count_of t = count_alike h in
      simp (e, f, starts, version, place, width, e', f', names, roles, count)

-- how many bytes decide: one more than the longest accepted release has
abbrev pub enough : ℕ
enough = suc LONGEST

-- a refusal met by both files, whatever else they hold
record Met (s t : List ℕ) : Type 0 where
  number : ℕ
  first : fault s ≡ suc number
  second : fault t ≡ suc number

-- the number of pairs is a byte
fault_alike : {s t : List ℕ} → Alike enough s t → get_or t 10 0 ≤ 255 → Met s t
unfolding fault
fault_alike {s} {t} alike small = by_header (header_fault t) refl
  where
    heads : header_fault s ≡ header_fault t
    heads = header_alike alike (omega arith)

    pairs_in : List ℕ → ℕ
    pairs_in u = pairs_fault (roles_of t) (pair_count t) least_pair u (pairs_place t)

    own_pairs : pairs_fault (roles_of s) (pair_count s) least_pair s (pairs_place s) ≡ pairs_in s
    own_pairs = rw (roles_alike alike (omega arith), pair_count_alike alike (omega arith), end_alike alike (omega arith))

    pairs_same : pairs_in s ≡ pairs_in t
    pairs_same = pairs_alike alike (roles_of t) (pair_count t) least_pair (pairs_place t) (omega (arith, header_near t, few_pairs t small))

    axioms_in : List ℕ → ℕ
    axioms_in u = axioms_fault (width_of t) (names_of t) (roles_of t) (count_of t) 0 u (first_place t)

    own_axioms : axioms_fault (width_of s) (names_of s) (roles_of s) (count_of s) 0 s (first_place s) ≡ axioms_in s
    own_axioms = rw (width_alike alike (omega arith), names_alike alike (omega arith), roles_alike alike (omega arith), count_alike alike (omega arith), first_alike alike (omega arith))

    by_axioms : header_fault t ≡ 0 → pairs_in t ≡ 0 → (a : ℕ) → axioms_in t ≡ a → axioms_in s ≡ a → (a ≡ 0 → ⊥) → Met s t
    by_axioms w v zero e f z = absurd (z refl)
    by_axioms w v (suc j) e f z = record { number = j; first = rw (heads ∙ w, own_pairs ∙ pairs_same ∙ v, own_axioms ∙ f, fault); second = rw (w, v, e, fault) }

    by_pairs : header_fault t ≡ 0 → (b : ℕ) → pairs_in t ≡ b → Met s t
    by_pairs w zero v =
        let sound = header_sound t w in
        let few = (is_width t).few in
        let start : first_place t ≤ 521 = omega (arith, first_is t, header_near t, few_pairs t small) in
        let all = axioms_alike alike (width_of t) few (names_of t) (roles_of t) (count_of t) 0 (first_place t) (omega (arith, start, sound.names, sound.count)) in
        by_axioms w v (axioms_in t) refl all.0 all.1
    by_pairs w (suc j) v = record { number = j; first = rw (heads ∙ w, own_pairs ∙ pairs_same ∙ v, fault); second = rw (w, v, fault) }

    by_header : (h : ℕ) → header_fault t ≡ h → Met s t
    by_header zero w = by_pairs w (pairs_in t) refl
    by_header (suc j) w = record { number = j; first = rw (heads ∙ w, fault); second = rw (w, fault) }

-- the first 37,350 bytes of a file that has as many are answered as the whole file
pub first_bytes_decide : (file : List ℕ) → ((i : ℕ) → get_or file i 0 ≤ 255) → enough ≤ length file → checked (take enough file) ≡ checked file
unfolding checked
first_bytes_decide file bytes h =
    let alike : Alike enough (take enough file) file = record {
      long = omega (arith, length-take-le enough file h);
      long' = h;
      same = λ i l. get_or-take enough file i 0 l;
    } in
    let met = fault_alike alike (bytes 10) in
    simp (met.first, met.second)
