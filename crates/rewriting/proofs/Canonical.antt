-- An accepted file is the one file of its release in its version.
--   number_at, .., axioms_at     where something is read, its bytes stand
--   canonical                    an accepted file is its own rewriting
use mathlib.Core.Path.{◌≡◌, refl, sym, ap, ap₂, subst, ◌∙◌}
use mathlib.Core.Bool.{Bool, true, false, ◌||◌, ◌&&◌, false≢true}
use mathlib.Core.Logic.{◌⊎◌, inl, inr}
use mathlib.Core.List.{List, [], ◌∷◌, ◌++◌, append-nil}
use Prim.Native.Nat.{ℕ, zero, suc, ◌+◌, ◌*◌, ◌/◌, ◌%◌, ◌≤◌, ◌<◌}
use native.Mathlib.Nat.{add-mul-div_left, add-mul-mod_self_left, div-eq_of_lt, mod-eq_of_lt}
use native.Mathlib.Omega.{arith}
use borrow.Author.Tests.{eqb-true}
use lib.Dec.{eqb}
use lib.ListN.{length, get_or, drop, length-append}
use lib.Seq.{drop-cons}
use Rattle.release.specs.Files.{number, numbers, mark, starts_with, version_of, width_of, top_number, first_place, names_of, roles_of, count_of, joins, filler_node, right_at, axiom_at}
use Rattle.release.specs.Files.{axiom_length, axioms_from, axioms_of, fault, kind_of}
use Rattle.release.specs.Tables.{here, there}
use Rattle.el.proofs.Tests.{not_both}
use Rattle.release.specs.declared.number.Version.TheVariants.{Three}
use Rattle.release.proofs.Numbers.{version_1_width, version_2_width}
use Rattle.release.proofs.Versions.{version_listing, first_plain}
use Rattle.release.proofs.Checks.{Header, header_sound}
use Rattle.release.proofs.Linked.{no_header_fault}
use Rattle.rewriting.specs.Bytes.{Bytes, number_bytes, names_bytes, filler_number, tail_bytes, axiom_bytes, axioms_bytes, release_bytes}
use Rattle.rewriting.specs.Rewriting.{rewritten, Rewritable}
use Rattle.rewriting.specs.Stands.{TailStands, AxiomStands}
use Rattle.rewriting.proofs.Pieces.{number_length, numbers_length}
use Rattle.rewriting.proofs.Lengths.{own_length, header_bytes, accepted_ends, count_length}
use Rattle.rewriting.proofs.Stands.{tail_stands, AllStand, all_stand}
use Rattle.rewriting.proofs.Parts.{At, at_both, at_place, at_as}

-- the number of a filler is that of its node
filler_same : (w b : ℕ) → filler_number w (filler_node w b) ≡ b
filler_same w b = by_top (eqb b (top_number w)) refl
  where
    by_top : (x : Bool) → eqb b (top_number w) ≡ x → filler_number w (filler_node w b) ≡ b
    by_top true e = rw e (sym (eqb-true b (top_number w) e))
    by_top false e = rw e

and_both : (a b : Bool) → a && b ≡ true → (a ≡ true) × (b ≡ true)
and_both true b h = (refl, h)
and_both false b h = absurd (false≢true h)

starts_at : (xs t : List ℕ) → starts_with xs t ≡ true → At t 0 xs
starts_at [] t h = record { rest = t; is = refl }
starts_at (x ∷ xs) [] h = absurd (false≢true h)
starts_at (x ∷ xs) (y ∷ t) h =
    let z = and_both (eqb y x) (starts_with xs t) h in
    let r = starts_at xs t z.1 in
    record { rest = r.rest; is = ap₂ (λ (a : ℕ) (l : List ℕ). a ∷ l) (eqb-true y x z.0) r.is }

or_either : (a b : Bool) → a || b ≡ true → (a ≡ true) ⊎ (b ≡ true)
or_either true b h = inl refl
or_either false b h = inr h

module _ (s : List ℕ) (bytes : Bytes s) where
  byte_at : (p : ℕ) → p < length s → At s p (get_or s p 0 ∷ [])
  byte_at p h = record { rest = drop (suc p) s; is = drop-cons s p 0 h }

  nothing_at : (p : ℕ) → At s p []
  nothing_at p = record { rest = drop p s; is = refl }

  -- a number
  number_at : (w p : ℕ) → p + w ≤ length s → At s p (number_bytes w (number w s p))
  unfolding number number_bytes
  number_at zero p h = nothing_at p
  number_at (suc w) p h =
      let b = get_or s p 0 in
      let r = number w s (p + 1) in
      let small : b < 256 = bytes.each p (omega arith) in
      let low : b ≡ (b + 256 * r) % 256 = sym (add-mul-mod_self_left b 256 r ∙ mod-eq_of_lt small) in
      let high : r ≡ (b + 256 * r) / 256 = sym (add-mul-div_left b r (omega arith) ∙ ap (λ (x : ℕ). x + r) (div-eq_of_lt small) ∙ omega arith) in
      at_as (ap₂ (λ (x y : ℕ). x ∷ number_bytes w y) low high) (at_both (byte_at p (omega arith)) (number_at w (p + 1) (omega arith)))

  one_at : (p : ℕ) → p + 1 ≤ length s → At s p (number_bytes 1 (get_or s p 0))
  unfolding number
  one_at p h = let e : number 1 s p ≡ get_or s p 0 = omega arith in rw e at (number_at 1 p h)

  -- a number, and what stands after it
  then_at : (w x p : ℕ) {b : List ℕ} → At s p (number_bytes w x) → At s (p + w) b → At s p (number_bytes w x ++ b)
  then_at w x p h k = at_both h (at_place (ap (λ (l : ℕ). p + l) (sym (number_length w x))) k)

  names_at : (w k p : ℕ) → p + w * k ≤ length s → At s p (names_bytes w (numbers w k s p))
  unfolding numbers names_bytes
  names_at w zero p h = nothing_at p
  names_at w (suc k) p h = then_at w (number w s p) p (number_at w p (omega arith)) (names_at w k (p + w) (omega arith))

  tail_at : (w kind p : ℕ) → TailStands w kind s p → At s p (tail_bytes w (right_at w kind s p))
  unfolding tail_bytes
  tail_at w kind p h = by_kind (joins kind) refl
    where
      by_kind : (b : Bool) → joins kind ≡ b → At s p (tail_bytes w (right_at w kind s p))
      by_kind true e =
          let l : p + (1 + w * get_or s p 0) ≤ length s = rw e at h.inside in
          let c : get_or s p 0 ≡ length (numbers w (get_or s p 0) s (p + 1)) = sym (numbers_length w (get_or s p 0) s (p + 1)) in
          let first : At s p (number_bytes 1 (length (numbers w (get_or s p 0) s (p + 1)))) = subst (λ (x : ℕ). At s p (number_bytes 1 x)) c (one_at p (omega arith)) in
          rw (e, tail_bytes) (then_at 1 _ p first (names_at w (get_or s p 0) (p + 1) (omega arith)))
      by_kind false e =
          let l : p + (1 + w) ≤ length s = rw e at h.inside in
          let b = number w s (p + 1) in
          let last : At s (p + 1) (number_bytes w (filler_number w (filler_node w b))) = subst (λ (x : ℕ). At s (p + 1) (number_bytes w x)) (sym (filler_same w b))
          (number_at w (p + 1) (omega arith)) in
          rw (e, tail_bytes) (then_at 1 (get_or s p 0) p (one_at p (omega arith)) last)

  pub axiom_at_lem : (w p : ℕ) → AxiomStands w s p → At s p (axiom_bytes w (axiom_at w s p))
  unfolding axiom_bytes axiom_at
  axiom_at_lem w p h =
      let tail = tail_at w (get_or s (p + w) 0) (p + w + 1) (tail_stands w s p h) in
      let kind : At s (p + w) (number_bytes 1 (kind_of (axiom_at w s p))) = subst (λ (x : ℕ). At s (p + w) (number_bytes 1 x)) h.kind (one_at (p + w) (omega (arith, h.inside))) in
      then_at w (number w s p) p (number_at w p (omega (arith, h.inside))) (then_at 1 (kind_of (axiom_at w s p)) (p + w) kind tail)

  axioms_at : (c p : ℕ) → AllStand c s p → At s p (axioms_bytes (width_of s) (axioms_from c s p))
  unfolding axioms_from axioms_bytes
  axioms_at zero p h = nothing_at p
  axioms_at (suc c) p h =
      let w = width_of s in
      let rest = axioms_at c (p + axiom_length w s p) (record { each = λ i. h.each (there i) }) in
      at_both (axiom_at_lem w p (h.each here)) (at_place (ap (λ (l : ℕ). p + l) (own_length w s p)) rest)

  -- the header
  module _ (ok : Rewritable s) where
    header : Header s
    header = header_sound s (no_header_fault s ok.accepted)

    abbrev w : ℕ
    w = width_of s

    pub version_width : version_of s ≡ w
    version_width = by_version (or_either _ (eqb (version_of s) 3) header.version)
      where
        by_plain : (eqb (version_of s) 1 ≡ true) ⊎ (eqb (version_of s) 2 ≡ true) → version_of s ≡ width_of s
        by_plain (inl e) = let f : version_of s ≡ 1 = eqb-true (version_of s) 1 e in f ∙ sym (version_1_width s f)
        by_plain (inr e) = let f : version_of s ≡ 2 = eqb-true (version_of s) 2 e in f ∙ sym (version_2_width s f)

        by_version : (eqb (version_of s) 1 || eqb (version_of s) 2 ≡ true) ⊎ (eqb (version_of s) 3 ≡ true) → version_of s ≡ width_of s
        by_version (inl e) = by_plain (or_either (eqb (version_of s) 1) (eqb (version_of s) 2) e)
        by_version (inr e) = absurd (not_both (version_listing s Three (sym (eqb-true (version_of s) 3 e))) ok.plain)

    version_at : At s 3 (number_bytes 2 w)
    version_at = subst (λ (x : ℕ). At s 3 (number_bytes 2 x)) version_width (number_at 2 3 (omega (arith, header.long)))

    names_of_at : At s 5 (number_bytes w (names_of s))
    unfolding names_of
    names_of_at = number_at w 5 (omega (arith, header.long))

    roles_of_at : At s (5 + w) (number_bytes 1 (roles_of s))
    unfolding roles_of
    roles_of_at = one_at (5 + w) (omega (arith, header.long))

    count_of_at : At s (6 + w) (number_bytes w (length (axioms_of s)))
    unfolding count_of
    count_of_at = subst (λ (x : ℕ). At s (6 + w) (number_bytes w x)) (sym (count_length (count_of s) s (first_place s))) (number_at w (6 + w) (omega (arith, header.long)))

    abbrev from_count : List ℕ
    from_count = number_bytes w (length (axioms_of s)) ++ axioms_bytes w (axioms_of s)

    from_count_at : At s (6 + w) from_count
    from_count_at = then_at w (length (axioms_of s)) (6 + w) count_of_at (at_place {q = 6 + w + w} (omega (arith, first_plain s ok.plain)) (axioms_at (count_of s) (first_place s) (all_stand s ok)))

    all_at : At s 0 (rewritten w s)
    unfolding rewritten release_bytes
    all_at =
        let from_roles : At s (5 + w) (number_bytes 1 (roles_of s) ++ from_count) = then_at 1 (roles_of s) (5 + w) roles_of_at (at_place {q = 5 + w + 1} (omega arith) from_count_at) in
        at_both (starts_at mark s header.marked) (then_at 2 w 3 version_at (then_at w (names_of s) 5 names_of_at from_roles))

    pub canonical : s ≡ rewritten (width_of s) s
    unfolding rewritten
    canonical =
        let l : length s ≡ length (rewritten w s) = accepted_ends s ok ∙ ap (λ (k : ℕ). k + length (axioms_bytes w (axioms_of s))) (first_plain s ok.plain) ∙ sym
        (header_bytes w (names_of s) (roles_of s) (axioms_of s)) in
        let long = ap length all_at.is ∙ length-append (rewritten w s) all_at.rest in
        all_at.is ∙ (ap (λ (x : List ℕ). rewritten w s ++ x) (empty all_at.rest (omega arith)) ∙ append-nil (rewritten w s))
      where
        empty : (xs : List ℕ) → length xs ≡ 0 → xs ≡ []
        empty [] h = refl
        empty (x ∷ xs) h = absurd (omega arith)
