-- Where a name's axiom stands, by the table, and the part of a file that shows it.
use mathlib.Core.Path.{◌≡◌, refl, sym, ap, ◌∙◌}
use mathlib.Core.Bool.{Bool, true, false, false≢true}
use mathlib.Core.Logic.{◌⊎◌, inl, inr}
use mathlib.Core.List.{List}
use Prim.Native.Nat.{ℕ, zero, suc, ◌+◌, ◌-◌, ◌≤◌, ◌<◌}
use native.Mathlib.Omega.{arith}
use borrow.Author.Tests.{eq-eqb, ne_eqb, eqb-true}
use lib.Dec.{eqb}
use lib.ListN.{length, get_or, take, drop}
use Rattle.std.specs.Prelude.{Err}
use denote.Ref.{Bor}
use Rattle.el.specs.Lists.{pick}
use Rattle.el.proofs.Tests.{which}
use Rattle.release.specs.declared.refusals.FileRefusal.{FileRefusal}
use Rattle.release.specs.declared.show.Place.{Place}
use Rattle.release.specs.declared.table.Table.{Table}
use Rattle.release.specs.Files.{number, width_of, first_place, names_of, roles_of, count_of, joins, axiom_length, axiom_fault, axioms_fault, restricts, fault, accepted}
use Rattle.release.specs.Tables.{kind_at, tail_at, Stands, here, there, blank, of_axiom, HasRow, Release, ReleaseRead}
use Rattle.release.specs.Readings.{counts_in, checked}
use Rattle.release.specs.Refusals.{Numbers, answer, file_refusal}
use Rattle.release.specs.Shown.{nowhere, place_from, place_in, shown_place, holder}
use Rattle.release.proofs.Refusing.{is_refused}
use Rattle.release.proofs.Sound.{axiom_sound, tail_within, tail_kind}
use Rattle.release.proofs.Decoding.{holds, kind_is, both_none}
use Rattle.release.proofs.Linked.{no_axiom_fault, sound_at, ranges, rises}

later_none : (s : List ℕ) (c least p : ℕ) → axioms_fault (width_of s) (names_of s) (roles_of s) (suc c) least s p ≡ 0
    → (axiom_fault (width_of s) (names_of s) (roles_of s) least s p ≡ 0)
    × (axioms_fault (width_of s) (names_of s) (roles_of s) c (suc (number (width_of s) s p)) s (p + axiom_length (width_of s) s p) ≡ 0)
unfolding axioms_fault
later_none s c least p h = both_none (axiom_fault (width_of s) (names_of s) (roles_of s) least s p)
    (axioms_fault (width_of s) (names_of s) (roles_of s) c (suc (number (width_of s) s p)) s (p + axiom_length (width_of s) s p)) h

-- the first axiom with the name is the only one
place_found : (s : List ℕ) (ok : fault s ≡ 0) (side c least p q : ℕ) → axioms_fault (width_of s) (names_of s) (roles_of s) c least s p ≡ 0 → Stands c s p q
    → place_from side c s p (number (width_of s) s q) ≡ record { side = side; start = q; length = axiom_length (width_of s) s q }
unfolding place_from axioms_fault
place_found s ok side zero least p q h absent = elim absent [ ]
place_found s ok side (suc c) least p q h here = rw (place_from, eq-eqb (number (width_of s) s p) (number (width_of s) s p) refl)
place_found s ok side (suc c) least p q h (there i) = rw (place_from, ne_eqb (number (width_of s) s p) (number (width_of s) s q) (λ e. omega (arith, rises s ok c least p q h i)))
    (place_found s ok side c (suc (number (width_of s) s p)) (p + axiom_length (width_of s) s p) q (later_none s c least p h).1 i)

place_none : (s : List ℕ) (side c p x : ℕ) → ((q : ℕ) → Stands c s p q → number (width_of s) s q ≡ x → ⊥) → place_from side c s p x ≡ nowhere
unfolding place_from
place_none s side zero p x f = refl
place_none s side (suc c) p x f = rw (place_from, ne_eqb (number (width_of s) s p) x (f p here)) (place_none s side c (p + axiom_length (width_of s) s p) x (λ q i. f q (there i)))

-- the part lies in its file
place_within : (s : List ℕ) (side c least p x : ℕ) → axioms_fault (width_of s) (names_of s) (roles_of s) c least s p ≡ 0 → (place_from side c s p x).start + (place_from side c s p x).length ≤ length s
unfolding place_from
place_within s side zero least p x h = omega arith
place_within s side (suc c) least p x h =
    let v = later_none s c least p h in
    let w = tail_within (width_of s) (names_of s) (roles_of s) (get_or s (p + width_of s) 0) s (p + width_of s + 1) (axiom_sound (width_of s) (names_of s) (roles_of s) least s p v.0).tail in
    elim (which (eqb (number (width_of s) s p) x)) [
      | inl e ↦ rw (place_from, e) (omega (arith, w.0))
      | inr e ↦ rw (place_from, e) (place_within s side c (suc (number (width_of s) s p)) (p + axiom_length (width_of s) s p) x v.1)
    ]

place_side : (s : List ℕ) (side c p x : ℕ) → (place_from side c s p x ≡ nowhere) ⊎ ((place_from side c s p x).side ≡ side)
unfolding place_from
place_side s side zero p x = inl refl
place_side s side (suc c) p x = elim (which (eqb (number (width_of s) s p) x)) [
  | inl e ↦ inr (rw (place_from, e))
  | inr e ↦ rw (place_from, e) (place_side s side c (p + axiom_length (width_of s) s p) x)
]

-- by the table
no_kind_0 : (k : ℕ) → k ≡ 0 → (joins k ≡ true) ⊎ (restricts k ≡ true) → ⊥
no_kind_0 k e (inl h) = false≢true (rw e at h)
no_kind_0 k e (inr h) = false≢true (rw e at h)

row_kind : {s : List ℕ} {t : Table} (r : Release s t) {q : ℕ} → Stands (count_of s) s (first_place s) q → kind_at t (number (width_of s) s q) ≡ get_or s (q + width_of s) 0
row_kind {s} r i = kind_is (roles_of s) r.decoded (no_axiom_fault s r.accepted) i

pub version_within : {s : List ℕ} {t : Table} → Release s t → 3 < length s
version_within r = (ranges r).version

module _ {s : List ℕ} {t : Table} (r : Release s t) (side x : ℕ) where
  pub place_outside : names_of s ≤ x → nowhere ≡ place_in side s x
  place_outside l = sym (place_none s side (count_of s) (first_place s) x (λ q i e. omega (arith, (sound_at s r.accepted i).left)))

  module _ (small : x < names_of s) where
    pub place_row : HasRow x
    place_row = record { row = omega (arith, r.decoded.rows) }

    pub place_blank : kind_at t x ≡ 0 → nowhere ≡ place_in side s x
    place_blank z = sym (place_none s side (count_of s) (first_place s) x
        (λ q i e. no_kind_0 (get_or s (q + width_of s) 0) (sym (row_kind r i) ∙ (ap (kind_at t) e ∙ z)) (tail_kind (sound_at s r.accepted i).tail)))

    module _ (some : kind_at t x ≡ 0 → ⊥) where
      record Found : Type 0 where
        at : ℕ
        stands : Stands (count_of s) s (first_place s) at
        is : number (width_of s) s at ≡ x

      found : Found
      found = elim (r.decoded.origin x small) [ blank z ↦ absurd (some z) | of_axiom {q = q} i e ↦ record { at = q; stands = i; is = e } ]

      tail_is : tail_at t x ≡ found.at + width_of s + 1
      tail_is = ap (tail_at t) (sym found.is) ∙ (holds r.decoded found.stands).tail

      own_kind : kind_at t x ≡ get_or s (found.at + width_of s) 0
      own_kind = ap (kind_at t) (sym found.is) ∙ row_kind r found.stands

      place_is : place_in side s x ≡ record { side = side; start = found.at; length = axiom_length (width_of s) s found.at }
      place_is = ap (λ (y : ℕ). place_in side s y) (sym found.is) ∙ (place_found s r.accepted side (count_of s) 0 (first_place s) found.at (no_axiom_fault s r.accepted) found.stands)

      pub tail_far : 1 + width_of s ≤ tail_at t x
      tail_far = rw tail_is (omega arith)

      -- the place that its row tells: before the tail there are the kind and the left name
      module _ (w tail : ℕ) (width_is : w ≡ width_of s) (e : tail ≡ tail_at t x) where
        start_is : tail - 1 - w ≡ found.at
        start_is = omega (arith, e, width_is, tail_is)

        pub place_inside : tail - 1 - w + axiom_length w s (tail - 1 - w) ≤ length s
        place_inside =
            let within : (place_in side s x).start + (place_in side s x).length ≤ length s = place_within s side (count_of s) 0 (first_place s) x (no_axiom_fault s r.accepted) in
            rw (start_is, width_is) (rw place_is at within)

        pub place_told : (long : ℕ) → long ≡ axiom_length w s (tail - 1 - w) → record { side = side; start = tail - 1 - w; length = long } ≡ place_in side s x
        place_told long f = rw (f, start_is, width_is) (sym place_is)

-- a release that is refused is not accepted
pub refused_by_lem : (f : ℕ) (s : List ℕ) (k : Numbers) → answer 1 f (counts_in s) ≡ Err k → eqb f 0 ≡ false
refused_by_lem f s k h = ne_eqb f 0 (λ e. omega (arith, e, (is_refused 1 f (counts_in s) k (sym h)).1))

pub not_accepted : {s : List ℕ} {t : Table} {r : FileRefusal} → ReleaseRead s t (Err r) → accepted s ≡ false
unfolding checked
not_accepted {s} {r = r} read = refused_by_lem (fault s) s (file_refusal r) (sym read.answer)

module _ (s t : List ℕ) (side x : ℕ) where
  pub shown_not_first : accepted s ≡ false → nowhere ≡ shown_place s t side x
  unfolding shown_place
  shown_not_first e = simp (shown_place, e)

  pub shown_not_second : accepted t ≡ false → nowhere ≡ shown_place s t side x
  unfolding shown_place
  shown_not_second e = by_test (accepted s) refl
    where
      by_test : (b : Bool) → accepted s ≡ b → nowhere ≡ shown_place s t side x
      by_test true f = simp (shown_place, f, e)
      by_test false f = simp (shown_place, f)

  module _ (p : fault s ≡ 0) (q : fault t ≡ 0) where
    pub shown_1 : side ≡ 1 → place_in 1 s x ≡ shown_place s t side x
    unfolding shown_place
    shown_1 e = simp (shown_place, eq-eqb _ _ p, eq-eqb _ _ q, eq-eqb _ _ e)

    pub shown_2 : (side ≡ 1 → ⊥) → side ≡ 2 → place_in 2 t x ≡ shown_place s t side x
    unfolding shown_place
    shown_2 d e = simp (shown_place, eq-eqb _ _ p, eq-eqb _ _ q, ne_eqb _ _ d, eq-eqb _ _ e)

    pub shown_no_side : (side ≡ 1 → ⊥) → (side ≡ 2 → ⊥) → nowhere ≡ shown_place s t side x
    unfolding shown_place
    shown_no_side d e = simp (shown_place, eq-eqb _ _ p, eq-eqb _ _ q, ne_eqb _ _ d, ne_eqb _ _ e)

-- the part shown lies in the file that holds it
pub shown_within : (s t : List ℕ) (side x : ℕ) → (shown_place s t side x).start + (shown_place s t side x).length ≤ length (holder s t (shown_place s t side x))
unfolding shown_place
shown_within s t side x = by_tests (accepted s) (accepted t) (eqb side 1) (eqb side 2) refl refl refl refl
  where
    Within : Place → Type 0
    Within p = p.start + p.length ≤ length (holder s t p)

    first_within : fault s ≡ 0 → Within (place_in 1 s x)
    first_within ok = elim (place_side s 1 (count_of s) (first_place s) x) [
      | inl e ↦ rw e (omega arith)
      | inr e ↦ rw e (place_within s 1 (count_of s) 0 (first_place s) x (no_axiom_fault s ok))
    ]

    second_within : fault t ≡ 0 → Within (place_in 2 t x)
    second_within ok = elim (place_side t 2 (count_of t) (first_place t) x) [
      | inl e ↦ rw e (omega arith)
      | inr e ↦ rw e (place_within t 2 (count_of t) 0 (first_place t) x (no_axiom_fault t ok))
    ]

    by_tests : (a b c d : Bool) → accepted s ≡ a → accepted t ≡ b → eqb side 1 ≡ c → eqb side 2 ≡ d → Within (shown_place s t side x)
    by_tests false b c d p q u v = rw (shown_place, p) (omega arith)
    by_tests true false c d p q u v = rw (shown_place, p, q) (omega arith)
    by_tests true true true d p q u v = rw (shown_place, p, q, u) (first_within (eqb-true (fault s) 0 p))
    by_tests true true false true p q u v = rw (shown_place, p, q, u, v) (second_within (eqb-true (fault t) 0 q))
    by_tests true true false false p q u v = rw (shown_place, p, q, u, v) (omega arith)

pub either_holds : (s t : List ℕ) (side x : ℕ) (p : Place) → p ≡ shown_place s t side x → (p.start + p.length ≤ length s) ⊎ (p.start + p.length ≤ length t)
either_holds s t side x p e = by_test (eqb p.side 2) (rw (← e) at (shown_within s t side x))
  where
    by_test : (b : Bool) → p.start + p.length ≤ length (pick b t s) → (p.start + p.length ≤ length s) ⊎ (p.start + p.length ≤ length t)
    by_test true h = inr h
    by_test false h = inl h

pub second_holds : (s t : List ℕ) (side x : ℕ) (p : Place) → p ≡ shown_place s t side x → p.side ≡ 2 → p.start + p.length ≤ length t
second_holds s t side x p e h = rw (eq-eqb _ _ h) at (rw (← e) at (shown_within s t side x))

pub first_holds : (s t : List ℕ) (side x : ℕ) (p : Place) → p ≡ shown_place s t side x → (p.side ≡ 2 → ⊥) → p.start + p.length ≤ length s
first_holds s t side x p e h = rw (ne_eqb _ _ h) at (rw (← e) at (shown_within s t side x))

-- the bytes and the place of the part, once it is known which file holds it
module _ (first second : Bor (List ℕ)) (side x : ℕ) (place : Place) (e : place ≡ shown_place first.now second.now side x) (held : Bor (List ℕ)) (h : holder first second place ≡ held) where
  pub part_bytes : take (place.start + place.length - place.start) (drop place.start held.now) ≡ take (shown_place first.now second.now side x).length
      (drop (shown_place first.now second.now side x).start (holder first second (shown_place first.now second.now side x)).now)
  part_bytes = let z : place.start + place.length - place.start ≡ place.length = omega arith in rw (← e, h, z)

  pub part_block : held.ref_ptr.0 ≡ (holder first second (shown_place first.now second.now side x)).ref_ptr.0
  part_block = rw (← e, h)

  pub part_place : place.start + held.ref_ptr.1 ≡ (holder first second (shown_place first.now second.now side x)).ref_ptr.1 + (shown_place first.now second.now side x).start
  part_place = rw (← e, h) (omega arith)

pub holder_second : (first second : Bor (List ℕ)) (place : Place) → place.side ≡ 2 → holder first second place ≡ second
holder_second first second place h = rw (eq-eqb _ _ h)

pub holder_first : (first second : Bor (List ℕ)) (place : Place) → (place.side ≡ 2 → ⊥) → holder first second place ≡ first
holder_first first second place h = rw (ne_eqb _ _ h)
