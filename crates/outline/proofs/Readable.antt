-- Texts of several concepts, one after the other.
--   Readable w n m p t    t is the bytes of p concepts, their names of w bytes and below n and their roles below m
--   Scan w n m s r p      s is the text of a concept exactly where its rest r is that of p concepts
--   ends_..               there is no such text
--   after                 a constructor leads on to the text after it
use mathlib.Core.Path.{◌≡◌, refl, sym, ap, ◌∙◌}
use mathlib.Core.Bool.{Bool, true, false}
use mathlib.Core.List.{List, [], ◌∷◌}
use Prim.Native.Nat.{ℕ, suc, ◌+◌, ◌-◌, ◌≤◌, ◌<◌}
use native.Mathlib.Omega.{arith}
use borrow.Author.Tests.{lt-leb, eqb-true, eqb-false}
use lib.Dec.{eqb, ltb}
use lib.ListN.{length, drop}
use Rattle.std.specs.Prelude.{None}
use Rattle.std.proofs.lemmas.List.{nil_from_length}
use Rattle.el.specs.Concepts.{Concept}
use Rattle.el.proofs.Tests.{and_left, and_right, and_both}
use Rattle.concept.specs.Bytes.{number, Spelled, is_top, is_name, is_both, is_some, is_within, longest, concept_ok}
use Rattle.outline.specs.declared.Constructor.{Constructor}
use Rattle.outline.specs.declared.Constructor.TheVariants.{Top, Name, Conjunction, Restriction}
use Rattle.outline.specs.Constructors.{arity, is_known, found, split}
use Rattle.outline.proofs.Constructors.{Splits, at_top, at_name, at_both, at_some, splits, name_split, no_split, same_split, lengths}
use Rattle.concept.proofs.Texts.{text_is_accepted, refused_exactly}

pub data Readable (w n m : ℕ) : ℕ → List ℕ → Type 0 where
  none : Readable w n m 0 []
  more : {p : ℕ} {c : Concept} {s t : List ℕ} → Spelled w c s t → is_within n m c ≡ true → Readable w n m p t → Readable w n m (suc p) s

-- such a text begins with a constructor, and after it stands one concept fewer and as many more as the constructor has
record First (w n m p : ℕ) (s : List ℕ) : Type 0 where
  first : Constructor
  after : List ℕ
  is : split w s ≡ found first after
  known : is_known n m first ≡ true
  rest : Readable w n m (p - 1 + arity first) after

module _ {w n m : ℕ} where
  nothing_read : {p : ℕ} {s : List ℕ} → Readable w n m p s → p ≤ 0 → s ≡ []
  nothing_read none h = refl
  nothing_read (more spelled within r) h = absurd (omega arith)

  first_of : {p : ℕ} {s : List ℕ} → Readable w n m p s → 0 < p → First w n m p s
  first_of none h = absurd (omega arith)
  first_of (more {p = p} (is_top {t = u}) within r) h =
      let y : suc p - 1 + 0 ≡ p = omega arith in record { first = Top; after = u; is = refl; known = refl; rest = rw y r }
  first_of (more {p = p} (is_name {x = x} {s = u} long is after) within r) h =
      let y : suc p - 1 + 0 ≡ p = omega arith in
      record { first = Name (number w u); after = drop w u; is = name_split w u long; known = rw is within; rest = rw (y, after) r }
  first_of (more {p = p} (is_both {c = c} {d = d} {s = u} one_half other_half) within r) h =
      let y : suc p - 1 + 2 ≡ suc (suc p) = omega arith in
      record {
        first = Conjunction;
        after = u;
        is = refl;
        known = refl;
        rest = rw y (more one_half (and_left (is_within n m c) (is_within n m d) within) (more other_half (and_right (is_within n m c) (is_within n m d) within) r));
      }
  first_of (more {p = p} (is_some {r = q} {c = c} {s = u} filler) within r) h =
      let y : suc p - 1 + 1 ≡ suc p = omega arith in
      record {
        first = Restriction (record { 0 = q });
        after = u;
        is = refl;
        known = and_left (ltb q m) (is_within n m c) within;
        rest = rw y (more filler (and_right (ltb q m) (is_within n m c) within) r);
      }

  -- the other way round: a concept, or the start of one, put before
  one_more : {p : ℕ} {c : Concept} {s t : List ℕ} → 0 < p → Spelled w c s t → is_within n m c ≡ true → Readable w n m (p - 1) t → Readable w n m p s
  one_more {p} h spelled within r = let z : p ≡ suc (p - 1) = omega arith in rw z (more spelled within r)

  both_back : {p q : ℕ} {s : List ℕ} → q ≡ p + 1 → 0 < p → Readable w n m q s → Readable w n m p (2 ∷ s)
  both_back e h none = absurd (omega arith)
  both_back e h (more first one_within none) = absurd (omega arith)
  both_back {p} e h (more first one_within (more {p = i} second other_within r)) =
      let z : p ≡ suc i = omega arith in rw z (more (is_both first second) (and_both one_within other_within) r)

  some_back : {p q : ℕ} {s : List ℕ} → 0 < p → ltb q m ≡ true → Readable w n m p s → Readable w n m p (3 ∷ (q ∷ s))
  some_back h l none = absurd (omega arith)
  some_back h l (more filler within r) = more (is_some filler) (and_both l within) r

  back : {p : ℕ} {k : Constructor} {s t : List ℕ} → 0 < p → Splits w k s t → is_known n m k ≡ true → Readable w n m (p - 1 + arity k) t → Readable w n m p s
  back {p} h at_top known r = let y : p - 1 + 0 ≡ p - 1 = omega arith in one_more h is_top refl (rw y at r)
  back {p} h (at_name long) known r = let y : p - 1 + 0 ≡ p - 1 = omega arith in one_more h (is_name long refl refl) known (rw y at r)
  back h at_both known r = both_back (omega arith) h r
  back {p} h at_some known r = let y : p - 1 + 1 ≡ p = omega arith in some_back h known (rw y at r)

-- the rest of a text, and how many concepts can be pending
pub record Scan (w n m : ℕ) (s r : List ℕ) (p : ℕ) : Type 0 where
  pub few : p + length r ≤ 256
  pub forth : Readable w n m 1 s → Readable w n m p r
  pub back : Readable w n m p r → Readable w n m 1 s

pub scan_start : {w n m : ℕ} {s : List ℕ} → length s ≤ longest → Scan w n m s s 1
scan_start short = record { few = omega arith; forth = λ r. r; back = λ r. r }

no_text : (w n m : ℕ) (s : List ℕ) → (Readable w n m 1 s → ⊥) → false ≡ concept_ok w n m s
no_text w n m s not_readable = sym ((refused_exactly w n m s).1 (λ c text. not_readable (more text.bytes text.within none)))

one_text : {w n m p : ℕ} {s : List ℕ} → p ≡ 1 → length s ≤ longest → Readable w n m p s → true ≡ concept_ok w n m s
one_text e short none = absurd (omega arith)
one_text {w} {n} {m} {s = s} e short (more {c = c} spelled within none) = sym (text_is_accepted w n m c s (record { bytes = spelled; within = within; short = short })).0
one_text e short (more spelled within (more other_spelled other_within r)) = absurd (omega arith)

pub too_long : (w n m : ℕ) (s : List ℕ) → longest < length s → false ≡ concept_ok w n m s
unfolding concept_ok
too_long w n m s long = rw (lt-leb _ _ long)

module _ {w n m : ℕ} {s r : List ℕ} {p : ℕ} (scan : Scan w n m s r p) (h : 0 < p) where
  first_at : Readable w n m 1 s → First w n m p r
  first_at text = first_of (scan.forth text) h

  pub ends_early : split w r ≡ None → false ≡ concept_ok w n m s
  ends_early cut = no_text w n m s (λ text. no_split (sym cut ∙ (first_at text).is))

  module _ {k : Constructor} {t : List ℕ} (e : split w r ≡ found k t) where
    pub ends_unknown : is_known n m k ≡ false → false ≡ concept_ok w n m s
    ends_unknown unknown = no_text w n m s (λ text.
        let known : is_known n m k ≡ true = rw (same_split w r e (first_at text).is).first (first_at text).known in
        let z : true ≡ false = sym known ∙ unknown in
        let y : ◌≡◌ {A = ℕ} 0 1 = cc in omega arith)

    pub after : is_known n m k ≡ true → Scan w n m s t (p - 1 + arity k)
    after known = record {
      few = omega (arith, scan.few, (lengths (splits r e)).concepts);
      forth = λ text. let same = same_split w r e (first_at text).is in rw (same.first, same.rest) (first_at text).rest;
      back = λ q. scan.back (back h (splits r e) known q);
    }

-- at the end nothing is left to read, so there must be no byte left
pub by_the_end : {w n m : ℕ} {s r : List ℕ} {p : ℕ} → Scan w n m s r p → length s ≤ longest → p ≤ 0 → eqb (length r) 0 ≡ concept_ok w n m s
by_the_end {w} {n} {m} {s} {r} {p} scan short h = by_test (eqb (length r) 0) refl
  where
    by_test : (b : Bool) → eqb (length r) 0 ≡ b → b ≡ concept_ok w n m s
    by_test true e =
        let end : r ≡ [] = nil_from_length r (eqb-true (length r) 0 e) in
        let z : p ≡ 0 = omega arith in
        one_text refl short (scan.back (rw (end, z) none))
    by_test false e = no_text w n m s (λ text. eqb-false (length r) 0 e (ap length (nothing_read (scan.forth text) h)))
