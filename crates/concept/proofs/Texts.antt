-- An accepted text is a text of the concept that it is read as, and of no other.
--   GivesBack w n m s p    what p gives is a concept, within n and m, spelled at the start of s, with the rest after it
--   accepted_is_text       an accepted text is a text of the concept read
--   text_is_accepted       a text of a concept is accepted, and is read as that concept
--   refused_exactly        refusal 19 is met exactly where the text is that of no concept
use mathlib.Core.Path.{◌≡◌, refl, sym, ap, ◌∙◌}
use mathlib.Core.Logic.{◌↔◌}
use mathlib.Core.Bool.{Bool, true, false, ◌&&◌, false≢true}
use mathlib.Core.List.{List, [], ◌∷◌}
use Prim.Native.Nat.{ℕ, zero, suc, ◌+◌, ◌≤◌, ◌<◌}
use native.Mathlib.Omega.{arith}
use borrow.Author.Tests.{leb-true, le-leb, eqb-true}
use lib.Dec.{ltb, leb, eqb}
use lib.ListN.{length, length-drop}
use Rattle.el.specs.Lists.{pick}
use Rattle.el.specs.Concepts.{Concept}
use Rattle.concept.specs.Bytes.{number, Spelled, is_top, is_name, is_both, is_some, is_within, longest, IsTextOf}
use Rattle.concept.specs.Bytes.{Parsed, parsed, not_parsed, name_from, both_from, some_from, concept_from, read_concept, concept_ok}

both_true : (a b : Bool) → a && b ≡ true → (a ≡ true) × (b ≡ true)
both_true true b e = (refl, e)
both_true false b e = absurd (false≢true e)

picked_good : (test : Bool) (p : Parsed) → (pick test p not_parsed).good ≡ true → test ≡ true
picked_good true p good = refl
picked_good false p good = good

no_bytes : (s : List ℕ) → length s ≡ 0 → s ≡ []
no_bytes [] e = refl
no_bytes (b ∷ s) e = absurd (omega arith)

-- what is read is a concept with these bytes
pub record GivesBack (w n m : ℕ) (s : List ℕ) (p : Parsed) : Type 0 where
  pub bytes : Spelled w p.concept s p.rest
  pub within : is_within n m p.concept ≡ true

name_gives_back : (w n m : ℕ) (s : List ℕ) → (name_from w n s).good ≡ true → GivesBack w n m (1 ∷ s) (name_from w n s)
name_gives_back w n m s good =
    let test = picked_good (leb w (length s) && ltb (number w s) n) _ good in
    let parts = both_true (leb w (length s)) (ltb (number w s) n) test in
    rw test record { bytes = is_name (leb-true _ _ parts.0) refl refl; within = parts.1 }

module _ (w n m : ℕ) (from : List ℕ → Parsed) (gives_back : (s : List ℕ) → (from s).good ≡ true → GivesBack w n m s (from s)) where
  both_gives_back : (s : List ℕ) → (both_from from s).good ≡ true → GivesBack w n m (2 ∷ s) (both_from from s)
  both_gives_back s good =
      let c = from s in
      let d = from c.rest in
      let test = picked_good (c.good && d.good) _ good in
      let parts = both_true c.good d.good test in
      let first = gives_back s parts.0 in
      let second = gives_back c.rest parts.1 in
      rw test record {
        bytes = is_both first.bytes second.bytes;
        within = rw (first.within, second.within);
      }

  some_gives_back : (s : List ℕ) → (some_from m from s).good ≡ true → GivesBack w n m (3 ∷ s) (some_from m from s)
  some_gives_back [] good = absurd (false≢true good)
  some_gives_back (r ∷ s) good =
      let c = from s in
      let test = picked_good (ltb r m && c.good) _ good in
      let parts = both_true (ltb r m) c.good test in
      let filler = gives_back s parts.1 in
      rw test record { bytes = is_some filler.bytes; within = rw (parts.0, filler.within) }

pub reading_gives_back : (f w n m : ℕ) (s : List ℕ) → (concept_from f w n m s).good ≡ true → GivesBack w n m s (concept_from f w n m s)
reading_gives_back zero w n m s good = absurd (false≢true good)
reading_gives_back (suc f) w n m [] good = absurd (false≢true good)
reading_gives_back (suc f) w n m (zero ∷ s) good = record { bytes = is_top; within = refl }
reading_gives_back (suc f) w n m (suc zero ∷ s) good = name_gives_back w n m s good
reading_gives_back (suc f) w n m (suc (suc zero) ∷ s) good =
    both_gives_back w n m (concept_from f w n m) (reading_gives_back f w n m) s good
reading_gives_back (suc f) w n m (suc (suc (suc zero)) ∷ s) good =
    some_gives_back w n m (concept_from f w n m) (reading_gives_back f w n m) s good
reading_gives_back (suc f) w n m (suc (suc (suc (suc k))) ∷ s) good = absurd (false≢true good)

pub accepted_is_text : (w n m : ℕ) (s : List ℕ) → concept_ok w n m s ≡ true → IsTextOf w n m (read_concept w n m s).concept s
unfolding concept_ok
accepted_is_text w n m s ok =
    let p = read_concept w n m s in
    let parts = both_true (leb (length s) longest) (p.good && eqb (length p.rest) 0) ok in
    let read = both_true p.good (eqb (length p.rest) 0) parts.1 in
    let back = reading_gives_back (length s) w n m s read.0 in
    let all : p.rest ≡ [] = no_bytes p.rest (eqb-true _ _ read.1) in
    record {
      bytes = rw all at back.bytes;
      within = back.within;
      short = leb-true _ _ parts.0;
    }

-- a concept takes at least a byte
pub shorter : {w : ℕ} {c : Concept} {s t : List ℕ} → Spelled w c s t → length t < length s
shorter is_top = omega arith
shorter {w} (is_name {s = s} long is after) = omega (arith, length-drop w s, ap length after)
shorter (is_both first second) = omega (arith, shorter first, shorter second)
shorter (is_some filler) = omega (arith, shorter filler)

-- what is spelled is read, where the reading goes deep enough
pub spelled_is_read : (n m f : ℕ) {w : ℕ} {c : Concept} {s t : List ℕ} → Spelled w c s t → is_within n m c ≡ true → length s ≤ length t + f
    → concept_from f w n m s ≡ parsed c t
spelled_is_read n m zero spelled within enough = absurd (omega (arith, shorter spelled))
spelled_is_read n m (suc f) is_top within enough = refl
spelled_is_read n m (suc f) (is_name long is after) within enough = rw (le-leb _ _ long, is, within, after)
spelled_is_read n m (suc f) (is_both {c = c} {d = d} first second) within enough =
    let parts = both_true (is_within n m c) (is_within n m d) within in
    let one_read = spelled_is_read n m f first parts.0 (omega (arith, shorter second)) in
    let other_read = spelled_is_read n m f second parts.1 (omega (arith, shorter first)) in
    rw (one_read, other_read)
spelled_is_read n m (suc f) (is_some {r = r} {c = c} filler) within enough =
    let parts = both_true (ltb r m) (is_within n m c) within in
    let filler_read = spelled_is_read n m f filler parts.1 (omega arith) in
    rw (parts.0, filler_read)

pub text_is_accepted : (w n m : ℕ) (c : Concept) (s : List ℕ) → IsTextOf w n m c s
    → (concept_ok w n m s ≡ true) × ((read_concept w n m s).concept ≡ c)
unfolding concept_ok
text_is_accepted w n m c s text =
    let read : read_concept w n m s ≡ parsed c [] = spelled_is_read n m (length s) text.bytes text.within (omega arith) in
    (rw (le-leb _ _ text.short, read), ap (λ (p : Parsed). p.concept) read)

pub refused_exactly : (w n m : ℕ) (s : List ℕ) → (concept_ok w n m s ≡ false) ↔ ((c : Concept) → IsTextOf w n m c s → ⊥)
refused_exactly w n m s = (
  λ refused c text. false≢true (sym refused ∙ (text_is_accepted w n m c s text).0),
  λ none. by_test none (concept_ok w n m s) refl,
)
  where
    by_test : ((c : Concept) → IsTextOf w n m c s → ⊥) → (test : Bool) → concept_ok w n m s ≡ test → test ≡ false
    by_test none true ok = absurd (none _ (accepted_is_text w n m s ok))
    by_test none false ok = refl
