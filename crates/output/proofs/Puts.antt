-- Bytes put one after the other are their join put at once; where there is room, the place after them is the place before and their
-- number, and in an output with room from its start they stand before what is left of it.
use mathlib.Core.Path.{◌≡◌, refl, sym, ap, subst, ◌∙◌}
use mathlib.Core.List.{List, [], ◌∷◌, ◌++◌}
use mathlib.Core.Logic.{⊎_elim}
use Prim.Native.Nat.{ℕ, suc, ◌+◌, ◌≤◌, ◌<◌, min}
use native.Mathlib.Omega.{arith}
use lib.ListN.{length, drop, set, length-append}
use lib.Seq.{sets, length-sets, sets-eq, set_out}
use Rattle.std.proofs.lemmas.Bool.{cases_lt}
use Rattle.output.specs.Places.{last_place, Put}

sets_append : (s t o : List ℕ) (p : ℕ) → sets o p (s ++ t) ≡ sets (sets o p s) (p + length s) t
sets_append [] t o p = let e : p ≡ p + 0 = omega arith in ap (λ (k : ℕ). sets o k t) e
sets_append (b ∷ s) t o p =
    let e : suc p + length s ≡ p + suc (length s) = omega arith in
    sets_append s t (set o p b) (suc p) ∙ ap (λ (k : ℕ). sets (sets (set o p b) (suc p) s) k t) e

-- past the end nothing is put
sets_out : (t o : List ℕ) (p : ℕ) → length o ≤ p → sets o p t ≡ o
sets_out [] o p h = refl
sets_out (b ∷ t) o p h =
    let e : set o p b ≡ o = set_out o p b h in
    let beyond : length o ≤ suc p = omega arith in
    ap (λ (k : List ℕ). sets k (suc p) t) e ∙ sets_out t o (suc p) beyond

-- so the place where counting ends is as good as the true one
sets_counted : (t o : List ℕ) (p k : ℕ) → length o ≤ last_place → k ≡ min p last_place → sets o k t ≡ sets o p t
sets_counted t o p k short e = ⊎_elim at_end counted (cases_lt last_place p) where
  at_end : last_place < p → sets o k t ≡ sets o p t
  at_end past = sets_out t o k (omega arith) ∙ sym (sets_out t o p (omega arith))

  counted : p ≤ last_place → sets o k t ≡ sets o p t
  counted within = let same : k ≡ p = omega arith in ap (λ (i : ℕ). sets o i t) same

module _ {o : List ℕ} {p : ℕ} where
  pub put_none : p ≤ last_place → length o ≤ last_place → Put o p [] o p
  put_none small short = record { stands = refl; after = omega arith; short = short }

  pub put_as : {s t q : List ℕ} {next : ℕ} → s ≡ t → Put o p s q next → Put o p t q next
  put_as {s} {t} {q} {next} e put = subst (λ (x : List ℕ). Put o p x q next) e put

  pub put_length : {text q : List ℕ} {next : ℕ} → Put o p text q next → length q ≡ length o
  put_length {text} put = ap length put.stands ∙ length-sets o p text

  pub put_then : {s t q r : List ℕ} {next end : ℕ} → Put o p s q next → Put q next t r end → Put o p (s ++ t) r end
  put_then {s} {t} {q} {r} {next} first second = record {
    stands = second.stands ∙ sets_counted t q (p + length s) next first.short first.after ∙ ap (λ (x : List ℕ). sets x (p + length s) t) first.stands ∙ sym (sets_append s t o p);
    after = omega (arith, length-append s t);
    short = second.short;
  }

  -- the place after what there is room for
  pub put_next : {text q : List ℕ} {next : ℕ} → p + length text ≤ length o → Put o p text q next → next ≡ p + length text
  put_next room put = omega (arith, put.after, put.short, put_length put)

-- what was put from the start with room: the bytes, and the rest as it was
pub put_at_start : {text o q : List ℕ} {next : ℕ} → Put o 0 text q next → length text ≤ length o → q ≡ text ++ drop (length text) o
put_at_start {text} {o} {q} put h =
    let z : 0 + length text ≡ length text = omega arith in
    let r : 0 + length text ≤ length o = omega arith in
    put.stands ∙ sets-eq text o 0 r ∙ ap (λ (k : ℕ). text ++ drop k o) z
