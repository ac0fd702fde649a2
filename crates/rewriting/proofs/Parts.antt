-- Bytes that stand at a place of a file.
--   At t p text       the bytes `text` stand at place p of the file t
--   Fits w x          the number x fits w bytes
--   number_back       the number whose bytes stand there is read there
use mathlib.Core.Path.{◌≡◌, sym, ap, subst, ◌∙◌}
use mathlib.Core.List.{List, [], ◌∷◌, ◌++◌, append_assoc, append-nil}
use Prim.Native.Nat.{ℕ, zero, suc, ◌+◌, ◌/◌, ◌%◌, ◌≤◌, ◌<◌}
use native.Mathlib.Nat.{mod-add-div, div-eq_of_lt, div-div-eq-div-mul}
use native.Mathlib.Omega.{arith}
use lib.ListN.{length, get_or, drop, length-append, length-drop}
use lib.Seq.{get_or-drop, drop-drop, drop-append_seam}
use Rattle.release.specs.Files.{number, top_number, IsWidth}
use Rattle.rewriting.specs.Bytes.{number_bytes}
use Rattle.rewriting.proofs.Pieces.{number_length}

pub record At (t : List ℕ) (p : ℕ) (text : List ℕ) : Type 0 where
  pub rest : List ℕ
  pub is : drop p t ≡ text ++ rest

pub at_start : (t : List ℕ) → At t 0 t
at_start t = record { rest = []; is = sym (append-nil t) }

after : (t : List ℕ) (p : ℕ) (a rest : List ℕ) → drop p t ≡ a ++ rest → drop (p + length a) t ≡ rest
after t p a rest h = sym (drop-drop (length a) p t) ∙ (ap (drop (length a)) h ∙ drop-append_seam a rest)

module _ {t : List ℕ} {p : ℕ} where
  pub at_first : (a b : List ℕ) → At t p (a ++ b) → At t p a
  at_first a b h = record { rest = b ++ h.rest; is = h.is ∙ append_assoc a b h.rest }

  pub at_later : (a b : List ℕ) → At t p (a ++ b) → At t (p + length a) b
  at_later a b h = record { rest = h.rest; is = after t p a (b ++ h.rest) (h.is ∙ append_assoc a b h.rest) }

  pub at_both : {a b : List ℕ} → At t p a → At t (p + length a) b → At t p (a ++ b)
  at_both {a} {b} h k =
      let e : h.rest ≡ b ++ k.rest = sym (after t p a h.rest h.is) ∙ k.is in
      record { rest = k.rest; is = h.is ∙ (ap (λ (x : List ℕ). a ++ x) e ∙ sym (append_assoc a b k.rest)) }

  pub at_inside : {a : List ℕ} → At t p a → 1 ≤ length a → p + length a ≤ length t
  at_inside {a} h l = omega (arith, length-drop p t, ap length h.is, length-append a h.rest)

  pub at_byte : {x : ℕ} {xs : List ℕ} → At t p (x ∷ xs) → get_or t p 0 ≡ x
  at_byte {x} {xs} h =
      let e : p + 0 ≡ p = omega arith in
      ap (λ (i : ℕ). get_or t i 0) (sym e) ∙ (sym (get_or-drop p t 0 0) ∙ ap (λ (l : List ℕ). get_or l 0 0) h.is)

  pub at_as : {a b : List ℕ} → a ≡ b → At t p a → At t p b
  at_as e h = subst (At t p) e h

pub at_place : {t : List ℕ} {a : List ℕ} {p q : ℕ} → p ≡ q → At t p a → At t q a
at_place {t} {a} e h = subst (λ (i : ℕ). At t i a) e h

-- a number
abbrev pub Fits : ℕ → ℕ → Type 0
Fits zero x = x ≡ 0
Fits (suc w) x = Fits w (x / 256)

pub number_back : (w x : ℕ) {t : List ℕ} {p : ℕ} → Fits w x → At t p (number_bytes w x) → number w t p ≡ x
unfolding number number_bytes
number_back zero x f h = sym f
number_back (suc w) x {t} {p} f h =
    let low : get_or t p 0 ≡ x % 256 = at_byte h in
    let high : number w t (p + 1) ≡ x / 256 = number_back w (x / 256) f (at_later (x % 256 ∷ []) (number_bytes w (x / 256)) h) in
    omega (arith, mod-add-div x 256)

pub byte_fits : (x : ℕ) → x < 256 → Fits 1 x
byte_fits x h = div-eq_of_lt h

pub two_fit : (x : ℕ) → x < 65536 → Fits 2 x
two_fit x h = div-div-eq-div-mul x 256 256 ∙ div-eq_of_lt h

pub fits : (w x : ℕ) → IsWidth w → x ≤ top_number w → Fits w x
fits zero x h l = absurd (omega arith)
fits (suc zero) x h l = byte_fits x (omega arith)
fits (suc (suc zero)) x h l = two_fit x (omega arith)
fits (suc (suc (suc w))) x h l = absurd (omega arith)

pub byte_back : (x : ℕ) {t : List ℕ} {p : ℕ} → x < 256 → At t p (number_bytes 1 x) → get_or t p 0 ≡ x
unfolding number
byte_back x {t} {p} l h = omega (arith, number_back 1 x (byte_fits x l) h)

-- what stands after a number, and that the number lies in the file
module _ (w x : ℕ) (b : List ℕ) {t : List ℕ} {p : ℕ} (h : At t p (number_bytes w x ++ b)) where
  pub at_number : At t p (number_bytes w x)
  at_number = at_first (number_bytes w x) b h

  pub at_next : At t (p + w) b
  at_next = at_place (ap (λ (k : ℕ). p + k) (number_length w x)) (at_later (number_bytes w x) b h)

pub number_inside : (w x : ℕ) {t : List ℕ} {p : ℕ} → IsWidth w → At t p (number_bytes w x) → p + w ≤ length t
number_inside w x width h = let l = number_length w x in omega (arith, at_inside h (omega (arith, width.some)))
