-- The lines and counts of result bytes, by the sides that the bytes report on.
use mathlib.Core.Path.{◌≡◌, refl, sym, ap, ◌∙◌}
use mathlib.Core.Bool.{true, false}
use mathlib.Core.List.{List, [], ◌∷◌, ◌++◌}
use Prim.Native.Nat.{ℕ, suc, ◌+◌, ◌<◌}
use native.Mathlib.Omega.{arith}
use lib.ListN.{length, take, get_or}
use Rattle.std.proofs.Common.{append_assoc, length-take-le}
use Rattle.std.proofs.lemmas.List.{append-nil, take_more}
use Rattle.el.specs.Comparison.{is_reported}
use Rattle.report.specs.declared.lines.Side.{Side}
use Rattle.report.specs.declared.lines.Side.TheVariants.{Left, Right, Both}
use Rattle.report.specs.Texts.{newline, letter, line, entry, lines}
use Rattle.output.specs.Numbers.{space}
use Rattle.report.specs.Numbers.{three_digits}
use Rattle.report.specs.Sides.{side_byte, side_letter}

-- the line of a name
module _ (a b : ℕ) where
  pub entry_line : is_reported b ≡ true → entry a b ≡ three_digits a ++ (space ∷ letter b ∷ newline ∷ [])
  unfolding entry line
  entry_line e = rw e

  pub entry_nothing : is_reported b ≡ false → entry a b ≡ []
  unfolding entry
  entry_nothing e = rw e

-- by the side that its byte reports on
side_line_at : (a : ℕ) (s : Side) → entry a (side_byte s) ≡ three_digits a ++ (space ∷ side_letter s ∷ newline ∷ [])
unfolding entry line letter
side_line_at a Left = refl
side_line_at a Right = refl
side_line_at a Both = refl

pub side_line : (a b : ℕ) (s : Side) (l : ℕ) → l ≡ side_letter s → side_byte s ≡ b → three_digits a ++ (space ∷ l ∷ newline ∷ []) ≡ entry a b
side_line a b s l f e = rw f (sym (side_line_at a s) ∙ ap (λ (k : ℕ). entry a k) e)

-- one line more
lines_append : (a : ℕ) (bs : List ℕ) (b : ℕ) → lines a (bs ++ (b ∷ [])) ≡ lines a bs ++ entry (a + length bs) b
unfolding lines
lines_append a [] b = let e : a + 0 ≡ a = omega arith in rw e (append-nil (entry a b))
lines_append a (d ∷ bs) b =
    let e : suc a + length bs ≡ a + suc (length bs) = omega arith in
    ap (λ (l : List ℕ). entry a d ++ l) (lines_append (suc a) bs b ∙ ap (λ (k : ℕ). lines (suc a) bs ++ entry k b) e)
    ∙ sym (append_assoc (entry a d) (lines (suc a) bs) (entry (a + suc (length bs)) b))

pub lines_more : (bs : List ℕ) (i : ℕ) → i < length bs → lines 0 (take i bs) ++ entry i (get_or bs i 0) ≡ lines 0 (take (i + 1) bs)
lines_more bs i h =
    let long : 0 + length (take i bs) ≡ i = omega (arith, length-take-le i bs) in
    sym (ap (λ (l : List ℕ). lines 0 l) (take_more bs i 0 h) ∙ lines_append 0 (take i bs) (get_or bs i 0) ∙ ap (λ (k : ℕ). lines 0 (take i bs) ++ entry k (get_or bs i 0)) long)
