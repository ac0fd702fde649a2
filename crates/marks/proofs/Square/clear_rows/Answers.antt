-- The rows are one part of the memory, which is filled with 0.
use mathlib.Core.Path.{◌≡◌, sym, ap, ◌∙◌}
use mathlib.Core.List.{List}
use Prim.Native.Nat.{ℕ, ◌+◌, ◌-◌, ◌*◌, ◌≤◌}
use lib.ListN.{length, replicate, take, drop}
use native.Mathlib.Omega.{arith}
use borrow.Rule.Slice.PartMut.{put_mid}
use Rattle.std.specs.Prelude.{◌++◌}
use Rattle.std.proofs.lemmas.Slice.{put_mid-paste}
use Rattle.std.proofs.lemmas.List.Edits.{paste_all}
use Rattle.std.proofs.lemmas.List.{length-replicate, length-take-le, length-drop}
use Rattle.marks.proofs.Squares.{rows_filled, span_is}
use Rattle.marks.proofs.Square.clear_rows.Goals as goal

filled_part : (a m : ℕ) (w f : List ℕ) {k : ℕ} → k ≡ m → f ≡ replicate m 0 → put_mid a k w f ≡ take a w ++ (replicate m 0 ++ drop (a + m) w)
filled_part a m w f {k} e g =
    let z : List ℕ = replicate m 0 in
    let l : length {A = ℕ} z ≡ m = length-replicate m 0 in
    put_mid-paste a k w f z m g (sym e) (sym l) ∙ paste_all w a z m (sym l)

part_long : (a : ℕ) {m k : ℕ} (w : List ℕ) → k ≡ m → a + m ≤ length w → length (take k (drop a w)) ≡ m
part_long a {m} {k} w e h = length-take-le k (drop a w) (omega (arith, length-drop a w)) ∙ e

pub slice_bounds-fill-end : goal.slice_bounds-fill-end
slice_bounds-fill-end c = omega (arith, c.requires.fits, span_is _ c.width-width.ensures.0)

pub returns : goal.returns
returns c =
    let k : c.args.self.base + (c.args.self.names + 1) * c.width-width.result - c.args.self.base ≡ (c.args.self.names + 1) * c.width-width.result = omega arith in
    let filled : c.fill.new.self ≡ replicate ((c.args.self.names + 1) * c.width-width.result) 0 =
    c.fill.ensures.after (λ y e. e) ∙ ap (λ (n : ℕ). replicate {A = ℕ} n 0) (part_long _ c.args.work.now k (omega (arith, c.requires.fits, span_is _ c.width-width.ensures.0))) in
    rw (filled_part c.args.self.base ((c.args.self.names + 1) * c.width-width.result) c.args.work.now c.fill.new.self k filled) (rows_filled _ c.requires (span_is _ c.width-width.ensures.0))
