-- `put_number` meets its contract: the low byte, and in two bytes the high one.
use mathlib.Core.Path.{◌≡◌, sym, ap, ◌∙◌}
use mathlib.Core.List.{List}
use Prim.Native.Nat.{ℕ}
use lib.ListN.{get_or}
use Rattle.release.specs.Versions.{width}
use Rattle.output.proofs.Puts.{put_as, put_then}
use Rattle.rewriting.proofs.Stands.{width_wide}
use Rattle.rewriting.proofs.Pieces.{narrow_bytes, wide_bytes}
use Rattle.rewriting.proofs.numbers.put_number.Goals as goal

pub returns-then-width-eq1 : goal.returns-then-width-eq1
returns-then-width-eq1 c =
    let byte : ℕ → List ℕ → ℕ = λ i s. get_or s i 0 in
    put_as (narrow_bytes _ _ (sym c.width.ensures ∙ c.if-width-eq1.true) _ (ap (byte 0) c.to_le_bytes.ensures)) c.put_byte-next.ensures

pub returns : goal.returns
returns c =
    let byte : ℕ → List ℕ → ℕ = λ i s. get_or s i 0 in
    let wide : width c.args.version ≡ 2 = width_wide c.args.version (λ e. c.if-width-eq1.false (c.width.ensures ∙ e)) in
    put_as (wide_bytes _ _ wide _ _ (ap (byte 0) c.to_le_bytes.ensures) (ap (byte 1) c.to_le_bytes.ensures)) (put_then c.put_byte-next.ensures c.put_byte.ensures)
