-- The first i bytes are put into the other row: in the same square as a growth by a rule, in another one as hints.
use mathlib.Core.Path.{◌≡◌, refl, ap, ◌∙◌}
use Prim.Native.Nat.{◌/◌, ◌≤◌}
use native.Mathlib.Omega.{arith}
use Rattle.marks.specs.declared.Square.{Square}
use Rattle.marks.specs.Squares.{place}
use Rattle.marks.specs.Passes.{none}
use Rattle.marks.proofs.Squares.{row_bytes, row_ends, hints_none, hints_more}
use Rattle.marks.proofs.Passes.{hand_further}
use Rattle.marks.proofs.Square.add_row.Goals as goal

pub place-had-requires : goal.place-had-requires
place-had-requires c = record { small = c.requires.room.1.small; x_le_names = (omega (arith, c.requires.names_value), omega arith) }

pub loop-i-init : goal.loop-i-init
loop-i-init c = (
  λ e. none,
  hints_none,
  row_ends _ c.requires.room.0 refl c.requires.names_value.1 c.place-given.ensures,
  row_ends _ c.requires.room.1 c.requires.names_value.0 c.requires.names_value.2 c.place-had.ensures,
)

pub loop-i-preserved : goal.loop-i-preserved
loop-i-preserved c =
    let inside : c.loop-i.i ≤ c.args.self.names / 8 = omega (arith, row_bytes _ c.width-i-end.ensures.0, c.loop-i-test.true) in
    let same : c.args.target.names ≡ c.args.self.names = omega (arith, c.requires.names_value) in (
      λ e. hand_further c.loop-i.i (c.loop-i.invariant.0 e) c.requires.room.0 c.requires.names_value.1 c.requires.names_value.2 inside c.place-given.ensures.is
          (c.place-had.ensures.is ∙ ap (λ (q : Square). place q c.args.to 0) e),
      hints_more _ c.requires.room.1 (omega (arith, c.requires.names_value)) (omega (arith, inside, same)) c.place-had.ensures c.loop-i.invariant.1,
      c.loop-i.invariant.2,
      c.loop-i.invariant.3,
    )

pub returns : goal.returns
returns c = record { grows = c.loop-i.invariant.0; hints = c.loop-i.invariant.1 }
