-- The first i words of one row are seen in the other.
use mathlib.Core.Path.{◌≡◌}
use Prim.Native.Nat.{◌+◌, ◌*◌}
use native.Mathlib.Omega.{arith}
use borrow.Author.Tests.{eqb-true}
use Rattle.marks.proofs.Squares.{row_bytes}
use Rattle.marks.proofs.Scans.{words_none, words_more, words_within_row, word_inside}
use Rattle.marks.proofs.Square.words_within.Goals as goal

pub loop-i-init : goal.loop-i-init
loop-i-init c = words_none

pub word-given-requires : goal.word-given-requires
word-given-requires c = (word_inside c.requires.room c.requires.from_le_names.0 c.requires.from_le_names.2
    (omega (arith, row_bytes _ c.width-i-end.ensures.0, c.loop-i-test.true, c.requires.from_le_names.2)) (omega arith) c.place-source.ensures).0

pub word-had-requires : goal.word-had-requires
word-had-requires c = (word_inside c.requires.room c.requires.from_le_names.1 c.requires.from_le_names.2
    (omega (arith, row_bytes _ c.width-i-end.ensures.0, c.loop-i-test.true, c.requires.from_le_names.2)) (omega arith) c.place-target.ensures).0

pub loop-i-preserved : goal.loop-i-preserved
loop-i-preserved c =
    let next : 8 * (8 * (c.loop-i.i + 1)) ≡ 8 * (8 * c.loop-i.i + 8) = omega arith in
    rw next (words_more 8 _ c.place-source.ensures c.place-target.ensures c.word-given.ensures.read c.word-had.ensures.read c.loop-i.invariant)

pub returns : goal.returns
returns c = λ e. words_within_row (omega (arith, row_bytes _ c.width-i-end.ensures.0, c.loop-i-test.false, c.requires.from_le_names.2)) c.loop-i.invariant (eqb-true _ _ e)
