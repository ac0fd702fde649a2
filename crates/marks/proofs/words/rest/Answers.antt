-- The word or the byte, without the bits before the column.
use Prim.Native.Nat.{◌+◌, ◌/◌}
use native.Mathlib.Omega.{arith}
use Rattle.marks.proofs.WordBits.{rest_of_word, rest_of_byte}
use Rattle.marks.proofs.words.rest.Goals as goal

pub returns-then-y-names : goal.returns-then-y-names
returns-then-y-names c = rest_of_word c.if-y-names.true c.word.ensures

pub returns : goal.returns
returns c = rest_of_byte c.if-y-names.false (c.from.ensures, omega (arith, c.from.ensures, c.type_inv.memory (c.args.row + c.args.y / 8)))
