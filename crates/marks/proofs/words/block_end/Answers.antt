-- The test is the one of the definition.
use mathlib.Core.Path.{sym}
use Rattle.marks.proofs.WordBits.{end_of_word, end_of_byte}
use Rattle.marks.proofs.words.block_end.Goals as goal

pub returns-then-y-names : goal.returns-then-y-names
returns-then-y-names c = sym (end_of_word _ _ c.if-y-names.true)

pub returns : goal.returns
returns c = sym (end_of_byte _ _ c.if-y-names.false)
