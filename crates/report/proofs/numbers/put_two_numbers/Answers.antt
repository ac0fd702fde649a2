-- `put_two_numbers` meets its contract: a word with its number, the other word with its number, and the end of the line.
use mathlib.Core.Path.{ap, ◌∙◌}
use mathlib.Core.List.{List, ◌++◌}
use Prim.Native.Nat.{ℕ}
use Rattle.output.specs.Numbers.{decimal}
use Rattle.std.proofs.lemmas.List.{append_assoc}
use Rattle.output.proofs.Puts.{put_as, put_then}
use Rattle.report.specs.Texts.{worded, two_numbers}
use Rattle.report.proofs.numbers.put_two_numbers.Goals as goal

pub returns : goal.returns
unfolding worded two_numbers
returns c = put_as (append_assoc c.args.word.now _ _ ∙ ap (λ (s : List ℕ). c.args.word.now ++ (decimal c.args.number ++ s)) (append_assoc c.args.then.now _ _))
    (put_then c.put_worded-first.ensures (put_then c.put_worded-second.ensures c.put_byte.ensures))
