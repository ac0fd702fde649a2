-- `put_worded` meets its contract: the word is put, and then the number.
use Rattle.output.proofs.Puts.{put_then}
use Rattle.report.specs.Texts.{worded}
use Rattle.report.proofs.numbers.put_worded.Goals as goal

pub returns : goal.returns
unfolding worded
returns c = put_then c.put_text-next.ensures c.put_decimal.ensures
