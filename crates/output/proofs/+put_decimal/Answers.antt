-- The digits of a number are those of its tenth, and its last: put one after the other they are the number.
use mathlib.Core.Path.{sym}
use Rattle.output.proofs.Puts.{put_as, put_then}
use Rattle.output.proofs.Decimals.{decimal_last, decimal_more}
use Rattle.output.proofs.+put_decimal.Goals as goal

pub returns-then-number-lt10 : goal.returns-then-number-lt10
returns-then-number-lt10 t c = put_as (decimal_last c.args.number c.if-number-lt10.true) c.put_byte.ensures

pub returns : goal.returns
returns t c = put_as (sym (decimal_more c.args.number c.if-number-lt10.false)) (put_then c.put_decimal-next.ensures c.put_byte-2.ensures)
