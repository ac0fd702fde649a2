-- `put_aligned` meets its contract: what a number takes in no bytes is the number of its digits.
use Rattle.std.proofs.Common.{◌≡◌, ap, arith, length, ◌-◌}
use Rattle.output.proofs.Puts.{put_as, put_then}
use Rattle.output.specs.Numbers.{decimal, spaces, aligned}
use Rattle.output.proofs.put_aligned.Goals as goal

pub returns : goal.returns
unfolding aligned
returns c =
    let digits : c.saturating_sub.result ≡ c.args.width - length (decimal c.args.number) = omega (arith, c.saturating_sub.ensures, c.put_decimal-digits.ensures.after) in
    put_then (put_as (ap spaces digits) c.put_spaces-next.ensures) c.put_decimal.ensures
