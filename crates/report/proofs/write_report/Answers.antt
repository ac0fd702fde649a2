-- `write_report` meets its contract: the result is too short, or the report with these counts is put whole or not at all.
use Rattle.std.proofs.Common.{rules, arith, refl}
use Rattle.output.proofs.Puts.{put_as}
use Rattle.report.proofs.Answers.{result_too_short, result_long_enough, counted_text}
use Rattle.report.proofs.write_report.Goals as goal

pub returns-then-result_bytes-count : goal.returns-then-result_bytes-count
returns-then-result_bytes-count c = result_too_short _ _ _ _ (omega arith) refl

pub returns : goal.returns
returns c =
    let told = counted_text c.args.counts.names c.args.counts.roles c.args.result_bytes.now c.args.output.now _ _ _ _ c.from-count.ensures c.from.ensures c.count.ensures c.count-2.ensures in
    result_long_enough _ _ _ _ (omega arith) (c.write_whole.ensures _ (λ o q next e. put_as told (search rules)))
