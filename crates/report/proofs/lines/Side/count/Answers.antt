-- `Side::count` meets its contract: the bytes that pass the filter are counted.
use Rattle.std.proofs.Common.{rules, tests, ◌∙◌}
use Rattle.std.proofs.lemmas.Iterator.{YieldsList-from_slice}
use Rattle.std.proofs.lemmas.Iterator.Consumers.{count_from_yields_List, YieldsList-from_filter}
use Rattle.report.specs.Sides.{side_byte, on_side}
use Rattle.branches.proofs.Counts.{count_filter}
use Rattle.report.proofs.lines.Side.count.Goals as goal

pub returns : goal.returns
returns c =
    let on = on_side (side_byte c.args.self) in
    count_from_yields_List c.filter.result _ c.count.ensures.ran
    (YieldsList-from_filter _ on (YieldsList-from_slice c.args.bytes.now cc) c.filter.ensures.closure (λ x r q k. search (rules, tests)))
    ∙ count_filter on c.args.bytes.now
