-- `count` meets its contract: the bytes that pass the filter are counted.
use Rattle.std.proofs.Common.{◌≡◌, arith, rules, tests, ◌∙◌}
use Rattle.std.proofs.lemmas.Iterator.{YieldsList-from_slice}
use Rattle.std.proofs.lemmas.Iterator.Consumers.{count_from_yields_List, YieldsList-from_filter}
use Rattle.el.specs.Lists.{count}
use Rattle.branches.proofs.Counts.{is, count_filter, count_few}
use Rattle.branches.proofs.row.count.Goals as goal

counted : (c : goal.After-count) → c.count.result ≡ count (is c.args.value) c.args.bytes.now
counted c =
    count_from_yields_List c.filter.result _ c.count.ensures.ran
    (YieldsList-from_filter _ (is c.args.value) (YieldsList-from_slice c.args.bytes.now cc) c.filter.ensures.closure (λ x r q k. search (rules, tests)))
    ∙ count_filter (is c.args.value) c.args.bytes.now

pub overflow_cast-result : goal.overflow_cast-result
overflow_cast-result c = omega (arith, counted c, count_few (is c.args.value) c.args.bytes.now)

pub returns : goal.returns
returns c = (counted c, omega (arith, counted c, count_few (is c.args.value) c.args.bytes.now))
