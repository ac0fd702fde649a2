-- `page_length` meets its contract: the names reported are counted, and the length is that of the lines they take.
use Rattle.std.proofs.Common.{rules, tests, arith, sym, ◌≡◌, ◌∙◌, ◌≤◌}
use Rattle.std.proofs.lemmas.Iterator.{YieldsList-from_slice}
use Rattle.std.proofs.lemmas.Iterator.Consumers.{count_from_yields_List, YieldsList-from_filter}
use Rattle.el.specs.Comparison.{is_reported}
use Rattle.el.specs.Lists.{count}
use Rattle.branches.proofs.Counts.{count_filter}
use Rattle.report.proofs.PageAnswers.{few_reported, length_told, no_length}
use Rattle.report.proofs.page.page_length.Goals as goal

pub returns-then-not-is_result : goal.returns-then-not-is_result
returns-then-not-is_result c = no_length c.args.result_bytes.now (sym c.is_result.ensures ∙ c.if-not-is_result.true)

-- the bytes that pass the filter are those that report their name
counted : (c : goal.After-div_ceil-lines) → c.count-reported.result ≡ count is_reported c.args.result_bytes.now
counted c =
    let bs = c.args.result_bytes.now in
    count_from_yields_List c.filter.result _ c.count-reported.ensures.ran
    (YieldsList-from_filter _ is_reported (YieldsList-from_slice bs cc) c.filter.ensures.closure (λ x r q k. search (rules, tests)))
    ∙ count_filter is_reported bs

few_lines : (c : goal.After-div_ceil-lines) → c.div_ceil-lines.result ≤ 1023
few_lines c =
    let few = few_reported c.args.result_bytes.now (sym c.is_result.ensures ∙ c.if-not-is_result.false) in
    omega (arith, few, counted c, c.div_ceil-lines.ensures)

pub overflow_mul-result-2 : goal.overflow_mul-result-2
overflow_mul-result-2 c = omega (arith, few_lines c)

pub overflow_add-result-2 : goal.overflow_add-result-2
overflow_add-result-2 c = omega (arith, few_lines c)

pub returns : goal.returns
returns c =
    length_told c.args.result_bytes.now (sym c.is_result.ensures ∙ c.if-not-is_result.false) c.count-reported.result c.div_ceil-lines.result (counted c) c.div_ceil-lines.ensures
