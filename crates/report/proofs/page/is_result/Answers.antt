-- `is_result` meets its contract: the length is tested, and then each byte.
use Rattle.std.proofs.Common.{rules, tests, sym, ◌∙◌, leb}
use Rattle.std.proofs.lemmas.Bool.{lt-leb}
use Rattle.std.proofs.lemmas.Iterator.{YieldsList-from_slice}
use Rattle.std.proofs.lemmas.Iterator.Search.{all_from_yields_List}
use Rattle.report.proofs.PageAnswers.{by_bytes, too_long}
use Rattle.report.proofs.page.is_result.Goals as goal

pub returns-then-result_bytes-le-NAMES : goal.returns-then-result_bytes-le-NAMES
returns-then-result_bytes-le-NAMES c =
    let bs = c.args.result_bytes.now in
    all_from_yields_List (λ b. leb b 3) _ _ c.all.result c.all.ensures.ran (YieldsList-from_slice bs cc) (λ x b q k. search (rules, tests))
    ∙ sym (by_bytes bs c.if-result_bytes-le-NAMES.true)

pub returns-else-result_bytes-le-NAMES : goal.returns-else-result_bytes-le-NAMES
returns-else-result_bytes-le-NAMES c = lt-leb _ _ c.if-result_bytes-le-NAMES.false ∙ sym (too_long c.args.result_bytes.now c.if-result_bytes-le-NAMES.false)
