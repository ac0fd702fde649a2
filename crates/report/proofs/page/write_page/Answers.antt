-- `write_page` meets its contract: what refuses the length refuses the page, and where there is room the page is put.
use Rattle.std.proofs.Common.{refl}
use Rattle.output.proofs.Written.{unchanged, put_written}
use Rattle.release.proofs.Refusing.{passed}
use Rattle.report.proofs.PageAnswers.{length_exact, page_refused, page_lacks, page_fits}
use Rattle.report.proofs.page.write_page.Goals as goal

pub returns-in_err-length : goal.returns-in_err-length
returns-in_err-length c = unchanged c.in_err-length.field-0.0 (page_refused c.args.result_bytes.now _ _ c.in_err-length.ensures) (passed _ _ c.from_residual.ensures.1)

pub returns-then-output-length : goal.returns-then-output-length
returns-then-output-length c = unchanged _ (page_lacks c.args.result_bytes.now _ _ c.in_ok-length.ensures c.if-output-length.true) refl

pub returns : goal.returns
returns c =
    let bs = c.args.result_bytes.now in
    put_written c.in_ok-length.length (length_exact bs _ c.in_ok-length.ensures) c.if-output-length.false c.put_page.ensures
    (page_fits bs _ _ c.in_ok-length.ensures c.if-output-length.false) refl
