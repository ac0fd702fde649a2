-- The refusal of the axiom, that of bytes left over, or the left name.
use Rattle.release.proofs.Refusing.{passed}
use Rattle.splicing.proofs.Texts.{text_refused, text_14, text_whole}
use Rattle.splicing.proofs.read_text.Goals as goal

pub returns-in_err-entry : goal.returns-in_err-entry
returns-in_err-entry c = rw (passed _ c.in_err-entry.field-0.0 c.from_residual.ensures.1) (text_refused _ _ _ _ c.in_err-entry.ensures)

pub returns-then-next-text : goal.returns-then-next-text
returns-then-next-text c = text_14 _ _ _ c.in_ok-entry.ensures c.if-next-text.true

pub returns : goal.returns
returns c = text_whole _ _ _ c.in_ok-entry.ensures c.if-next-text.false
