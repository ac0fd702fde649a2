-- `ask_position` meets its contract: each answer is one law of Asks.
use mathlib.Core.Path.{refl}
use native.Mathlib.Omega.{arith}
use Rattle.release.proofs.Refusing.{passed}
use Rattle.release.proofs.Rows.{blank_table}
use Rattle.question.specs.declared.refusals.AskRefusal.TheVariants.{Release}
use Rattle.question.proofs.Asks.{refuses_release, has_version, names_few, refuses_below, refuses_above, refuses_memory, to_answer, answers}
use Rattle.question.proofs.ask_position.Goals as goal

pub read_release-requires : goal.read_release-requires
read_release-requires c = blank_table

pub returns-in_err-counts : goal.returns-in_err-counts
returns-in_err-counts c = rw (passed _ (Release c.in_err-counts.field-0.0) c.from_residual.ensures.1) (refuses_release _ _ _ _ c.in_err-counts.ensures)

pub of-version-requires : goal.of-version-requires
of-version-requires c = has_version c.in_ok-counts.ensures

pub returns-then-not-is_text : goal.returns-then-not-is_text
returns-then-not-is_text c = refuses_below c.in_ok-counts.ensures c.of-version.ensures.width _ _ _ c.is_text.ensures c.if-not-is_text.true

pub returns-then-not-is_text-2 : goal.returns-then-not-is_text-2
returns-then-not-is_text-2 c = refuses_above c.in_ok-counts.ensures c.of-version.ensures.width _ _ _ c.is_text.ensures c.if-not-is_text.false c.is_text-2.ensures c.if-not-is_text-2.true

pub work_length-requires : goal.work_length-requires
work_length-requires c = omega (arith, names_few c.in_ok-counts.ensures)

pub returns-then-short : goal.returns-then-short
returns-then-short c = refuses_memory c.in_ok-counts.ensures c.of-version.ensures.width _ _ _ c.is_text.ensures c.if-not-is_text.false c.is_text-2.ensures c.if-not-is_text-2.false
    c.work_length.ensures.0 c.if-short.true

pub answer-requires : goal.answer-requires
answer-requires c = to_answer c.in_ok-counts.ensures c.of-version.ensures.width _ _ _ c.is_text.ensures c.if-not-is_text.false c.is_text-2.ensures c.if-not-is_text-2.false
    c.work_length.ensures.0 c.if-short.false _ refl refl

pub returns : goal.returns
returns c = answers c.in_ok-counts.ensures c.of-version.ensures.width _ _ _ c.is_text.ensures c.if-not-is_text.false c.is_text-2.ensures c.if-not-is_text-2.false
    c.work_length.ensures.0 c.if-short.false c.answer.ensures
