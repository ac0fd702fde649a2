-- `agree` meets its contract: by where the first refusal is met. What `map_err` was handed is the releases' own answer.
use Rattle.std.proofs.Common.{arith}
use Rattle.release.proofs.Refusing.{passed}
use Rattle.meanings.specs.declared.refusals.CompareRefusal.TheVariants.{First, Second}
use Rattle.meanings.proofs.Judging.{mapped_refusal, mapped_value, first_refused, second_refused, differ, counts_same}
use Rattle.meanings.proofs.agree.Goals as goal

pub returns-in_err-one : goal.returns-in_err-one
returns-in_err-one c =
    let refused = mapped_refusal First c.args.first c.in_err-one.ensures.cases in
    rw (passed _ c.in_err-one.field-0.0 c.from_residual.ensures.1, refused.2) (first_refused _ refused.1)

pub returns-in_err-two : goal.returns-in_err-two
returns-in_err-two c =
    let refused = mapped_refusal Second c.args.second c.in_err-two.ensures.cases in
    rw (passed _ c.in_err-two.field-0.0 c.from_residual-in_err-two.ensures.1, refused.2)
    (second_refused (mapped_value First c.args.first c.in_ok-one.ensures.cases) refused.1)

pub returns-then-one-two : goal.returns-then-one-two
returns-then-one-two c =
    differ (mapped_value First c.args.first c.in_ok-one.ensures.cases) (mapped_value Second c.args.second c.in_ok-two.ensures.cases) c.then-one-two.either

pub overflow_cast-result : goal.overflow_cast-result
overflow_cast-result c = omega (arith, (rw (mapped_value First c.args.first c.in_ok-one.ensures.cases) at c.requires).0)

pub overflow_cast-result-2 : goal.overflow_cast-result-2
overflow_cast-result-2 c = omega (arith, (rw (mapped_value First c.args.first c.in_ok-one.ensures.cases) at c.requires).1)

pub returns : goal.returns
returns c =
    counts_same (mapped_value First c.args.first c.in_ok-one.ensures.cases) (mapped_value Second c.args.second c.in_ok-two.ensures.cases)
    c.if-one-two.false c.if-one-two-2.false
