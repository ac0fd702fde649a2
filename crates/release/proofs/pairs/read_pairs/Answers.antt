-- Each pair is refused or taken in, in the order of the file.
use mathlib.Core.Path.{◌∙◌}
use native.Mathlib.Omega.{arith}
use Rattle.release.proofs.Refusing.{passed}
use Rattle.release.proofs.RolePairs.{pairs_start, refuses_pair, listable, pairs_next, pairs_end}
use Rattle.release.proofs.Versions.{header_far, end_known}
use Rattle.release.proofs.pairs.read_pairs.Goals as goal

pub of-version-requires : goal.of-version-requires
of-version-requires c = omega (arith, c.requires.long, header_far c.args.file.now)

pub loop-index-init : goal.loop-index-init
loop-index-init c = pairs_start c.requires

pub read_pair-requires : goal.read_pair-requires
read_pair-requires c = omega (arith, c.header_length-first.ensures, end_known _ _ c.of-version.ensures.width c.of-version.ensures.pairs, c.loop-index.invariant.within)

pub returns-in_err-pair : goal.returns-in_err-pair
returns-in_err-pair c = rw (passed _ c.in_err-pair.field-0.0 c.from_residual.ensures.1) (refuses_pair c.loop-index.invariant (omega arith)
    (rw (c.header_length-first.ensures ∙ end_known _ _ c.of-version.ensures.width c.of-version.ensures.pairs) at c.in_err-pair.ensures))

pub take_in-requires : goal.take_in-requires
take_in-requires c = listable c.loop-index.invariant (omega arith)
    (rw (c.header_length-first.ensures ∙ end_known _ _ c.of-version.ensures.width c.of-version.ensures.pairs) at c.in_ok-pair.ensures) c.requires.few

pub after-least-requires : goal.after-least-requires
after-least-requires c = let few = (listable c.loop-index.invariant (omega arith)
    (rw (c.header_length-first.ensures ∙ end_known _ _ c.of-version.ensures.width c.of-version.ensures.pairs) at c.in_ok-pair.ensures) c.requires.few).upper in omega arith

pub loop-index-preserved : goal.loop-index-preserved
loop-index-preserved c = pairs_next c.loop-index.invariant (omega arith)
    (rw (c.header_length-first.ensures ∙ end_known _ _ c.of-version.ensures.width c.of-version.ensures.pairs) at c.in_ok-pair.ensures) c.take_in.ensures c.after-least.ensures

pub returns : goal.returns
returns c = pairs_end c.loop-index.invariant (omega (arith, c.loop-index-test.false, c.pair_count-index-end.ensures)) (omega (arith, c.loop-index.auto.index-end, c.pair_count-index-end.ensures))
