-- All roles, one after the other. Invariant: under each before this one no other lies.
use native.Mathlib.Omega.{arith}
use Rattle.layout.proofs.Findings.{alone_none, alone_more}
use Rattle.layout.proofs.edges.are_alone.Goals as goal

pub loop-number-init : goal.loop-number-init
loop-number-init c = alone_none

pub loop-number-preserved : goal.loop-number-preserved
loop-number-preserved c =
    alone_more (omega (arith, c.loop-number-test.true)) c.under.ensures c.with.ensures c.without-others.ensures (c.is_empty.ensures.sound c.if-not-is_empty.false) c.loop-number.invariant

pub returns : goal.returns
returns c e = record { alone = λ q r l s. c.loop-number.invariant.alone q r (omega (arith, c.loop-number-test.false)) s }
