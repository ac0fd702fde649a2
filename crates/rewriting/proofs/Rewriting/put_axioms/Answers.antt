-- `put_axioms` meets its contract. The invariant: the axioms from place `from` on are still to be written.
use native.Mathlib.Omega.{arith}
use Rattle.std.proofs.Math.Nat.{sub-zero}
use Rattle.output.proofs.Rest.{rest_whole, piece_put, nothing_left}
use Rattle.release.proofs.Versions.{first_plain}
use Rattle.rewriting.proofs.Pieces.{first_axiom, no_axiom}
use Rattle.rewriting.proofs.Stands.{all_stand, first_stands, others_stand, axioms_counted, one_left}
use Rattle.rewriting.proofs.Rewriting.put_axioms.Goals as goal

pub loop-axiom-init : goal.loop-axiom-init
loop-axiom-init c = rw (sub-zero, c.header_length-from.ensures, c.args.self.now.version, c.args.self.now.plain, ← first_plain _ c.args.self.now.accepted.plain)
    (record { stand = all_stand _ c.args.self.now.accepted; left = rest_whole (omega arith) (omega arith) })

pub put_axiom-next-requires : goal.put_axiom-next-requires
put_axiom-next-requires c =
    first_stands _ _ _ _ (one_left (axioms_counted _ c.args.self.now.counts) c.loop-axiom-test.true) c.loop-axiom.invariant.stand _ c.args.self.now.version

pub axiom_length-from-requires : goal.axiom_length-from-requires
axiom_length-from-requires c = (first_stands _ _ _ _ (one_left (axioms_counted _ c.args.self.now.counts) c.loop-axiom-test.true) c.loop-axiom.invariant.stand _ c.args.self.now.version).inside

pub overflow_add-from : goal.overflow_add-from
overflow_add-from c =
    omega (
      arith,
      c.axiom_length-from.ensures,
      (first_stands _ _ _ _ (one_left (axioms_counted _ c.args.self.now.counts) c.loop-axiom-test.true) c.loop-axiom.invariant.stand _ c.args.self.now.version).inside,
    )

pub loop-axiom-preserved : goal.loop-axiom-preserved
loop-axiom-preserved c =
    rw c.axiom_length-from.ensures (record {
      stand = others_stand _ _ _ _ (one_left (axioms_counted _ c.args.self.now.counts) c.loop-axiom-test.true) c.loop-axiom.invariant.stand _ c.args.self.now.version;
      left = piece_put (first_axiom _ _ _ _ _ (one_left (axioms_counted _ c.args.self.now.counts) c.loop-axiom-test.true) _ c.args.self.now.version)
          c.loop-axiom.invariant.left c.put_axiom-next.ensures;
    })

pub returns : goal.returns
returns c = nothing_left (no_axiom _ _ _ _ (omega (arith, axioms_counted _ c.args.self.now.counts, c.loop-axiom-test.false))) c.loop-axiom.invariant.left
