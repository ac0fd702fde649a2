-- `put_axioms` meets its contract. The invariant: the axioms from place `from` on are still to be written.
use Prim.Native.Nat.{◌-◌}
use Rattle.release.specs.Files.{axioms_from, axioms_of, count_of}
use Rattle.release.specs.Versions.{width}
use Rattle.rewriting.specs.Bytes.{axioms_bytes}
use Rattle.output.proofs.Rest.{Rest}
use Rattle.rewriting.proofs.Stands.{AllStand}
use Rattle.rewriting.proofs.Rewriting.put_axioms.Given as goal

abbrev pub invariant-loop-axiom : goal.invariant-loop-axiom
invariant-loop-axiom l =
    let left = count_of l.self.source.file.now - l._axiom in
    record {
      stand : AllStand left l.self.source.file.now l.from;
      left : Rest l.initial.output l.at (axioms_bytes (width l.self.wanted) (axioms_of l.self.source.file.now)) l.output l.next
          (axioms_bytes (width l.self.wanted) (axioms_from left l.self.source.file.now l.from));
    }
