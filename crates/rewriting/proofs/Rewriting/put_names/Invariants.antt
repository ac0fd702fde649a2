-- `put_names` meets its contract. The invariant: the names from the place reached on are still to be written.
use Prim.Native.Nat.{◌+◌, ◌-◌, ◌*◌, ◌≤◌}
use lib.ListN.{length}
use Rattle.release.specs.Files.{numbers}
use Rattle.release.specs.Versions.{width}
use Rattle.rewriting.specs.Bytes.{names_bytes}
use Rattle.output.proofs.Rest.{Rest}
use Rattle.rewriting.proofs.Rewriting.put_names.Given as goal

abbrev pub invariant-loop-name : goal.invariant-loop-name
invariant-loop-name l =
    let v = width l.self.source.version in
    let file = l.self.source.file.now in
    record {
      inside : l.place + v * (l.count - l._name) ≤ length file;
      left : Rest l.initial.output l.at (names_bytes (width l.self.wanted) (numbers v l.count file l.from)) l.output l.next
          (names_bytes (width l.self.wanted) (numbers v (l.count - l._name) file l.place));
    }
