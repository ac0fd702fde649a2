-- The fault of all conjuncts is the fault of those that are left, from the place and the least name reached.
use Prim.Native.Nat.{◌-◌, ◌≤◌}
use mathlib.Core.Path.{◌≡◌}
use lib.ListN.{length}
use Rattle.release.specs.Files.{parts_fault}
use Rattle.release.specs.Versions.{width}
use Rattle.release.proofs.axiom.Source.check_parts.Given as goal

abbrev pub invariant-loop-part : goal.invariant-loop-part
invariant-loop-part l =
    let w = width l.self.version in
    let n = l.self.counts.names in
    record {
      within : l.place ≤ length l.self.file.now;
      same : parts_fault w n l.count 0 l.self.file.now l.at ≡ parts_fault w n (l.count - l._part) l.least l.self.file.now l.place;
    }
