-- `put_page` meets its contract. The invariant: what the names from the one reached on take is still to be put.
use Prim.Native.Nat.{◌≤◌}
use Rattle.output.proofs.Rest.{Rest}
use Rattle.report.specs.Pages.{page}
use Rattle.report.proofs.PageWriting.{left}
use Rattle.report.proofs.page.put_page.Given as goal

abbrev pub invariant-loop-name : goal.invariant-loop-name
invariant-loop-name l = record {
  few : l.cells ≤ l.name;
  rest : Rest l.initial.output 0 (page l.result_bytes) l.output l.next (left l.cells l.name l.result_bytes);
}
