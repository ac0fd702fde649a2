-- The station prints what comparing promises: the text that was written of its answer and its result, which is long enough for all names.
use native.Mathlib.Omega.{arith}
use mathlib.Core.Path.{refl}
use Rattle.programs.proofs.Printed.{station_prints, prints_within}
use Rattle.programs.proofs.station.Goals as goal

pub returns : goal.returns
returns c =
    let prints = station_prints refl (omega arith) refl c.compare_releases-answer.ensures c.write_answer.ensures c.ok.ensures.value in
    record { prints = prints; within = prints_within _ _ _ _ c.write_answer.auto.output prints.prints }
