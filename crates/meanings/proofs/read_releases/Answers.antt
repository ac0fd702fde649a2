-- `read_releases` meets its contract: releases that share their counts have few names and few roles.
use Rattle.std.proofs.Common.{sym}
use Rattle.meanings.proofs.Promise.{agree, few_counts}
use Rattle.meanings.proofs.read_releases.Goals as goal

pub invariant_of-releases : goal.invariant_of-releases
invariant_of-releases c =
    let few = few_counts (agree _ _ _ (sym c.in_ok-counts.ensures.answer)) in
    record { few = rw c.from.ensures few.0; few_roles = rw c.from-2.ensures few.1 }
