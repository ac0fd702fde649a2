-- No row is told to wait.
use mathlib.Core.Path.{refl}
use mathlib.Core.Bool.{false}
use Rattle.marks.proofs.Lists.{replicated_at}
use Rattle.marks.proofs.waiting.Waiting.new.Goals as goal

pub returns : goal.returns
returns c = record { none = λ y m. cc (m.is, replicated_at false 1024 y); count = refl }
