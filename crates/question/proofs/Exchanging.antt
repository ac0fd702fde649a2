-- A question with its concepts exchanged.
--   answers_exchanged     the answers are each other's, with 1 and 2 exchanged
use mathlib.Core.Path.{◌≡◌}
use mathlib.Core.List.{List}
use Prim.Native.Nat.{ℕ}
use Rattle.std.specs.Prelude.{Ok}
use Rattle.release.specs.Files.{content_of}
use Rattle.release.proofs.Refusing.{is_accepted}
use Rattle.demands.specs.Inputs.{concept_in}
use Rattle.demands.specs.Lying.{Lies, exchanged}
use Rattle.demands.proofs.Lying.{lies_once, lies_exchanged}
use Rattle.question.specs.declared.position.Position.{Position}
use Rattle.question.specs.Positions.{position_number}
use Rattle.question.specs.Asking.{AskedAs}

-- what is answered where nothing is refused
held : {s c d w v : List ℕ} {p : Position} → AskedAs s c d w v (Ok p) → Lies (content_of s) (concept_in s c) (concept_in s d) (position_number p)
held {p = p} asked =
    let told = is_accepted _ _ asked.value p asked.answer in
    rw told.1 (asked.held told.0)

-- whatever each is asked with as work memory
pub answers_exchanged : {s c d w v x y : List ℕ} {p q : Position} → AskedAs s c d w v (Ok p) → AskedAs s d c x y (Ok q) → position_number q ≡ exchanged (position_number p)
answers_exchanged asked other = lies_once (held other) (lies_exchanged (held asked))
