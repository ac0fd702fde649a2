-- A name has an axiom exactly where its place and that of the next name differ.
use native.Mathlib.Numerals.{add-one}
use Rattle.splicing.proofs.Splices.{has_told}
use Rattle.splicing.proofs.has_axiom.Goals as goal

pub returns : goal.returns
returns c = has_told _ c.requires.0 _ _ _ c.place.ensures (rw add-one at c.place-2.ensures)
