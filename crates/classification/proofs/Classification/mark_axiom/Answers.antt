-- The kind says which rules the axiom gives; the other parts of what is to be settled ask another kind.
use mathlib.Core.Path.{refl}
use Rattle.marks.proofs.Passes.{pass_none, pass_both}
use Rattle.classification.proofs.Marking.{shaped_row, seeded_stays, seeded_source, axiom_gathered, axiom_idle, axiom_absent}
use Rattle.classification.proofs.Classification.mark_axiom.Goals as goal

pub kind-requires : goal.kind-requires
kind-requires c = shaped_row c.requires.seeded_setting.setting.shaped c.requires.x_lt_names

pub mark_parts-parts-requires-clause-source : goal.mark_parts-parts-requires-clause-source
mark_parts-parts-requires-clause-source c = seeded_source (seeded_stays c.gather_column-gathered.ensures.grows c.requires.seeded_setting) c.requires.x_lt_names

pub returns-in-Some-DefinedConjunction : goal.returns-in-Some-DefinedConjunction
returns-in-Some-DefinedConjunction c =
    let a = c.in-Some-DefinedConjunction in
    pass_both (axiom_gathered (rw a.field-0-is at a.ensures) refl) c.gather_column-gathered.ensures c.mark_parts-parts.ensures

pub returns-in-Some-PrimitiveRestriction : goal.returns-in-Some-PrimitiveRestriction
returns-in-Some-PrimitiveRestriction c = pass_none (axiom_idle (rw c.in-Some-PrimitiveRestriction.field-0-is at c.in-Some-PrimitiveRestriction.ensures) refl)

pub returns-in-None : goal.returns-in-None
returns-in-None c = pass_none (axiom_absent c.in-None.ensures)
