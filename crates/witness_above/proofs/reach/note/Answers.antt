-- `reach::note` meets its contract: the byte of the pair is in the memory.
use native.Mathlib.Omega.{arith}
use mathlib.Core.Path.{refl}
use Rattle.witness_above.proofs.Reaching.{pair_inside, noted_new, noted_old}
use Rattle.witness_above.proofs.reach.note.Goals as goal

pub overflow_add-at-3 : goal.overflow_add-at-3
overflow_add-at-3 c = let a = c.args in let p = c.requires in omega (arith, pair_inside a.layout.marks a.layout.names a.x a.y p.room p.x_le_names.0 p.x_le_names.1)

pub bounds-work-at : goal.bounds-work-at
bounds-work-at c = let a = c.args in let p = c.requires in pair_inside a.layout.marks a.layout.names a.x a.y p.room p.x_le_names.0 p.x_le_names.1

pub bounds-work-at-then-work-at-eq0 : goal.bounds-work-at-then-work-at-eq0
bounds-work-at-then-work-at-eq0 c = let a = c.args in let p = c.requires in pair_inside a.layout.marks a.layout.names a.x a.y p.room p.x_le_names.0 p.x_le_names.1

pub returns-then-work-at-eq0 : goal.returns-then-work-at-eq0
returns-then-work-at-eq0 c = let p = c.requires in noted_new _ _ _ _ p.room p.x_le_names.0 p.x_le_names.1 _ refl c.if-work-at-eq0.true

pub returns-else-work-at-eq0 : goal.returns-else-work-at-eq0
returns-else-work-at-eq0 c = let p = c.requires in noted_old _ _ _ _ p.room p.x_le_names.0 p.x_le_names.1 _ refl c.if-work-at-eq0.false
