-- `reach::is_new` meets its contract: the byte of the pair is in the memory.
use native.Mathlib.Omega.{arith}
use mathlib.Core.Path.{refl}
use Rattle.witness_above.proofs.Reaching.{pair_inside, not_noted, tells_new}
use Rattle.witness_above.proofs.reach.is_new.Goals as goal

pub overflow_add-byte-3 : goal.overflow_add-byte-3
overflow_add-byte-3 c = let a = c.args in let p = c.requires in omega (arith, pair_inside a.layout.marks a.layout.names a.x a.y p.room p.x_le_names.0 p.x_le_names.1)

pub bounds-work-layout : goal.bounds-work-layout
bounds-work-layout c = let a = c.args in let p = c.requires in pair_inside a.layout.marks a.layout.names a.x a.y p.room p.x_le_names.0 p.x_le_names.1

pub returns-then-byte-ne0 : goal.returns-then-byte-ne0
returns-then-byte-ne0 c = let p = c.requires in tells_new _ _ _ _ p.room p.x_le_names.0 p.x_le_names.1 _ refl c.if-byte-ne0.true

pub returns-else-byte-ne0 : goal.returns-else-byte-ne0
returns-else-byte-ne0 c = let p = c.requires in not_noted _ _ _ _ p.room p.x_le_names.0 p.x_le_names.1 _ refl c.if-byte-ne0.false
