-- `put_axiom` meets its contract: the name, the kind, and what the kind says.
use Rattle.std.proofs.Common.{ap, sym, ◌∙◌, length}
use Rattle.release.specs.Kinds.{kind_number}
use Rattle.rewriting.specs.Bytes.{tail_bytes}
use Rattle.output.proofs.Puts.{put_as, put_then}
use Rattle.practice.proofs.NameKinds.{has_parts}
use Rattle.practice.proofs.Pieces.{right_joined, right_restricted, axiom_pieces}
use Rattle.practice.proofs.Practice.put_axiom.Goals as goal

pub put_conjunction-requires : goal.put_conjunction-requires
put_conjunction-requires c = has_parts (length c.args.self.now.pool.now) (kind_number c.args.kind) c.requires.has (sym c.is_conjunction.ensures ∙ c.if-is_conjunction.true)

pub returns-then-is_conjunction-clause-put : goal.returns-then-is_conjunction-clause-put
returns-then-is_conjunction-clause-put c =
    put_as (axiom_pieces _ _ _ _ _ _ _ c.requires.has) (put_then c.put_number-named.ensures (put_then (rw c.number_of.ensures at c.put_number-kinded.ensures)
    (put_as (ap (tail_bytes 1) (sym (right_joined _ _ _ _ _ (sym c.is_conjunction.ensures ∙ c.if-is_conjunction.true)))) c.put_conjunction.ensures.put)))

pub returns-clause-put : goal.returns-clause-put
returns-clause-put c =
    put_as (axiom_pieces _ _ _ _ _ _ _ c.requires.has) (put_then c.put_number-named.ensures (put_then (rw c.number_of.ensures at c.put_number-kinded.ensures)
    (put_as (ap (tail_bytes 1) (sym (right_restricted _ _ _ _ _ (sym c.is_conjunction.ensures ∙ c.if-is_conjunction.false)))) c.put_restriction.ensures.put)))
