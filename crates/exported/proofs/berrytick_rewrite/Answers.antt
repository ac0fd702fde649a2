-- A wanted version that is none is refused; a rewritten file is short.
use Rattle.exported.proofs.Outcomes.{no_version, rewritten_as, never_written}
use Rattle.exported.proofs.Lengths.{rewriting_short}
use Rattle.exported.proofs.berrytick_rewrite.Goals as goal

pub returns-in_default : goal.returns-in_default
returns-in_default c = no_version (never_written c.args.wanted c.in_default.ensures.1) c.refusal_code.ensures

pub give_length-requires : goal.give_length-requires
give_length-requires c = rewriting_short c.in-Ok.version _ _ _ _ c.rewrite.ensures

pub returns : goal.returns
returns c = rewritten_as c.in-Ok.version c.in-Ok.ensures c.rewrite.ensures c.give_length.ensures
