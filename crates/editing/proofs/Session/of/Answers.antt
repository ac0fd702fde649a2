-- The files and the signature are put at the start of bytes that are 0.
use Rattle.editing.proofs.Beginning.{started_is}
use Rattle.editing.proofs.Session.of.Goals as goal

pub returns : goal.returns
returns c = started_is _ _ _ c.new.ensures c.new-2.ensures c.put_text.ensures c.requires.1.1
