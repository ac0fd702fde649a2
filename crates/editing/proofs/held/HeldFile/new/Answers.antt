-- The file is put at the start of bytes that are 0.
use Rattle.editing.proofs.HeldFiles.{blank_put}
use Rattle.editing.proofs.held.HeldFile.new.Goals as goal

pub returns : goal.returns
returns c = blank_put c.put_text-length.ensures c.requires
