-- Only a step that is not refused is written; its session is read back from the bytes.
use Rattle.session_bytes.proofs.Layouts.{store_accepted}
use Rattle.session_bytes.proofs.store.Goals as goal

pub returns-in-Ok : goal.returns-in-Ok
returns-in-Ok c = store_accepted _ _ c.requires c.in-Ok.is c.write_session.ensures
