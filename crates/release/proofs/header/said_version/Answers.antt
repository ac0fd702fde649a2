-- A file that is too short or has no mark says no version.
use Rattle.release.proofs.Headers.{marked, says_none, says_it, unmarked_none}
use Rattle.release.proofs.header.said_version.Goals as goal

pub returns-then-file-header_length : goal.returns-then-file-header_length
returns-then-file-header_length c = says_none _ (rw c.header_length.ensures at c.if-file-header_length.true)

pub returns-then-starts_with : goal.returns-then-starts_with
returns-then-starts_with c = says_it _ (rw c.header_length.ensures at c.if-file-header_length.false)
    (marked c.args.file.now c.starts_with.ensures.value c.if-starts_with.true) c.number.ensures

pub returns : goal.returns
returns c = unmarked_none _ (rw c.header_length.ensures at c.if-file-header_length.false) (marked c.args.file.now c.starts_with.ensures.value c.if-starts_with.false)
