-- `put_header` meets its contract: its pieces are put one after the other.
use Rattle.output.proofs.Puts.{put_then}
use Rattle.rewriting.specs.Bytes.{header_of}
use Rattle.rewriting.proofs.file.put_header.Goals as goal

pub returns : goal.returns
unfolding header_of
returns c =
    put_then c.put_text-after_mark.ensures (put_then (rw c.width.ensures at c.put_number-after_version.ensures) (put_then c.put_number-after_names.ensures
    (put_then c.put_number-after_roles.ensures c.put_number.ensures)))
