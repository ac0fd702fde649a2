-- `put_cell` meets its contract: its pieces are put one after the other.
use Rattle.std.proofs.Common.{ℕ, ap, ◌∙◌}
use Rattle.output.proofs.Puts.{put_as, put_then}
use Rattle.report.specs.Pages.{cell_text}
use Rattle.report.proofs.PageWriting.{cell_pieces}
use Rattle.report.proofs.page.put_cell.Goals as goal

pub returns : goal.returns
returns c =
    put_as (cell_pieces c.args.name.0 c.letter.result ∙ ap (λ (l : ℕ). cell_text (record { name = c.args.name.0; sign = l })) c.letter.ensures)
    (put_then c.put_aligned-number.ensures (put_then c.put_byte-space.ensures (put_then c.put_byte-letter.ensures c.put_spaces.ensures)))
