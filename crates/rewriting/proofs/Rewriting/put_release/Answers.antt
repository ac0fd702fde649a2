-- `put_release` meets its contract: the header, and then the axioms.
use Rattle.output.proofs.Puts.{put_as, put_then}
use Rattle.rewriting.proofs.Answers.{release_pieces}
use Rattle.rewriting.proofs.Rewriting.put_release.Goals as goal

pub returns : goal.returns
returns c = put_as (release_pieces _ _ c.args.self.now.counts) (put_then c.put_header-after_header.ensures c.put_axioms.ensures)
