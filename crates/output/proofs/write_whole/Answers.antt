-- `write_whole` meets its contract: what is measured into no bytes is the text's length.
use Rattle.std.proofs.Common.{◌≡◌, length, arith, refl}
use Rattle.output.proofs.Puts.{put_length}
use Rattle.output.proofs.Written.{fits, lacks, unchanged, put_written}
use Rattle.output.proofs.write_whole.Goals as goal

pub returns-then-output-length : goal.returns-then-output-length
returns-then-output-length g c = λ text puts.
    let measured = puts _ _ _ c.put-length.ensures in
    unchanged _ (lacks _ _ _ (omega arith)) refl

pub returns : goal.returns
returns g c = λ text puts.
    let measured = puts _ _ _ c.put-length.ensures in
    let put = puts _ _ _ c.put.ensures in
    let exact : c.put-length.result ≡ length text = omega (arith, measured.after, put.short, put_length put) in
    put_written c.put-length.result exact (omega arith) put (fits _ _ _ (omega arith)) refl
