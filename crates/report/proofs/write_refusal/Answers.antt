-- `write_refusal` meets its contract: the line is put whole or not at all.
use Rattle.std.proofs.Common.{◌≡◌, rules, sym, ◌∙◌}
use Rattle.report.specs.Texts.{refusal_line}
use Rattle.report.proofs.write_refusal.Goals as goal

pub returns : goal.returns
unfolding refusal_line
returns g c =
    let told = g.R.Refusal.numbers c.args.refusal in
    let number : told.number ≡ c.from-number.result = sym (c.from-number.ensures ∙ c.number.ensures) in
    let side : told.side ≡ c.from-side.result = sym (c.from-side.ensures ∙ c.side.ensures) in
    rw (number, side) (c.write_whole.ensures _ (λ o q next e. search rules))
