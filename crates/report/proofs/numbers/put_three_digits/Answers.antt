-- `put_three_digits` meets its contract: two zeros, one or none are put, and then the number.
use Rattle.std.proofs.Common.{◌≡◌, ℕ, List, [], ◌∷◌, ◌++◌, arith, sym, ap, ◌∙◌}
use Rattle.output.proofs.Puts.{put_as, put_then}
use Rattle.output.specs.Numbers.{decimal}
use Rattle.report.specs.Numbers.{three_digits}
use Rattle.report.proofs.ThreeDigits.{three_of_one, three_of_two, three_of_more}
use Rattle.report.proofs.numbers.put_three_digits.Goals.{in-0-to-9, in-10-to-99, in_default}
use Rattle.report.proofs.numbers.put_three_digits.Goals as goal

pub returns : goal.returns
returns c =
    let x = c.args.number in
    let e : c.if-number-lt10.zeros.now ++ decimal x ≡ three_digits x = elim c.if-number-lt10.branch [
      | in-0-to-9 w ↦ let z : c.if-number-lt10.zeros.now ≡ 48 ∷ 48 ∷ [] = cc in ap (λ (l : List ℕ). l ++ decimal x) z ∙ sym (three_of_one x (omega arith))
      | in-10-to-99 w ↦ let z : c.if-number-lt10.zeros.now ≡ 48 ∷ [] = cc in ap (λ (l : List ℕ). l ++ decimal x) z ∙ sym (three_of_two x (omega arith) (omega arith))
      | in_default w ↦ let z : c.if-number-lt10.zeros.now ≡ [] = cc in ap (λ (l : List ℕ). l ++ decimal x) z ∙ sym (three_of_more x (omega arith) (omega arith))
    ] in
    put_as e (put_then c.put_text-next.ensures c.put_decimal.ensures)
