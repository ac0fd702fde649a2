-- Where a pass has finished each row, nothing is left to mark.
--   settled           the parts of a pass, by rows and by columns, finish each row;  pass_settled: a whole pass
--   rows_settled      so: what the axiom of a marked name gives stands in that name's own row, and is handed on from there
use mathlib.Core.Path.{◌≡◌}
use mathlib.Core.Bool.{Bool, false}
use mathlib.Core.List.{List}
use Prim.Native.Nat.{ℕ, suc, ◌≤◌, ◌<◌}
use native.Mathlib.Omega.{arith}
use Rattle.release.specs.Tables.{Shaped}
use Rattle.release.specs.declared.table.Table.{Table}
use Rattle.marks.specs.declared.Square.{Square}
use Rattle.marks.specs.Squares.{Marked}
use Rattle.marks.specs.Passes.{Pass, Below}
use Rattle.marks.specs.Inclusions.{Taking, Takes}
use Rattle.classification.specs.Steps.{Step, Looked, Seeded, Row, Settled, AxiomSettled}
use Rattle.marks.proofs.Passes.{pass_next}
use Rattle.classification.proofs.Marking.{taking_pass}

-- what a pass finishes: what is marked in any row, what the axioms give in their columns, the rows above each row
pub settled : {s : List ℕ} {t : Table} {q : Square} {w : List ℕ} → Below (Seeded q) (suc q.names) w → Below (AxiomSettled s t q) q.names w → Below (Takes q q) (suc q.names) w
    → Below (Settled s t q) (suc q.names) w
settled seeded axioms above = record {
  at = λ x h. record {
    seeded = seeded.at x h;
    own = record { spread = λ l. record { parts = λ j m. (axioms.at x l).parts j; fillers = λ r m. record { at = λ y k. record { marked = λ f. ((axioms.at y k).filled.at x l).marked r f } } } };
    gathered = record { at = λ y k. record { marked = λ g. ((axioms.at y k).gathered.at x h).marked g } };
    above = record { at = λ c k. record { within = λ m. (above.at x h).each c (omega arith) m } };
  };
}

pub pass_settled : {s : List ℕ} {t : Table} {q : Square} {u w v o : List ℕ} {a b r : Bool} → Pass (Step s t q) q (Below (Seeded q) (suc q.names)) u w a → a ≡ false
    → Pass (Step s t q) q (Below (AxiomSettled s t q) q.names) w v b → b ≡ false → Pass (Taking q q) q (Below (Takes q q) (suc q.names)) v o r
    → Pass (Step s t q) q (Below (Settled s t q) (suc q.names)) u o r
pass_settled {s} {t} {q} f e g h k = pass_next {D = λ z. Below (Seeded q) (suc q.names) z × Below (AxiomSettled s t q) q.names z} (λ y z. settled y.0 y.1 z)
    (pass_next (λ y z. (y, z)) f e g) h (taking_pass k)

module _ {s : List ℕ} {t : Table} {q : Square} {w : List ℕ} (shaped : Shaped q.names s t) (rows : Below (Settled s t q) (suc q.names) w) where
  -- what row b has, row x has, where b is marked in it
  handed_on : {x b y : ℕ} → x ≤ q.names → b ≤ q.names → y ≤ q.names → Marked q w x b → Marked q w b y → Marked q w x y
  handed_on {x} {b} {y} h l k m n = (((rows.at x (omega arith)).above.at b (omega arith)).within m).marked y k n

  looked : {x b : ℕ} → x ≤ q.names → b < q.names → Looked s t q x b w
  looked {x} {b} h l =
      let row = rows.at b (omega arith) in
      let own = row.own.spread l in
      record {
        spread = record {
          parts = λ j m. record { at = λ i k. record { is = handed_on h (omega arith) (omega (arith, shaped.part b i l j k)) m ((own.parts j row.seeded.itself).at i k).is } };
          fillers = λ r m. record { at = λ y k. record { marked = λ f. handed_on h (omega arith) (omega arith) m (((own.fillers r row.seeded.itself).at y k).marked f) } };
        };
        gathered = ((rows.at x (omega arith)).gathered.at b l).marked;
      }

  pub rows_settled : Below (Row s t q) (suc q.names) w
  rows_settled = record { at = λ x h. record { seeded = (rows.at x h).seeded; looked = record { at = λ b l. looked (omega arith) l } } }
