-- A step keeps what the rows of a left report are: the row that is joined lies above its node by the first release and not, by the second, above
-- the nodes that are taken.
--   RowsMore, rows_more             what is written, and what is as before
--   left_step                       LeftReport before a step, LeftReport behind it
--   step_fewer                      a step that takes a node leaves fewer
use mathlib.Core.Path.{◌≡◌, refl, sym, ap, ◌∙◌}
use mathlib.Core.Logic.{◌⊎◌, inl, inr}
use mathlib.Core.List.{List}
use Prim.Native.Nat.{ℕ, suc, ◌+◌, ◌-◌, ◌*◌, ◌≤◌, ◌<◌}
use native.Mathlib.Omega.{arith}
use native.Mathlib.Decide.{ℕ_discrete, dec_lt}
use lib.ListN.{length, get_or}
use Rattle.el.specs.Concepts.{Concept, Node, concept_of}
use Rattle.el.specs.Axioms.{Terminology}
use Rattle.el.specs.Derivability.{Derives}
use Rattle.el.specs.Signatures.{Signature}
use Rattle.el.specs.Terminologies.{IsNode}
use Rattle.concept_rows.specs.Rows.{Row, concept_of_row}
use Rattle.concept_rows.specs.Lent.{row_at}
use Rattle.concept_rows.specs.Written.{Agree}
use Rattle.concept_rows.proofs.Rows.{agree_same}
use Rattle.concept_rows.proofs.LeftRows.{left_taken, left_joined, Moved}
use Rattle.release.specs.Entries.{node_number}
use Rattle.classification.specs.Inclusions.{node_at}
use Rattle.classification.proofs.Nodes.{number_at, at_number, at_node, number_small}
use Rattle.layout.specs.declared.Layout.{Layout}
use Rattle.row_evaluation.specs.Cells.{cell, Holds}
use lib.Dec.{eqb}
use borrow.Author.Tests.{eqb-true, eq-eqb, ne_eqb}
use native.Mathlib.Nat.{suc-mul, mul-le-mul_right}
use Rattle.concept_rows.proofs.Counting.{one_fewer}
use Rattle.row_evaluation.proofs.RowBytes.{cell_earlier, cell_first}
use Rattle.row_evaluation.specs.RowForms.{RowPut}
use Rattle.witness_above.specs.Joining.{Met, Exceeds, RowsJoined, row_taken, rows_joined, Joined}
use Rattle.witness_above.specs.Left.{row_of, Lost, Line, LeftReport, held}

pub holds_decided : (w : List ℕ) (base n x y : ℕ) → Dec (Holds w base n x y)
holds_decided w base n x y = elim (ℕ_discrete (get_or w (cell base n x y) 0) 1) [ yes e ↦ yes (record { is = e }) | no e ↦ no (λ k. e k.is) ]

module _ {base n x : ℕ} {w v : List ℕ} (met : Met base n x w v) where
  pub other_row : (a b : ℕ) → b ≤ n → (a ≡ x → ⊥) → Holds w base n a b → Holds v base n a b
  other_row a b l d k = elim (dec_lt a x) [
    | yes h ↦ record { is = met.before (cell base n a b) (cell_earlier base n x a b h l) ∙ k.is }
    | no h ↦ record { is = met.past (cell base n a b) (omega (arith, cell_earlier base n a x n (omega arith) (omega arith), cell_first base n a b)) ∙ k.is }
  ]

-- one row put behind k rows
pub put_agrees : {k : ℕ} {r : Row} {ys zs : List ℕ} → RowPut k r ys zs → Agree (row_at ys) (row_at zs) k
put_agrees put = record { at = λ i h. sym (put.other i (λ e. omega arith)) }

-- what is written
pub record RowsMore (k : ℕ) (ys zs : List ℕ) (j : ℕ) : Type 0 where
  pub more : k ≤ j
  pub most : j ≤ k + 1
  pub long : length zs ≡ length ys
  pub agree : Agree (row_at ys) (row_at zs) k
  pub past : (p : ℕ) → 3 * j ≤ p → get_or zs p 0 ≡ get_or ys p 0

pub rows_more : {x e k m : ℕ} {ys zs ps : List ℕ} {j : ℕ} → RowsJoined x e k ys zs ps m j → RowsMore k ys zs j
rows_more (row_taken was same here is) = rw same (record { more = omega arith; most = omega arith; long = refl; agree = agree_same; past = λ p h. refl })
rows_more (rows_joined was put here is) = record {
  more = omega arith;
  most = omega arith;
  long = put.long;
  agree = put_agrees put;
  past = λ p h. put.past p (omega arith);
}

module _ (n x : ℕ) (x_in : x ≤ n) where
  number : node_number n (node_at n x) ≡ x
  number = number_at n x x_in

  same_node : (z : Node) → IsNode n z → node_number n z ≡ x → z ≡ node_at n x
  same_node z z_in e = sym (at_number n z z_in) ∙ ap (node_at n) e

  moves : (ps qs : List ℕ) (m : ℕ) → get_or qs x 0 ≡ m → ((z : ℕ) → (z ≡ x → ⊥) → get_or qs z 0 ≡ get_or ps z 0) → Moved n (node_at n x) m (row_of n ps) (row_of n qs)
  moves ps qs m here there z z_in = elim (ℕ_discrete (node_number n z) x) [
    | yes e ↦ inl (same_node z z_in e, rw e here)
    | no e ↦ inr (λ i. e (ap (node_number n) i ∙ number), there (node_number n z) e)
  ]

  takes : {u : Terminology} {base : ℕ} {o w v : List ℕ} {c : Concept} → Met base n x w v → Line u n base o w x c → (a b : Node) → IsNode n a → IsNode n b → Lost n base o v a b
      → Lost n base o w a b ⊎ ((a ≡ node_at n x) × (Derives u (concept_of b) c → ⊥))
  takes {base = base} {w = w} met lined a b a_in b_in lost = elim (ℕ_discrete (node_number n a) x) [
    | no e ↦ inl (lost.0, λ h. lost.1 (other_row met (node_number n a) (node_number n b) (number_small n b b_in) e h))
    | yes e ↦ elim (holds_decided w base n x (node_number n b)) [
      | no h ↦ inl (lost.0, rw e h)
      | yes h ↦ inr (same_node a a_in e, λ d. lost.1 (rw e (met.stays (node_number n b) (number_small n b b_in) h (lined.has b b_in (rw e at lost.0) d))))
    ]
  ]

module _ {sig : Signature} {t u : Terminology} {L : Layout} {x e k : ℕ} {ys ps o w : List ℕ} (x_in : x ≤ L.names) (report : LeftReport sig t u L k ys ps o w) (earlier : e < k)
    (above : Derives t (concept_of (node_at L.names x)) (concept_of_row (row_at ys) e)) (lined : Line u L.names L.marks o w x (concept_of_row (row_at ys) e)) where
  number_of : (m : ℕ) → get_or ps x 0 ≡ m → row_of L.names ps (node_at L.names x) ≡ m
  number_of m is = rw (number L.names x x_in) is

  pub left_step : {zs qs v : List ℕ} {j : ℕ} → Joined L.marks L.names x e k ys zs ps qs w v j → LeftReport sig t u L j zs qs o v
  left_step {zs} {qs} {v} {j} step = by_rows step.rows
    where
      by_rows : RowsJoined x e k ys zs ps (get_or qs x 0) j → LeftReport sig t u L j zs qs o v
      by_rows (row_taken was same here is) = rw (is, same) (record {
        rows = left_taken report.rows (at_node L.names x x_in) earlier above (takes L.names x x_in step.met lined) (number_of 0 was) (moves L.names x x_in ps qs (suc e) here step.others);
      })
      by_rows (rows_joined {i = i} was put here is) = rw is (record {
        rows = left_joined report.rows (at_node L.names x x_in) earlier above (takes L.names x x_in step.met lined) (number_of (suc i) was) (put_agrees put) put.here
            (moves L.names x x_in ps qs (suc k) here step.others);
      })

-- a step that takes a node leaves fewer
module _ {base n x : ℕ} {w v : List ℕ} (x_in : x ≤ n) (met : Met base n x w v) where
  by_cell : (p : ℕ) → get_or v (base + p) 0 ≡ 1 → get_or w (base + p) 0 ≡ 1
  unfolding cell
  by_cell p h = elim (dec_lt (base + p) (base + (x * suc n + 0))) [
    | yes l ↦ sym (met.before (base + p) l) ∙ h
    | no l ↦ elim (dec_lt (base + (x * suc n + n)) (base + p)) [
      | yes m ↦ sym (met.past (base + p) m) ∙ h
      | no m ↦ in_row p (p - x * suc n) (omega arith) (omega arith) h
    ]
  ]
    where
      in_row : (p y : ℕ) → p ≡ x * suc n + y → y ≤ n → get_or v (base + p) 0 ≡ 1 → get_or w (base + p) 0 ≡ 1
      in_row p y e l k = rw e (met.had y l (record { is = rw e at k })).is

  step_cell : (y : ℕ) → y ≤ n → x * suc n + y < suc n * suc n
  step_cell y l = omega (arith, mul-le-mul_right {m = suc x} {n = suc n} (suc n) (omega arith), suc-mul x (suc n))

  pub step_fewer : Exceeds w base n x → held v base n < held w base n
  unfolding held cell
  step_fewer e = one_fewer (λ p. eqb (get_or w (base + p) 0) 1) (λ p. eqb (get_or v (base + p) 0) 1) (suc n * suc n)
      (λ i l h. eq-eqb _ 1 (by_cell i (eqb-true _ 1 h)))
      {i = x * suc n + e.it} (step_cell e.it e.inside)
      (eq-eqb _ 1 e.has.is)
      (ne_eqb _ 1 (λ h. e.lacks (met.lined e.it e.inside (record { is = h }))))
