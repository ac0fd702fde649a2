-- A step keeps what holds of rows and memory.
--   ready_after                              what is asked of the memory, after a write to the pairs
--   went_none, went_then                     no step, and one after the other
--   Grown, grown_none, grown_one             rows written for the pair x, y, one of which is its row
--   looked_none, looked_asked, looked_marked     a look that does nothing, asks for a pair, marks the pair
use mathlib.Core.Path.{◌≡◌, refl, sym, ◌∙◌}
use mathlib.Core.Bool.{true, false, false≢true}
use mathlib.Core.List.{List}
use Prim.Native.Nat.{ℕ, suc, ◌+◌, ◌*◌, ◌≤◌, ◌<◌}
use native.Mathlib.Omega.{arith}
use native.Mathlib.Numerals.{add-one}
use native.Mathlib.Decide.{ℕ_discrete}
use lib.ListN.{length, get_or}
use Rattle.el.specs.Signatures.{Signature}
use Rattle.concept_rows.specs.Rows.{Row, WellFormed}
use Rattle.row_evaluation.proofs.Worlds.{world_after}
use Rattle.row_evaluation.specs.RowForms.{RowPut}
use Rattle.layout.specs.declared.Given.{Given}
use Rattle.witness_below.specs.Cells.{pair_of, value_at, cell_at, CellPut}
use Rattle.witness_below.specs.Looking.{progress}
use Rattle.witness_below.specs.Tasks.{Ready, Over, RowFor, RightReport, Stuck, todo, State, Went, Looked}
use Rattle.witness_below.proofs.Numbering.{pair_small}
use Rattle.witness_below.proofs.Reports.{report_asked, report_marked, report_grown}
use Rattle.witness_below.proofs.Counted.{marked_opens, marked_fresh, asked_opens, asked_fresh, few_marked, few_asked}

pub ready_after : {given : Given} {w v : List ℕ} → length v ≡ length w → ((p : ℕ) → p < given.layout.marks → get_or v p 0 ≡ get_or w p 0) → Ready given w → Ready given v
ready_after long before ready = record {
  first_world = world_after ready.first_apart long before ready.first_world;
  second_world = world_after ready.second_apart long before ready.second_world;
  first_apart = ready.first_apart;
  second_apart = ready.second_apart;
  cells = record { inside = omega (arith, ready.cells.inside) };
}

pub went_none : {given : Given} {k : ℕ} {ys ps qs w : List ℕ} → State given k ys ps w → length qs ≡ length ps → Went given k ys ys ps qs w w k
went_none state noted = record {
  state = record { ready = state.ready; rows = state.rows; numbers = omega (arith, state.numbers); few = state.few };
  long = refl;
  rows_long = refl;
  numbers_long = noted;
  before = λ p h. refl;
  beyond = λ p h. refl;
  past = λ p h. refl;
  more = omega arith;
  asked = λ p h. h;
  keeps = λ sig over right. right;
}

pub went_then : {given : Given} {k j i : ℕ} {ys zs xs ps qs rs w v u : List ℕ} → Went given k ys zs ps qs w v j → Went given j zs xs qs rs v u i → Went given k ys xs ps rs w u i
went_then one two = record {
  state = two.state;
  long = two.long ∙ one.long;
  rows_long = two.rows_long ∙ one.rows_long;
  numbers_long = two.numbers_long ∙ one.numbers_long;
  before = λ p h. two.before p h ∙ one.before p h;
  beyond = λ p h. two.beyond p h ∙ one.beyond p h;
  past = λ p h. two.past p h ∙ one.past p (omega (arith, two.more));
  more = omega (arith, one.more, two.more);
  asked = λ p h. two.asked p (one.asked p h);
  keeps = λ sig over right. two.keeps sig over (one.keeps sig over right);
}

-- one pair's number put
module _ (given : Given) {p v : ℕ} {w u : List ℕ} (put : CellPut given.layout.marks p v w u) where
  pub put_before : (i : ℕ) → i < given.layout.marks → get_or u i 0 ≡ get_or w i 0
  put_before i h = put.before i (omega arith)

  pub put_beyond : p < suc given.layout.names * suc given.layout.names → (i : ℕ) → given.layout.marks + 3 * (suc given.layout.names * suc given.layout.names) ≤ i → get_or u i 0 ≡ get_or w i 0
  put_beyond inside i h = put.past i (omega arith)

  pub put_asked : 1 ≤ v → (q : ℕ) → 1 ≤ value_at w given.layout.marks q → 1 ≤ value_at u given.layout.marks q
  put_asked h q k = elim (ℕ_discrete q p) [
    | yes z ↦ rw z (omega (arith, put.here))
    | no z ↦ omega (arith, put.other q z)
  ]

-- rows written
pub record Grown (given : Given) (x y k : ℕ) (ys zs w : List ℕ) (j m : ℕ) : Type 0 where
  pub long : length zs ≡ length ys
  pub past : (p : ℕ) → 3 * j ≤ p → get_or zs p 0 ≡ get_or ys p 0
  pub more : k ≤ j
  pub few : j ≤ k + 15
  pub fewer : j ≤ k + suc given.layout.names
  pub rows : (sig : Signature) → Over sig given → RightReport sig given k ys w → RightReport sig given j zs w
  pub row : (sig : Signature) → Over sig given → RightReport sig given k ys w → RowFor given j zs x y m

pub grown_none : (given : Given) (x y k : ℕ) (ys w : List ℕ) (m : ℕ) → ((sig : Signature) → Over sig given → RightReport sig given k ys w → RowFor given k ys x y m) → Grown given x y k ys ys w k m
grown_none given x y k ys w m row = record { long = refl; past = λ p h. refl; more = omega arith; few = omega arith; fewer = omega arith; rows = λ sig over right. right; row = row }

pub grown_one : (given : Given) (x y k : ℕ) (ys zs w : List ℕ) (m : ℕ) {r : Row} → RowPut k r ys zs → ((sig : Signature) → Over sig given → RightReport sig given k ys w → WellFormed sig k r)
    → ((sig : Signature) → Over sig given → RightReport sig given k ys w → RightReport sig given (k + 1) zs w → RowFor given (k + 1) zs x y m) → Grown given x y k ys zs w (k + 1) m
grown_one given x y k ys zs w m put well row = record {
  long = put.long;
  past = λ p h. put.past p (omega arith);
  more = omega arith;
  few = omega arith;
  fewer = omega arith;
  rows = grows;
  row = λ sig over right. row sig over right (grows sig over right);
}
  where
    grows : (sig : Signature) → Over sig given → RightReport sig given k ys w → RightReport sig given (k + 1) zs w
    grows sig over right = rw add-one (report_grown right put (well sig over right))

-- looks
module _ {given : Given} {x y k : ℕ} {ys ps w : List ℕ} (state : State given k ys ps w) where
  pub looked_none : Stuck given w x y → {qs : List ℕ} → length qs ≡ length ps → Looked given x y k ys ys ps qs w w (progress k false)
  looked_none stuck noted = record { went = went_none state noted; fewer = λ e. absurd (false≢true e); same = λ e. refl; stuck = λ e. stuck }

  pub looked_asked : {p : ℕ} {v : List ℕ} → p < suc given.layout.names * suc given.layout.names → value_at w given.layout.marks p ≡ 0 → CellPut given.layout.marks p 1 w v
      → {qs : List ℕ} → length qs ≡ length ps → Looked given x y k ys ys ps qs w v (progress k true)
  unfolding todo
  looked_asked {p} {v} inside zero put noted =
      let open_pairs = asked_opens put given.layout.names (omega arith) in
      record {
        went = record {
          state = record { ready = ready_after put.long (put_before given put) state.ready; rows = state.rows; numbers = omega (arith, state.numbers); few = few_asked state.few open_pairs };
          long = put.long;
          rows_long = refl;
          numbers_long = noted;
          before = put_before given put;
          beyond = put_beyond given put inside;
          past = λ q h. refl;
          more = omega arith;
          asked = put_asked given put (omega arith);
          keeps = λ sig over right. report_asked right put;
        };
        fewer = λ e. omega (arith, open_pairs, asked_fresh put given.layout.names inside zero (λ z. omega arith));
        same = λ e. absurd (false≢true (sym e));
        stuck = λ e. absurd (false≢true (sym e));
      }

  pub looked_marked : {zs qs v : List ℕ} {j m : ℕ} → x ≤ given.layout.names → y ≤ given.layout.names → cell_at given.layout w x y ≡ 1 → Grown given x y k ys zs w j m → length qs ≡ length ps
      → CellPut given.layout.marks (pair_of given.layout.names x y) (m + 2) w v → Looked given x y k ys zs ps qs w v (progress j true)
  unfolding todo
  looked_marked {m = m} x_in y_in one grown long put =
      let inside = pair_small given.layout.names x y x_in y_in in
      let open_pairs = marked_opens put given.layout.names inside (omega arith) (omega arith) in
      record {
        went = record {
          state = record {
            ready = ready_after put.long (put_before given put) state.ready;
            rows = omega (arith, state.rows, grown.long);
            numbers = omega (arith, state.numbers);
            few = few_marked state.few open_pairs grown.few grown.fewer;
          };
          long = put.long;
          rows_long = grown.long;
          numbers_long = long;
          before = put_before given put;
          beyond = put_beyond given put inside;
          past = grown.past;
          more = grown.more;
          asked = put_asked given put (omega arith);
          keeps = λ sig over right. report_marked (grown.rows sig over right) x y m y_in (grown.row sig over right) put;
        };
        fewer = λ e. omega (arith, open_pairs, marked_fresh put given.layout.names (λ z. omega arith));
        same = λ e. absurd (false≢true (sym e));
        stuck = λ e. absurd (false≢true (sym e));
      }
