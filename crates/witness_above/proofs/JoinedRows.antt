-- One row joined to the concepts of many nodes.
--   to_join                        what one step asks
--   others_none, others_turn       no node yet, and one more
--   first_join                     what the others ask, after the first
--   all_joined, asked_lost         the first and all others; or the pair asked for is lost, by the row alone
use mathlib.Core.Path.{◌≡◌, refl, sym, subst, ◌∙◌}
use mathlib.Core.Bool.{Bool, true}
use mathlib.Core.List.{List}
use Prim.Native.Nat.{ℕ, suc, ◌+◌, ◌*◌, ◌≤◌, ◌<◌}
use native.Mathlib.Omega.{arith}
use native.Mathlib.Numerals.{add-one}
use native.Mathlib.Decide.{ℕ_discrete}
use lib.ListN.{length, get_or}
use Rattle.el.specs.Axioms.{Terminology}
use Rattle.el.specs.Signatures.{Signature}
use Rattle.el.specs.Concepts.{Concept}
use Rattle.el.proofs.Tests.{Tells}
use Rattle.concept_rows.specs.Lent.{row_at, rows_needed}
use Rattle.concept_rows.specs.Rows.{concept_of_row}
use Rattle.concept_rows.specs.Written.{Agree}
use Rattle.concept_rows.proofs.Rows.{agree_same, same_concept}
use Rattle.concept_rows.proofs.Bounds.{left_rows_fit, square_small}
use Rattle.marks.specs.declared.Square.{Square}
use Rattle.marks.specs.Squares.{span, place, Room, Marked}
use Rattle.marks.proofs.Squares.{place_below}
use Rattle.release.specs.Entries.{node_number}
use Rattle.classification.specs.Inclusions.{node_at}
use Rattle.classification.proofs.Nodes.{number_at, at_node}
use Rattle.layout.specs.declared.Layout.{Layout}
use Rattle.layout.specs.Layouts.{first_square}
use Rattle.row_evaluation.specs.Cells.{cell, Holds, RowRoom}
use Rattle.row_evaluation.proofs.RowBytes.{room_same, cell_base, cell_first, cell_earlier}
use Rattle.witness_above.specs.Joining.{line, Met, Exceeds, Loses, ToJoin, Joined}
use Rattle.witness_above.specs.Left.{Line, held, State, LeftReport, LastAbove, Joins, ToJoinOthers, ToJoinAll, OthersJoined, JoinedAll}
use Rattle.witness_above.proofs.LeftSteps.{RowsMore, rows_more, other_row, left_step, step_fewer}

pub room_after : {q : Square} {w v : List ℕ} → length v ≡ length w → Room q w → Room q v
room_after e room = record { small = room.small; fits = omega (arith, room.fits) }

-- a square before the bytes
was_marked : (q : Square) {base : ℕ} (w v : List ℕ) → q.base + span q.names ≤ base → ((p : ℕ) → p < base → get_or v p 0 ≡ get_or w p 0) → {x a : ℕ} → x ≤ q.names → a ≤ q.names
    → Marked q v x a → Marked q w x a
was_marked q w v apart before {x} {a} h l m =
    let same : get_or v (place q x a) 0 ≡ get_or w (place q x a) 0 = before (place q x a) (omega (arith, place_below q x a h l)) in
    record { is = rw (← same) m.is }

-- the same lines and concepts, later
line_same : (u : Terminology) (n base : ℕ) (o w v : List ℕ) → ((p : ℕ) → cell base n (line n) 0 ≤ p → get_or v p 0 ≡ get_or w p 0) → {x : ℕ} {c : Concept} → Line u n base o w x c
    → Line u n base o v x c
line_same u n base o w v on lined = record { has = λ y y_in l d. record { is = on _ (cell_first base n (line n) _) ∙ (lined.has y y_in l d).is } }

pub joins_later : {sig : Signature} {t u : Terminology} {L : Layout} {a e k : ℕ} {ys zs ps o w v : List ℕ} → L.first + span L.names ≤ L.marks → a ≤ L.names → e < k
    → ((p : ℕ) → p < L.marks → get_or v p 0 ≡ get_or w p 0) → ((p : ℕ) → cell L.marks L.names (line L.names) 0 ≤ p → get_or v p 0 ≡ get_or w p 0) → Agree (row_at ys) (row_at zs) k
    → LeftReport sig t u L k ys ps o w → Joins sig t u L o w a e ys → Joins sig t u L o v a e zs
joins_later {u = u} {L = L} {e = e} {ys = ys} {zs = zs} {o = o} {w = w} {v = v} apart a_in earlier before on agree report joins =
    let is : concept_of_row (row_at ys) e ≡ concept_of_row (row_at zs) e = same_concept report.rows.formed agree e earlier in
    record {
      first = λ x x_in m. rw (← is) (joins.first x x_in (was_marked (first_square L) w v apart before x_in a_in m));
      second = λ x x_in m. rw (← is) (line_same u L.names L.marks o w v on (joins.second x x_in (was_marked (first_square L) w v apart before x_in a_in m)));
    }

-- one step
module _ {base n x e k : ℕ} {ys zs ps qs w v : List ℕ} {j : ℕ} (x_in : x ≤ n) (step : Joined base n x e k ys zs ps qs w v j) where
  pub wrote : RowsMore k ys zs j
  wrote = rows_more step.rows

  pub step_before : (p : ℕ) → p < base → get_or v p 0 ≡ get_or w p 0
  step_before p l = step.met.before p (omega (arith, cell_base base n x 0))

  pub step_line : (p : ℕ) → cell base n (line n) 0 ≤ p → get_or v p 0 ≡ get_or w p 0
  step_line p l = step.met.past p (omega (arith, cell_earlier base n (line n) x n (omega arith) (omega arith)))

-- after a step that took a node
pub step_state : {L : Layout} {x e k : ℕ} {ys zs ps qs w v : List ℕ} {j : ℕ} → x ≤ L.names → Joined L.marks L.names x e k ys zs ps qs w v j → Exceeds w L.marks L.names x
    → 3 * rows_needed L.names ≤ length ys → L.names ≤ 1023 → L.names < length ps → RowRoom L.marks L.names (line L.names) w
    → k + 3 * held w L.marks L.names ≤ 2 + 3 * (suc L.names * suc L.names) → State L j zs qs v
step_state x_in step exceeds rows few numbers bytes bound =
    let more = wrote x_in step in
    record {
      rows = omega (arith, more.long);
      few = few;
      numbers = omega (arith, step.numbers_long);
      bytes = room_same step.met.long bytes;
      bound = omega (arith, more.most, step_fewer x_in step.met exceeds);
    }

pub step_keeps : {sig : Signature} {t u : Terminology} {L : Layout} {x e k a : ℕ} {ys zs ps qs o w v : List ℕ} {j : ℕ} → x ≤ L.names → Joined L.marks L.names x e k ys zs ps qs w v j
    → e < k → Marked (first_square L) w x a → LeftReport sig t u L k ys ps o w → Joins sig t u L o w a e ys → LeftReport sig t u L j zs qs o v
step_keeps {x = x} x_in step earlier below report joins = left_step x_in report earlier (joins.first x x_in below) (joins.second x x_in below) step

pub to_join : {L : Layout} {k x e : ℕ} {ys ps w : List ℕ} → State L k ys ps w → x ≤ L.names → e < k → ToJoin L.marks L.names x e k ys ps w
to_join {L = L} {k = k} state h l =
    let fits = left_rows_fit L.names k (omega (arith, state.bound)) in
    record {
      rows = omega (arith, state.rows);
      few = omega (arith, state.bound, square_small L.names state.few);
      earlier = l;
      node = h;
      numbers = state.numbers;
      bytes = state.bytes;
    }

-- all nodes but the one asked for
module _ {L : Layout} {asked a e k : ℕ} {ys zs ps qs w v : List ℕ} {j : ℕ} (given : ToJoinOthers L asked a e k ys ps w)
    (all : OthersJoined L asked a e k ys zs ps qs w v j) where
  module _ {x : ℕ} (x_in : x ≤ L.names) where
    pub others_join : ToJoin L.marks L.names x e j zs qs v
    others_join = to_join all.state x_in (omega (arith, given.earlier, all.more))

    pub others_turn : {b : Bool} → (x ≡ asked → ⊥) → Tells b (Loses v L a x) → b ≡ true → {zs' qs' v' : List ℕ} {j' : ℕ} → Joined L.marks L.names x e j zs zs' qs qs' v v' j'
        → OthersJoined L asked a e k ys zs' ps qs' w v' j'
    others_turn other tells is {zs'} {qs'} {v'} {j'} step =
        let loses = tells.sound is in
        let more = wrote x_in step in
        record {
          state = step_state x_in step loses.exceeds all.state.rows all.state.few all.state.numbers all.state.bytes (omega (arith, all.state.bound));
          long = step.met.long ∙ all.long;
          rows_long = more.long ∙ all.rows_long;
          numbers_long = step.numbers_long ∙ all.numbers_long;
          before = λ p l. step_before x_in step p l ∙ all.before p l;
          line_on = λ p l. step_line x_in step p l ∙ all.line_on p l;
          more = omega (arith, all.more, more.more);
          agree = record { at = λ i l. all.agree.at i l ∙ more.agree.at i (omega (arith, all.more)) };
          past = λ p l. more.past p l ∙ all.past p (omega (arith, more.more));
          weigh = omega (arith, all.weigh, more.most, step_fewer x_in step.met loses.exceeds);
          still = other_row step.met asked asked given.places.asked_in (λ z. other (sym z)) all.still;
          keeps = λ o sig t u report joins.
              step_keeps x_in step (omega (arith, given.earlier, all.more)) loses.below (all.keeps o sig t u report joins)
              (joins_later given.places.apart given.places.name given.earlier all.before all.line_on all.agree report joins);
        }

-- the first node, and all others
module _ {L : Layout} {asked a x e : ℕ} {ys ps w : List ℕ} (given : ToJoinAll L asked a x e ys ps w) where
  pub first_join : ToJoin L.marks L.names x e (e + 1) ys ps w
  first_join =
      let fits = left_rows_fit L.names (3 * (suc L.names * suc L.names)) (omega arith) in
      record {
        rows = omega (arith, given.rows, given.bound);
        few = omega (arith, given.bound, square_small L.names given.few);
        earlier = omega arith;
        node = given.node;
        numbers = given.numbers;
        bytes = given.bytes;
      }

  module _ {zs qs v : List ℕ} {j : ℕ} (step : Joined L.marks L.names x e (e + 1) ys zs ps qs w v j) where
    first_wrote : RowsMore (e + 1) ys zs j
    first_wrote = wrote given.node step

    first_fewer : held v L.marks L.names < held w L.marks L.names
    first_fewer = step_fewer given.node step.met given.loses.exceeds

    first_agree : Agree (row_at ys) (row_at zs) (suc e)
    first_agree = record { at = λ i l. first_wrote.agree.at i (omega arith) }

    first_state : State L j zs qs v
    first_state = step_state given.node step given.loses.exceeds given.rows given.few given.numbers given.bytes (omega (arith, given.bound))

    -- unless row e loses the pair asked for
    stays_held : (asked ≡ x → Holds w L.marks L.names (line L.names) asked) → Holds v L.marks L.names asked asked
    stays_held lined = elim (ℕ_discrete asked x) [
      | yes z ↦ subst (λ (i : ℕ). Holds v L.marks L.names i asked) (sym z)
          (step.met.stays asked given.places.asked_in (subst (λ (i : ℕ). Holds w L.marks L.names i asked) z given.places.held) (lined z))
      | no z ↦ other_row step.met asked asked given.places.asked_in z given.places.held
    ]

    pub others_asked : (asked ≡ x → Holds w L.marks L.names (line L.names) asked) → ToJoinOthers L asked a e j zs qs v
    others_asked lined = record {
      places = record {
        asked_in = given.places.asked_in;
        held = stays_held lined;
        room = room_after step.met.long given.places.room;
        apart = given.places.apart;
        name = given.places.name;
      };
      state = first_state;
      earlier = omega (arith, first_wrote.more);
    }

    as_suc : {sig : Signature} {t u : Terminology} {o : List ℕ} → LeftReport sig t u L (suc e) ys ps o w → LeftReport sig t u L (e + 1) ys ps o w
    as_suc {sig} {t} {u} {o} report = (let z : suc e ≡ e + 1 = omega arith in rw z at report)

    pub all_joined : {zs' qs' v' : List ℕ} {j' : ℕ} → OthersJoined L asked a e j zs zs' qs qs' v v' j' → JoinedAll L asked a e ys zs' ps qs' w v' j'
    all_joined all = record {
      state = all.state;
      long = all.long ∙ step.met.long;
      rows_long = all.rows_long ∙ first_wrote.long;
      numbers_long = all.numbers_long ∙ step.numbers_long;
      before = λ p l. all.before p l ∙ step_before given.node step p l;
      line_on = λ p l. all.line_on p l ∙ step_line given.node step p l;
      more = omega (arith, all.more, first_wrote.more);
      agree = record { at = λ i l. first_agree.at i l ∙ all.agree.at i (omega (arith, first_wrote.more)) };
      past = λ p l. all.past p l ∙ first_wrote.past p (omega (arith, all.more));
      weigh = omega (arith, all.weigh, first_wrote.most, first_fewer);
      keeps = λ o sig t u opened report joins. record {
        at_start = opened;
        going = λ h. all.keeps o sig t u (step_keeps given.node step (omega arith) given.loses.below (as_suc report) joins)
            (joins_later given.places.apart given.places.name (omega arith) (step_before given.node step) (step_line given.node step) first_agree report joins);
        shown = λ lost. absurd (lost all.still);
      };
    }

  -- row e loses the pair asked for
  module _ {v : List ℕ} (is_asked : x ≡ asked) (lacks : Holds w L.marks L.names (line L.names) asked → ⊥) (met : Met L.marks L.names asked w v) where
    fewer_held : held v L.marks L.names < held w L.marks L.names
    fewer_held = step_fewer given.places.asked_in met (rw is_asked at given.loses.exceeds)

    last_above : {sig : Signature} {t u : Terminology} {o : List ℕ} → Holds o L.marks L.names asked asked → LeftReport sig t u L (suc e) ys ps o w → Joins sig t u L o w a e ys
        → LastAbove sig t u L.names asked (suc e) ys
    last_above opened report joins =
        let below : Marked (first_square L) w asked a = rw is_asked at given.loses.below in
        let number : node_number L.names (node_at L.names asked) ≡ asked = number_at L.names asked given.places.asked_in in
        record {
          formed = report.rows.formed;
          last = e;
          is_last = refl;
          first = joins.first asked given.places.asked_in below;
          second = λ d. lacks
              (rw number at ((joins.second asked given.places.asked_in below).has (node_at L.names asked) (at_node L.names asked given.places.asked_in) (rw number opened) d));
        }

    pub asked_lost : JoinedAll L asked a e ys ys ps ps w v (e + 1)
    asked_lost = record {
      state = record {
        rows = given.rows;
        few = given.few;
        numbers = given.numbers;
        bytes = room_same met.long given.bytes;
        bound = omega (arith, given.bound, fewer_held);
      };
      long = met.long;
      rows_long = refl;
      numbers_long = refl;
      before = λ p l. met.before p (omega (arith, cell_base L.marks L.names asked 0));
      line_on = λ p l. met.past p (omega (arith, cell_earlier L.marks L.names (line L.names) asked L.names (omega (arith, given.places.asked_in)) (omega arith)));
      more = omega arith;
      agree = agree_same;
      past = λ p l. refl;
      weigh = omega (arith, fewer_held);
      keeps = λ o sig t u opened report joins. record {
        at_start = opened;
        going = λ h. absurd (lacks (met.lined asked given.places.asked_in h));
        shown = λ lost. rw (add-one e) (last_above opened report joins);
      };
    }
