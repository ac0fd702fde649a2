-- A turn for a name: the line is what lies below it by the second release.
--   RowsPut k ys xs e                     rows written behind k rows, the last of which is row e
--   turned_idle, idle_keeps, held_lined   a turn that takes nothing: all that is held is in the line
--   joining_asks, turned                  a turn that takes something
--   name_looks, name_idle, name_turned    these, for a name
use mathlib.Core.Path.{◌≡◌, refl, ap, ◌∙◌}
use mathlib.Core.Bool.{true}
use mathlib.Core.Logic.{inl, inr}
use mathlib.Core.List.{List}
use Prim.Native.Nat.{ℕ, suc, ◌+◌, ◌*◌, ◌≤◌, ◌<◌}
use native.Mathlib.Omega.{arith}
use lib.Dec.{eqb}
use lib.ListN.{length, get_or}
use Rattle.el.specs.Concepts.{name, Node, concept_of}
use Rattle.el.specs.Axioms.{Terminology}
use Rattle.el.specs.Derivability.{Derives}
use Rattle.el.specs.Signatures.{Signature}
use Rattle.el.specs.Terminologies.{IsNode}
use Rattle.concept_rows.specs.Rows.{Row, row, is_name, concept_of_row}
use Rattle.concept_rows.specs.Lent.{row_at}
use Rattle.concept_rows.specs.Written.{Agree}
use Rattle.concept_rows.proofs.Rows.{agree_same, name_row}
use Rattle.concept_rows.proofs.Counting.{passing_same}
use Rattle.concept_rows.proofs.Bounds.{left_rows_fit}
use Rattle.concept_rows.proofs.LeftRows.{left_grown, left_fewer}
use Rattle.release.specs.Files.{content_of}
use Rattle.release.specs.Entries.{node_number}
use Rattle.marks.specs.declared.Square.{Square}
use Rattle.marks.specs.Squares.{span, place, Room, Marked}
use Rattle.marks.proofs.Squares.{place_below}
use Rattle.classification.proofs.Nodes.{at_number, number_small}
use Rattle.layout.specs.declared.Layout.{Layout}
use Rattle.layout.specs.declared.Given.{Given}
use Rattle.layout.specs.Layouts.{first_square, second_square}
use Rattle.row_evaluation.specs.Cells.{cell, Holds, Adds}
use Rattle.witness_above.proofs.LeftSteps.{holds_decided, put_agrees}
use Rattle.witness_above.proofs.JoinedRows.{room_after}
use Rattle.row_evaluation.proofs.Worlds.{marked_below, below_marked}
use Rattle.row_evaluation.proofs.RowBytes.{room_same, cell_base, cell_first, cell_earlier}
use Rattle.row_evaluation.specs.RowForms.{most, RowPut}
use Rattle.witness_above.specs.Joining.{line, ToFindLosing, NoneLoses, NodeLoses}
use Rattle.witness_above.specs.Left.{held, State, LeftReport, LeftProgress, Joins, Places, LineCleared, ToJoinAll, JoinedAll, ToTurn, Turned, FirstWorld, SecondWorld, NameTurned}

-- the same bytes before the line: the same pairs held
pub held_same : (base n : ℕ) (w v : List ℕ) → ((p : ℕ) → p < cell base n (line n) 0 → get_or v p 0 ≡ get_or w p 0) → held v base n ≡ held w base n
unfolding held cell
held_same base n w v same = passing_same (λ p. eqb (get_or v (base + p) 0) 1) (λ p. eqb (get_or w (base + p) 0) 1) (suc n * suc n)
    (λ i l. ap (λ (b : ℕ). eqb b 1) (same (base + i) (omega arith)))

-- rows written
pub record RowsPut (k : ℕ) (ys xs : List ℕ) (e : ℕ) : Type 0 where
  pub more : k ≤ e
  pub most : e ≤ k + 1
  pub long : length xs ≡ length ys
  pub agree : Agree (row_at ys) (row_at xs) k
  pub past : (p : ℕ) → 3 * suc e ≤ p → get_or xs p 0 ≡ get_or ys p 0

pub one_row : {k : ℕ} {r : Row} {ys xs : List ℕ} → RowPut k r ys xs → RowsPut k ys xs k
one_row put = record { more = omega arith; most = omega arith; long = put.long; agree = put_agrees put; past = λ p h. put.past p (omega arith) }

-- any line, put behind the bytes of the nodes
module _ (L : Layout) {k : ℕ} {ys ps w u v : List ℕ} (state : State L k ys ps w) (cleared : LineCleared L.marks L.names w u) {P : ℕ → Type 0}
    (put : Adds L.marks L.names (line L.names) P u v) where
  pub before_line : (p : ℕ) → p < cell L.marks L.names (line L.names) 0 → get_or v p 0 ≡ get_or w p 0
  before_line p l = put.before p l ∙ cleared.before p l

  pub before_bytes : (p : ℕ) → p < L.marks → get_or v p 0 ≡ get_or w p 0
  before_bytes p l = before_line p (omega (arith, cell_base L.marks L.names (line L.names) 0))

  pub lined_state : State L k ys ps v
  lined_state = record {
    rows = state.rows;
    few = state.few;
    numbers = state.numbers;
    bytes = room_same (put.long ∙ cleared.long) state.bytes;
    bound = omega
        (arith, state.bound, held_same L.marks L.names w v before_line);
  }

  pub node_holds : {x y : ℕ} → x ≤ L.names → y ≤ L.names → Holds w L.marks L.names x y → Holds v L.marks L.names x y
  node_holds {x} {y} h l k = record { is = before_line (cell L.marks L.names x y) (cell_earlier L.marks L.names (line L.names) x y (omega arith) l) ∙ k.is }

  pub lined_report : {sig : Signature} {t s : Terminology} {o : List ℕ} → LeftReport sig t s L k ys ps o w → LeftReport sig t s L k ys ps o v
  lined_report report = record {
    rows = left_fewer report.rows
        (λ x y x_in y_in lost. (lost.0, λ h. lost.1 (node_holds (number_small L.names x x_in) (number_small L.names y y_in) h)));
  }

  pub in_line : {y : ℕ} → y ≤ L.names → Holds v L.marks L.names (line L.names) y → P y
  in_line {y} l h = elim (put.only y l h) [ inl o ↦ absurd (cleared.none y l o) | inr o ↦ o ]

  -- squares before the bytes
  module _ (q : Square) (apart : q.base + span q.names ≤ L.marks) {x y : ℕ} (x_in : x ≤ q.names) (y_in : y ≤ q.names) where
    place_before : place q x y < L.marks
    place_before = omega (arith, place_below q x y x_in y_in)

    pub square_back : Marked q v x y → Marked q w x y
    square_back m = record { is = rw (← before_bytes (place q x y) place_before) m.is }

    pub square_on : Marked q w x y → Marked q v x y
    square_on m = record { is = rw (before_bytes (place q x y) place_before) m.is }

    pub half_back : Marked q u x y → Marked q w x y
    half_back m = record { is = rw (← cleared.before (place q x y) (omega (arith, place_before, cell_base L.marks L.names (line L.names) 0))) m.is }

    pub half_on : Marked q w x y → Marked q u x y
    half_on m = record { is = rw (cleared.before (place q x y) (omega (arith, place_before, cell_base L.marks L.names (line L.names) 0))) m.is }

  -- what looking for nodes to join asks
  pub lined_places : {asked a : ℕ} → asked ≤ L.names → Holds w L.marks L.names asked asked → Room (first_square L) w → L.first + span L.names ≤ L.marks → a ≤ L.names
      → Places L asked a v
  lined_places asked_in still room apart a_in = record {
    asked_in = asked_in;
    held = node_holds asked_in asked_in still;
    room = room_after (put.long ∙ cleared.long) room;
    apart = apart;
    name = a_in;
  }

  pub lined_looks : {asked a : ℕ} → Places L asked a v → ToFindLosing L a v × (asked ≤ L.names) × (L.names ≤ 1023)
  lined_looks places = (record { room = places.room; bytes = lined_state.bytes; name = places.name }, places.asked_in, state.few)

  module _ {asked a : ℕ} (places : Places L asked a v) where
    -- nothing to take
    module _ (none : NoneLoses v L a) where
      pub turned_idle : Turned L asked k ys ys ps ps w v k
      turned_idle = record {
        state = lined_state;
        long = put.long ∙ cleared.long;
        rows_long = refl;
        numbers_long = refl;
        before = before_bytes;
        beyond = λ p l. put.past p l ∙ cleared.past p l;
        more = omega arith;
        agree = agree_same;
        past = λ p l. refl;
        weigh = omega (arith, held_same L.marks L.names w v before_line);
        same_bytes = λ _ p l. before_line p l;
      }

      pub idle_keeps : {sig : Signature} {t s : Terminology} {o : List ℕ} → Holds w L.marks L.names asked asked → LeftProgress sig t s L asked k ys ps o w
          → LeftProgress sig t s L asked k ys ps o v
      idle_keeps still progress = record { at_start = progress.at_start; going = λ h. lined_report (progress.going still); shown = λ lost. absurd (lost places.held) }

      pub held_lined : {z y : ℕ} → z ≤ L.names → y ≤ L.names → Marked (first_square L) w z a → Holds w L.marks L.names z y → P y
      held_lined {z} {y} h l m k = elim (holds_decided v L.marks L.names (line L.names) y) [
        | yes o ↦ in_line l o
        | no o ↦ absurd (none.none z h (record {
          below = square_on (first_square L) places.apart h places.name m;
          exceeds = record { it = y; inside = l; has = node_holds h l k; lacks = o };
        }))
      ]

    -- something to take, by rows that are written first
    module _ {x : ℕ} (some : NodeLoses v L a x) {xs : List ℕ} {e : ℕ} (rows : RowsPut k ys xs e) where
      pub joining_asks : ToJoinAll L asked a x e xs ps v
      joining_asks = record {
        places = places;
        rows = omega (arith, state.rows, rows.long);
        few = state.few;
        numbers = state.numbers;
        bytes = lined_state.bytes;
        bound = omega (arith, lined_state.bound, rows.most);
        node = some.is_node;
        loses = some.loses;
      }

      pub turned : {zs qs z : List ℕ} {j : ℕ} → JoinedAll L asked a e xs zs ps qs v z j → Turned L asked k ys zs ps qs w z j
      turned all = record {
        state = all.state;
        long = all.long ∙ put.long ∙ cleared.long;
        rows_long = all.rows_long ∙ rows.long;
        numbers_long = all.numbers_long;
        before = λ p l. all.before p l ∙ before_bytes p l;
        beyond = λ p l. all.line_on p (omega (arith, cell_first L.marks L.names (line L.names) L.names)) ∙ put.past p l ∙ cleared.past p l;
        more = omega (arith, all.more, rows.more);
        agree = record { at = λ i l. rows.agree.at i l ∙ all.agree.at i (omega (arith, rows.more)) };
        past = λ p l. all.past p l ∙ rows.past p (omega (arith, all.more));
        weigh = omega (arith, all.weigh, rows.most, held_same L.marks L.names w v before_line);
        same_bytes = λ z. absurd (omega (arith, all.more, rows.more));
      }

module _ {G : Given} {asked k a : ℕ} {ys ps w u v : List ℕ} (given : ToTurn G asked k a ys ps w)
    (cleared : LineCleared G.layout.marks G.layout.names w u) (lined : Adds G.layout.marks G.layout.names (line G.layout.names) (λ x. Marked (second_square G.layout) u x a) u v) where
  places : Places G.layout asked a v
  places = lined_places G.layout given.state cleared lined given.asked_in given.held given.laid.first_room given.laid.first_apart (omega (arith, given.name))

  pub name_looks : ToFindLosing G.layout a v × (asked ≤ G.layout.names) × (G.layout.names ≤ 1023)
  name_looks = lined_looks G.layout given.state cleared lined places

  node_below : {t : List ℕ} → SecondWorld t G w → (y : Node) → IsNode G.layout.names y → Derives (content_of t) (concept_of y) (name a)
      → Marked (second_square G.layout) w (node_number G.layout.names y) a
  node_below two y y_in d = below_marked two (node_number G.layout.names y) a (omega (arith, number_small G.layout.names y y_in))
      (omega (arith, given.name)) (rw (at_number G.layout.names y y_in) d)

  pub name_idle : NoneLoses v G.layout a → NameTurned G asked k a ys ys ps ps w v k
  name_idle none = record {
    turned = turned_idle G.layout given.state cleared lined places none;
    keeps = λ o sig s t one two chosen progress. idle_keeps G.layout given.state cleared lined places none given.held progress;
    quiet = λ e z y h l m k. half_back G.layout given.state cleared lined (second_square G.layout) given.laid.second_apart (omega arith)
        (omega (arith, given.name)) (held_lined G.layout given.state cleared lined places none h l m k);
  }

  module _ {x : ℕ} (some : NodeLoses v G.layout a x) {xs : List ℕ} (wrote : RowPut k (row 1 a 0) ys xs) where
    pub name_asks : ToJoinAll G.layout asked a x k xs ps v
    name_asks = joining_asks G.layout given.state cleared lined places some (one_row wrote)

    module _ {sig : Signature} {s t : List ℕ} (o : List ℕ) (one : FirstWorld s G w) (two : SecondWorld t G w) (chosen : sig.has_name a ≡ true)
        (report : LeftReport sig (content_of s) (content_of t) G.layout k ys ps o w) where
      name_report : LeftReport sig (content_of s) (content_of t) G.layout (suc k) xs ps o v
      name_report = record {
        rows = left_grown (lined_report G.layout given.state cleared lined report).rows (put_agrees wrote) (rw wrote.here (is_name refl chosen));
      }

      name_joins : Joins sig (content_of s) (content_of t) G.layout o v a k xs
      name_joins = let is : concept_of_row (row_at xs) k ≡ name a = name_row name_report.rows.formed wrote.here in record {
        first = λ z z_in m. rw is
            (marked_below one z a z_in given.name (square_back G.layout given.state cleared lined (first_square G.layout) given.laid.first_apart z_in (omega (arith, given.name)) m));
        second = λ z z_in m. rw is (record {
          has = λ y y_in l d. lined.new (node_number G.layout.names y) (number_small G.layout.names y y_in)
              (half_on G.layout given.state cleared lined (second_square G.layout) given.laid.second_apart (omega (arith, number_small G.layout.names y y_in))
              (omega (arith, given.name)) (node_below two y y_in d));
        });
      }

    pub name_turned : {zs qs z : List ℕ} {j : ℕ} → JoinedAll G.layout asked a k xs zs ps qs v z j → NameTurned G asked k a ys zs ps qs w z j
    name_turned all = record {
      turned = turned G.layout given.state cleared lined places some (one_row wrote) all;
      keeps = λ o sig s t one two chosen progress.
          let report = progress.going given.held in
          all.keeps o sig (content_of s) (content_of t) progress.at_start (name_report o one two chosen report) (name_joins o one two chosen report);
      quiet = λ e. absurd (omega (arith, all.more));
    }

-- room for a row
pub name_row_asks : {G : Given} {asked k a : ℕ} {ys ps w : List ℕ} → ToTurn G asked k a ys ps w
    → (3 * k + 3 ≤ length ys) × (a ≤ most)
name_row_asks {G = G} {k = k} given =
    let fits = left_rows_fit G.layout.names k (omega (arith, given.state.bound)) in
    (omega (arith, given.state.rows), omega (arith, given.name, given.state.few))
