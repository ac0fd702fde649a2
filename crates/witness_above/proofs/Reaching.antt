-- Laws of noting the pairs that the pair asked for leads to, and of settling them until none is new.
--   noted_new, noted_old, settled_is, tells_new         one byte
--   noting_then                                         more bytes
--   row_more, row_skip                                  the pairs of one edge
--   noting_grown, edge_again, edge_new                  the edges that were followed
--   expanded_more, expanded_skip                        all that a pair leads to
--   swept_idle, swept_true, swept_false, row_new, ..    pairs, one after the other
--   Spread, reached                                     until none is new, and what is held then
use mathlib.Core.Path.{◌≡◌, refl, sym, ap, ◌∙◌}
use mathlib.Core.Bool.{Bool, true, false, false≢true, not}
use mathlib.Core.Logic.{◌⊎◌, inl, inr}
use mathlib.Core.List.{List}
use Prim.Native.Nat.{ℕ, suc, ◌+◌, ◌-◌, ◌*◌, ◌≤◌, ◌<◌}
use native.Mathlib.Omega.{arith}
use native.Mathlib.Decide.{ℕ_discrete, dec_lt}
use native.Mathlib.Nat.{suc-mul, add-mul, mul-le-mul_right}
use borrow.Author.Tests.{eqb-true, eq-eqb, ne_eqb}
use lib.Dec.{eqb}
use lib.ListN.{length, get_or, set, length-set}
use lib.Seq.{get_or-set_same, get_or-set_other}
use Rattle.el.proofs.Tests.{Tells, which, not_both, never, tells_as, tells_not, tells_eq}
use Rattle.concept_rows.proofs.Counting.{passing_most, fewer, one_fewer}
use Rattle.release.specs.declared.table.Table.{Table}
use Rattle.release.specs.declared.roles.RoleSet.{RoleSet}
use Rattle.release.specs.Roles.{NoRole}
use Rattle.release.specs.Files.{restricts}
use Rattle.release.specs.Tables.{kind_at, filler_at}
use Rattle.marks.specs.declared.Square.{Square}
use Rattle.marks.specs.Squares.{span, place, Marked}
use Rattle.marks.proofs.Squares.{place_below, refuted}
use Rattle.layout.specs.declared.Given.{Given}
use Rattle.layout.specs.Layouts.{first_square, second_square}
use Rattle.layout.specs.Tables.{edges_at, Edges}
use Rattle.row_evaluation.specs.Cells.{cell, Holds, RowRoom}
use Rattle.row_evaluation.proofs.RowBytes.{place_is, place_inside, room_same, room_earlier, rows_below, cell_base, cell_first, cell_next, cell_earlier}
use Rattle.witness_above.specs.Joining.{line}
use Rattle.witness_above.specs.Left.{held, Laid}
use Rattle.witness_above.specs.Reach.{Noted, New, Noting, NotedPair, Settled, Serving, LeadsBy, LeadsTo, RowNoted, EdgeOf, Leading, ToReach, Expanded, Closing, Swept, Settling, Blank, Reached}
use Rattle.witness_above.specs.Reach.{edge_row, last_row, ByEdge, Followed, BytesCleared, EdgesCleared, Grown, EdgeFollowed}
use Rattle.witness_above.proofs.LeftSteps.{holds_decided}

-- one byte
module _ (base n x y : ℕ) {w : List ℕ} (room : RowRoom base n (line n) w) (x_in : x ≤ n) (y_in : y ≤ n) where
  before_line : cell base n x y < cell base n (line n) 0
  before_line = cell_earlier base n (line n) x y (omega arith) y_in

  pub pair_inside : base + (x * (n + 1) + y) < length w
  pair_inside = omega (arith, place_is base n x y, before_line, room.inside, cell_first base n (line n) n)

  module _ (at : ℕ) (is : at ≡ base + (x * (n + 1) + y)) where
    at_cell : at ≡ cell base n x y
    at_cell = is ∙ place_is base n x y

    pub not_noted : get_or w at 0 ≡ 0 → Tells (not (eqb (get_or w at 0) 0)) (New w base n x y)
    not_noted h = rw h (never (λ new. new.noted.not_zero (rw (← at_cell) h)))

    pub tells_new : (get_or w at 0 ≡ 0 → ⊥) → Tells (not (eqb (get_or w at 0) 1)) (New w base n x y)
    tells_new h = tells_as (λ k. record { noted = record { not_zero = rw (← at_cell) h }; not_one = λ one. k (rw at_cell one.is) }) (λ new e. new.not_one (record { is = rw (← at_cell) e }))
        (tells_not (tells_eq (get_or w at 0) 1))

    pub noted_old : (get_or w at 0 ≡ 0 → ⊥) → NotedPair base n x y w w
    noted_old h = record { noting = record { long = refl; before = λ p l. refl; past = λ p l. refl; byte = λ p. inl refl }; noted = record { not_zero = rw (← at_cell) h } }

    set_here : (b : ℕ) → get_or (set w at b) (cell base n x y) 0 ≡ b
    set_here b = rw (← at_cell) (get_or-set_same w at b 0 (omega (arith, pair_inside)))

    set_other : (b p : ℕ) → (p ≡ cell base n x y → ⊥) → get_or (set w at b) p 0 ≡ get_or w p 0
    set_other b p d = get_or-set_other w at p b 0 (λ e. d (e ∙ at_cell))

    pub noted_new : get_or w at 0 ≡ 0 → NotedPair base n x y w (set w at 2)
    noted_new h = record {
      noting = record {
        long = simp length-set;
        before = λ p l. set_other 2 p (λ e. omega (arith, cell_base base n x y));
        past = λ p l. set_other 2 p (λ e. omega (arith, before_line));
        byte = λ p. elim (ℕ_discrete p (cell base n x y)) [ yes e ↦ inr (rw (e, ← at_cell) h, rw e (set_here 2)) | no e ↦ inl (set_other 2 p e) ];
      };
      noted = record { not_zero = λ z. omega (arith, set_here 2) };
    }

pub settled_is : {base n x y : ℕ} {w : List ℕ} → RowRoom base n x w → y ≤ n → (at : ℕ) → at ≡ base + (x * (n + 1) + y) → Settled base n x y w (set w at 1)
settled_is {base} {n} {x} {y} {w} room y_in at is =
    let at_cell : at ≡ cell base n x y = is ∙ place_is base n x y in
    record {
      long = simp length-set;
      here = record { is = rw (← at_cell) (get_or-set_same w at 1 0 (omega (arith, is, place_inside room y_in))) };
      other = λ p d. get_or-set_other w at p 1 0 (λ e. d (e ∙ at_cell));
    }

-- more bytes
module _ {base n : ℕ} where
  pub noting_then : {w v u : List ℕ} → Noting base n w v → Noting base n v u → Noting base n w u
  noting_then one two = record {
    long = two.long ∙ one.long;
    before = λ p l. two.before p l ∙ one.before p l;
    past = λ p l. two.past p l ∙ one.past p l;
    byte = λ p. elim (two.byte p) [
      | inl e ↦ elim (one.byte p) [ inl f ↦ inl (e ∙ f) | inr f ↦ inr (f.0, e ∙ f.1) ]
      | inr e ↦ elim (one.byte p) [ inl f ↦ inr (sym f ∙ e.0, e.1) | inr f ↦ absurd (omega (arith, e.0, f.1)) ]
    ];
  }

  module _ {w v : List ℕ} (noting : Noting base n w v) where
    pub noted_on : (x y : ℕ) → Noted w base n x y → Noted v base n x y
    noted_on x y k = record { not_zero = λ z. elim (noting.byte (cell base n x y)) [ inl e ↦ k.not_zero (sym e ∙ z) | inr e ↦ omega (arith, e.1) ] }

    pub ones_back : (x y : ℕ) → Holds v base n x y → Holds w base n x y
    ones_back x y k = elim (noting.byte (cell base n x y)) [ inl e ↦ record { is = sym e ∙ k.is } | inr e ↦ absurd (omega (arith, e.1, k.is)) ]

-- squares before the bytes
module _ {base : ℕ} {w v : List ℕ} (before : (p : ℕ) → p < base → get_or v p 0 ≡ get_or w p 0) (q : Square) (apart : q.base + span q.names ≤ base) where
  pub marked_back : {x y : ℕ} → x ≤ q.names → y ≤ q.names → Marked q v x y → Marked q w x y
  marked_back {x} {y} h l m = record { is = rw (← before (place q x y) (omega (arith, place_below q x y h l))) m.is }

  pub marked_on : {x y : ℕ} → x ≤ q.names → y ≤ q.names → Marked q w x y → Marked q v x y
  marked_on {x} {y} h l m = record { is = rw (before (place q x y) (omega (arith, place_below q x y h l))) m.is }

pub laid_after : {G : Given} {w v : List ℕ} → length v ≡ length w → Laid G w → Laid G v
laid_after e laid = record {
  first_room = record { small = laid.first_room.small; fits = omega (arith, laid.first_room.fits) };
  second_room = record { small = laid.second_room.small; fits = omega (arith, laid.second_room.fits) };
  first_apart = laid.first_apart;
  second_apart = laid.second_apart;
}

pub reach_after : {G : Given} {w v : List ℕ} → length v ≡ length w → ToReach G w → ToReach G v
reach_after e given = record { laid = laid_after e given.laid; bytes = room_same e given.bytes; edges = room_same e given.edges }

-- the pairs of one edge
module _ {G : Given} {set x y : ℕ} {w : List ℕ} where
  module _ (given : ToReach G w) (y_in : y ≤ G.layout.names) {d : ℕ} {v : List ℕ} (d_in : d < G.layout.names) (so_far : RowNoted G set x y d w v) {z : Bool}
      (tells : Tells z (LeadsBy G v set y d)) where
    pub row_skip : z ≡ false → RowNoted G set x y (d + 1) w v
    row_skip e = record {
      noting = so_far.noting;
      each = λ c h leads. elim (ℕ_discrete c d) [
        | yes i ↦ absurd (refuted tells e
            (let there : LeadsBy G v set y c = record {
              is_restriction = leads.is_restriction;
              role = leads.role;
              above = marked_on so_far.noting.before (second_square G.layout) given.laid.second_apart
                  y_in (omega arith) leads.above;
            } in rw i at there))
        | no i ↦ so_far.each c (omega arith) leads
      ];
    }

    pub row_more : z ≡ true → {node : ℕ} → node ≡ filler_at G.second.table.now d → {u : List ℕ} → NotedPair G.layout.marks G.layout.names x node v u → RowNoted G set x y (d + 1) w u
    row_more e is pair = record {
      noting = noting_then so_far.noting pair.noting;
      each = λ c h leads. elim (ℕ_discrete c d) [
        | yes i ↦ rw (i, ← is) pair.noted
        | no i ↦ noted_on pair.noting x (filler_at G.second.table.now c) (so_far.each c (omega arith) leads)
      ];
    }

-- the memory before and behind a step has the same edges
module _ {G : Given} {w : List ℕ} (given : ToReach G w) {v : List ℕ}
    (before : (p : ℕ) → p < G.layout.marks → get_or v p 0 ≡ get_or w p 0) {x y : ℕ} (x_in : x ≤ G.layout.names) (y_in : y ≤ G.layout.names) where
  pub edge_on : {c : ℕ} → c < G.layout.names → EdgeOf G w x c → EdgeOf G v x c
  edge_on h e = record { edge = e.edge; above = marked_on before (first_square G.layout) given.laid.first_apart x_in (omega arith) e.above }

  pub edge_back : {c : ℕ} → c < G.layout.names → EdgeOf G v x c → EdgeOf G w x c
  edge_back h e = record { edge = e.edge; above = marked_back before (first_square G.layout) given.laid.first_apart x_in (omega arith) e.above }

  pub leads_on : {c d : ℕ} → d < G.layout.names → LeadsTo G w c y d → LeadsTo G v c y d
  leads_on h e = record { is_restriction = e.is_restriction; small = e.small; role = e.role; above = marked_on before (second_square G.layout) given.laid.second_apart y_in (omega arith) e.above }

  pub leads_back : {c d : ℕ} → d < G.layout.names → LeadsTo G v c y d → LeadsTo G w c y d
  leads_back h e = record { is_restriction = e.is_restriction; small = e.small; role = e.role; above = marked_back before (second_square G.layout) given.laid.second_apart y_in (omega arith) e.above }

  pub leading_back : {c d : ℕ} → c < G.layout.names → Leading G v x y c d → Leading G w x y c d
  leading_back h l = record { from = edge_back h l.from; is_name = l.is_name; to = leads_back l.is_name l.to }

-- two pairs have two bytes
cell_other : (base n x y a b : ℕ) → y ≤ n → b ≤ n → (((a ≡ x) × (b ≡ y)) → ⊥) → cell base n a b ≡ cell base n x y → ⊥
unfolding cell
cell_other base n x y a b y_in b_in d e = elim (ℕ_discrete a x) [
  | yes i ↦ d (i, omega (arith, ap (λ (z : ℕ). z * suc n) i))
  | no i ↦ elim (dec_lt a x) [
    | yes h ↦ omega (arith, mul-le-mul_right {m = suc a} {n = x} (suc n) h, suc-mul a (suc n))
    | no h ↦ omega (arith, mul-le-mul_right {m = suc x} {n = a} (suc n) (omega arith), suc-mul x (suc n))
  ]
]

-- where the bytes of edges are
module _ (base n : ℕ) where
  edge_from : (c y : ℕ) → cell base n (edge_row n 0) 0 ≤ cell base n (edge_row n c) y
  edge_from c y = omega (arith, rows_below base n (edge_row n 0) (edge_row n c) (omega arith), cell_first base n (edge_row n c) y)

  edge_before : (c y : ℕ) → c < n → y ≤ n → cell base n (edge_row n c) y < cell base n (edge_row n n) 0
  edge_before c y c_in y_in = cell_earlier base n (edge_row n n) (edge_row n c) y (omega arith) y_in

  line_first : cell base n (line n) 0 ≤ cell base n (edge_row n 0) 0
  line_first = rows_below base n (line n) (edge_row n 0) (omega arith)

  pair_before : (x y : ℕ) → x ≤ n → y ≤ n → cell base n x y < cell base n (line n) 0
  pair_before x y x_in y_in = cell_earlier base n (line n) x y (omega arith) y_in

  pub edge_room : {c : ℕ} {w : List ℕ} → c < n → RowRoom base n (last_row n) w → RowRoom base n (edge_row n c) w
  edge_room {c} c_in room = elim (ℕ_discrete (edge_row n c) (last_row n)) [ yes e ↦ rw e room | no e ↦ room_earlier (omega arith) room ]

-- what is said to be followed is, at a later time
module _ {G : Given} {w : List ℕ} (given : ToReach G w) {v : List ℕ} (before : (p : ℕ) → p < G.layout.marks → get_or v p 0 ≡ get_or w p 0)
    (noted : (x y : ℕ) → x ≤ G.layout.names → y ≤ G.layout.names → Noted w G.layout.marks G.layout.names x y → Noted v G.layout.marks G.layout.names x y) where
  edge_later : {c y : ℕ} → c < G.layout.names → y ≤ G.layout.names → ByEdge G w c y → ByEdge G v c y
  edge_later {c} c_in y_in by_edge = record {
    is_restriction = by_edge.is_restriction;
    each = λ d d_in leads. noted (filler_at G.first.table.now c) (filler_at G.second.table.now d) (G.first_rowed.filler c c_in by_edge.is_restriction)
        (G.second_rowed.filler d d_in leads.is_restriction) (by_edge.each d d_in (leads_back given before y_in y_in d_in leads));
  }

  -- where no byte of an edge changes
  followed_later : ((p : ℕ) → cell G.layout.marks G.layout.names (edge_row G.layout.names 0) 0 ≤ p → get_or v p 0 ≡ get_or w p 0) → Followed G w → Followed G v
  followed_later same followed = record {
    each = λ c y c_in y_in one.
        edge_later c_in y_in (followed.each c y c_in y_in (record {
          is = sym (same (cell G.layout.marks G.layout.names (edge_row G.layout.names c) y) (edge_from G.layout.marks G.layout.names c y)) ∙ one.is;
        }));
  }

pub noting_grown : {G : Given} {w v : List ℕ} → ToReach G w → Noting G.layout.marks G.layout.names w v → Grown G w v
noting_grown {G} given noting = record {
  long = noting.long;
  before = noting.before;
  past = λ p l. noting.past p (omega (arith, edge_from G.layout.marks G.layout.names G.layout.names 0, line_first G.layout.marks G.layout.names));
  byte = λ p l. noting.byte p;
  followed = followed_later given noting.before (λ x y x_in y_in k. noted_on noting x y k)
      (λ p l. noting.past p (omega (arith, line_first G.layout.marks G.layout.names)));
}

-- more pairs noted, more edges followed
module _ {G : Given} where
  grown_then : {w v u : List ℕ} → Grown G w v → Grown G v u → Grown G w u
  grown_then one two = record {
    long = two.long ∙ one.long;
    before = λ p l. two.before p l ∙ one.before p l;
    past = λ p l. two.past p l ∙ one.past p l;
    byte = λ p l. elim (two.byte p l) [
      | inl e ↦ elim (one.byte p l) [ inl f ↦ inl (e ∙ f) | inr f ↦ inr (f.0, e ∙ f.1) ]
      | inr e ↦ elim (one.byte p l) [ inl f ↦ inr (sym f ∙ e.0, e.1) | inr f ↦ absurd (omega (arith, e.0, f.1)) ]
    ];
    followed = λ k. two.followed (one.followed k);
  }

  grown_none : (w : List ℕ) → Grown G w w
  grown_none w = record { long = refl; before = λ p l. refl; past = λ p l. refl; byte = λ p l. inl refl; followed = λ k. k }

  module _ {w v : List ℕ} (grown : Grown G w v) where
    grown_noted : (x y : ℕ) → x ≤ G.layout.names → y ≤ G.layout.names → Noted w G.layout.marks G.layout.names x y → Noted v G.layout.marks G.layout.names x y
    grown_noted x y x_in y_in k = record {
      not_zero = λ z. elim (grown.byte (cell G.layout.marks G.layout.names x y) (pair_before G.layout.marks G.layout.names x y x_in y_in)) [
        | inl e ↦ k.not_zero (sym e ∙ z)
        | inr e ↦ omega (arith, e.1)
      ];
    }

    grown_back : (x y : ℕ) → x ≤ G.layout.names → y ≤ G.layout.names → Holds v G.layout.marks G.layout.names x y → Holds w G.layout.marks G.layout.names x y
    grown_back x y x_in y_in k = elim (grown.byte (cell G.layout.marks G.layout.names x y) (pair_before G.layout.marks G.layout.names x y x_in y_in)) [
      | inl e ↦ record { is = sym e ∙ k.is }
      | inr e ↦ absurd (omega (arith, e.1, k.is))
    ]

    grown_held : held w G.layout.marks G.layout.names ≤ held v G.layout.marks G.layout.names
    unfolding held cell
    grown_held = fewer (λ p. eqb (get_or v (G.layout.marks + p) 0) 1) (λ p. eqb (get_or w (G.layout.marks + p) 0) 1) (suc G.layout.names * suc G.layout.names)
        (λ i l h. elim (grown.byte (G.layout.marks + i) (omega (arith, l))) [ inl e ↦ rw e h | inr e ↦ absurd (omega (arith, e.0, eqb-true (get_or w (G.layout.marks + i) 0) 1 h)) ])

-- an edge followed from a node
pub edge_again : {G : Given} {c y : ℕ} {w : List ℕ} → Followed G w → c < G.layout.names → y ≤ G.layout.names
    → Holds w G.layout.marks G.layout.names (edge_row G.layout.names c) y → EdgeFollowed G c y w w
edge_again {w = w} followed c_in y_in one = record { grown = grown_none w; by_edge = followed.each _ _ c_in y_in one }

module _ {G : Given} {c y : ℕ} {w v u : List ℕ} (given : ToReach G w) (c_in : c < G.layout.names) (y_in : y ≤ G.layout.names)
    (kind : restricts (kind_at G.first.table.now c) ≡ true) {set node : ℕ} (serving : Serving G c set) (node_is : node ≡ filler_at G.first.table.now c)
    (row : RowNoted G set node y G.layout.names w v) (settled : Settled G.layout.marks G.layout.names (edge_row G.layout.names c) y v u) where
  abbrev here : ℕ
  here = cell G.layout.marks G.layout.names (edge_row G.layout.names c) y

  here_from : cell G.layout.marks G.layout.names (line G.layout.names) 0 ≤ here
  here_from = omega (arith, line_first G.layout.marks G.layout.names, edge_from G.layout.marks G.layout.names c y)

  noted_settled : (i j : ℕ) → i ≤ G.layout.names → j ≤ G.layout.names → Noted v G.layout.marks G.layout.names i j → Noted u G.layout.marks G.layout.names i j
  noted_settled i j i_in j_in k = record {
    not_zero = λ z. k.not_zero (sym (settled.other (cell G.layout.marks G.layout.names i j)
        (λ e. omega (arith, here_from, pair_before G.layout.marks G.layout.names i j i_in j_in))) ∙ z);
  }

  edge_before_same : (p : ℕ) → p < G.layout.marks → get_or u p 0 ≡ get_or v p 0
  edge_before_same p l = settled.other p (λ e. omega (arith, cell_base G.layout.marks G.layout.names (edge_row G.layout.names c) y))

  edge_all_same : (p : ℕ) → p < G.layout.marks → get_or u p 0 ≡ get_or w p 0
  edge_all_same p l = edge_before_same p l ∙ row.noting.before p l

  given_v : ToReach G v
  given_v = reach_after row.noting.long given

  by_edge : ByEdge G u c y
  by_edge = record {
    is_restriction = kind;
    each = λ d d_in leads.
        let back = leads_back given edge_all_same y_in y_in d_in leads in
        let before : LeadsBy G w set y d = record { is_restriction = leads.is_restriction; role = (serving.tells _ leads.small).1 leads.role; above = back.above } in
        noted_settled (filler_at G.first.table.now c) (filler_at G.second.table.now d) (G.first_rowed.filler c c_in kind) (G.second_rowed.filler d d_in leads.is_restriction)
        (rw (← node_is) (row.each d d_in before));
  }

  others : Followed G v → Followed G u
  others followed = record {
    each = λ i j i_in j_in one. elim (ℕ_discrete (cell G.layout.marks G.layout.names (edge_row G.layout.names i) j) here) [
      | yes e ↦ same_edge i j i_in j_in (ℕ_discrete (edge_row G.layout.names i) (edge_row G.layout.names c)) (ℕ_discrete j y) e
      | no e ↦ edge_later given_v edge_before_same noted_settled i_in j_in
          (followed.each i j i_in j_in (record { is = sym (settled.other (cell G.layout.marks G.layout.names (edge_row G.layout.names i) j) e) ∙ one.is }))
    ];
  }
    where
      same_edge : (i j : ℕ) → i < G.layout.names → j ≤ G.layout.names → Dec (edge_row G.layout.names i ≡ edge_row G.layout.names c) → Dec (j ≡ y)
          → cell G.layout.marks G.layout.names (edge_row G.layout.names i) j ≡ here → ByEdge G u i j
      same_edge i j i_in j_in (yes e) (yes f) is = let g : i ≡ c = omega arith in rw (g, f) by_edge
      same_edge i j i_in j_in (no e) f is = absurd (cell_other G.layout.marks G.layout.names (edge_row G.layout.names c) y (edge_row G.layout.names i) j y_in j_in (λ k. e k.0) is)
      same_edge i j i_in j_in (yes e) (no f) is = absurd (cell_other G.layout.marks G.layout.names (edge_row G.layout.names c) y (edge_row G.layout.names i) j y_in j_in (λ k. f k.1) is)

  pub edge_new : EdgeFollowed G c y w u
  edge_new = record {
    grown = record {
      long = settled.long ∙ row.noting.long;
      before = edge_all_same;
      past = λ p l. settled.other p (λ e. omega (arith, edge_before G.layout.marks G.layout.names c y c_in y_in))
          ∙ row.noting.past p (omega (arith, here_from, edge_before G.layout.marks G.layout.names c y c_in y_in));
      byte = λ p l. rw (settled.other p (λ e. omega (arith, here_from))) (row.noting.byte p);
      followed = λ followed. others ((noting_grown given row.noting).followed followed);
    };
    by_edge = by_edge;
  }

-- a name that has an edge is a restriction
pub edge_restricts : {n : ℕ} {a : Table} {edges : List RoleSet} {x : ℕ} → Edges n a edges → x < n → (NoRole (edges_at edges x) → ⊥) → restricts (kind_at a x) ≡ true
edge_restricts {a = a} {x = x} edges h some =
    elim (which (restricts (kind_at a x))) [ inl e ↦ e | inr e ↦ absurd (some (record { none = λ r i. not_both (edges.restriction x r h i) e })) ]

edge_filler : {G : Given} {w : List ℕ} {x c : ℕ} → EdgeOf G w x c → c < G.layout.names → filler_at G.first.table.now c ≤ G.layout.names
edge_filler {G} {c = c} edge c_in = G.first_rowed.filler c c_in (edge_restricts G.edges_found c_in edge.edge)

-- all that a pair leads to
module _ {G : Given} {x y : ℕ} {w : List ℕ} where
  module _ (given : ToReach G w) (x_in : x ≤ G.layout.names) (y_in : y ≤ G.layout.names) {c : ℕ} {v : List ℕ} (c_in : c < G.layout.names)
      (so_far : Expanded G x y c w v) {z : Bool} (tells : Tells z (EdgeOf G v x c)) where
    pub expanded_skip : z ≡ false → Expanded G x y (c + 1) w v
    expanded_skip e = record {
      grown = so_far.grown;
      each = λ i d h leading. elim (ℕ_discrete i c) [
        | yes j ↦ absurd (refuted tells e (let there : EdgeOf G v x i = edge_on given so_far.grown.before x_in y_in (omega arith) leading.from in rw j at there))
        | no j ↦ so_far.each i d (omega arith) leading
      ];
    }

    pub expanded_more : {u : List ℕ} → EdgeFollowed G c y v u → Expanded G x y (c + 1) w u
    expanded_more step =
        let all = grown_then so_far.grown step.grown in
        record {
          grown = all;
          each = λ i d h leading. elim (ℕ_discrete i c) [
            | yes j ↦ rw j (step.by_edge.each d leading.is_name (rw (← j) (leads_on given all.before x_in y_in leading.is_name leading.to)))
            | no j ↦ grown_noted step.grown (filler_at G.first.table.now i) (filler_at G.second.table.now d) (edge_filler leading.from (omega arith))
                (G.second_rowed.filler d leading.is_name leading.to.is_restriction) (so_far.each i d (omega arith) leading)
          ];
        }

pair_small : (n x y : ℕ) → x ≤ n → y ≤ n → x * suc n + y < suc n * suc n
pair_small n x y h l = omega (arith, mul-le-mul_right {m = suc x} {n = suc n} (suc n) (omega arith), suc-mul x (suc n))

-- a pair settled
module _ {G : Given} {x y : ℕ} {w v : List ℕ} (given : ToReach G w) (x_in : x ≤ G.layout.names) (y_in : y ≤ G.layout.names)
    (settled : Settled G.layout.marks G.layout.names x y w v) where
  settled_before : (p : ℕ) → p < G.layout.marks → get_or v p 0 ≡ get_or w p 0
  settled_before p l = settled.other p (λ e. omega (arith, cell_base G.layout.marks G.layout.names x y))

  settled_noted : (c d : ℕ) → Noted w G.layout.marks G.layout.names c d → Noted v G.layout.marks G.layout.names c d
  settled_noted c d k = record {
    not_zero = λ z. elim (ℕ_discrete (cell G.layout.marks G.layout.names c d) (cell G.layout.marks G.layout.names x y)) [
      | yes e ↦ let one : get_or v (cell G.layout.marks G.layout.names c d) 0 ≡ 1 = rw e settled.here.is in omega arith
      | no e ↦ k.not_zero (sym (settled.other (cell G.layout.marks G.layout.names c d) e) ∙ z)
    ];
  }

  pub settled_followed : Followed G w → Followed G v
  settled_followed = followed_later given settled_before (λ c d c_in d_in k. settled_noted c d k)
      (λ p l. settled.other p (λ e. omega (arith, pair_before G.layout.marks G.layout.names x y x_in y_in, line_first G.layout.marks G.layout.names)))

-- a new pair settled and expanded
module _ {G : Given} {x y : ℕ} {w v u : List ℕ} (given : ToReach G w)
    (x_in : x ≤ G.layout.names) (y_in : y ≤ G.layout.names)
    (new : New w G.layout.marks G.layout.names x y) (settled : Settled G.layout.marks G.layout.names x y w v) (expanded : Expanded G x y G.layout.names v u) where
  all_before : (p : ℕ) → p < G.layout.marks → get_or u p 0 ≡ get_or w p 0
  all_before p l = expanded.grown.before p l ∙ settled_before given x_in y_in settled p l

  noted_all : (c d : ℕ) → c ≤ G.layout.names → d ≤ G.layout.names → Noted w G.layout.marks G.layout.names c d → Noted u G.layout.marks G.layout.names c d
  noted_all c d c_in d_in k = grown_noted expanded.grown c d c_in d_in (settled_noted given x_in y_in settled c d k)

  more_held : held w G.layout.marks G.layout.names < held v G.layout.marks G.layout.names
  unfolding held cell
  more_held = one_fewer (λ p. eqb (get_or v (G.layout.marks + p) 0) 1) (λ p. eqb (get_or w (G.layout.marks + p) 0) 1) (suc G.layout.names * suc G.layout.names)
      (λ i l h. elim (ℕ_discrete (G.layout.marks + i) (G.layout.marks + (x * suc G.layout.names + y))) [
        | yes e ↦ rw e (eq-eqb _ 1 settled.here.is)
        | no e ↦ rw (settled.other (G.layout.marks + i) e) h
      ])
      {i = x * suc G.layout.names + y} (pair_small G.layout.names x y x_in y_in)
      (eq-eqb _ 1 settled.here.is)
      (ne_eqb _ 1 (λ h. new.not_one (record { is = h })))

  pub pair_swept : (D : ℕ → ℕ → Type 0) → Swept G D w u true
  pair_swept D = record {
    long = expanded.grown.long ∙ settled.long;
    before = all_before;
    past = λ p l. expanded.grown.past p l ∙ settled.other p (λ e. omega (
      arith,
      pair_before G.layout.marks G.layout.names x y x_in y_in,
      line_first G.layout.marks G.layout.names,
      edge_from G.layout.marks G.layout.names G.layout.names 0,
    ));
    noted = noted_all;
    followed = λ k. expanded.grown.followed (settled_followed given x_in y_in settled k);
    closing = λ closing. record {
      each = λ c d i j c_in d_in i_in one leading. by_pair closing c d i j c_in d_in i_in one leading (ℕ_discrete c x) (ℕ_discrete d y);
    };
    least = omega (arith, more_held, grown_held expanded.grown);
    more = λ _. omega (arith, more_held, grown_held expanded.grown);
    same = λ e. absurd (false≢true (sym e));
    none = λ e. absurd (false≢true (sym e));
  }
    where
      other_pair : Closing G w → (c d i j : ℕ) → c ≤ G.layout.names → d ≤ G.layout.names → i < G.layout.names → Holds u G.layout.marks G.layout.names c d
          → Leading G u c d i j → (((c ≡ x) × (d ≡ y)) → ⊥) → Noted u G.layout.marks G.layout.names (filler_at G.first.table.now i) (filler_at G.second.table.now j)
      other_pair closing c d i j c_in d_in i_in one leading different =
          let in_v = grown_back expanded.grown c d c_in d_in one in
          let in_w : Holds w G.layout.marks G.layout.names c d = record {
            is = sym (settled.other (cell G.layout.marks G.layout.names c d) (cell_other G.layout.marks G.layout.names x y c d y_in d_in different))
                ∙ in_v.is;
          } in
          noted_all (filler_at G.first.table.now i) (filler_at G.second.table.now j) (edge_filler leading.from i_in)
          (G.second_rowed.filler j leading.is_name leading.to.is_restriction) (closing.each c d i j c_in d_in i_in in_w (leading_back given all_before c_in d_in i_in leading))

      by_pair : Closing G w → (c d i j : ℕ) → c ≤ G.layout.names → d ≤ G.layout.names → i < G.layout.names → Holds u G.layout.marks G.layout.names c d
          → Leading G u c d i j → Dec (c ≡ x) → Dec (d ≡ y) → Noted u G.layout.marks G.layout.names (filler_at G.first.table.now i) (filler_at G.second.table.now j)
      by_pair closing c d i j c_in d_in i_in one leading (yes e) (yes f) =
          let there : Leading G v c d i j = leading_back (reach_after settled.long given) expanded.grown.before c_in d_in i_in leading in
          expanded.each i j i_in (rw (← e, ← f) there)
      by_pair closing c d i j c_in d_in i_in one leading (no e) f = other_pair closing c d i j c_in d_in i_in one leading (λ z. e z.0)
      by_pair closing c d i j c_in d_in i_in one leading (yes e) (no f) = other_pair closing c d i j c_in d_in i_in one leading (λ z. f z.1)

-- pairs one after the other
module _ {G : Given} where
  pub swept_idle : {D : ℕ → ℕ → Type 0} {w : List ℕ} → ((x y : ℕ) → x ≤ G.layout.names → y ≤ G.layout.names → D x y → New w G.layout.marks G.layout.names x y → ⊥)
      → Swept G D w w false
  swept_idle none = record {
    long = refl;
    before = λ p l. refl;
    past = λ p l. refl;
    noted = λ x y x_in y_in k. k;
    followed = λ k. k;
    closing = λ k. k;
    least = omega arith;
    more = λ e. absurd (false≢true e);
    same = λ _. refl;
    none = λ _. none;
  }

  module _ {D E F : ℕ → ℕ → Type 0} {w v u : List ℕ} {r : Bool} (one : Swept G D w v r) where
    pub swept_true : Swept G E v u true → Swept G F w u true
    swept_true two = record {
      long = two.long ∙ one.long;
      before = λ p l. two.before p l ∙ one.before p l;
      past = λ p l. two.past p l ∙ one.past p l;
      noted = λ x y x_in y_in k. two.noted x y x_in y_in (one.noted x y x_in y_in k);
      followed = λ k. two.followed (one.followed k);
      closing = λ k. two.closing (one.closing k);
      least = omega (arith, one.least, two.least);
      more = λ _. omega (arith, one.least, two.more refl);
      same = λ e. absurd (false≢true (sym e));
      none = λ e. absurd (false≢true (sym e));
    }

    pub swept_false : Swept G E v u false → ((x y : ℕ) → x ≤ G.layout.names → y ≤ G.layout.names → F x y → D x y ⊎ E x y) → Swept G F w u r
    swept_false two split = record {
      long = two.long ∙ one.long;
      before = λ p l. two.before p l ∙ one.before p l;
      past = λ p l. two.past p l ∙ one.past p l;
      noted = λ x y x_in y_in k. two.noted x y x_in y_in (one.noted x y x_in y_in k);
      followed = λ k. two.followed (one.followed k);
      closing = λ k. two.closing (one.closing k);
      least = omega (arith, one.least, two.least);
      more = λ e. omega (arith, one.more e, two.least);
      same = λ e. two.same refl ∙ one.same e;
      none = λ e x y h l f new. elim (split x y h l f) [
        | inl k ↦ one.none e x y h l k new
        | inr k ↦ two.none refl x y h l k (rw (← one.same e) at new)
      ];
    }

  pub swept_as : {D E : ℕ → ℕ → Type 0} {w v : List ℕ} {r : Bool} → ((x y : ℕ) → x ≤ G.layout.names → y ≤ G.layout.names → E x y → D x y) → Swept G D w v r
      → Swept G E w v r
  swept_as less one = record {
    long = one.long;
    before = one.before;
    past = one.past;
    noted = one.noted;
    followed = one.followed;
    closing = one.closing;
    least = one.least;
    more = one.more;
    same = one.same;
    none = λ e x y h l k. one.none e x y h l (less x y h l k);
  }

  -- the pairs of x before y
  pub row_old : {x y : ℕ} {w v : List ℕ} {r : Bool} → Swept G (λ c d. (c ≡ x) × (d < y)) w v r → {z : Bool} → Tells z (New v G.layout.marks G.layout.names x y) → z ≡ false
      → Swept G (λ c d. (c ≡ x) × (d < y + 1)) w v r
  row_old {x} {y} {w} {v} one tells e =
      swept_false one (swept_idle {D = λ c d. (c ≡ x) × (d ≡ y)} (λ c d h l k new. refuted tells e (rw (k.0, k.1) at new)))
      (λ c d h l k. elim (ℕ_discrete d y) [ yes i ↦ inr (k.0, i) | no i ↦ inl (k.0, omega (arith, k.1)) ])

  pub row_new : {x y : ℕ} {w v u t : List ℕ} {r : Bool} → ToReach G w → x ≤ G.layout.names → y ≤ G.layout.names → Swept G
      (λ c d. (c ≡ x) × (d < y)) w v r → {z : Bool} → Tells z (New v G.layout.marks G.layout.names x y) → z ≡ true → Settled G.layout.marks G.layout.names x y v u → Expanded G x y
      G.layout.names u t → Swept G (λ c d. (c ≡ x) × (d < y + 1)) w t true
  row_new {x} {y} given x_in y_in one tells e settled expanded = swept_true one
      (pair_swept (reach_after one.long given) x_in y_in (tells.sound e) settled expanded (λ c d. (c ≡ x) × (d ≡ y)))

  -- what expanding the next pair asks
  pub row_followed : {x y : ℕ} {w v u : List ℕ} {r : Bool} → ToReach G w → x ≤ G.layout.names → y ≤ G.layout.names → Swept G (λ c d. (c ≡ x) × (d < y)) w v r
      → Settled G.layout.marks G.layout.names x y v u → Followed G w → Followed G u
  row_followed given x_in y_in one settled followed = settled_followed (reach_after one.long given) x_in y_in settled (one.followed followed)

  pub row_done : {x e : ℕ} {w v : List ℕ} {r : Bool} → G.layout.names < e → Swept G (λ c d. (c ≡ x) × (d < e)) w v r → Swept G
      (λ c d. c ≡ x) w v r
  row_done h one = swept_as (λ c d i l k. (k, omega arith)) one
  -- the rows before x

-- until none is new
pub held_most : (w : List ℕ) (base n : ℕ) → held w base n ≤ suc n * suc n
unfolding held
held_most w base n = passing_most (λ p. eqb (get_or w (base + p) 0) 1) (suc n * suc n)

pub sweep_less : {G : Given} {D : ℕ → ℕ → Type 0} {w v : List ℕ} {r : Bool}
    → Swept G D w v r → r ≡ true → suc
    G.layout.names * suc G.layout.names - held v G.layout.marks G.layout.names < suc G.layout.names * suc G.layout.names - held w G.layout.marks G.layout.names
sweep_less {G = G} {v = v} swept e = omega (arith, swept.more e, held_most v G.layout.marks G.layout.names)

pub record Spread (G : Given) (w v : List ℕ) : Type 0 where
  pub long : length v ≡ length w
  pub before : (p : ℕ) → p < G.layout.marks → get_or v p 0 ≡ get_or w p 0
  pub past : (p : ℕ) → cell G.layout.marks G.layout.names (edge_row G.layout.names G.layout.names) 0 ≤ p → get_or v p 0 ≡ get_or w p 0
  pub noted : (x y : ℕ) → x ≤ G.layout.names → y ≤ G.layout.names → Noted w G.layout.marks G.layout.names x y → Noted v G.layout.marks G.layout.names x y
  pub followed : Followed G w → Followed G v
  pub closing : Closing G w → Closing G v

-- what is held then
pub edges_end : (base n : ℕ) → base + (n + 2) * (n + 1) + n * (n + 1) ≡ cell base n (edge_row n n) 0
unfolding cell
edges_end base n = omega (arith, add-mul (n + 2) n (n + 1))

pub edges_start : (base n : ℕ) → base + (n + 2) * (n + 1) ≡ cell base n (edge_row n 0) 0
unfolding cell
edges_start base n = omega arith

pub edges_inside : {base n : ℕ} {w : List ℕ} → RowRoom base n (last_row n) w → cell base n (edge_row n n) 0 ≤ length w
edges_inside {base} {n} room =
    let next : edge_row n n ≡ suc (last_row n) = omega arith in
    omega (arith, ap (λ (i : ℕ). cell base n i 0) next, cell_next base n (last_row n), room.inside)

pub edges_cleared : {base n from end : ℕ} {w v : List ℕ} → from ≡ base + (n + 2) * (n + 1) → end ≡ from + n * (n + 1) → BytesCleared from end w v → EdgesCleared base n w v
edges_cleared {base} {n} from_is end_is cleared =
    let start = edges_start base n in
    let last = edges_end base n in
    record {
      long = cleared.long;
      before = λ p l. cleared.before p (omega (arith, from_is, start));
      past = λ p l. cleared.past p (omega (arith, from_is, end_is, last));
      none = λ c y c_in y_in one. omega (
        arith,
        one.is,
        cleared.zero (cell base n (edge_row n c) y) (omega (arith, from_is, start, edge_from base n c y)) (omega (arith, from_is, end_is, last, edge_before base n c y c_in y_in)),
      );
    }

none_followed : {G : Given} {w v : List ℕ} → EdgesCleared G.layout.marks G.layout.names w v → Followed G v
none_followed cleared = record { each = λ c y c_in y_in one. absurd (cleared.none c y c_in y_in one) }

pub start_followed : {G : Given} {asked : ℕ} {w v u : List ℕ} → ToReach G w → EdgesCleared G.layout.marks G.layout.names w v
    → NotedPair G.layout.marks G.layout.names asked asked v u → Followed G u
start_followed given cleared pair = (noting_grown (reach_after cleared.long given) pair.noting).followed (none_followed cleared)

module _ {G : Given} {asked : ℕ} {w t v u : List ℕ} (blank : Blank G.layout.marks G.layout.names w) (asked_in : asked ≤ G.layout.names)
    (cleared : EdgesCleared G.layout.marks G.layout.names w t) (pair : NotedPair G.layout.marks G.layout.names asked asked t v) (settling : Settling G v u) where
  none_one : Closing G v
  none_one = record { each = λ x y c d h l c_in one leading. absurd (no_one x y h l (ones_back pair.noting x y one)) }
    where
      no_one : (x y : ℕ) → x ≤ G.layout.names → y ≤ G.layout.names → Holds t G.layout.marks G.layout.names x y → ⊥
      no_one x y h l one =
          let first = pair_before G.layout.marks G.layout.names x y h l in
          omega (
            arith,
            one.is,
            cleared.before (cell G.layout.marks G.layout.names x y) (omega (arith, first, line_first G.layout.marks G.layout.names)),
            blank.zero (cell G.layout.marks G.layout.names x y) (cell_base G.layout.marks G.layout.names x y) first,
          )

  noted_held : (x y : ℕ) → x ≤ G.layout.names → y ≤ G.layout.names → Noted u G.layout.marks G.layout.names x y → Holds u G.layout.marks G.layout.names x y
  noted_held x y h l k = elim (holds_decided u G.layout.marks G.layout.names x y) [ yes e ↦ e | no e ↦ absurd (settling.none x y h l (record { noted = k; not_one = e })) ]

  pub reached : Reached G asked w u
  reached = record {
    long = settling.long ∙ pair.noting.long ∙ cleared.long;
    before = λ p l. settling.before p l ∙ pair.noting.before p l ∙ cleared.before p (omega (arith, cell_base G.layout.marks G.layout.names (edge_row G.layout.names 0) 0));
    past = λ p l. settling.past p l
        ∙ pair.noting.past p (omega (arith, edge_from G.layout.marks G.layout.names G.layout.names 0, line_first G.layout.marks G.layout.names))
        ∙ cleared.past p l;
    asked_held = noted_held asked asked asked_in asked_in (settling.noted asked asked asked_in asked_in pair.noted);
    closed = λ x y c d h l c_in one leading.
        noted_held (filler_at G.first.table.now c) (filler_at G.second.table.now d) (edge_filler leading.from c_in)
        (G.second_rowed.filler d leading.is_name leading.to.is_restriction) ((settling.closing none_one).each x y c d h l c_in one leading);
  }
