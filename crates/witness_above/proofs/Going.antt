-- Turns one after the other, and passes: what all of them keep, and that nothing is left to take where a pass writes nothing.
use mathlib.Core.Path.{◌≡◌, refl, sym, ◌∙◌}
use mathlib.Core.List.{List}
use Prim.Native.Nat.{ℕ, ◌+◌, ◌≤◌, ◌<◌}
use native.Mathlib.Omega.{arith}
use native.Mathlib.Decide.{ℕ_discrete}
use lib.ListN.{get_or}
use Rattle.concept_rows.proofs.Rows.{agree_same}
use Rattle.release.specs.Tables.{filler_at}
use Rattle.marks.specs.declared.Square.{Square}
use Rattle.marks.specs.Squares.{span, place, First, Nowhere}
use Rattle.marks.proofs.Squares.{place_below}
use Rattle.layout.specs.declared.Layout.{Layout}
use Rattle.layout.specs.declared.Given.{Given}
use Rattle.layout.specs.Layouts.{first_square, second_square}
use Rattle.layout.specs.Tables.{HasEdge}
use Rattle.row_evaluation.specs.Cells.{cell, Holds, RowRoom}
use Rattle.row_evaluation.proofs.Worlds.{world_after}
use Rattle.row_evaluation.proofs.RowBytes.{cell_earlier, room_earlier}
use Rattle.witness_above.specs.Joining.{line}
use Rattle.witness_above.specs.Left.{State, Turned, NameTurned, Edge, EdgeTurned}
use Rattle.witness_above.specs.Passes.{Chosen, NameQuiet, EdgeQuiet, ToGo, Went, Passed, Done}
use Rattle.witness_above.proofs.EdgeRoles.{role_before, roles_all, edge_end}
use Rattle.witness_above.proofs.Reaching.{laid_after}

-- turns for the roles of the edge of x that were found before `from`
pub record RolesTurned (G : Given) (asked x from k : ℕ) (ys zs ps qs w v : List ℕ) (j : ℕ) : Type 0 where
  pub went : Went G asked k ys zs ps qs w v j
  pub quiet : Holds w G.layout.marks G.layout.names asked asked → j ≡ k → (r : ℕ) → r < from → Edge G x r → EdgeQuiet G w x r

pub turned_none : (L : Layout) {asked k : ℕ} {ys ps w : List ℕ} → State L k ys ps w → Turned L asked k ys ys ps ps w w k
turned_none L state = record {
  state = state;
  long = refl;
  rows_long = refl;
  numbers_long = refl;
  before = λ p l. refl;
  beyond = λ p l. refl;
  more = omega arith;
  agree = agree_same;
  past = λ p l. refl;
  weigh = omega arith;
  same_bytes = λ e p l. refl;
}

pub turned_then : {L : Layout} {asked k j i : ℕ} {ys zs xs ps qs rs w v u : List ℕ} → Turned L asked k ys zs ps qs w v j
    → Turned L asked j zs xs qs rs v u i → Turned L asked k ys xs ps rs w u i
turned_then {k = k} {j = j} {i = i} one two = record {
  state = two.state;
  long = two.long ∙ one.long;
  rows_long = two.rows_long ∙ one.rows_long;
  numbers_long = two.numbers_long ∙ one.numbers_long;
  before = λ p l. two.before p l ∙ one.before p l;
  beyond = λ p l. two.beyond p l ∙ one.beyond p l;
  more = omega (arith, one.more, two.more);
  agree = record { at = λ m l. one.agree.at m l ∙ two.agree.at m (omega (arith, one.more)) };
  past = λ p l. two.past p l ∙ one.past p (omega (arith, two.more));
  weigh = omega (arith, one.weigh, two.weigh);
  same_bytes = λ e p l. two.same_bytes (later e) p l ∙ one.same_bytes (sooner e) p l;
}
  where
    later : i ≡ k → i ≡ j
    later e = omega (arith, one.more, two.more)

    sooner : i ≡ k → j ≡ k
    sooner e = omega (arith, one.more, two.more)

module _ {G : Given} {asked : ℕ} where
  pub go_after : {k j : ℕ} {ys zs ps qs w v : List ℕ} → ToGo G asked k ys ps w → Turned G.layout asked k ys zs ps qs w v j
      → ToGo G asked j zs qs v
  go_after go turned = record {
    asked_in = go.asked_in;
    state = turned.state;
    laid = laid_after turned.long go.laid;
  }

  pub asked_room : {k : ℕ} {ys ps w : List ℕ} → ToGo G asked k ys ps w → RowRoom G.layout.marks G.layout.names asked w
  asked_room go = room_earlier (omega (arith, go.asked_in)) go.state.bytes

  -- one turn
  pub went_none : {k : ℕ} {ys ps w : List ℕ} → ToGo G asked k ys ps w → Went G asked k ys ys ps ps w w k
  went_none go = record { turned = turned_none G.layout go.state; keeps = λ o sig s t one two opened report. report }

  pub went_name : {k x j : ℕ} {ys zs ps qs w v : List ℕ} → Chosen G x → NameTurned G asked k x ys zs ps qs w v j
      → Went G asked k ys zs ps qs w v j
  went_name {x = x} e turned = record { turned = turned.turned; keeps = λ o sig s t one two opened report. turned.keeps o sig s t one two (opened.chosen x e) report }

  pub went_edge : {k x r j : ℕ} {ys zs ps qs w v : List ℕ} → Edge G x r → EdgeTurned G asked k x r ys zs ps qs w v j → Went G asked k ys zs ps qs w v j
  went_edge {x = x} {r = r} e turned = record { turned = turned.turned; keeps = λ o sig s t one two opened report. turned.keeps o sig s t one two (opened.role x r e) (opened.leads x r e) report }

  module _ {k j : ℕ} {ys zs ps qs w v : List ℕ} (go : ToGo G asked k ys ps w) where
    pub went_then : Went G asked k ys zs ps qs w v j → {xs rs u : List ℕ} {i : ℕ} → Went G asked j zs xs qs rs v u i
        → Went G asked k ys xs ps rs w u i
    went_then one two = record {
      turned = turned_then one.turned two.turned;
      keeps = λ o sig s t first_world second_world opened report.
          two.keeps o sig s t
          (world_after go.laid.first_apart one.turned.long one.turned.before first_world)
          (world_after go.laid.second_apart one.turned.long one.turned.before second_world)
          opened (one.keeps o sig s t first_world second_world opened report);
    }

    -- nothing written: quiet behind it is quiet before it, and the other way
    module _ (turned : Turned G.layout asked k ys zs ps qs w v j) (e : j ≡ k) where
      same_square : (q : Square) → q.base + span q.names ≤ G.layout.marks → (x y : ℕ) → x ≤ q.names → y ≤ q.names → get_or v (place q x y) 0 ≡ get_or w (place q x y) 0
      same_square q apart x y h l = turned.before (place q x y) (omega (arith, place_below q x y h l))

      same_node : {z y : ℕ} → z ≤ G.layout.names → y ≤ G.layout.names → get_or v (cell G.layout.marks G.layout.names z y) 0 ≡ get_or w (cell G.layout.marks G.layout.names z y) 0
      same_node {z} {y} h l = turned.same_bytes e (cell G.layout.marks G.layout.names z y) (cell_earlier G.layout.marks G.layout.names (line G.layout.names) z y (omega arith) l)

      pub held_same : Holds w G.layout.marks G.layout.names asked asked → Holds v G.layout.marks G.layout.names asked asked
      held_same h = record { is = same_node go.asked_in go.asked_in ∙ h.is }

      pub same_held : Holds v G.layout.marks G.layout.names asked asked → Holds w G.layout.marks G.layout.names asked asked
      same_held h = record { is = sym (same_node go.asked_in go.asked_in) ∙ h.is }

      pub name_back : {x : ℕ} → x < G.layout.names → NameQuiet G v x → NameQuiet G w x
      name_back {x} x_in quiet = record {
        lined = λ z y h l m k.
            let r = quiet.lined z y h l (record { is = rw (same_square (first_square G.layout) go.laid.first_apart z x h (omega arith)) m.is }) (record { is = rw (same_node h l) k.is }) in
            record { is = rw (← same_square (second_square G.layout) go.laid.second_apart y x (omega arith) (omega arith)) r.is };
      }

      pub name_on : {x : ℕ} → x < G.layout.names → NameQuiet G w x → NameQuiet G v x
      name_on {x} x_in quiet = record {
        lined = λ z y h l m k.
            let r = quiet.lined z y h l (record { is = rw (← same_square (first_square G.layout) go.laid.first_apart z x h (omega arith)) m.is }) (record { is = rw (← same_node h l) k.is }) in
            record { is = rw (same_square (second_square G.layout) go.laid.second_apart y x (omega arith) (omega arith)) r.is };
      }

      pub edge_back : {x r : ℕ} → Edge G x r → EdgeQuiet G v x r → EdgeQuiet G w x r
      edge_back {x} edge quiet = record {
        lined = λ z y h l m k.
            let r = quiet.lined z y h l (record { is = rw (same_square (first_square G.layout) go.laid.first_apart z x h (omega (arith, edge.is_name))) m.is })
            (record { is = rw (same_node h l) k.is }) in
            record {
              by = r.by;
              is_name = r.is_name;
              successor = record {
                is_restriction = r.successor.is_restriction;
                role = r.successor.role;
                below = record {
                  is = rw (← same_node {z = filler_at G.first.table.now x} {y = filler_at G.second.table.now r.by} (edge_end edge)
                      (omega (arith, G.second_rowed.filler r.by r.is_name r.successor.is_restriction))) r.successor.below.is;
                };
              };
              above = record { is = rw (← same_square (second_square G.layout) go.laid.second_apart y r.by (omega arith) (omega (arith, r.is_name))) r.above.is };
            };
      }

      pub edge_on : {x r : ℕ} → Edge G x r → EdgeQuiet G w x r → EdgeQuiet G v x r
      edge_on {x} edge quiet = record {
        lined = λ z y h l m k.
            let r = quiet.lined z y h l (record { is = rw (← same_square (first_square G.layout) go.laid.first_apart z x h (omega (arith, edge.is_name))) m.is })
            (record { is = rw (← same_node h l) k.is }) in
            record {
              by = r.by;
              is_name = r.is_name;
              successor = record {
                is_restriction = r.successor.is_restriction;
                role = r.successor.role;
                below = record {
                  is = rw (same_node {z = filler_at G.first.table.now x} {y = filler_at G.second.table.now r.by} (edge_end edge)
                      (omega (arith, G.second_rowed.filler r.by r.is_name r.successor.is_restriction))) r.successor.below.is;
                };
              };
              above = record { is = rw (same_square (second_square G.layout) go.laid.second_apart y r.by (omega arith) (omega (arith, r.is_name))) r.above.is };
            };
      }

  -- the roles of an edge, one after the other
  module _ {k x : ℕ} {ys ps w : List ℕ} (go : ToGo G asked k ys ps w) where
    pub no_role_turned : RolesTurned G asked x 0 k ys ys ps ps w w k
    no_role_turned = record { went = went_none go; quiet = λ held e q l edge. absurd (omega arith) }

    pub role_turned : {from j r : ℕ} {zs qs v : List ℕ} → RolesTurned G asked x from k ys zs ps qs w v j → First (HasEdge G.edges.now x) (λ q. HasEdge G.edges.now x q → ⊥) 31 from r
        → {xs rs u : List ℕ} {i : ℕ} → (Went G asked j zs xs qs rs v u i × (Holds v G.layout.marks G.layout.names asked asked → i ≡ j → EdgeQuiet G v x r))
        → RolesTurned G asked x (r + 1) k ys xs ps rs w u i
    role_turned {r = r} turned next edged =
        let m = turned.went.turned.more in
        let n = edged.0.turned.more in
        record {
          went = went_then go turned.went edged.0;
          quiet = λ held e q l edge. elim (ℕ_discrete q r) [
            | yes z ↦ edge_back go turned.went.turned (omega arith) edge
                (rw z (edged.1 (held_same go turned.went.turned (omega arith) held) (omega arith)))
            | no z ↦ turned.quiet held (omega arith) q (role_before G x next q (omega arith) edge.with_role) edge
          ];
        }

    pub roles_turned : {from j : ℕ} {zs qs v : List ℕ} → RolesTurned G asked x from k ys zs ps qs w v j → Nowhere (λ q. HasEdge G.edges.now x q → ⊥) 31 from
        → Holds w G.layout.marks G.layout.names asked asked → j ≡ k → (r : ℕ) → Edge G x r → EdgeQuiet G w x r
    roles_turned turned past held e r edge = turned.quiet held e r (roles_all G x past edge) edge

  -- a pass
  module _ {k : ℕ} {ys ps w : List ℕ} (go : ToGo G asked k ys ps w) where
    pub passed_turn : {x j : ℕ} {zs qs v : List ℕ} → x < G.layout.names → Passed G asked x k ys zs ps qs w v j → {xs rs u : List ℕ} {i : ℕ}
        → (Went G asked j zs xs qs rs v u i × (Holds v G.layout.marks G.layout.names asked asked → i ≡ j → Chosen G x → NameQuiet G v x))
        → {xs' rs' u' : List ℕ} {i' : ℕ}
        → (Went G asked i xs xs' rs rs' u u' i' × (Holds u G.layout.marks G.layout.names asked asked → i' ≡ i → (r : ℕ) → HasEdge G.edges.now x r → EdgeQuiet G u x r))
        → Passed G asked (x + 1) k ys xs' ps rs' w u' i'
    passed_turn {x} {j} {zs} {qs} {v} x_in passed {i = i} named {i' = i'} edged =
        let both = went_then go passed.went named.0 in
        let all = went_then go both edged.0 in
        let m = passed.went.turned.more in
        let n = named.0.turned.more in
        let o = edged.0.turned.more in
        record {
          went = all;
          names_quiet = λ held e y l h. elim (ℕ_discrete y x) [
            | yes z ↦ rw z (name_back go passed.went.turned (omega arith) x_in (named.1 (held_same go passed.went.turned (omega arith) held) (omega arith) (rw z at h)))
            | no z ↦ passed.names_quiet held (omega arith) y (omega arith) h
          ];
          edges_quiet = λ held e y r l h. elim (ℕ_discrete y x) [
            | yes z ↦ rw z (edge_back go both.turned (omega arith) (record { is_name = x_in; with_role = rw z at h })
                (edged.1 (held_same go both.turned (omega arith) held) (omega arith) r (rw z at h)))
            | no z ↦ passed.edges_quiet held (omega arith) y r (omega arith) h
          ];
        }

  -- passes
  pub done : {ys ps w : List ℕ} → ToGo G asked 0 ys ps w → {j : ℕ} {zs qs v : List ℕ} → Went G asked 0 ys zs ps qs w v j → {xs rs u : List ℕ} {i : ℕ}
      → Passed G asked G.layout.names j zs xs qs rs v u i → i ≡ j → Done G asked ys xs ps rs w u i
  done go went passed e =
      let there = go_after go went.turned in
      record {
        went = went_then go went passed.went;
        names_quiet = λ held x l h. name_on there passed.went.turned e l (passed.names_quiet (same_held there passed.went.turned e held) e x l h);
        edges_quiet = λ held x r edge. edge_on there passed.went.turned e edge (passed.edges_quiet (same_held there passed.went.turned e held) e x r edge.is_name edge.with_role);
      }
