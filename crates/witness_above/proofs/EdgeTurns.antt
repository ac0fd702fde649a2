-- A turn for an edge ∃r.X of a name: the line is what lies below ∃r over the nodes of which nothing is lost above X.
--   restricted_rows, restricted                    ∃ over the concept of a number, written
--   edge_looks, restriction_asks, edge_asks        what the calls of a turn ask
--   edge_idle, edge_turned                         a turn that takes nothing, and one that takes something
use mathlib.Core.Path.{◌≡◌, refl, sym, ap, ◌∙◌}
use mathlib.Core.Bool.{true}
use mathlib.Core.List.{List}
use Prim.Native.Nat.{ℕ, suc, ◌≤◌, ◌<◌}
use native.Mathlib.Omega.{arith}
use native.Mathlib.Numerals.{add-one}
use lib.ListN.{get_or}
use Rattle.el.specs.Concepts.{Concept, top, name, some, concept_of}
use Rattle.el.specs.Axioms.{filler_of, Terminology}
use Rattle.el.specs.Derivability.{Derives, under}
use Rattle.el.specs.Signatures.{Signature}
use Rattle.el.proofs.Derivations.{◌▹◌, Restricts, to_filler}
use Rattle.el.proofs.CanonicalModel.{written, implied, inversion}
use Rattle.el.proofs.CanonicalModel.{Edge as CanonicalEdge}
use Rattle.el.specs.Terminologies.{IsNode}
use Rattle.concept_rows.specs.Rows.{row, is_top, is_some, concept_of_row}
use Rattle.concept_rows.specs.Lent.{row_at}
use Rattle.concept_rows.specs.Written.{kept}
use Rattle.concept_rows.proofs.Rows.{top_row, some_row, same_concept}
use Rattle.concept_rows.proofs.LeftRows.{left_grown}
use Rattle.concept_rows.proofs.Bounds.{left_rows_fit, square_small}
use Rattle.release.specs.Files.{content_of}
use Rattle.release.specs.Tables.{role_at, filler_at}
use Rattle.release.proofs.Linked.{tells_serves_at}
use Rattle.release.specs.Entries.{node_number}
use Rattle.marks.specs.Squares.{Marked}
use Rattle.classification.specs.Inclusions.{node_at}
use Rattle.classification.proofs.Nodes.{at_node, at_number, number_at, number_small}
use Rattle.classification.proofs.AxiomRows as rows
use Rattle.layout.specs.declared.Layout.{Layout}
use Rattle.layout.specs.declared.Given.{Given}
use Rattle.layout.specs.Layouts.{first_square, second_square}
use Rattle.row_evaluation.specs.Cells.{cell, Holds, Adds}
use Rattle.row_evaluation.specs.Worlds.{node_point}
use Rattle.row_evaluation.specs.Below.{Reaches}
use Rattle.row_evaluation.proofs.Worlds.{axiom_row, marked_below, below_marked, filler_node_lem, filler_small}
use Rattle.row_evaluation.proofs.BelowRows.{no_some_within}
use Rattle.row_evaluation.proofs.RowBytes.{cell_earlier}
use Rattle.row_evaluation.specs.RowForms.{most, RowPut}
use Rattle.witness_above.specs.Joining.{line, ToFindLosing, NoneLoses, NodeLoses}
use Rattle.witness_above.specs.Left.{row_of, LeftReport, Joins, Places, LineCleared, ToRestrict, Restricted, over_row, over_top, over_new_top, ToJoinAll, JoinedAll, ToTurn, Edge, RoleOpened}
use Rattle.witness_above.specs.Left.{second_rows, FirstWorld, SecondWorld, LeadsOn, EdgeTurned}
use Rattle.witness_above.proofs.EdgeRoles.{edge_kind, edge_end}
use Rattle.witness_above.proofs.LeftSteps.{holds_decided, put_agrees}
use Rattle.witness_above.proofs.NameTurns.{RowsPut, one_row, lined_report, lined_places, lined_looks, square_back, half_on, half_back, turned_idle, idle_keeps, held_lined}
use Rattle.witness_above.proofs.NameTurns.{joining_asks, turned}

-- ∃ over the concept of a number, written
pub restricted_rows : {role number k : ℕ} {ys xs : List ℕ} {r : ℕ} → Restricted role number k ys xs r → RowsPut k ys xs r
restricted_rows (over_row e put is) = rw is (one_row put)
restricted_rows (over_top e h there put is) = rw is (one_row put)
restricted_rows (over_new_top e one two is) = record {
  more = omega arith;
  most = omega arith;
  long = two.long ∙ one.long;
  agree = record { at = λ i h. (put_agrees one).at i h ∙ (put_agrees two).at i (omega arith) };
  past = λ p h. two.past p (omega arith) ∙ one.past p (omega arith);
}

pub record Over (A : Type 0) (c d : Concept) : Type 0 where
  pub there : A
  pub concept : c ≡ d

module _ {sig : Signature} {t u : Terminology} {L : Layout} {k role : ℕ} {ys ps o w : List ℕ} (report : LeftReport sig t u L k ys ps o w) (chosen : sig.has_role role ≡ true) where
  over_one : {i : ℕ} {xs : List ℕ} → i < k → RowPut k (row 3 role i) ys xs
      → Over (LeftReport sig t u L (suc k) xs ps o w) (concept_of_row (row_at xs) k) (some role (concept_of_row (row_at ys) i))
  over_one {i} {xs} h put =
      let grown = left_grown report.rows (put_agrees put) (rw put.here (is_some refl chosen h)) in
      record {
        there = record { rows = grown };
        concept = some_row grown.formed (omega arith) put.here h ∙ ap (some role) (sym (same_concept report.rows.formed (put_agrees put) i h));
      }

pub restricted : {sig : Signature} {t u : Terminology} {L : Layout} {k role : ℕ} {ys ps o w : List ℕ} → LeftReport sig t u L k ys ps o w → sig.has_role role ≡ true → {number : ℕ} → number ≤ k
    → {xs : List ℕ} {r : ℕ} → Restricted role number k ys xs r → Over (LeftReport sig t u L (suc r) xs ps o w) (concept_of_row (row_at xs) r) (some role (kept (row_at ys) number))
restricted report chosen h (over_row e put is) = rw (is, e) (over_one report chosen (omega arith) put)
restricted {k = k} {role = role} {ys = ys} report chosen h (over_top {i = i} e i_in there put is) =
    let top_here : concept_of_row (row_at ys) i ≡ top = top_row report.rows.formed there in
    rw (is, e, ← top_here) (over_one report chosen i_in put)
restricted {k = k} {role = role} report chosen h (over_new_top {xs = xs} e one two is) =
    let begun : LeftReport _ _ _ _ (suc k) xs _ _ _ = record { rows = left_grown report.rows (put_agrees one) (rw one.here (is_top refl)) } in
    let top_here : concept_of_row (row_at xs) k ≡ top = top_row begun.rows.formed one.here in
    rw (is, e, ← top_here, add-one k) (over_one begun chosen (omega arith) (rw (add-one k) at two))

module _ {G : Given} {asked k x role : ℕ} {ys ps w u v : List ℕ} (given : ToTurn G asked k x ys ps w) (edge : Edge G x role)
    {node old : ℕ} (node_is : node ≡ filler_at G.first.table.now x) (old_is : old ≡ get_or ps node 0)
    (cleared : LineCleared G.layout.marks G.layout.names w u)
    (lined : Adds G.layout.marks G.layout.names (line G.layout.names) (Reaches (second_rows G) u node role) u v) where
  node_in : node ≤ G.layout.names
  node_in = omega (arith, edge_end edge)

  places : Places G.layout asked x v
  places = lined_places G.layout given.state cleared lined given.asked_in given.held given.laid.first_room given.laid.first_apart (omega (arith, given.name))

  pub edge_looks : ToFindLosing G.layout x v × (asked ≤ G.layout.names) × (G.layout.names ≤ 1023)
  edge_looks = lined_looks G.layout given.state cleared lined places

  pub restriction_asks : old ≤ most → ToRestrict old k ys
  restriction_asks small =
      let fits = left_rows_fit G.layout.names k (omega (arith, given.state.bound)) in
      record {
        rows = omega (arith, given.state.rows);
        few = omega (arith, given.state.bound, square_small G.layout.names given.state.few);
        small_number = small;
      }

  -- bytes of the nodes, before and after the line was emptied
  half_cell : {z y : ℕ} → z ≤ G.layout.names → y ≤ G.layout.names → get_or u (cell G.layout.marks G.layout.names z y) 0 ≡ get_or w (cell G.layout.marks G.layout.names z y) 0
  half_cell {z} {y} h l = cleared.before (cell G.layout.marks G.layout.names z y) (cell_earlier G.layout.marks G.layout.names (line G.layout.names) z y (omega arith) l)

  half_holds : {z y : ℕ} → z ≤ G.layout.names → y ≤ G.layout.names → Holds w G.layout.marks G.layout.names z y → Holds u G.layout.marks G.layout.names z y
  half_holds h l k = record { is = half_cell h l ∙ k.is }

  holds_half : {z y : ℕ} → z ≤ G.layout.names → y ≤ G.layout.names → Holds u G.layout.marks G.layout.names z y → Holds w G.layout.marks G.layout.names z y
  holds_half h l k = record { is = sym (half_cell h l) ∙ k.is }

  module _ {sig : Signature} {o s t : List ℕ} (one : FirstWorld s G w) (two : SecondWorld t G w) (opened_role : RoleOpened G sig x role) (leads : LeadsOn G o s t x role)
      (report : LeftReport sig (content_of s) (content_of t) G.layout k ys ps o w) where
    node_on : IsNode G.layout.names (node_at G.layout.names node)
    node_on = at_node G.layout.names node node_in

    old_row : row_of G.layout.names ps (node_at G.layout.names node) ≡ old
    old_row = ap (λ (i : ℕ). get_or ps i 0) (number_at G.layout.names node node_in) ∙ sym old_is

    old_in : old ≤ k
    old_in = rw old_row at (report.rows.inside (node_at G.layout.names node) node_on)

    -- by the first release
    edge_above : (z : ℕ) → z ≤ G.layout.names → Marked (first_square G.layout) w z x → Derives (content_of s) (node_point G.layout.names z) (some role (kept (row_at ys) old))
    edge_above z h m =
        let f = rows.restricted one.release one.names x given.name (edge_kind edge) in
        let c = rows.is_restriction f (edge_kind edge) in
        let under_role = rw (rows.role_is f c) at ((tells_serves_at one.release (role_at G.first.table.now x) role).sound opened_role.serves) in
        let restricts : Restricts (content_of s) f.it role (concept_of (filler_of f.it)) = record { is_restriction = c; role = under_role; filler = refl } in
        let below : Derives (content_of s) (node_point G.layout.names z) (name f.it.left) = rw f.left (marked_below one z x h given.name m) in
        let filler : Derives (content_of s) (concept_of (node_at G.layout.names node)) (kept (row_at ys) old) = rw old_row at (report.rows.first (node_at G.layout.names node) node_on) in
        let is : (node_at G.layout.names node) ≡ filler_of f.it = ap (node_at G.layout.names) node_is ∙ filler_node_lem one f c in
        below ▹ to_filler f.member restricts ▹ under (rw is at filler)

    -- by the second
    still_held : (y : ℕ) → y ≤ G.layout.names → Holds o G.layout.marks G.layout.names node y → Derives (content_of t) (node_point G.layout.names y) (kept (row_at ys) old) → Holds w G.layout.marks
        G.layout.names node y
    still_held y h opened d = elim (holds_decided w G.layout.marks G.layout.names node y) [
      | yes e ↦ e
      | no e ↦ absurd (report.rows.second (node_at G.layout.names node) (node_at G.layout.names y) node_on (at_node G.layout.names y h)
          (rw (number_at G.layout.names node node_in, number_at G.layout.names y h) opened, λ e'. e (rw (number_at G.layout.names node node_in, number_at G.layout.names y h) at e'))
          (rw old_row d))
    ]

    -- of a node z below the name, and of the nodes held for it at the start
    edge_reaches : (z y : ℕ) → z ≤ G.layout.names → y ≤ G.layout.names → Marked (first_square G.layout) w z x → Holds o G.layout.marks G.layout.names z y
        → Derives (content_of t) (node_point G.layout.names y) (some role (kept (row_at ys) old)) → Reaches (second_rows G) u node role y
    edge_reaches z y z_in h m opened d = let step = inversion d in by_edge step.to step.by_edge step.then
      where
        by_edge : (e : Concept) → CanonicalEdge (content_of t) role (node_point G.layout.names y) e → Derives (content_of t) e (kept (row_at ys) old) → Reaches (second_rows G) u node role y
        by_edge e (written within u) p = absurd (no_some_within (node_at G.layout.names y) within)
        by_edge e (implied {a = c} c_in restricts above) p =
            let f : rows.Found t G.second.table.now G.layout.names c.left = axiom_row two c_in in
            let r = restricts.is_restriction in
            let is_name = (rows.formed two.release two.names).left_in c_in in
            let kind = rows.restriction_restricts f r in
            let small : filler_at G.second.table.now c.left ≤ G.layout.names = omega (arith, filler_small two c.left is_name kind) in
            let at : node_at G.layout.names (filler_at G.second.table.now c.left) ≡ filler_of c = filler_node_lem two f r in
            let serves = (tells_serves_at two.release (role_at G.second.table.now c.left) role).complete (rw (rows.role_is f r) restricts.role) in
            let led : Holds o G.layout.marks G.layout.names (filler_at G.first.table.now x) (filler_at G.second.table.now c.left) = leads.on c.left z y (omega (arith, is_name)) z_in h opened
            (marked_below one z x z_in given.name m) kind serves above in
            let held = still_held (filler_at G.second.table.now c.left) small (rw node_is led) (rw (at, restricts.filler) p) in
            let marked : Marked (second_square G.layout) w y c.left = below_marked two y c.left (omega arith) is_name above in
            record {
              by = c.left;
              is_name = is_name;
              successor = record { is_restriction = kind; role = serves; below = half_holds node_in small held };
              above = half_on G.layout given.state cleared lined (second_square G.layout) given.laid.second_apart (omega arith) (omega arith) marked;
            }

    module _ {xs : List ℕ} {r : ℕ} (wrote : Restricted role old k ys xs r) where
      edge_report : Over (LeftReport sig (content_of s) (content_of t) G.layout (suc r) xs ps o v) (concept_of_row (row_at xs) r) (some role (kept (row_at ys) old))
      edge_report = restricted (lined_report G.layout given.state cleared lined report) opened_role.chosen old_in wrote

      edge_joins : Joins sig (content_of s) (content_of t) G.layout o v x r xs
      edge_joins = record {
        first = λ z h m. rw edge_report.concept
            (edge_above z h (square_back G.layout given.state cleared lined (first_square G.layout) given.laid.first_apart h (omega (arith, given.name)) m));
        second = λ z h m. rw edge_report.concept (record {
          has = λ y y_in opened d.
              let below = square_back G.layout given.state cleared lined (first_square G.layout) given.laid.first_apart h (omega (arith, given.name)) m in
              lined.new (node_number G.layout.names y) (number_small G.layout.names y y_in)
              (edge_reaches z (node_number G.layout.names y) h (number_small G.layout.names y y_in) below opened (rw (at_number G.layout.names y y_in) d));
        });
      }

  reaches_back : {y : ℕ} → y ≤ G.layout.names → Reaches (second_rows G) u node role y → Reaches (second_rows G) w (filler_at G.first.table.now x) role y
  reaches_back {y} h r = rw (← node_is) (record {
    by = r.by;
    is_name = r.is_name;
    successor = record {
      is_restriction = r.successor.is_restriction;
      role = r.successor.role;
      below = holds_half node_in (omega (arith, G.second_rowed.filler r.by r.is_name r.successor.is_restriction)) r.successor.below;
    };
    above = half_back G.layout given.state cleared lined (second_square G.layout) given.laid.second_apart (omega arith) (omega (arith, r.is_name)) r.above;
  })

  pub edge_idle : NoneLoses v G.layout x → EdgeTurned G asked k x role ys ys ps ps w v k
  edge_idle none = record {
    turned = turned_idle G.layout given.state cleared lined places none;
    keeps = λ o sig s t one two opened leads progress. idle_keeps G.layout given.state cleared lined places none given.held progress;
    quiet = λ e z y h l m k. reaches_back l (held_lined G.layout given.state cleared lined places none h l m k);
  }

  module _ {y : ℕ} (there : NodeLoses v G.layout x y) {xs : List ℕ} {r : ℕ} (wrote : Restricted role old k ys xs r) where
    pub edge_asks : ToJoinAll G.layout asked x y r xs ps v
    edge_asks = joining_asks G.layout given.state cleared lined places there (restricted_rows wrote)

    pub edge_turned : {zs qs end : List ℕ} {j : ℕ} → JoinedAll G.layout asked x r xs zs ps qs v end j → EdgeTurned G asked k x role ys zs ps qs w end j
    edge_turned all = record {
      turned = turned G.layout given.state cleared lined places there (restricted_rows wrote) all;
      keeps = λ o sig s t one two opened leads progress.
          let report = progress.going given.held in
          all.keeps o sig (content_of s) (content_of t) progress.at_start (edge_report one two opened leads report wrote).there (edge_joins one two opened leads report wrote);
      quiet = λ e. absurd (omega (arith, all.more, (restricted_rows wrote).more));
    }
