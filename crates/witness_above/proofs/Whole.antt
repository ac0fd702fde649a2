-- The start and the end of writing.
use mathlib.Core.Path.{◌≡◌, refl, sym, ap, ◌∙◌}
use mathlib.Core.Bool.{true}
use mathlib.Core.List.{List}
use Prim.Native.Nat.{ℕ, ◌≤◌, ◌<◌}
use native.Mathlib.Omega.{arith}
use lib.ListN.{length, get_or}
use Rattle.el.specs.Concepts.{name, concept_of}
use Rattle.el.specs.Axioms.{Terminology}
use Rattle.el.specs.Derivability.{Derives}
use Rattle.el.specs.Signatures.{Signature}
use Rattle.concept_rows.specs.Rows.{row, is_name, concept_of_row, above}
use Rattle.concept_rows.specs.Lent.{row_at, Last}
use Rattle.concept_rows.specs.Written.{Formed}
use Rattle.concept_rows.proofs.Bounds.{left_rows_fit}
use Rattle.concept_rows.proofs.LeftRows.{left_start}
use Rattle.release.specs.Files.{content_of}
use Rattle.release.proofs.Linked.{role_small}
use Rattle.release.specs.Entries.{node_number}
use Rattle.layout.specs.declared.Given.{Given}
use Rattle.layout.specs.Layouts.{chosen}
use Rattle.layout.proofs.Findings.{name_handed}
use Rattle.row_evaluation.specs.Cells.{Holds}
use Rattle.row_evaluation.proofs.Worlds.{world_after}
use Rattle.row_evaluation.proofs.RowBytes.{room_same, cell_earlier}
use Rattle.row_evaluation.proofs.Worlds.{marked_below, below_marked}
use Rattle.classification.specs.Inclusions.{node_at}
use Rattle.classification.proofs.Nodes.{at_name}
use Rattle.classification.proofs.AxiomRows as rows
use Rattle.concept_rows.proofs.Rows.{name_row}
use Rattle.row_evaluation.specs.RowForms.{RowPut}
use Rattle.witness_above.specs.Joining.{line}
use Rattle.witness_above.specs.Left.{LastAbove, LeftProgress, FirstWorld, SecondWorld, Edge, LeadsOn}
use Rattle.witness_above.specs.Reach.{edge_row, Leading, Reached}
use Rattle.witness_above.specs.Passes.{ToGo, Opened, Done}
use Rattle.witness_above.specs.Whole.{ToStart, Started, NameDiffers, ToWrite, LeftWritten}
use Rattle.witness_above.proofs.LeftEnd.{edge_opened, left_lost}
use Rattle.witness_above.proofs.Reaching.{held_most, laid_after}

module _ {G : Given} {asked : ℕ} {ys ps w : List ℕ} (given : ToStart G asked ys ps w) where
  pub start_room : 3 ≤ length ys
  start_room = omega (arith, given.rows, left_rows_fit G.layout.names 0 (omega arith))

  module _ {v : List ℕ} (reached : Reached G asked w v) where
    leads : (s t : List ℕ) → FirstWorld s G v → SecondWorld t G v → (x r : ℕ) → Edge G x r → LeadsOn G v s t x r
    leads s t one two x r edge = record {
      on = λ d y z d_in y_in z_in held above kind serves below.
          let f = rows.restricted two.release two.names d d_in kind in
          let c = rows.is_restriction f kind in
          let leading : Leading G v y z x d = record {
            from = record { edge = λ none. none.none r edge.with_role; above = below_marked one y x y_in edge.is_name above };
            is_name = d_in;
            to = record {
              is_restriction = kind;
              small = rw (rows.role_is f c) (role_small t two.release.accepted f.member c);
              role = record { role = r; edge = edge.with_role; serves = serves };
              above = below_marked two z d z_in d_in below;
            };
          } in
          reached.closed y z x d y_in z_in edge.is_name held leading;
    }

    pub started : Started G asked ys ps w v
    started = record {
      state = record {
        rows = given.rows;
        few = G.layout.few;
        numbers = given.numbers;
        bytes = room_same reached.long given.reach.bytes;
        bound = omega (arith, held_most v G.layout.marks G.layout.names);
      };
      long = reached.long;
      before = reached.before;
      beyond = λ p l. reached.past p l;
      asked_held = reached.asked_held;
      leads = leads;
      report = λ sig t u. record { rows = left_start (λ x x_in. given.zero (node_number G.layout.names x)) (λ x y x_in y_in lost. lost.1 lost.0) };
    }

-- once the pair of a name is lost
shown_last : {sig : Signature} {t u : Terminology} {n k side x : ℕ} {ys : List ℕ} → LastAbove sig t u n x k ys → side ≡ 1 → sig.has_name x ≡ true → x < n → Last sig t u side x ys k
shown_last {n = n} {x = x} last is chosen x_in =
    let node : concept_of (node_at n x) ≡ name x = ap concept_of (at_name n x x_in) in
    record {
      last = last.last;
      is_last = last.is_last;
      shows = record { chosen = chosen; formed = λ i h. last.formed.at i (omega (arith, last.is_last)); differs = above is (rw node at last.first) (rw node at last.second) };
    }

module _ {G : Given} {x : ℕ} {ys ps w : List ℕ} (given : ToWrite G x ys ps w) where
  pub go_start : {v : List ℕ} → Started G x ys ps w v → ToGo G x 0 ys ps v
  go_start begun = record {
    asked_in = omega (arith, given.name);
    state = begun.state;
    laid = laid_after begun.long given.start.reach.laid;
  }

  -- a name alone shows the difference
  pub name_whole : {c : ℕ} → NameDiffers G w x c → {zs : List ℕ} → RowPut 0 (row 1 c 0) ys zs → LeftWritten G x ys zs w w 1
  name_whole {c} differs {zs} put = record {
    few = omega (arith, left_rows_fit G.layout.names 0 (omega arith));
    long = refl;
    rows_long = put.long;
    beyond = λ p l. refl;
    past = λ p l. put.past p (omega arith);
    shows = λ g s t side one two handed comparable left is_chosen witness.
        let chosen_name : (chosen G.layout g).has_name c ≡ true = sym (name_handed handed c) ∙ differs.is_chosen in
        let formed : Formed (chosen G.layout g) (row_at zs) 1 = record { at = λ i h. let z : i ≡ 0 = omega arith in rw z (is_name put.here chosen_name) } in
        let concept : concept_of_row (row_at zs) 0 ≡ name c = name_row formed put.here in
        let first_above : Derives (content_of s) (name x) (name c) = rw (at_name G.layout.names x given.name) at
        (marked_below one x c (omega (arith, given.name)) differs.is_name differs.above) in
        let not_above : Derives (content_of t) (name x) (name c) → ⊥ = λ d. differs.not_second
        (below_marked two x c (omega (arith, given.name)) differs.is_name (rw (at_name G.layout.names x given.name) d)) in
        record {
          last = 0;
          is_last = refl;
          shows = record { chosen = is_chosen; formed = λ i h. formed.at i (omega arith); differs = above left (rw concept first_above) (rw concept not_above) };
        };
  }

  module _ {xs qs v u : List ℕ} {j : ℕ} (begun : Started G x ys ps w v) (all : Done G x ys xs ps qs v u j) where
    start_progress : (sig : Signature) (t u : Terminology) → LeftProgress sig t u G.layout x 0 ys ps v v
    start_progress sig t u = record { at_start = begun.asked_held; going = λ h. begun.report sig t u; shown = λ lost. absurd (lost begun.asked_held) }

    pub whole : LeftWritten G x ys xs w u j
    whole = record {
      few = omega (arith, left_rows_fit G.layout.names j (omega (arith, all.went.turned.state.bound)));
      long = all.went.turned.long ∙ begun.long;
      rows_long = all.went.turned.rows_long;
      beyond = λ p l.
          all.went.turned.beyond p (omega (
            arith,
            l,
            cell_earlier G.layout.marks G.layout.names (edge_row G.layout.names G.layout.names) (line G.layout.names) G.layout.names
                (omega arith) (omega arith),
          ))
          ∙ begun.beyond p l;
      past = all.went.turned.past;
      shows = λ g s t side one two handed comparable left is_chosen witness.
          let sig = chosen G.layout g in
          let long : length u ≡ length w = all.went.turned.long ∙ begun.long in
          let before : (p : ℕ) → p < G.layout.marks → get_or u p 0 ≡ get_or w p 0 = λ p l. all.went.turned.before p l ∙ begun.before p l in
          let laid = given.start.reach.laid in
          let one_start = world_after laid.first_apart begun.long begun.before one in
          let two_start = world_after laid.second_apart begun.long begun.before two in
          let opened : Opened sig G v s t = record {
            chosen = λ y h. sym (name_handed handed y) ∙ h;
            role = λ y r edge. edge_opened handed edge;
            leads = begun.leads s t one_start two_start;
          } in
          let progress = all.went.keeps v sig s t one_start two_start opened (start_progress sig (content_of s) (content_of t)) in
          let one_end = world_after laid.first_apart long before one in
          let two_end = world_after laid.second_apart long before two in
          let lost : Holds u G.layout.marks G.layout.names x x → ⊥ = λ still.
          left_lost one_end two_end handed comparable (all.names_quiet still) (all.edges_quiet still) given.name witness still in
          shown_last (progress.shown lost) left is_chosen given.name;
    }
