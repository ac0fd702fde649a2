-- The start and the end of writing.
--   over                         a signature whose names and edges are given
--   zero_value                   where all bytes are 0, no pair is asked for
--   start_state, start_report    after the start
--   last_room                    there is room for one row more
--   by_end, own_row              at the end, the pair of a right witness with itself is marked, and has a row
--   whole_none                   it is not marked: the name is no right witness
--   whole_last, whole_again      its row shows the difference, if it is the last, or else once more
use mathlib.Core.Path.{◌≡◌, refl, ◌∙◌}
use mathlib.Core.Bool.{true}
use mathlib.Core.Logic.{◌⊎◌, inl, inr}
use mathlib.Core.List.{List}
use Prim.Native.Nat.{ℕ, suc, ◌+◌, ◌*◌, ◌≤◌, ◌<◌}
use native.Mathlib.Omega.{arith}
use native.Mathlib.Numerals.{add-one}
use native.Mathlib.Decide.{ℕ_discrete}
use lib.ListN.{length, get_or}
use Rattle.el.specs.Concepts.{named}
use Rattle.el.specs.Signatures.{Signature, RightWitness}
use Rattle.el.specs.Answers.{node}
use Rattle.concept_rows.specs.Rows.{row}
use Rattle.concept_rows.specs.Lent.{row_at, Last}
use Rattle.concept_rows.specs.Written.{Lost}
use Rattle.concept_rows.proofs.RightRows.{right_found, right_last, right_again}
use Rattle.release.specs.Files.{content_of}
use Rattle.release.proofs.Linked.{normalised, role_small}
use Rattle.classification.proofs.Nodes.{at_name}
use Rattle.classification.proofs.AxiomRows.{defined_restriction, role_is, formed}
use Rattle.backward.proofs.Columns.{column_name}
use Rattle.backward.proofs.Defined.{found_4}
use Rattle.row_evaluation.specs.RowForms.{RowPut}
use Rattle.witness_above.proofs.LeftSteps.{put_agrees}
use Rattle.witness_above.proofs.LeftEnd.{world_table}
use Rattle.layout.specs.declared.Given.{Given}
use Rattle.layout.specs.Layouts.{chosen}
use Rattle.layout.specs.declared.edges.Position.TheVariants.{Below}
use Rattle.layout.specs.Findings.{Handed}
use Rattle.layout.proofs.Findings.{stands_itself, name_handed}
use Rattle.layout.proofs.Comparing.{chosen_below}
use Rattle.witness_below.specs.Cells.{pair_of, value_at, cell_at, CellPut, Value}
use Rattle.witness_below.specs.Tasks.{Ready, Over, not_open, RightReport, opens, State, Settled, Done}
use Rattle.witness_below.specs.Whole.{ToWriteArranged, ArrangedWritten}
use Rattle.witness_below.proofs.Numbering.{pair_small}
use Rattle.witness_below.proofs.Unmarked.{open_cell, settled_closed}
use Rattle.witness_below.proofs.Counted.{opens_most, few_start, few_last}
use Rattle.witness_below.proofs.Steps.{ready_after, put_before, put_beyond}

zero_value : (w : List ℕ) (base p : ℕ) → get_or w (base + 3 * p) 0 ≡ 0 → get_or w (base + 3 * p + 1) 0 ≡ 0 → get_or w (base + 3 * p + 2) 0 ≡ 0 → value_at w base p ≡ 0
unfolding value_at
zero_value w base p e f g = rw (e, f, g) refl

-- a signature whose names and edges are given
over : {given : Given} {w g : List ℕ} → Ready given w → Handed Below g given → Over (chosen given.layout g) given
over {given} {g = g} ready handed = record {
  name = λ x h. name_handed handed x;
  edge = λ x r x_in kind is_chosen serves.
      let f = found_4 ready.first_world.release ready.first_world.names x x_in kind in
      let d = defined_restriction f kind in
      stands_itself (handed.found.complete given.second.file.now ready.second_world.release x r x_in (record {
        is_restriction = rw kind refl;
        small = rw (role_is f d.0) (role_small given.first.file.now ready.first_world.release.accepted f.member d.0);
        role = record { in_signature = is_chosen; lies = serves };
      }));
  chosen_role = λ x r x_in edge. (handed.found.sound x r x_in edge).role.in_signature;
  serves = λ x r x_in edge. (handed.found.sound x r x_in edge).role.lies;
  comparable = record {
    names_in = chosen_below given.layout g;
    first_formed = formed ready.first_world.release ready.first_world.names;
    second_formed = formed ready.second_world.release ready.second_world.names;
    first_terms = normalised given.first.file.now ready.first_world.release.accepted;
    second_terms = normalised given.second.file.now ready.second_world.release.accepted;
  };
}

module _ {given : Given} {x : ℕ} {ys ps w : List ℕ} (asks : ToWriteArranged given x ys ps w) where
  no_value : (p : ℕ) → p < suc given.layout.names * suc given.layout.names → value_at w given.layout.marks p ≡ 0
  no_value p h = zero_value w given.layout.marks p (asks.zero (given.layout.marks + 3 * p) (omega arith) (omega arith))
      (asks.zero (given.layout.marks + 3 * p + 1) (omega arith) (omega arith)) (asks.zero (given.layout.marks + 3 * p + 2) (omega arith) (omega arith))

  module _ {v : List ℕ} (asked : CellPut given.layout.marks (pair_of given.layout.names x x) 1 w v) where
    pub start_state : State given 0 ys ps v
    start_state = record {
      ready = ready_after asked.long (put_before given asked) asks.ready;
      rows = asks.rows;
      numbers = asks.numbers;
      few = few_start given.layout.names (opens v given.layout.marks given.layout.names) (opens_most v given.layout.marks given.layout.names);
    }

    not_marked : (a b j : ℕ) → a ≤ given.layout.names → b ≤ given.layout.names → cell_at given.layout v a b ≡ j + 2 → ⊥
    not_marked a b j h l e = elim (ℕ_discrete (pair_of given.layout.names a b) (pair_of given.layout.names x x)) [
      | yes z ↦ (let f : value_at v given.layout.marks (pair_of given.layout.names x x) ≡ j + 2 = rw z at e in omega (arith, asked.here))
      | no z ↦ omega (arith, asked.other (pair_of given.layout.names a b) z, no_value (pair_of given.layout.names a b) (pair_small given.layout.names a b h l))
    ]

    start_report : (sig : Signature) → RightReport sig given 0 ys v
    start_report sig = record { formed = record { at = λ i h. absurd (omega arith) }; lost = λ a b j h l e. absurd (not_marked a b j h l e) }

    module _ {xs qs u : List ℕ} {j : ℕ} (done : Done given x 0 ys xs ps qs v u j) where
      pub last_room : 3 * j + 3 ≤ length xs
      last_room = omega (arith, done.went.state.rows, few_last done.went.state.few)

      -- the pair is marked
      by_end : (sig : Signature) → Over sig given → RightWitness sig (content_of given.first.file.now) (content_of given.second.file.now) x
          → (2 ≤ cell_at given.layout u x x) ⊎ ((p : ℕ) → p < suc given.layout.names * suc given.layout.names → Settled given u p) → 2 ≤ cell_at given.layout u x x
      by_end sig over witness (inl h) = h
      by_end sig over witness (inr settled) =
          let ready = done.went.state.ready in
          let found = right_found over.comparable (world_table ready.first_world) (world_table ready.second_world) (not_open given u) (settled_closed over settled) asks.name witness in
          let open_at_least = done.went.asked (pair_of given.layout.names x x) (omega (arith, asked.here)) in
          elim (ℕ_discrete (cell_at given.layout u x x) 1) [
            | yes e ↦ absurd (open_cell given u (named x) x x refl (omega (arith, asks.name)) (rw (column_name given.layout.names x asks.name) found) e)
            | no e ↦ omega arith
          ]

      -- its row
      own_row : {kept m : ℕ} → Value u given.layout.marks (pair_of given.layout.names x x) kept → m + 2 ≡ kept → (sig : Signature) → Over sig given
          → Lost (content_of given.first.file.now) (content_of given.second.file.now) (row_at xs) j (named x) (node (named x)) m
      own_row {kept} {m} value is_row sig over =
          let is : cell_at given.layout u x x ≡ m + 2 = omega (arith, value.is) in
          let lost = (done.went.keeps sig over (start_report sig)).lost x x m (omega (arith, asks.name)) (omega (arith, asks.name)) is in
          rw (at_name given.layout.names x asks.name, column_name given.layout.names x asks.name) at lost

      -- what is written, but for a row more
      written : {os : List ℕ} {k : ℕ} → k ≤ j + 1 → length os ≡ length xs → ((p : ℕ) → 3 * k ≤ p → get_or os p 0 ≡ get_or ys p 0)
          → ((sig : Signature) → Over sig given → sig.has_name x ≡ true → RightWitness sig (content_of given.first.file.now) (content_of given.second.file.now) x
          → Last sig (content_of given.first.file.now) (content_of given.second.file.now) 2 x os k) → ArrangedWritten given x ys os w u k
      written h long past shows = record {
        few = omega (arith, few_last done.went.state.few);
        long = done.went.long ∙ asked.long;
        rows_long = long ∙ done.went.rows_long;
        before = λ p l. done.went.before p l ∙ put_before given asked p l;
        beyond = λ p l. done.went.beyond p l ∙ put_beyond given asked (pair_small given.layout.names x x (omega (arith, asks.name)) (omega (arith, asks.name))) p l;
        past = past;
        shows = record { of_signature = λ g handed. shows (chosen given.layout g) (over asks.ready handed) };
      }

      module _ {kept : ℕ} (value : Value u given.layout.marks (pair_of given.layout.names x x) kept) where
        pub whole_none : (2 ≤ kept → ⊥) → ArrangedWritten given x ys xs w u j
        whole_none small = written (omega arith) refl done.went.past
            (λ sig over is_chosen witness. absurd (small (omega (arith, by_end sig over witness done.ends, value.is))))

        module _ (m : ℕ) (is_row : m + 2 ≡ kept) where
          pub whole_last : m + 1 ≡ j → ArrangedWritten given x ys xs w u j
          whole_last last = written (omega arith) refl done.went.past (λ sig over is_chosen witness. record {
            last = m;
            is_last = omega arith;
            shows = right_last (done.went.keeps sig over (start_report sig)).formed refl is_chosen (own_row value is_row sig over) (omega arith);
          })

          pub whole_again : {os : List ℕ} → RowPut j (row 2 m m) xs os → ArrangedWritten given x ys os w u (j + 1)
          whole_again put = written (omega arith) put.long (λ p h. put.past p (omega arith) ∙ done.went.past p (omega arith)) (λ sig over is_chosen witness. record {
            last = j;
            is_last = add-one j;
            shows = right_again (done.went.keeps sig over (start_report sig)).formed refl is_chosen (own_row value is_row sig over) (put_agrees put) put.here;
          })
