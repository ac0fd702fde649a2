-- The station: from what a comparison is given to what the writers ask, and from their rows to what the call promises.
--   comparable                          the releases over the signature
--   to_write_left, left_written         what the left writer asks and gives
--   to_write_right, right_written       what the right writer asks and gives
--   not_read, not_lent, to_show, shown_as     the promise, where it is refused and where it is not
use mathlib.Core.Path.{◌≡◌, refl, sym, ap, ◌∙◌}
use mathlib.Core.List.{List}
use Prim.Native.Nat.{ℕ, zero, suc, ◌+◌, ◌*◌, ◌<◌}
use native.Mathlib.Omega.{arith}
use native.Mathlib.Nat.{mul-div-le}
use lib.ListN.{length, get_or, drop, replicate, length-drop}
use lib.Seq.{ext_get_or, get_or-drop}
use Rattle.std.specs.Prelude.{Ok, Err}
use Rattle.el.specs.Terminologies.{Comparable}
use Rattle.concept_rows.specs.Rows.{is_left, is_right}
use Rattle.concept_rows.specs.Lent.{row_count}
use Rattle.release.specs.Files.{content_of}
use Rattle.release.specs.Readings.{checked}
use Rattle.release.specs.declared.terminology.Terminology.{Terminology}
use Rattle.release.proofs.Linked as linked
use Rattle.marks.specs.Memory.{size}
use Rattle.layout.specs.declared.Given as layout
use Rattle.layout.specs.Comparing.{Comparing}
use Rattle.layout.specs.declared.edges.Position.{Position}
use Rattle.layout.specs.declared.edges.Position.TheVariants.{Above, Below}
use Rattle.row_evaluation.specs.Cells.{cell}
use Rattle.row_evaluation.proofs.RowBytes.{cell_first}
use Rattle.witness_above.specs.Joining.{line}
use Rattle.witness_above.specs.Reach.{edge_row, last_row}
use Rattle.witness_above.specs.Whole as left
use Rattle.witness_above.proofs.Rooms.{left_room}
use Rattle.witness_below.specs.Arranging as right
use Rattle.comparison.specs.Compared.{forward_layout, PutBy}
use Rattle.comparison.specs.declared.Releases.{Releases}
use Rattle.comparison.proofs.Pipeline.{handed, comparing_first}
use Rattle.meanings.specs.declared.Compared.{Compared}
use Rattle.meanings.specs.declared.refusals.CompareRefusal.{CompareRefusal}
use Rattle.meanings.specs.Comparing.{work_length, agreed}
use Rattle.meanings.specs.Reading.{AreRead}
use Rattle.meanings.specs.Refusals.{compare_refusal}
use Rattle.meanings.proofs.Promise.{both_agree, both_given, cleared}
use Rattle.witness.specs.declared.asked.Asked.{Asked}
use Rattle.witness.specs.declared.refusals.ShowRefusal.{ShowRefusal}
use Rattle.witness.specs.declared.refusals.ShowRefusal.TheVariants.{Comparison}
use Rattle.witness.specs.Asked.{side_number, signature_in, ReportedBy, LastShowsBy}
use Rattle.witness.specs.Refusals.{show_refusal}
use Rattle.witness.specs.Showing.{lent_to_show, judged_to_show, showing, RowsWritten, ShownAs}
use Rattle.witness.specs.Writing.{Kept, ToShow, ToWriteSide, SideWritten, RowsShown}
use Rattle.witness.proofs.CheckedRows.{names_below}
use Rattle.witness.proofs.Judgements.{ShowLent, show_lent}

-- numbers that are all 0
pub zeros : (k i : ℕ) → ◌≡◌ {A = ℕ} (get_or (replicate k 0) i 0) 0
zeros zero i = refl
zeros (suc k) zero = refl
zeros (suc k) (suc i) = zeros k i

-- the writers
module _ {g : List ℕ} {r : Releases} {ys w : List ℕ} {x : Asked} (given : ToWriteSide g r ys w x) {p : Position} {h : layout.Given} (by : PutBy p g r (forward_layout r) h) where
  abbrev n : ℕ
  n = r.names

  name_in : x.name.0 < n
  name_in = names_below r.names r.roles g x.name.0 given.chosen

  comparing : Comparing r.first.file.now r.second.file.now h w
  comparing = comparing_first given.show.given.both given.ready by

  comparable : Comparable n (signature_in g r) (content_of r.first.file.now) (content_of r.second.file.now)
  comparable =
      let both = given.show.given.both in
      record {
        names_in = names_below r.names r.roles g;
        first_formed = rw both.first_names (linked.formed r.first.file.now both.first.accepted);
        second_formed = rw both.second_names (linked.formed r.second.file.now both.second.accepted);
        first_terms = linked.normalised r.first.file.now both.first.accepted;
        second_terms = linked.normalised r.second.file.now both.second.accepted;
      }

  -- the bytes of all pairs, and of the line, lie behind the squares of the inclusions
  line_end : cell (2 * size n) n (line n) n < 4 * size n
  unfolding cell size
  line_end = omega (arith, left_room n (omega (arith, name_in)))

  -- and behind the line those of the edges, up to the end of the four squares
  edges_end : cell (2 * size n) n (edge_row n n) 0 ≡ 4 * size n
  unfolding cell size
  edges_end = omega arith

  edges_last : cell (2 * size n) n (last_row n) n < 4 * size n
  unfolding cell size
  edges_last = omega arith

  pub to_write_left : {ps : List ℕ} → length ps ≡ 1024 → ((i : ℕ) → get_or ps i 0 ≡ 0) → left.ToWrite h x.name.0 ys ps w
  to_write_left long blank = record {
    start = record {
      rows = rw by.layout given.show.rows;
      numbers = rw by.layout (omega (arith, r.few));
      zero = blank;
      reach = record {
        laid = record {
          first_room = comparing.first_room;
          second_room = comparing.second_room;
          first_apart = comparing.first_apart;
          second_apart = comparing.second_apart;
        };
        bytes = rw by.layout (record { inside = omega (arith, line_end, given.show.given.both.room); few = omega (arith, r.few) });
        edges = rw by.layout (record { inside = omega (arith, edges_last, given.show.given.both.room); few = omega (arith, r.few) });
      };
      blank = rw by.layout (record { zero = λ p i l. given.ready.zero p i (omega (arith, cell_first (2 * size n) n (line n) n, line_end)) });
      asked_in = rw by.layout (omega (arith, name_in));
    };
    name = rw by.layout name_in;
  }

  first_file : h.first.file.now ≡ r.first.file.now
  first_file = ap (λ (z : Terminology). z.file.now) by.first

  second_file : h.second.file.now ≡ r.second.file.now
  second_file = ap (λ (z : Terminology). z.file.now) by.second

  compared_again : {s t s' t' : List ℕ} → s' ≡ s → t' ≡ t → Comparing s t h w → Comparing s' t' h w
  compared_again e f c = rw (e, f) c

  pub to_write_right : {ps : List ℕ} → length ps ≡ 1024 → right.ToWriteRight h x.name.0 ys ps w
  to_write_right long = record {
    comparing = compared_again first_file second_file comparing;
    first_at = rw by.layout refl;
    second_at = rw by.layout refl;
    room = rw by.layout given.show.given.both.room;
    rows = rw by.layout given.show.rows;
    numbers = rw by.layout (omega (arith, r.few));
    name = rw by.layout name_in;
  }

-- on the left
module _ {g : List ℕ} {r : Releases} {ys w : List ℕ} {x : Asked} (given : ToWriteSide g r ys w x) {h : layout.Given} (by : PutBy Above g r (forward_layout r) h) where
  pub left_written : {zs v : List ℕ} {k : ℕ} → side_number x.side ≡ 1 → left.LeftWritten h x.name.0 ys zs w v k → SideWritten g r ys zs w v x k
  left_written {zs} {v} {k} one written = record {
    kept = record {
      few = rw by.layout at written.few;
      rows_long = written.rows_long;
      rows_past = written.past;
      long = written.long;
      past = λ p i. written.beyond p (rw by.layout (omega (arith, edges_end given by)));
    };
    shows = by_report;
  }
    where
      by_report : ReportedBy g r (side_number x.side) x.name.0 → LastShowsBy g r (side_number x.side) x.name.0 zs k
      by_report (is_left is chosen witness) =
          let c = comparing given by in
          let last = written.shows g r.first.file.now r.second.file.now (side_number x.side)
          (record { release = c.first_release; names = c.first_names; room = c.first_room; inclusions = c.first_inclusions })
          (record { release = c.second_release; names = c.second_names; room = c.second_room; inclusions = c.second_inclusions })
          (handed given.show.given.both by) (rw by.layout (comparable given by)) is (rw by.layout chosen) (rw by.layout witness) in
          rw by.layout at last
      by_report (is_right is chosen witness) = absurd (omega arith)

-- on the right
module _ {g : List ℕ} {r : Releases} {ys w : List ℕ} {x : Asked} (given : ToWriteSide g r ys w x) {h : layout.Given} (by : PutBy Below g r (forward_layout r) h) where
  pub right_written : {zs v : List ℕ} {k : ℕ} → side_number x.side ≡ 2 → right.RightWritten h x.name.0 ys zs w v k → SideWritten g r ys zs w v x k
  right_written {zs} {v} {k} two written = record {
    kept = record {
      few = rw by.layout at written.few;
      rows_long = written.rows_long;
      rows_past = written.past;
      long = written.long;
      past = rw by.layout at written.beyond;
    };
    shows = by_report;
  }
    where
      by_report : ReportedBy g r (side_number x.side) x.name.0 → LastShowsBy g r (side_number x.side) x.name.0 zs k
      by_report (is_right is chosen witness) =
          let last = written.shows.of_signature g (handed given.show.given.both by) (rw by.layout chosen) (rw (by.layout, first_file given by, second_file given by) witness) in
          rw two (rw (by.layout, first_file given by, second_file given by) at last)
      by_report (is_left is chosen witness) = absurd (omega arith)

-- the promise
module _ {s t : List ℕ} (g : List ℕ) (side a : ℕ) (ys w : List ℕ) where
  refuses : {e : ShowRefusal} → Err (show_refusal e) ≡ showing s t g (row_count ys) (length w) → ShownAs s t g side a ys ys w w (Err e)
  refuses is = record {
    count = 0;
    answer = rw (← is) refl;
    refused_rows = λ z. refl;
    refused_work = λ z. refl;
    accepted_rows = λ z. absurd (cc);
    accepted_work = λ z. absurd (cc);
  }

  pub not_read : {e : CompareRefusal} → Err (compare_refusal e) ≡ agreed (checked s) (checked t) → ShownAs s t g side a ys ys w w (Err (Comparison e))
  unfolding judged_to_show
  not_read is = refuses (rw (← is, judged_to_show) refl)

  module _ {c : Compared} {r : Releases} (read : AreRead s t c r) {k : ℕ} (count : k ≡ row_count ys) where
    pub not_lent : {e : ShowRefusal} → Err (show_refusal e) ≡ lent_to_show g k (length w) c → ShownAs s t g side a ys ys w w (Err e)
    unfolding judged_to_show
    not_lent is = refuses (rw (← count, ← read.counts, judged_to_show) is)

    module _ {d : Compared} (lends : Ok d ≡ lent_to_show g k (length w) c) where
      enough : ShowLent g (row_count ys) (length w) c
      enough = (show_lent g (row_count ys) (length w) c d (rw count at (sym lends))).1

      pub to_show : ToShow g r ys w
      unfolding row_count
      to_show = record {
        given = record { both = both_given read enough.work; signature = rw (read.names, read.roles) enough.signature };
        rows = rw read.names (omega (arith, enough.rows, mul-div-le (length ys) 3));
      }

      pub shown_as : {zs v : List ℕ} {j : ℕ} → RowsShown g r side a ys zs w v j → ShownAs s t g side a ys zs w v (Ok j)
      unfolding judged_to_show size
      shown_as {zs} {v} {j} done =
          let agree = both_agree read in
          let kept : Kept r.names ys zs w v j = done.written.kept in
          let some = rw (read.names, read.roles, read.first_file, read.second_file, agree.first_names, agree.first_roles) at done.written.some in
          let shows = rw (read.names, read.roles, read.first_file, read.second_file, agree.first_names, agree.first_roles) at done.written.shows in
          let zero = rw read.names at done.zero in
          let past = rw read.names at kept.past in
          let work_is = cleared (work_length c.names) v w kept.long enough.work zero past in
          let rows_past : drop (3 * j) zs ≡ drop (3 * j) ys = ext_get_or 0 _ _ (simp (length-drop, kept.rows_long))
          (λ i l. get_or-drop (3 * j) zs i 0 ∙ (kept.rows_past (3 * j + i) (omega arith) ∙ sym (get_or-drop (3 * j) ys i 0))) in
          let written : RowsWritten s t g side a ys zs j = record {
            some = (some, λ report. let last = shows report in omega (arith, last.is_last));
            shows = λ l. shows (some l);
            few = rw (read.names, agree.first_names) at kept.few;
            long = kept.rows_long;
            past = rows_past;
          } in
          record {
            count = j;
            answer = rw (← read.counts, judged_to_show, ← (rw count at lends)) refl;
            refused_rows = λ z. absurd (cc);
            refused_work = λ z. absurd (cc);
            accepted_rows = λ {k = i} z. let e : j ≡ i = cc in rw e at written;
            accepted_work = λ z. rw agree.first_names at work_is;
          }
