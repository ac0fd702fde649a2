-- Whether the last row shows the difference: from prepared memory to the answer.
--   first_by, second_by                     what rows are evaluated by, of either release
--   first_is, second_is                     so it is of what the calls gave
--   twice, behind_room                      the bytes of the rows, twice
--   to_differ, to_differ_below              what evaluating the rows asks on either side
--   decided_left, decided_right             what it gives
use mathlib.Core.Path.{◌≡◌, refl, sym, ap, ◌∙◌}
use mathlib.Core.Bool.{Bool}
use mathlib.Core.List.{List}
use Prim.Native.Nat.{ℕ, suc, ◌+◌, ◌*◌, ◌≤◌, ◌<◌}
use native.Mathlib.Omega.{arith}
use native.Mathlib.Numerals.{add-one}
use native.Mathlib.Nat.{mul_comm, mul_assoc}
use lib.ListN.{length, get_or}
use Rattle.release.specs.Tables.{Shaped}
use Rattle.marks.specs.declared.Square.{Square}
use Rattle.marks.specs.Squares.{Room}
use Rattle.marks.specs.Memory.{size}
use Rattle.marks.proofs.Squares.{span_size}
use Rattle.classification.proofs.AxiomRows.{ranges}
use Rattle.layout.specs.declared.Layout.{Layout}
use Rattle.layout.specs.Layouts.{first_square, second_square}
use Rattle.row_evaluation.specs.Cells.{cell}
use Rattle.row_evaluation.specs.Worlds.{WorldOf}
use Rattle.row_evaluation.specs.Differing.{ToDifferAbove, DiffersAbove, ToDifferBelow, DiffersBelow}
use Rattle.row_evaluation.specs.declared.Evaluation.{Evaluation}
use Rattle.comparison.specs.Compared.{forward_layout, square_at, Prepared}
use Rattle.comparison.specs.declared.Releases.{Releases}
use Rattle.comparison.proofs.Pipeline.{room_at}
use Rattle.meanings.specs.Comparing.{work_length}
use Rattle.witness.specs.declared.asked.Asked.{Asked}
use Rattle.witness.specs.Asked.{side_number}
use Rattle.witness.specs.Lent.{check_length}
use Rattle.witness.specs.Deciding.{ToDecide, Decided}

abbrev pub first_by : Releases → Evaluation
first_by r = record { terminology = r.first; square = square_at r.names 0; base = 4 * size r.names }

abbrev pub second_by : Releases → ℕ → Evaluation
second_by r last = record { terminology = r.second; square = square_at r.names (size r.names); base = 4 * size r.names + (last + 1) * (r.names + 1) }

module _ (r : Releases) {l : Layout} (laid : l ≡ forward_layout r) {q : Square} {b : ℕ} (base : b ≡ 4 * size r.names) where
  pub first_is : q ≡ first_square l → record { terminology = r.first; square = q; base = b } ≡ first_by r
  first_is e = rw (e, laid, base) refl

  pub second_is : (last : ℕ) → q ≡ second_square l → record { terminology = r.second; square = q; base = b + (last + 1) * (r.names + 1) } ≡ second_by r last
  second_is last e = rw (e, laid, base) refl

-- the bytes of k rows, twice, behind four squares
pub twice : (n k : ℕ) → check_length n k ≡ 4 * size n + 2 * (k * suc n)
unfolding check_length size
twice n k = ap (λ (z : ℕ). work_length n + z) (mul_assoc 2 (suc n) k ∙ ap (λ (z : ℕ). 2 * z) (mul_comm (suc n) k))

one_more : (last n : ℕ) → (last + 1) * (n + 1) ≡ suc last * suc n
one_more last n = rw (add-one last, add-one n)

module _ {r : Releases} {ys w : List ℕ} {last : ℕ} {x : Asked} (given : ToDecide r ys w last x) where
  abbrev n : ℕ
  n = r.names

  abbrev k : ℕ
  k = size r.names

  pub behind_room : 4 * k + 2 * ((last + 1) * (n + 1)) ≤ length w
  behind_room = omega (arith, one_more last n, twice n (suc last), given.room)

  module _ {v : List ℕ} (prepared : Prepared r w v) where
    room : (base : ℕ) → base ≤ 3 * k → Room (square_at n base) v
    room base h = room_at given.both base h v prepared.long

    first_shaped : Shaped n r.first.file.now r.first.table.now
    first_shaped = ranges given.both.first given.both.first_names

    second_shaped : Shaped n r.second.file.now r.second.table.now
    second_shaped = ranges given.both.second given.both.second_names

    first_world : WorldOf (first_by r) v
    first_world = record { release = given.both.first; names = given.both.first_names; room = room 0 (omega arith); inclusions = prepared.ready.first }

    second_world : WorldOf (second_by r last) v
    second_world = record { release = given.both.second; names = given.both.second_names; room = room k (omega arith); inclusions = prepared.ready.second }

    -- the bytes of the rows are 0
    zero_at : (p : ℕ) → 4 * k ≤ p → p < 4 * k + 2 * (suc last * suc n) → get_or v p 0 ≡ 0
    unfolding size
    zero_at p h l = prepared.past p h ∙ given.zero p (omega arith) (omega (arith, twice n (suc last)))

    first_end : cell (4 * k) n (suc last) 0 ≡ 4 * k + (last + 1) * (n + 1)
    unfolding cell
    first_end = omega (arith, one_more last n)

    second_end : cell (4 * k + (last + 1) * (n + 1)) n (suc last) 0 ≡ 4 * k + 2 * (suc last * suc n)
    unfolding cell
    second_end = omega (arith, one_more last n)

    inside : 4 * k + 2 * (suc last * suc n) ≤ length v
    inside = omega (arith, twice n (suc last), given.room, prepared.long)

    module _ {E F : Evaluation} (first_is : E ≡ first_by r) (second_is : F ≡ second_by r last) where
      pub to_differ : ToDifferAbove E F ys last x.name.0 v
      to_differ = rw (first_is, second_is) (record {
        first_blank = record {
          setting = record { fillers = first_shaped.filler; room = room 0 (omega arith); apart = omega (arith, span_size n); few = omega (arith, r.few) };
          rows = given.rows;
          fit = given.fit;
          inside = omega (arith, first_end, inside, one_more last n);
          zero = λ p h l. zero_at p h (omega (arith, first_end, one_more last n));
        };
        second_blank = record {
          setting = record { fillers = second_shaped.filler; room = room k (omega arith); apart = omega (arith, span_size n); few = omega (arith, r.few) };
          rows = given.rows;
          fit = given.fit;
          inside = omega (arith, second_end, inside);
          zero = λ p h l. zero_at p (omega arith) (omega (arith, second_end));
        };
        same_names = refl;
        behind = sym first_end;
        second_apart = omega (arith, span_size n);
        name = given.name;
      })

      pub to_differ_below : ToDifferBelow E F ys last x.name.0 v
      to_differ_below = rw (first_is, second_is) (record {
        first_blank = record {
          upward = record { shaped = first_shaped; room = room 0 (omega arith); apart = omega (arith, span_size n); few = omega (arith, r.few) };
          rows = given.rows;
          fit = given.fit;
          inside = omega (arith, first_end, inside, one_more last n);
          zero = λ p h l. zero_at p h (omega (arith, first_end, one_more last n));
        };
        second_blank = record {
          upward = record { shaped = second_shaped; room = room k (omega arith); apart = omega (arith, span_size n); few = omega (arith, r.few) };
          rows = given.rows;
          fit = given.fit;
          inside = omega (arith, second_end, inside);
          zero = λ p h l. zero_at p (omega arith) (omega (arith, second_end));
        };
        same_names = refl;
        behind = sym first_end;
        second_apart = omega (arith, span_size n);
        name = given.name;
      })

      past_end : (p : ℕ) → check_length n (suc last) ≤ p → cell (4 * k + (last + 1) * (n + 1)) n (suc last) 0 ≤ p
      past_end p h = omega (arith, second_end, twice n (suc last))

      past_squares : (p : ℕ) → check_length n (suc last) ≤ p → 4 * k ≤ p
      past_squares p h = omega (arith, twice n (suc last))

      module _ {u : List ℕ} {yes : Bool} where
        pub decided_left : side_number x.side ≡ 1 → DiffersAbove E F ys last x.name.0 v u yes → Decided r ys w u last x yes
        decided_left left differs =
            let d : DiffersAbove (first_by r) (second_by r last) ys last x.name.0 v u yes = rw (first_is, second_is) at differs in
            record {
              long = d.long ∙ prepared.long;
              past = λ p h. d.past p (past_end p h) ∙ prepared.past p (past_squares p h);
              answer = λ sig names formed chosen. d.answer sig (side_number x.side) first_world second_world names formed chosen left;
            }

        pub decided_right : side_number x.side ≡ 2 → DiffersBelow E F ys last x.name.0 v u yes → Decided r ys w u last x yes
        decided_right right differs =
            let d : DiffersBelow (first_by r) (second_by r last) ys last x.name.0 v u yes = rw (first_is, second_is) at differs in
            record {
              long = d.long ∙ prepared.long;
              past = λ p h. d.past p (past_end p h) ∙ prepared.past p (past_squares p h);
              answer = λ sig names formed chosen. d.answer sig (side_number x.side) first_world second_world names formed chosen right;
            }
