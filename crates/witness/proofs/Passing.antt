-- Every concept that the station writes passes the check.
--   shown_written    what was written where the station answers a number of rows
--   few_rows         how many rows that can be
--   passing          a check that is lent just the rows written, and enough memory for them, is not refused and says yes
use mathlib.Core.Path.{◌≡◌, refl, ◌∙◌}
use mathlib.Core.Bool.{Bool, true}
use mathlib.Core.List.{List}
use Prim.Native.Nat.{ℕ, suc, ◌+◌, ◌*◌, ◌≤◌}
use native.Mathlib.Omega.{arith}
use native.Mathlib.Nat.{mul-div_cancel_left, mul-div-le}
use lib.ListN.{length, take, get_or}
use lib.Seq.{get_or-take, length-take-le}
use Rattle.std.specs.Prelude.{Result, Ok, Err}
use Rattle.el.specs.Signatures.{Signature}
use Rattle.el.specs.Axioms.{Terminology}
use Rattle.concept_rows.specs.Rows.{Rows, Shows}
use Rattle.concept_rows.specs.Lent.{row_at, row_count, rows_needed}
use Rattle.concept_rows.specs.Written.{Formed, Agree}
use Rattle.concept_rows.proofs.Rows.{same_concept}
use Rattle.release.specs.Files.{names_of}
use Rattle.release.specs.Refusals.{Numbers}
use Rattle.meanings.specs.declared.Compared.{Compared}
use Rattle.meanings.specs.declared.refusals.CompareRefusal.{CompareRefusal}
use Rattle.meanings.specs.Refusals.{compare_refusal}
use Rattle.meanings.proofs.Judging.{told_value}
use Rattle.meanings.proofs.Promise.{few_counts}
use Rattle.witness.specs.Lent.{check_length, most_rows_needed, answered}
use Rattle.witness.specs.Showing.{showing, RowsWritten, ShownAs}
use Rattle.witness.specs.Checking.{CheckedAs}
use Rattle.witness.proofs.Judgements.{show_known, check_again, rows_few}

-- rows that agree show the same
agreeing_shows : {sig : Signature} {t u : Terminology} {side a i : ℕ} {rows seen : Rows} → Agree rows seen (suc i) → Shows sig t u side a rows i → Shows sig t u side a seen i
agreeing_shows {sig} {i = i} {rows = rows} agree shows =
    let formed : Formed sig rows (suc i) = record { at = λ j h. shows.formed j (omega arith) } in
    record {
      chosen = shows.chosen;
      formed = λ j h. rw (← agree.at j (omega arith)) (shows.formed j h);
      differs = rw (← same_concept formed agree i (omega arith)) shows.differs;
    }

count_fits : (ys : List ℕ) → 3 * row_count ys ≤ length ys
unfolding row_count
count_fits ys = omega (arith, mul-div-le (length ys) 3)

taken_count : (k : ℕ) (zs : List ℕ) → 3 * k ≤ length zs → row_count (take (3 * k) zs) ≡ k
unfolding row_count
taken_count k zs h =
    let long : length (take (3 * k) zs) ≡ 3 * k = length-take-le (3 * k) zs h in
    rw long (mul-div_cancel_left k (omega arith))

taken_row : (k : ℕ) (zs : List ℕ) → Agree (row_at zs) (row_at (take (3 * k) zs)) k
unfolding row_at
taken_row k zs = record {
  at = λ i h.
      let a : get_or (take (3 * k) zs) (3 * i) 0 ≡ get_or zs (3 * i) 0 = get_or-take (3 * k) zs (3 * i) 0 (omega arith) in
      let b : get_or (take (3 * k) zs) (3 * i + 1) 0 ≡ get_or zs (3 * i + 1) 0 = get_or-take (3 * k) zs (3 * i + 1) 0 (omega arith) in
      let c : get_or (take (3 * k) zs) (3 * i + 2) 0 ≡ get_or zs (3 * i + 2) 0 = get_or-take (3 * k) zs (3 * i + 2) 0 (omega arith) in
      rw (a, b, c);
}

-- an answer that is a value was not refused
accepted : {A : Type 0} (d : Result Compared Numbers) (a b : A) → Ok a ≡ answered d b → (c : Compared) × (d ≡ Ok c)
accepted (Ok c) a b is = (c, refl)
accepted (Err k) a b is = absurd (cc)

pub record Accepting (s t g : List ℕ) (side a : ℕ) (ys zs w : List ℕ) (k : ℕ) : Type 0 where
  pub counts : Compared
  pub accepted : showing s t g (row_count ys) (length w) ≡ Ok counts
  pub written : RowsWritten s t g side a ys zs k

pub shown_written : {s t g : List ℕ} {side a k : ℕ} {ys zs w v : List ℕ} → ShownAs s t g side a ys zs w v (Ok k) → Accepting s t g side a ys zs w k
shown_written {s} {t} {g} {k = k} {ys = ys} {w = w} shown =
    let c = accepted (showing s t g (row_count ys) (length w)) k shown.count shown.answer in
    record { counts = c.0; accepted = c.1; written = shown.accepted_rows refl }

pub few_rows : {s t g : List ℕ} {side a k : ℕ} {ys zs w v : List ℕ} → ShownAs s t g side a ys zs w v (Ok k) → k ≤ most_rows_needed
few_rows {s} {t} {g} {ys = ys} {w = w} shown =
    let so = shown_written shown in
    let known = show_known s t g (row_count ys) (length w) so.counts so.accepted in
    omega (arith, so.written.few, rows_few (names_of s) (omega (arith, (few_counts known.0).0, known.0.first_names)))

-- of the two calls' own promises: k rows were written, at least one; a check is lent just their numbers, and memory that is enough
pub passing : {s t g : List ℕ} {side a k : ℕ} {ys zs w v : List ℕ} → ShownAs s t g side a ys zs w v (Ok k) → 1 ≤ k → {w' v' : List ℕ} {r : Result Bool CompareRefusal}
    → check_length (names_of s) k ≤ length w' → CheckedAs s t g side a (take (3 * k) zs) w' v' r → r ≡ Ok true
passing {s} {t} {g} {side} {a} {k} {ys} {zs} {w} shown some {w'} {r = r} enough check =
    let so = shown_written shown in
    let l = so.written.shows some in
    let known = show_known s t g (row_count ys) (length w) so.counts so.accepted in
    let lent : rows_needed (names_of s) ≤ row_count ys = rw known.0.first_names at known.1.rows in
    let inside : 3 * k ≤ length zs = omega (arith, so.written.few, so.written.long, count_fits ys) in
    let count : row_count (take (3 * k) zs) ≡ k = taken_count k zs inside in
    let agree : Agree (row_at zs) (row_at (take (3 * k) zs)) (suc l.last) = record { at = λ i h. (taken_row k zs).at i (omega (arith, l.is_last)) } in
    let again = check_again s t g (row_count ys) (length w) so.accepted (row_count (take (3 * k) zs)) (length w') (rw (count, known.0.first_names) enough) in
    let answers : r ≡ Ok check.value = told_value compare_refusal r check.value (check.answer ∙ rw again refl) in
    let yes : check.value ≡ true = (check.held answers).1 (record { last = l.last; is_last = count ∙ l.is_last; shows = agreeing_shows agree l.shows }) in
    answers ∙ rw yes refl
