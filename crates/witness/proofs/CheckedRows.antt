-- From the answer about the last row to what the check promises.
--   not_asked, no_row, ill_formed, decides    one law for each answer
--   to_decide, to_check_cleared, rows_checked    what each step asks and gives
--   not_read, not_lent, to_check, checked_as     the promise, where it is refused and where it is not
use mathlib.Core.Path.{◌≡◌, refl, sym, ◌∙◌}
use mathlib.Core.Bool.{Bool, true, false}
use mathlib.Core.List.{List}
use mathlib.Core.Logic.{◌⊎◌, inl, inr}
use Prim.Native.Nat.{ℕ, suc, ◌+◌, ◌-◌, ◌*◌, ◌≤◌}
use native.Mathlib.Omega.{arith}
use native.Mathlib.Numerals.{add-one}
use native.Mathlib.Nat.{mul-div-le}
use borrow.Author.Tests.{ltb-true}
use lib.Dec.{ltb}
use lib.ListN.{length}
use Rattle.std.specs.Prelude.{Ok, Err}
use Rattle.el.specs.Axioms.{Terminology}
use Rattle.el.specs.Concepts.{Concept}
use Rattle.el.specs.Terminologies.{NamesBelow}
use Rattle.el.proofs.Tests.{Tells, never, and_left, not_both}
use Rattle.concept_rows.specs.Rows.{Differs, above, below, Shows}
use Rattle.concept_rows.specs.Lent.{row_at, row_count}
use Rattle.concept_rows.specs.Written.{Formed}
use Rattle.release.specs.Files.{content_of}
use Rattle.release.specs.Readings.{checked}
use Rattle.signature.specs.Bytes.{signature_of}
use Rattle.marks.specs.Memory.{size, Zeroed}
use Rattle.signature.specs.declared.lent.LentSignature.{LentSignature}
use Rattle.row_evaluation.proofs.RowForms.{formed_in}
use Rattle.row_evaluation.proofs.Forming.{roles_few}
use Rattle.row_evaluation.specs.Forms.{AllFormed}
use Rattle.comparison.specs.Compared.{IsLent}
use Rattle.comparison.specs.declared.Releases.{Releases}
use Rattle.comparison.proofs.Pipeline.{given_in}
use Rattle.meanings.specs.declared.Compared.{Compared}
use Rattle.meanings.specs.declared.refusals.CompareRefusal.{CompareRefusal}
use Rattle.meanings.specs.Comparing.{agreed}
use Rattle.meanings.specs.Reading.{AreRead}
use Rattle.meanings.specs.Refusals.{compare_refusal}
use Rattle.meanings.proofs.Promise.{both_agree, both_given, cleared}
use Rattle.witness.specs.declared.asked.Asked.{Asked}
use Rattle.witness.specs.Asked.{IsAsked, NotAsked, signature_in, LastShowsBy}
use Rattle.witness.specs.Lent.{check_length}
use Rattle.witness.specs.Checking.{lent_to_check, judged_to_check, checking, CheckedAs}
use Rattle.witness.specs.Deciding.{ToDecide, Decided, ToCheck, ToCheckCleared, CheckAnswered, RowsChecked}
use Rattle.witness.proofs.Judgements.{CheckLent, check_lent}

pub names_below : (n m : ℕ) (g : List ℕ) → NamesBelow n (signature_of n m g)
names_below n m g x h = ltb-true x n (and_left (ltb x n) _ h)

-- the answers
module _ {g : List ℕ} {r : Releases} {side a : ℕ} {ys w : List ℕ} where
  answer_no : (LastShowsBy g r side a ys (row_count ys) → ⊥) → CheckAnswered g r side a ys w w false
  answer_no none = record { long = refl; past = λ p h. refl; shows = never none }

  pub not_asked : {lent : LentSignature} → IsLent g r lent → NotAsked lent a side → CheckAnswered g r side a ys w w false
  not_asked is none = answer_no (λ l. none.none (rw (is.names, is.bytes) l.shows.chosen) (on_a_side l.shows.differs))
    where
      on_a_side : {t u : Terminology} {c : Concept} → Differs t u side a c → (side ≡ 1) ⊎ (side ≡ 2)
      on_a_side (above i p q) = inl i
      on_a_side (below i p q) = inr i

  pub no_row : {k : ℕ} → k ≡ row_count ys → (1 ≤ k → ⊥) → CheckAnswered g r side a ys w w false
  no_row e none = answer_no (λ l. none (omega (arith, l.is_last)))

  pub ill_formed : {lent : LentSignature} {k : ℕ} {formed : Bool} → IsLent g r lent → k ≡ row_count ys → Tells formed (AllFormed lent ys k) → formed ≡ false → CheckAnswered g r side a ys w w false
  ill_formed is e tells refuted = answer_no (λ l. not_both (tells.complete (rw (is.names, is.roles, is.bytes) (record { at = λ i h. l.shows.formed i (omega (arith, l.is_last)) }))) refuted)

  module _ {lent : LentSignature} {x : Asked} {k last : ℕ} (given : ToCheckCleared g r ys w) (is : IsLent g r lent) (asked : IsAsked lent a side x) (count : k ≡ row_count ys)
      (before : (1 ≤ k) × (last ≡ k - 1)) (formed : AllFormed lent ys k) where
    chosen : (signature_in g r).has_name a ≡ true
    chosen = rw (is.names, is.bytes) at asked.chosen

    is_last : row_count ys ≡ suc last
    is_last = omega arith

    rows_formed : Formed (signature_in g r) (row_at ys) (suc last)
    rows_formed = rw (is.names, is.roles, is.bytes, count, is_last) at formed

    pub to_decide : ToDecide r ys w last x
    unfolding row_count check_length
    to_decide = record {
      both = given.check.given.both;
      rows = omega (arith, mul-div-le (length ys) 3, is_last);
      fit = λ i h. formed_in (roles_few r.names r.roles g r.few_roles) (names_below r.names r.roles g) (rows_formed.at i h);
      room = rw is_last at given.check.room;
      zero = λ p h l. given.zero p (rw is_last l);
      name = rw asked.name (names_below r.names r.roles g a chosen);
    }

    pub decides : {v : List ℕ} {yes : Bool} → Decided r ys w v last x yes → CheckAnswered g r side a ys w v yes
    decides {v} {yes} d =
        let told = rw (asked.name, asked.side_is) at (d.answer (signature_in g r) (names_below r.names r.roles g) rows_formed (rw asked.name chosen)) in
        record {
          long = d.long;
          past = λ p h. d.past p (rw is_last at h);
          shows = record {
            sound = λ h. record { last = last; is_last = is_last; shows = told.sound h };
            complete = λ l. told.complete (by_last l.last (omega (arith, l.is_last, is_last)) l.shows);
          };
        }
      where
        by_last : (j : ℕ) → j ≡ last → Shows (signature_in g r) (content_of r.first.file.now) (content_of r.second.file.now) side a (row_at ys) j
            → Shows (signature_in g r) (content_of r.first.file.now) (content_of r.second.file.now) side a (row_at ys) last
        by_last j e shows = rw (← e) shows

-- in memory that is set to 0 before and after
module _ {g : List ℕ} {r : Releases} {ys w : List ℕ} (given : ToCheck g r ys w) {q k : ℕ} (is : q ≡ 4 * size r.names) (count : k ≡ row_count ys) where
  pub need_is : q + 2 * (r.names + 1) * k ≡ check_length r.names (row_count ys)
  unfolding check_length size
  need_is = rw (is, count, add-one r.names)

  pub need_room : q + 2 * (r.names + 1) * k ≤ length w
  need_room = omega (arith, need_is, given.room)

  module _ {v : List ℕ} (zeroed : Zeroed (q + 2 * (r.names + 1) * k) w v) where
    pub to_check_cleared : ToCheckCleared g r ys v
    to_check_cleared = record {
      check = record { given = given_in zeroed.long given.given; room = omega (arith, given.room, zeroed.long) };
      zero = λ p h. zeroed.zero p (omega (arith, need_is));
    }

    module _ {side a : ℕ} {u : List ℕ} {yes : Bool} (answered : CheckAnswered g r side a ys v u yes) where
      pub again_room : q + 2 * (r.names + 1) * k ≤ length u
      again_room = omega (arith, need_room, answered.long, zeroed.long)

      pub rows_checked : {z : List ℕ} → Zeroed (q + 2 * (r.names + 1) * k) u z → RowsChecked g r side a ys w z yes
      rows_checked after = record {
        answered = record {
          long = after.long ∙ (answered.long ∙ zeroed.long);
          past = λ p h. after.past p (omega (arith, need_is)) ∙ (answered.past p h ∙ zeroed.past p (omega (arith, need_is)));
          shows = answered.shows;
        };
        zero = λ p h. after.zero p (omega (arith, need_is));
      }

-- the promise
module _ {s t : List ℕ} (g : List ℕ) (side a : ℕ) (ys w : List ℕ) where
  refuses : {e : CompareRefusal} → Err (compare_refusal e) ≡ checking s t g (row_count ys) (length w) → CheckedAs s t g side a ys w w (Err e)
  refuses is = record {
    value = false;
    answer = rw (← is) refl;
    refused_work = λ z. refl;
    held = λ z. absurd (cc);
    accepted_work = λ z. absurd (cc);
  }

  pub not_read : {e : CompareRefusal} → Err (compare_refusal e) ≡ agreed (checked s) (checked t) → CheckedAs s t g side a ys w w (Err e)
  unfolding judged_to_check
  not_read is = refuses (rw (← is, judged_to_check) refl)

  module _ {c : Compared} {r : Releases} (read : AreRead s t c r) {k : ℕ} (count : k ≡ row_count ys) where
    pub not_lent : {e : CompareRefusal} → Err (compare_refusal e) ≡ lent_to_check g k (length w) c → CheckedAs s t g side a ys w w (Err e)
    unfolding judged_to_check
    not_lent is = refuses (rw (← count, ← read.counts, judged_to_check) is)

    module _ {d : Compared} (lends : Ok d ≡ lent_to_check g k (length w) c) where
      enough : CheckLent g (row_count ys) (length w) c
      enough = (check_lent g (row_count ys) (length w) c d (rw count at (sym lends))).1

      pub to_check : ToCheck g r ys w
      unfolding check_length
      to_check = record {
        given = record { both = both_given read (omega (arith, enough.work)); signature = rw (read.names, read.roles) enough.signature };
        room = rw read.names enough.work;
      }

      pub checked_as : {v : List ℕ} {yes : Bool} → RowsChecked g r side a ys w v yes → CheckedAs s t g side a ys w v (Ok yes)
      unfolding judged_to_check
      checked_as {v} {yes} done =
          let k = both_agree read in
          let shows = rw (read.names, read.roles, read.first_file, read.second_file) at done.answered.shows in
          let same = rw (k.first_names, k.first_roles) at shows in
          let zero = rw read.names at done.zero in
          let past = rw read.names at done.answered.past in
          let work_is = cleared (check_length c.names (row_count ys)) v w done.answered.long enough.work zero past in
          record {
            value = yes;
            answer = rw (← read.counts, judged_to_check, ← (rw count at lends)) refl;
            refused_work = λ z. absurd (cc);
            held = λ {yes = b} z. let e : yes ≡ b = cc in (λ h. same.sound (e ∙ h), λ l. sym e ∙ same.complete l);
            accepted_work = λ z. rw k.first_names at work_is;
          }
