-- Whether the last row lies below a name by the first release and not by the second, by the bytes of both.
use mathlib.Core.Path.{◌≡◌, refl, sym, ◌∙◌}
use mathlib.Core.Bool.{Bool, true, false, not}
use mathlib.Core.List.{List}
use Prim.Native.Nat.{ℕ, suc, ◌+◌, ◌<◌}
use native.Mathlib.Omega.{arith}
use native.Mathlib.Numerals.{add-one}
use lib.ListN.{length, get_or}
use Rattle.el.specs.Concepts.{name}
use Rattle.el.specs.Derivability.{Derives}
use Rattle.el.specs.Signatures.{Signature}
use Rattle.el.proofs.Tests.{Tells, always, never}
use Rattle.el.specs.Terminologies.{NamesBelow}
use Rattle.concept_rows.specs.Rows.{concept_of_row, above, below, Shows}
use Rattle.concept_rows.specs.Lent.{row_at}
use Rattle.concept_rows.specs.Written.{Formed}
use Rattle.marks.proofs.Squares.{refuted}
use Rattle.classification.proofs.Nodes.{at_name}
use Rattle.row_evaluation.specs.Cells.{cell, RowRoom, Told}
use Rattle.row_evaluation.specs.declared.Evaluation.{Evaluation}
use Rattle.row_evaluation.specs.Worlds.{WorldOf, content_in}
use Rattle.row_evaluation.specs.Above.{BlankAbove, AboveFilled, RowBelow, NameAbove}
use Rattle.row_evaluation.specs.Differing.{ToDifferBelow, DiffersBelow}
use Rattle.row_evaluation.proofs.RowBytes.{cell_base, cell_next, cell_earlier, room_same}
use Rattle.row_evaluation.proofs.StayingAbove.{upward_after}
use Rattle.row_evaluation.proofs.Worlds.{world_after}
use Rattle.row_evaluation.proofs.AboveRows.{row_below_sound, row_below_complete}

pub blank_above_one : {E : Evaluation} {ys : List ℕ} {last : ℕ} {w : List ℕ} → BlankAbove E ys (suc last) w → BlankAbove E ys (last + 1) w
blank_above_one {last = last} blank = rw (add-one last) blank

filled_above_one : {E : Evaluation} {ys : List ℕ} {last : ℕ} {w v : List ℕ} → AboveFilled E ys (last + 1) w v → AboveFilled E ys (suc last) w v
filled_above_one {last = last} filled = rw (add-one last) at filled

last_room : {E : Evaluation} {ys : List ℕ} {last : ℕ} {w : List ℕ} → BlankAbove E ys (suc last) w → RowRoom E.base E.square.names last w
last_room {E = E} {last = last} blank = record { inside = omega (arith, blank.inside, cell_next E.base E.square.names last); few = blank.upward.few }

-- the same bytes tell the same
told_same : {M : ℕ → ℕ → Type 0} {n base k : ℕ} {w v : List ℕ} → ((p : ℕ) → p < cell base n k 0 → get_or v p 0 ≡ get_or w p 0) → Told M n w base k → Told M n v base k
told_same {n = n} {base = base} {k = k} same told = record {
  sound = λ j x h l m. told.sound j x h l (record { is = sym (same (cell base n j x) (cell_earlier base n k j x h l)) ∙ m.is });
  complete = λ j x h l m. record { is = same (cell base n j x) (cell_earlier base n k j x h l) ∙ (told.complete j x h l m).is };
}

module _ {first second : Evaluation} {ys : List ℕ} {last x : ℕ} {w v : List ℕ} (given : ToDifferBelow first second ys last x w)
    (one' : AboveFilled first ys (last + 1) w v) where
  one : AboveFilled first ys (suc last) w v
  one = filled_above_one one'

  pub second_asks : BlankAbove second ys (last + 1) v
  second_asks = blank_above_one (record {
    upward = upward_after one.long given.second_blank.upward;
    rows = given.second_blank.rows;
    fit = given.second_blank.fit;
    inside = omega (arith, given.second_blank.inside, one.long);
    zero = λ p l h. one.past p (omega (arith, given.behind)) ∙ given.second_blank.zero p l h;
  })

  module _ {u : List ℕ} (two' : AboveFilled second ys (last + 1) v u) where
    two : AboveFilled second ys (suc last) v u
    two = filled_above_one two'

    pub long : length u ≡ length w
    long = two.long ∙ one.long

    pub first_room : RowRoom first.base first.square.names last u
    first_room = room_same long (last_room given.first_blank)

    pub second_room : RowRoom second.base second.square.names last u
    second_room = room_same long (last_room given.second_blank)

    before_all : (p : ℕ) → p < first.base → get_or u p 0 ≡ get_or w p 0
    before_all p l = two.before p (omega (arith, given.behind, cell_base first.base first.square.names (suc last) 0)) ∙ one.before p l

    module _ {sig : Signature} (first_world : WorldOf first w) (second_world : WorldOf second w) (names_in : NamesBelow first.square.names sig)
        (formed : Formed sig (row_at ys) (suc last)) where
      first_here : WorldOf first u
      first_here = world_after given.first_blank.upward.apart long before_all first_world

      first_told : Told (NameAbove first ys) first.square.names u first.base (suc last)
      first_told = told_same (λ p l. two.before p (omega (arith, given.behind))) (one.told sig first_world names_in formed)

      first_sound : RowBelow first u last x → Derives (content_in first) (concept_of_row (row_at ys) last) (name x)
      first_sound h = rw (at_name first.square.names x given.name) at (row_below_sound first_here ys first_told last (omega arith) h)

      first_complete : Derives (content_in first) (concept_of_row (row_at ys) last) (name x) → RowBelow first u last x
      first_complete d = row_below_complete first_here ys first_told last (omega arith) x (omega (arith, given.name)) (rw (at_name first.square.names x given.name) d)

      names_second : NamesBelow second.square.names sig
      names_second y h = omega (arith, names_in y h, given.same_names)

      second_in : x < second.square.names
      second_in = omega (arith, given.name, given.same_names)

      second_here : WorldOf second u
      second_here = world_after given.second_apart long before_all second_world

      second_told : Told (NameAbove second ys) second.square.names u second.base (suc last)
      second_told = two.told sig (world_after given.second_apart one.long one.before second_world) names_second formed

      second_sound : RowBelow second u last x → Derives (content_in second) (concept_of_row (row_at ys) last) (name x)
      second_sound h = rw (at_name second.square.names x second_in) at (row_below_sound second_here ys second_told last (omega arith) h)

      second_complete : Derives (content_in second) (concept_of_row (row_at ys) last) (name x) → RowBelow second u last x
      second_complete d = row_below_complete second_here ys second_told last (omega arith) x (omega (arith, second_in)) (rw (at_name second.square.names x second_in) d)

    module _ {r : Bool} (tells : Tells r (RowBelow first u last x)) where
      differs : {z : Bool} → ((sig : Signature) (side : ℕ) → WorldOf first w → WorldOf second w → NamesBelow first.square.names sig → Formed sig (row_at ys) (suc last)
          → sig.has_name x ≡ true → side ≡ 2 → Tells z (Shows sig (content_in first) (content_in second) side x (row_at ys) last)) → DiffersBelow first second ys last x w u z
      differs answer = record {
        long = long;
        before = before_all;
        past = λ p l. two.past p l ∙ one.past p (omega (arith, given.behind, cell_base second.base second.square.names (suc last) 0));
        answer = answer;
      }

      pub not_first : r ≡ false → DiffersBelow first second ys last x w u r
      not_first e = rw e (differs (λ sig side f g names_in formed chosen is. never
          (λ shows. elim shows.differs [ above i p q ↦ omega arith | below i p q ↦ refuted tells e (first_complete f g names_in formed p) ])))

      module _ {q : Bool} (second_tells : Tells q (RowBelow second u last x)) (yes_first : r ≡ true) where
        also_second : q ≡ true → DiffersBelow first second ys last x w u false
        also_second e = differs (λ sig side f g names_in formed chosen is. never
            (λ shows. elim shows.differs [ above i p q ↦ omega arith | below i p q ↦ q (second_sound f g names_in formed (second_tells.sound e)) ]))

        only_first : q ≡ false → DiffersBelow first second ys last x w u true
        only_first e = differs (λ sig side f g names_in formed chosen is. always
            (record {
              chosen = chosen;
              formed = λ j h. formed.at j (omega arith);
              differs = below is (first_sound f g names_in formed (tells.sound yes_first))
                  (λ d. refuted second_tells e (second_complete f g names_in formed d));
            }))

      pub by_second : {q : Bool} → Tells q (RowBelow second u last x) → r ≡ true → DiffersBelow first second ys last x w u (not q)
      by_second {q = true} second_tells yes_first = also_second second_tells yes_first refl
      by_second {q = false} second_tells yes_first = only_first second_tells yes_first refl
