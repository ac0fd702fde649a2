-- Whether the last row lies above a name by the first release and not by the second, by the bytes of both.
use mathlib.Core.Path.{◌≡◌, refl, sym, ◌∙◌}
use mathlib.Core.Bool.{Bool, true, false, not}
use mathlib.Core.List.{List}
use Prim.Native.Nat.{ℕ, suc, ◌+◌, ◌<◌}
use native.Mathlib.Omega.{arith}
use native.Mathlib.Numerals.{add-one}
use lib.ListN.{length, get_or}
use Rattle.el.specs.Concepts.{name}
use Rattle.el.specs.Derivability.{Derives}
use Rattle.el.specs.Signatures.{Signature}
use Rattle.el.proofs.Tests.{Tells, always, never}
use Rattle.el.specs.Terminologies.{NamesBelow}
use Rattle.concept_rows.specs.Rows.{concept_of_row, above, below, Shows}
use Rattle.concept_rows.specs.Lent.{row_at}
use Rattle.concept_rows.specs.Written.{Formed}
use Rattle.marks.proofs.Squares.{refuted}
use Rattle.classification.proofs.Nodes.{at_name}
use Rattle.row_evaluation.specs.Cells.{cell, Holds, RowRoom}
use Rattle.row_evaluation.specs.declared.Evaluation.{Evaluation}
use Rattle.row_evaluation.specs.Worlds.{WorldOf, content_in}
use Rattle.row_evaluation.specs.Below.{BlankBelow, BelowFilled}
use Rattle.row_evaluation.specs.Differing.{ToDifferAbove, DiffersAbove}
use Rattle.row_evaluation.proofs.RowBytes.{cell_base, cell_next, cell_earlier, room_same}
use Rattle.row_evaluation.proofs.Putting.{setting_after}
use Rattle.row_evaluation.proofs.Worlds.{world_after}

pub blank_one : {E : Evaluation} {ys : List ℕ} {last : ℕ} {w : List ℕ} → BlankBelow E ys (suc last) w → BlankBelow E ys (last + 1) w
blank_one {last = last} blank = rw (add-one last) blank

filled_one : {E : Evaluation} {ys : List ℕ} {last : ℕ} {w v : List ℕ} → BelowFilled E ys (last + 1) w v → BelowFilled E ys (suc last) w v
filled_one {last = last} filled = rw (add-one last) at filled

last_room : {E : Evaluation} {ys : List ℕ} {last : ℕ} {w : List ℕ} → BlankBelow E ys (suc last) w → RowRoom E.base E.square.names last w
last_room {E = E} {last = last} blank = record { inside = omega (arith, blank.inside, cell_next E.base E.square.names last); few = blank.setting.few }

module _ {first second : Evaluation} {ys : List ℕ} {last x : ℕ} {w v : List ℕ} (given : ToDifferAbove first second ys last x w)
    (one' : BelowFilled first ys (last + 1) w v) where
  one : BelowFilled first ys (suc last) w v
  one = filled_one one'

  -- the second release's bytes are still 0
  pub second_asks : BlankBelow second ys (last + 1) v
  second_asks = blank_one (record {
    setting = setting_after one.long given.second_blank.setting;
    rows = given.second_blank.rows;
    fit = given.second_blank.fit;
    inside = omega (arith, given.second_blank.inside, one.long);
    zero = λ p l h. one.past p (omega (arith, given.behind)) ∙ given.second_blank.zero p l h;
  })

  module _ {u : List ℕ} (two' : BelowFilled second ys (last + 1) v u) where
    two : BelowFilled second ys (suc last) v u
    two = filled_one two'

    pub long : length u ≡ length w
    long = two.long ∙ one.long

    pub first_room : RowRoom first.base first.square.names last u
    first_room = room_same long (last_room given.first_blank)

    pub second_room : RowRoom second.base second.square.names last u
    second_room = room_same long (last_room given.second_blank)

    -- the first release's bytes are as they were filled
    same_cell : get_or u (cell first.base first.square.names last x) 0 ≡ get_or v (cell first.base first.square.names last x) 0
    same_cell = two.before (cell first.base first.square.names last x) (omega (
      arith,
      given.behind,
      cell_earlier first.base first.square.names (suc last) last x (omega arith) (omega (arith, given.name)),
    ))

    module _ {sig : Signature} (first_world : WorldOf first w) (second_world : WorldOf second w) (names_in : NamesBelow first.square.names sig)
        (formed : Formed sig (row_at ys) (suc last)) where
      first_sound : Holds u first.base first.square.names last x → Derives (content_in first) (name x) (concept_of_row (row_at ys) last)
      first_sound h = rw (at_name first.square.names x given.name) at ((one.told sig first_world names_in formed).sound last x (omega arith) (omega (arith, given.name))
          (record { is = sym same_cell ∙ h.is }))

      first_complete : Derives (content_in first) (name x) (concept_of_row (row_at ys) last) → Holds u first.base first.square.names last x
      first_complete d = let h = (one.told sig first_world names_in formed).complete last x (omega arith) (omega (arith, given.name))
          (rw (at_name first.square.names x given.name) d) in record { is = same_cell ∙ h.is }

      there : WorldOf second v
      there = world_after given.second_apart one.long one.before second_world

      names_second : NamesBelow second.square.names sig
      names_second y h = omega (arith, names_in y h, given.same_names)

      second_in : x < second.square.names
      second_in = omega (arith, given.name, given.same_names)

      second_sound : Holds u second.base second.square.names last x → Derives (content_in second) (name x) (concept_of_row (row_at ys) last)
      second_sound h = rw (at_name second.square.names x second_in) at ((two.told sig there names_second formed).sound last x (omega arith) (omega (arith, second_in)) h)

      second_complete : Derives (content_in second) (name x) (concept_of_row (row_at ys) last) → Holds u second.base second.square.names last x
      second_complete d = (two.told sig there names_second formed).complete last x (omega arith) (omega (arith, second_in)) (rw (at_name second.square.names x second_in) d)

    module _ {r : Bool} (tells : Tells r (Holds u first.base first.square.names last x)) where
      differs : {z : Bool} → ((sig : Signature) (side : ℕ) → WorldOf first w → WorldOf second w → NamesBelow first.square.names sig → Formed sig (row_at ys) (suc last)
          → sig.has_name x ≡ true → side ≡ 1 → Tells z (Shows sig (content_in first) (content_in second) side x (row_at ys) last)) → DiffersAbove first second ys last x w u z
      differs answer = record {
        long = long;
        before = λ p l. two.before p (omega (arith, given.behind, cell_base first.base first.square.names (suc last) 0)) ∙ one.before p l;
        past = λ p l. two.past p l ∙ one.past p (omega (arith, given.behind, cell_base second.base second.square.names (suc last) 0));
        answer = answer;
      }

      pub not_first : r ≡ false → DiffersAbove first second ys last x w u r
      not_first e = rw e (differs (λ sig side f g names_in formed chosen is. never
          (λ shows. elim shows.differs [ above i p q ↦ refuted tells e (first_complete f g names_in formed p) | below i p q ↦ omega arith ])))

      module _ {q : Bool} (second_tells : Tells q (Holds u second.base second.square.names last x)) (yes_first : r ≡ true) where
        also_second : q ≡ true → DiffersAbove first second ys last x w u false
        also_second e = differs (λ sig side f g names_in formed chosen is. never
            (λ shows. elim shows.differs [ above i p q ↦ q (second_sound f g names_in formed (second_tells.sound e)) | below i p q ↦ omega arith ]))

        only_first : q ≡ false → DiffersAbove first second ys last x w u true
        only_first e = differs (λ sig side f g names_in formed chosen is. always
            (record {
              chosen = chosen;
              formed = λ j h. formed.at j (omega arith);
              differs = above is (first_sound f g names_in formed (tells.sound yes_first))
                  (λ d. refuted second_tells e (second_complete f g names_in formed d));
            }))

      pub by_second : {q : Bool} → Tells q (Holds u second.base second.square.names last x) → r ≡ true → DiffersAbove first second ys last x w u (not q)
      by_second {q = true} second_tells yes_first = also_second second_tells yes_first refl
      by_second {q = false} second_tells yes_first = only_first second_tells yes_first refl
