-- What the square holds when nothing is left to mark.
--   defined_sound, name_sound, below_sound     what each rule marks is lost
--   backwarded                                 what computing backward marks gives
use mathlib.Core.Path.{◌≡◌, refl, sym, ◌∙◌}
use mathlib.Core.Bool.{true, false, false≢true}
use mathlib.Core.List.{List}
use mathlib.Core.Logic.{◌⊎◌, inl, inr}
use Prim.Native.Nat.{ℕ, ◌≤◌, ◌<◌}
use native.Mathlib.Omega.{arith}
use Rattle.el.specs.Concepts.{name, Node}
use Rattle.el.specs.Derivability.{Derives, same}
use Rattle.el.specs.Answers.{Column}
use Rattle.el.specs.Terminologies.{IsNode}
use Rattle.el.proofs.Tests.{which}
use Rattle.el.proofs.Derivations.{◌▹◌}
use Rattle.el.proofs.Nodes.{IsColumn}
use Rattle.el.proofs.BackwardMarks.{LostBelow, backward_sound, below_kept}
use Rattle.el.proofs.BackwardMarks as el
use Rattle.release.specs.Files.{content_of}
use Rattle.release.specs.Entries.{node_number}
use Rattle.marks.specs.Squares.{Marked, Frame}
use Rattle.marks.specs.Passes.{Grows, Closed, AllGood}
use Rattle.marks.proofs.Passes.{grows_frame, grows_good, unmarked_good}
use Rattle.classification.specs.Inclusions.{node_at}
use Rattle.classification.proofs.Nodes.{at_name, at_node, number_at, at_number, number_small}
use Rattle.layout.specs.declared.Given.{Given}
use Rattle.layout.specs.declared.Layout.{Layout}
use Rattle.classification.proofs.Meaning.{inclusions_stay}
use Rattle.layout.specs.Layouts.{second_square, mark_square, chosen}
use Rattle.layout.specs.declared.edges.Position.TheVariants as position
use Rattle.layout.specs.Findings.{Handed}
use Rattle.layout.specs.Comparing.{Comparing}
use Rattle.layout.proofs.Findings.{name_handed}
use Rattle.layout.proofs.Comparing.{chosen_below, comparable, first_table_by, second_table_by}
use Rattle.backward.specs.Rules.{NameLost, Defined, by_definition, by_name, FromBelow, Step, by_own, by_below, Quiet}
use Rattle.backward.specs.Backward.{column_at, Backwarded}
use Rattle.backward.proofs.Columns.{column_last, column_name, last_or_name, column_in, by_column, says_column, column_marked}
use Rattle.backward.proofs.Bridge.{step_backward, rows_closed}

module _ {given : Given} {g w v : List ℕ} (handed : Handed position.Below g given) (c : Comparing given.first.file.now given.second.file.now given w)
    (closed : Closed (Step given) (mark_square given.layout) (Quiet given) w v) where
  abbrev s : List ℕ
  s = given.first.file.now

  abbrev t : List ℕ
  t = given.second.file.now

  abbrev l : Layout
  l = given.layout

  abbrev n : ℕ
  n = l.names

  abbrev Means : ℕ → ℕ → Type 0
  Means x y = LostBelow (chosen l g) (content_of s) (content_of t) (node_at n x) (column_at n y)

  module _ {u : List ℕ} {x y : ℕ} (frame : Frame (mark_square l) w u) (x_in : x ≤ n) (y_in : y ≤ n) where
    defined_sound : AllGood (mark_square given.layout) Means u → Defined given u x y → Means x y
    defined_sound good step = backward_sound (comparable c g) (first_table_by c frame) (second_table_by c frame) (says_column (mark_square l) u) good_said (node_at n x)
        (column_at n y) (at_node n x x_in) (column_in n y y_in) (step_backward handed c u x_in y_in step)
      where
        good_said : (p : Node) (q : Column) → IsNode n p → IsColumn n q → says_column (mark_square l) u p q ≡ true → LostBelow (chosen l g) (content_of s) (content_of t) p q
        good_said p q i j h = elim (by_column n q j) [
          | inl e ↦ absurd (false≢true (rw e at h))
          | inr k ↦ rw (at_number n p i, k.is) at (good.good (node_number n p) k.number (number_small n p i) k.small (column_marked p refl k.small (rw (← k.is) at h)))
        ]

    -- a name is below itself
    name_sound : NameLost given u x y → Means x y
    name_sound p = rw (at_name n x x_name) (record { it = name x; over = over; by_first = same; not_second = not_below (last_or_name n y y_in) p.not_second })
      where
        over : (chosen l g).has_name x ≡ true
        over = sym (name_handed handed x) ∙ p.chosen_name

        x_name : x < n
        x_name = chosen_below l g x over

        second : (y < n) → Derives (content_of t) (name x) (name y) → Marked (second_square l) u x y
        second h d = (inclusions_stay frame (inl c.second_apart) c.second_inclusions).complete x y x_in y_in (rw (at_name n x x_name, at_name n y h) d)

        not_below : (y ≡ n) ⊎ (y < n) → (y ≡ n) ⊎ (Marked (second_square l) u x y → ⊥) → el.Below (content_of t) (name x) (column_at n y) → ⊥
        not_below (inl e) k d = rw (column_last n y e) at d
        not_below (inr h) (inl e) d = omega arith
        not_below (inr h) (inr k) d = k (second h (rw (column_name n y h) at d))

    -- and what is below something is below all that lies above it
    below_sound : AllGood (mark_square l) Means u → FromBelow l u x y → Means x y
    below_sound good p =
        let lost = good.good p.lower y p.small y_in p.marked in
        let above = (inclusions_stay frame (inl c.first_apart) c.first_inclusions).sound p.lower x p.small x_in p.first in
        record { it = lost.it; over = lost.over; by_first = lost.by_first ▹ above; not_second = lost.not_second }

  step_sound : (u : List ℕ) (x y : ℕ) → Grows (Step given) (mark_square given.layout) w u → AllGood (mark_square given.layout) Means u → x ≤ n → y ≤ n → Step given u x y → Means x y
  step_sound u x y grows good x_in y_in (by_own (by_definition p)) = defined_sound (grows_frame grows) x_in y_in good p
  step_sound u x y grows good x_in y_in (by_own (by_name p)) = name_sound (grows_frame grows) x_in y_in p
  step_sound u x y grows good x_in y_in (by_below p) = below_sound (grows_frame grows) x_in y_in good p

  unsaid : (x y : ℕ) → x ≤ n → y ≤ n → (Marked (mark_square l) v x y → ⊥) → says_column (mark_square l) v (node_at n x) (column_at n y) ≡ false
  unsaid x y x_in y_in k = elim (which (says_column (mark_square l) v (node_at n x) (column_at n y))) [ inl z ↦ absurd (k (column_marked (node_at n x) (number_at n x x_in) y_in z)) | inr z ↦ z ]

  pub backwarded : Backwarded g s t l w v
  backwarded =
      let frame = grows_frame closed.grows in
      record {
        frame = frame;
        marked = record {
          sound = (grows_good step_sound (unmarked_good c.unmarked) closed.grows).good;
          kept = λ x y x_in y_in k d over p. below_kept (comparable c g) (first_table_by c frame) (second_table_by c frame) (says_column (mark_square l) v)
              (λ o q i j rule. rows_closed handed c v closed.done o i q j rule) d over (node_at n x) (column_at n y) (at_node n x x_in) (column_in n y y_in)
              (unsaid x y x_in y_in k) p;
        };
      }
