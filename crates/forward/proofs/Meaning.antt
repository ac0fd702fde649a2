-- What the square holds when no row has anything left to mark.
--   forwarded      what computing forward marks gives
use mathlib.Core.Path.{◌≡◌, refl}
use mathlib.Core.Bool.{true, false}
use mathlib.Core.List.{List}
use mathlib.Core.Logic.{inl, inr}
use Prim.Native.Nat.{ℕ, suc, ◌≤◌}
use Rattle.el.specs.Concepts.{Node}
use Rattle.el.proofs.Tests.{which}
use Rattle.el.specs.Derivability.{same}
use Rattle.el.specs.Terminologies.{IsNode}
use Rattle.el.proofs.Derivations.{◌▹◌}
use Rattle.el.proofs.ForwardMarks.{LostAbove, forward_sound, above_kept}
use Rattle.release.specs.Files.{content_of}
use Rattle.release.specs.Entries.{node_number}
use Rattle.marks.specs.Squares.{Marked, Frame}
use Rattle.marks.specs.Passes.{Grows, Closed, Below, AllGood}
use Rattle.marks.proofs.Passes.{grows_frame, grows_good, unmarked_good}
use Rattle.classification.specs.Inclusions.{node_at, says, Inclusions}
use Rattle.classification.proofs.Meaning.{inclusions_stay}
use Rattle.classification.proofs.Nodes.{at_node, number_at, at_number, number_small, marked}
use Rattle.layout.specs.declared.Layout.{Layout}
use Rattle.layout.specs.declared.Given.{Given}
use Rattle.layout.specs.declared.edges.Position.TheVariants.{Above}
use Rattle.layout.specs.Layouts.{first_square, mark_square, chosen}
use Rattle.layout.specs.Findings.{Handed}
use Rattle.layout.specs.Comparing.{Comparing}
use Rattle.layout.proofs.Comparing.{comparable, first_table_by, second_table_by}
use Rattle.forward.specs.Rules.{Step, by_itself, by_above, Row}
use Rattle.forward.specs.Forward.{Forwarded}
use Rattle.forward.proofs.Bridge.{own_forward, rows_closed}

module _ {g s t : List ℕ} {given : Given} {w v : List ℕ} (handed : Handed Above g given) (c : Comparing s t given w)
    (closed : Closed (Step given) (mark_square given.layout) (Below (Row given) (suc given.layout.names)) w v) where
  abbrev l : Layout
  l = given.layout

  abbrev n : ℕ
  n = l.names

  abbrev Means : ℕ → ℕ → Type 0
  Means x y = LostAbove (chosen l g) (content_of s) (content_of t) (node_at n x) (node_at n y)

  module _ (u : List ℕ) (x y : ℕ) (grows : Grows (Step given) (mark_square l) w u) (good : AllGood (mark_square l) Means u) (x_in : x ≤ n) (y_in : y ≤ n) where
    abbrev frame : Frame (mark_square l) w u
    frame = grows_frame grows

    inclusions : Inclusions s (first_square l) u
    inclusions = inclusions_stay frame (inl c.first_apart) c.first_inclusions

    good_said : (p q : Node) → IsNode n p → IsNode n q → says (mark_square l) u p q ≡ true → LostAbove (chosen l g) (content_of s) (content_of t) p q
    good_said p q i j h = rw (at_number n p i, at_number n q j) at (good.good (node_number n p) (node_number n q) (number_small n p i) (number_small n q j) (marked p q refl refl h))

    step_sound : Step given u x y → Means x y
    step_sound (by_itself o) = forward_sound (comparable c g) (first_table_by c frame) (second_table_by c frame) (says (mark_square l) u) good_said (node_at n x) (node_at n y)
        (at_node n x x_in) (at_node n y y_in) (own_forward handed c u x_in y_in (inclusions.complete x x x_in x_in same) o)
    step_sound (by_above f) =
        let lost = good.good f.it y f.inside y_in f.lost in
        record { it = lost.it; over = lost.over; by_first = inclusions.sound x f.it x_in f.inside (f.first (inl c.first_apart)) ▹ lost.by_first; not_second = lost.not_second }

  unsaid : (x y : ℕ) → x ≤ n → y ≤ n → (Marked (mark_square l) v x y → ⊥) → says (mark_square l) v (node_at n x) (node_at n y) ≡ false
  unsaid x y x_in y_in k = elim (which (says (mark_square l) v (node_at n x) (node_at n y)))
      [ inl z ↦ absurd (k (marked (node_at n x) (node_at n y) (number_at n x x_in) (number_at n y y_in) z)) | inr z ↦ z ]

  pub forwarded : Forwarded g s t l w v
  forwarded =
      let frame = grows_frame closed.grows in
      record {
        frame = frame;
        marked = record {
          sound = (grows_good step_sound (unmarked_good c.unmarked) closed.grows).good;
          kept = λ x y x_in y_in k d over p. above_kept (comparable c g) (first_table_by c frame) (second_table_by c frame) (says (mark_square l) v)
              (λ o q i j rule. rows_closed handed c v closed.done o q i j rule) d over (node_at n x) (node_at n y) (at_node n x x_in) (at_node n y y_in) (unsaid x y x_in y_in k)
              p;
        };
      }
