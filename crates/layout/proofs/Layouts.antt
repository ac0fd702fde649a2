-- Laws of what a comparison reads.
--   setting_stays                  all stays in its place while marks grow
--   second_apart, below_apart      marks lie behind the inclusions of the second release, and behind these turned
use mathlib.Core.List.{List}
use mathlib.Core.Logic.{inl}
use Prim.Native.Nat.{ℕ, ◌+◌, ◌*◌, ◌≤◌}
use native.Mathlib.Omega.{arith}
use Rattle.marks.specs.declared.Square.{Square}
use Rattle.marks.specs.Squares.{behind, span, Apart, Frame}
use Rattle.marks.specs.Passes.{Grows}
use Rattle.marks.proofs.Squares.{frame_room, frame_area}
use Rattle.marks.proofs.Passes.{grows_frame}
use Rattle.layout.specs.declared.Layout.{Layout}
use Rattle.layout.specs.declared.Given.{Given}
use Rattle.layout.specs.Layouts.{second_square, mark_square, below_square, Areas, Setting}

pub areas_stay : {l : Layout} {q : Square} {w v : List ℕ} → Frame q w v → Areas l w → Areas l v
areas_stay f a = record { first = frame_area f a.first; second = frame_area f a.second; marks = frame_area f a.marks }

pub setting_stays : {Rule : List ℕ → ℕ → ℕ → Type 0} {given : Given} {w v : List ℕ} → Grows Rule (mark_square given.layout) w v → Setting given w → Setting given v
setting_stays grows s =
    let f = grows_frame grows in
    record {
      first = frame_room f s.first;
      second = frame_room f s.second;
      marks = frame_room f s.marks;
      areas = areas_stay f s.areas;
    }

-- marks put later change no inclusion of the second release, nor the turned ones
pub second_apart : (l : Layout) → l.second + 2 * span l.names ≤ l.marks → Apart (second_square l) (mark_square l)
second_apart l h = inl (omega arith)

pub below_apart : (l : Layout) → l.second + 2 * span l.names ≤ l.marks → Apart (below_square l) (mark_square l)
unfolding behind
below_apart l h = inl (omega arith)
