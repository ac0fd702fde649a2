-- Bytes moved and cleared, and what the squares mean where they are now.
--   Moved, moved                    bytes copied
--   span_fits, twice_span           the rows of two squares fit into one square
--   arranged_is                     all together
--   to_write, reported              writing in memory that is arranged
use mathlib.Core.Path.{◌≡◌, refl, ap, ◌∙◌}
use mathlib.Core.List.{List}
use Prim.Native.Nat.{ℕ, ◌+◌, ◌*◌, ◌-◌, ◌/◌, ◌≤◌, ◌<◌}
use native.Mathlib.Omega.{arith}
use native.Mathlib.Numerals.{add-one}
use native.Mathlib.Nat.{mul-le-mul}
use lib.ListN.{length, get_or}
use Rattle.std.specs.List.{CopiedTo, SameBelow, SameFrom}
use Rattle.marks.specs.Squares.{width, span, place}
use Rattle.marks.specs.Memory.{size}
use Rattle.marks.proofs.Squares.{place_below}
use Rattle.classification.specs.Inclusions.{Inclusions}
use Rattle.layout.specs.declared.Layout.{Layout}
use Rattle.layout.specs.declared.Given.{Given}
use Rattle.layout.specs.declared.edges.Position.TheVariants.{Below}
use Rattle.layout.specs.Findings.{Handed}
use Rattle.row_evaluation.specs.Worlds.{World}
use Rattle.witness_above.proofs.Rooms.{right_room}
use Rattle.witness_below.specs.Whole.{ToWriteArranged, ArrangedWritten}
use Rattle.witness_below.proofs.Numbering.{square_few}
use Rattle.witness_below.specs.Arranging.{ClearedBetween, ToArrange, Arranged, ToWriteRight, RightWritten}

-- bytes moved: k of them from the place `from` on are copied to the place `to`, and all else is as before
pub record Moved (from to k : ℕ) (w v : List ℕ) : Type 0 where
  pub long : length v ≡ length w
  pub there : (i : ℕ) → i < k → get_or v (to + i) 0 ≡ get_or w (from + i) 0
  pub before : (p : ℕ) → p < to → get_or v p 0 ≡ get_or w p 0
  pub past : (p : ℕ) → to + k ≤ p → get_or v p 0 ≡ get_or w p 0

pub moved : {from to k : ℕ} {w v : List ℕ} → length v ≡ length w → CopiedTo w v from to (from + k - from) × SameBelow w v to × SameFrom w v (to + (from + k - from)) → Moved from to k w v
moved {from} {to} {k} {w} long by_index = record {
  long = long;
  there = λ i h. (let e : from + (to + i - to) ≡ from + i = omega arith in by_index.0 (to + i) 0 (omega arith) (omega arith) ∙ ap (λ p. get_or w p 0) e);
  before = λ p h. by_index.1 p 0 h;
  past = λ p h. by_index.2 p 0 (omega arith);
}

-- rows of squares
pub span_fits : (n : ℕ) → n ≤ 1023 → (n + 1) * (n / 8 + 1) ≤ 1048576
span_fits n h = mul-le-mul {n₂ = 1024} {m₂ = 1024} (omega arith) (omega arith)

pub span_is : (n : ℕ) → (n + 1) * (n / 8 + 1) ≡ span n
unfolding span width
span_is n = rw add-one refl

pub twice_span : {n : ℕ} {w : List ℕ} → ToArrange n w → 2 * span n ≤ size n
twice_span {n} asks = omega (arith, right_room n asks.some)

module _ {n k r : ℕ} {w : List ℕ} (asks : ToArrange n w) (is_span : r ≡ span n) (is_size : k ≡ size n) where
  pub arranged_is : {v u : List ℕ} → Moved k r r w v → ClearedBetween (2 * r) (2 * r + 3 * k) v u → Arranged n w u r
  arranged_is moved cleared = record {
    is = is_span;
    long = cleared.long ∙ moved.long;
    first = λ p h. cleared.before p (omega arith) ∙ moved.before p (omega arith);
    second = λ i h. rw (← is_span, ← is_size) (cleared.before (r + i) (omega arith) ∙ moved.there i (omega arith));
    zero = λ p h l. cleared.zero p (omega arith) (omega arith);
    past = λ p h. cleared.past p (omega (arith, right_room n asks.some)) ∙ moved.past p (omega (arith, right_room n asks.some));
  }

-- the inclusions of a release at another place
moved_inclusions : {s : List ℕ} {n i j : ℕ} {w v : List ℕ} → ((p : ℕ) → p < span n → get_or v (j + p) 0 ≡ get_or w (i + p) 0) → Inclusions s (record { base = i; names = n }) w
    → Inclusions s (record { base = j; names = n }) v
unfolding place
moved_inclusions {s} {n} {i} {j} {w} {v} same inclusions = record {
  sound = λ x y h l m. inclusions.sound x y h l (record { is = rw (← same_byte x y h l) m.is });
  complete = λ x y h l p. let m = inclusions.complete x y h l p in record { is = rw (same_byte x y h l) m.is };
}
  where
    same_byte : (x y : ℕ) → x ≤ n → y ≤ n → get_or v (place (record { base = j; names = n }) x y) 0 ≡ get_or w (place (record { base = i; names = n }) x y) 0
    same_byte x y h l = same (x * width n + y / 8) (omega (arith, place_below (record { base = 0; names = n }) x y h l))

-- writing in memory that is arranged
module _ {given : Given} {x : ℕ} {ys ps w : List ℕ} (asks : ToWriteRight given x ys ps w) where
  abbrev n : ℕ
  n = given.layout.names

  pub arrange_asks : ToArrange n w
  arrange_asks = record { some = omega (arith, asks.name); few = given.layout.few; room = asks.room }

  module _ {r : ℕ} {v : List ℕ} (arranged : Arranged n w v r) where
    pub span_small : r ≤ 1048576
    unfolding size
    span_small = omega (arith, arranged.is, twice_span arrange_asks, square_few n given.layout.few)

    -- the layout that the squares have now
    abbrev laid : n ≤ 1023 → Layout
    laid few = record { names = n; roles = given.layout.roles; first = 0; second = r; marks = 2 * r; few = few }

    first_world : World given.first.file.now given.first.table.now (record { base = 0; names = n }) v
    unfolding size
    first_world =
        let near = twice_span arrange_asks in
        let small = square_few n given.layout.few in
        record {
          release = asks.comparing.first_release;
          names = asks.comparing.first_names;
          room = record { small = record { few = omega (arith, given.layout.few); near = omega arith }; fits = omega (arith, asks.room, arranged.long) };
          inclusions = moved_inclusions (λ p h. let z : 0 + p ≡ p = omega arith in rw z (arranged.first p h)) (rw asks.first_at at asks.comparing.first_inclusions);
        }

    second_world : World given.second.file.now given.second.table.now (record { base = r; names = n }) v
    unfolding size
    second_world =
        let near = twice_span arrange_asks in
        let small = square_few n given.layout.few in
        record {
          release = asks.comparing.second_release;
          names = asks.comparing.second_names;
          room = record { small = record { few = omega (arith, given.layout.few); near = omega (arith, arranged.is) }; fits = omega (arith, asks.room, arranged.long, arranged.is) };
          inclusions = rw arranged.is (moved_inclusions arranged.second (rw asks.second_at at asks.comparing.second_inclusions));
        }

    -- what is given, with that layout
    module _ {here : Given} {few : n ≤ 1023} (names : here.chosen_names ≡ given.chosen_names) (edges : here.edges ≡ given.edges) (first : here.first ≡ given.first)
        (second : here.second ≡ given.second) (layout : here.layout ≡ laid few) where
      pub to_write : ToWriteArranged here x ys ps v
      unfolding size
      to_write =
          let room = right_room n (omega (arith, asks.name)) in
          let small = square_few n given.layout.few in
          record {
            ready = record {
              first_world = rw (layout, first) first_world;
              second_world = rw (layout, second) second_world;
              first_apart = rw layout (omega (arith, arranged.is));
              second_apart = rw layout (omega (arith, arranged.is));
              cells = record { inside = rw layout (omega (arith, asks.room, arranged.long, arranged.is)) };
            };
            rows = rw layout asks.rows;
            numbers = rw layout asks.numbers;
            name = rw layout asks.name;
            zero = λ p h l. arranged.zero p (omega (arith, rw layout at h, arranged.is)) (omega (arith, rw layout at l, arranged.is));
          }

      handed_here : {g : List ℕ} → Handed Below g given → Handed Below g here
      handed_here handed = record { same_names = rw (names, layout) handed.same_names; found = rw (edges, first, second, layout) handed.found }

      pub reported : {zs u : List ℕ} {k : ℕ} → ArrangedWritten here x ys zs v u k → RightWritten given x ys zs w u k
      unfolding size
      reported written = record {
        few = rw layout at written.few;
        long = written.long ∙ arranged.long;
        rows_long = written.rows_long;
        beyond = λ p h. written.beyond p (rw layout (omega (arith, right_room n (omega (arith, asks.name)), arranged.is))) ∙ arranged.past p h;
        past = written.past;
        shows = record { of_signature = λ g handed. rw (layout, first, second) at (written.shows.of_signature g (handed_here handed)) };
      }
