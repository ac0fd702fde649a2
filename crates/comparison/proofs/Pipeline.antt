-- The four squares one after the other, and the result: what each call asks follows from what the calls before it gave.
--   first_unclassified, second_unclassified, first_area, both_filled     the two classifications, the hints, and what they give together
--   unchanged, room_behind, second_behind, prepared            the second square turned behind its rows: memory that is ready
--   handable, names_long, handed         what finding edges asks, and what is handed on of the signature
--   comparing, comparing_first, forward_asks, forwarded, backward_ready, backward_asks, backwarded, all_marked     the marks
--   readable, marking                              what writing the result bytes asks and gives
--   both_in, given_in, compared, compared_again             what it asks of memory of the same length, and what it gives
use mathlib.Core.Path.{◌≡◌, refl, sym, ap, ◌∙◌}
use mathlib.Core.Bool.{true, false}
use mathlib.Core.List.{List}
use mathlib.Core.Logic.{◌⊎◌, inl, inr}
use Prim.Native.Nat.{ℕ, suc, ◌+◌, ◌*◌, ◌≤◌, ◌<◌}
use native.Mathlib.Nat.{mul-le-mul}
use native.Mathlib.Omega.{arith}
use borrow.Author.Tests.{eqb-true, ltb-true, ltb-false}
use lib.Dec.{eqb, ltb}
use lib.ListN.{length, get_or, take}
use lib.Seq.{ext_get_or, get_or-take, length-take-le}
use Rattle.el.proofs.Tests.{which}
use Rattle.release.specs.Files.{most_names}
use Rattle.release.specs.declared.terminology.Terminology.{Terminology}
use Rattle.signature.specs.Bytes.{signature_fault}
use Rattle.marks.specs.declared.Square.{Square}
use Rattle.marks.specs.Squares.{most_cells, span, place, behind, Room, Area, Unmarked, Touches, Kept, Apart, Frame}
use Rattle.marks.specs.Inclusions.{Turned}
use Rattle.marks.specs.Memory.{size, Zeroed}
use Rattle.marks.proofs.Squares.{span_size, place_from_lem, place_below, touches_further, frame_marked, marked_frame, frame_unmarked, zero_unmarked, zeroed_unmarked}
use Rattle.classification.specs.Inclusions.{Unclassified, Inclusions, Classified}
use Rattle.classification.proofs.AxiomRows.{ranges}
use Rattle.classification.proofs.Meaning.{inclusions_stay}
use Rattle.layout.specs.declared.Layout.{Layout}
use Rattle.layout.specs.declared.Given as layout
use Rattle.layout.specs.declared.edges.Position.{Position}
use Rattle.layout.specs.declared.edges.Position.TheVariants as position
use Rattle.layout.specs.Layouts.{first_square, second_square, mark_square}
use Rattle.layout.specs.Findings.{Handed}
use Rattle.layout.specs.Comparing.{Comparing}
use Rattle.layout.proofs.Comparing.{rowed, setting}
use Rattle.forward.specs.Rules.{Beneath, Setting}
use Rattle.forward.specs.Forward.{ForwardMarked, Forwarded, ForwardFrom}
use Rattle.backward.specs.Backward.{Backwarded, BackwardFrom}
use Rattle.comparison.specs.Bytes.{Readable, Written}
use Rattle.comparison.specs.Compared.{SecondTurned, forward_layout, backward_layout, square_at, Handable, PutBy, BothGiven, Given, BothIncluded, Ready, BackwardReady, Prepared}
use Rattle.comparison.specs.Compared.{AllMarked, ZeroedBetween}
use Rattle.comparison.specs.declared.Releases.{Releases}
use Rattle.comparison.specs.Compared.{Marking, Compared, ComparedAgain}
use Rattle.comparison.proofs.Rows.{two_spans, RowsSame, same_marked, marked_same}
use Rattle.comparison.proofs.Bytes.{is_byte}

pub signature_long : (n m : ℕ) (g : List ℕ) → signature_fault n m g ≡ 0 → n + m ≤ length g
unfolding signature_fault
signature_long n m g h = elim (which (eqb (length g) (n + m))) [ inl e ↦ omega (arith, eqb-true (length g) (n + m) e) | inr e ↦ absurd (omega (arith, rw e at h)) ]

pub names_long : {g : List ℕ} {r : Releases} → Handable g r → r.names ≤ length (take r.names g)
names_long {g} {r} h = omega (arith, length-take-le r.names g (omega (arith, signature_long r.names r.roles g h.signature)))

forward_stays : {g s t : List ℕ} {l : Layout} {q : Square} {w v : List ℕ} → Frame q w v → Apart (mark_square l) q → ForwardMarked g s t l w → ForwardMarked g s t l v
forward_stays f d m = record { sound = λ x y h k e. m.sound x y h k (marked_frame f d h k e); kept = λ x y h k e. m.kept x y h k (λ z. e (frame_marked f d h k z)) }

-- a square is small, as its places are numbers of the machine
size_cells : (n : ℕ) → n ≤ most_names → size n ≤ most_cells
unfolding size
size_cells n h = mul-le-mul {n₁ = suc n} {m₁ = suc n} {n₂ = 4096} {m₂ = 4096} (omega arith) (omega arith)

-- hints behind the first square
module _ {r : Releases} {w v u : List ℕ} (b : BothIncluded r w v) (kept : Kept (square_at r.names 0) v u) where
  after : (base : ℕ) → size r.names ≤ base → RowsSame (square_at r.names base) v u
  after base h = record { byte = λ i l f. kept.extends.frame.past i (omega arith) }

  both_kept : BothIncluded r w u
  both_kept = record {
    long = kept.extends.frame.long ∙ b.long;
    past = λ i h. kept.extends.frame.past i (omega arith) ∙ b.past i h;
    first = record { sound = λ x y h l m. b.first.sound x y h l (kept.marks x y h l m); complete = λ x y h l p. kept.extends.stays x y (b.first.complete x y h l p) };
    second = record {
      sound = λ x y h l m. b.second.sound x y h l (marked_same (after (size r.names) (omega arith)) h l m);
      complete = λ x y h l p. same_marked (after (size r.names) (omega arith)) h l (b.second.complete x y h l p);
    };
    zero = λ i h l. kept.extends.frame.past i (omega arith) ∙ b.zero i h l;
  }

-- the second square turned behind its rows
pub unchanged : {r : Releases} {w : List ℕ} → r.names < 1 → SecondTurned r w w
unchanged h = record { long = refl; before = λ i l. refl; past = λ i l. refl; turned = λ l. absurd (omega arith) }

pub below_apart : (q : Square) {p : Square} → p ≡ behind q 1 → (q.names ≡ p.names) × (q.base + span q.names ≤ p.base)
unfolding behind
below_apart q is = (rw is refl, rw is (omega arith))

module _ (r : Releases) {w : List ℕ} (long : 4 * size r.names ≤ length w) (some : 0 < r.names) where
  second_area : Area (square_at r.names (size r.names)) w
  second_area = record {
    room = record { small = record { few = omega (arith, r.few); near = omega (arith, size_cells r.names r.few) }; fits = omega (arith, span_size r.names) };
    lent = omega arith;
    near = omega (arith, size_cells r.names r.few);
  }

  module _ {p : Square} (is : p ≡ behind (square_at r.names (size r.names)) 1) where
    below_room : Room p w
    unfolding behind
    below_room = rw is (record { small = record { few = omega (arith, r.few); near = omega (arith, size_cells r.names r.few, two_spans r.names some) }; fits = omega (arith, two_spans r.names some) })

    turned_second : {w1 w2 : List ℕ} → Touches p w w1 → Touches p w1 w2 → Turned (square_at r.names (size r.names)) w2 p w2 → SecondTurned r w w2
    unfolding behind
    turned_second {w1} {w2} c t turned =
        let all = touches_further c t in
        let base : p.base ≡ size r.names + 1 * span r.names = ap (λ (q : Square). q.base) is in
        let names : p.names ≡ r.names = ap (λ (q : Square). q.names) is in
        let rows : span p.names ≡ span r.names = ap span names in
        record {
          long = all.long;
          before = λ i l. all.before i (omega (arith, base));
          past = λ i l. all.past i (omega (arith, base, rows, two_spans r.names some));
          turned = λ l. rw is at turned;
        }

-- so it is of the second square as the layout gives it
module _ (r : Releases) {l : Layout} {q : Square} (laid : l ≡ forward_layout r) (second : q ≡ second_square l) where
  pub room_turned : {w : List ℕ} → 4 * size r.names ≤ length w → 0 < r.names → Room q w
  room_turned long some = rw (second, laid) (second_area r long some).room

  module _ {p : Square} (is : p ≡ behind q 1) where
    behind_second : p ≡ behind (square_at r.names (size r.names)) 1
    behind_second = rw (second, laid) at is

    module _ {w : List ℕ} (long : 4 * size r.names ≤ length w) (some : 0 < r.names) where
      pub room_behind : Room p w
      room_behind = below_room r long some behind_second

      pub second_behind : {w1 w2 : List ℕ} → Touches p w w1 → Touches p w1 w2 → Turned q w2 p w2 → SecondTurned r w w2
      second_behind c t turned = turned_second r long some behind_second c t (rw (second, laid) at turned)

module _ {r : Releases} {w v u : List ℕ} (b : BothIncluded r w v) (turn : SecondTurned r v u) where
  still : (base : ℕ) → base ≤ size r.names → RowsSame (square_at r.names base) v u
  still base h = record { byte = λ i l f. turn.before i (omega arith) }

  pub prepared : Prepared r w u
  prepared = record {
    long = turn.long ∙ b.long;
    past = λ i h. turn.past i (omega arith) ∙ b.past i h;
    ready = record {
      first = record {
        sound = λ x y h l m. b.first.sound x y h l (marked_same (still 0 (omega arith)) h l m);
        complete = λ x y h l p. same_marked (still 0 (omega arith)) h l (b.first.complete x y h l p);
      };
      second = record {
        sound = λ x y h l m. b.second.sound x y h l (marked_same (still (size r.names) (omega arith)) h l m);
        complete = λ x y h l p. same_marked (still (size r.names) (omega arith)) h l (b.second.complete x y h l p);
      };
      turned = turn.turned;
      zero = λ i h l. turn.past i h ∙ b.zero i h l;
    };
  }

-- the files that are compared, by another name
of_files : {s t s' t' : List ℕ} {h : layout.Given} {w : List ℕ} → s' ≡ s → t' ≡ t → Comparing s t h w → Comparing s' t' h w
of_files e f c = rw (e, f) c

-- two releases, and memory for the four squares
module _ {r : Releases} {w : List ℕ} (both : BothGiven r w) where
  abbrev s : List ℕ
  s = r.first.file.now

  abbrev t : List ℕ
  t = r.second.file.now

  abbrev n : ℕ
  n = r.names

  abbrev k : ℕ
  k = size n

  pub small : k ≤ most_cells
  small = size_cells n r.few

  pub room_at : (base : ℕ) → base ≤ 3 * k → (v : List ℕ) → length v ≡ length w → Room (square_at n base) v
  room_at base h v long = record { small = record { few = omega (arith, r.few); near = omega (arith, small) }; fits = omega (arith, span_size n, both.room) }

  pub area_at : (base : ℕ) → base ≤ 3 * k → (v : List ℕ) → length v ≡ length w → Area (square_at n base) v
  area_at base h v long = record { room = room_at base h v long; lent = omega (arith, both.room); near = omega (arith, small) }

  -- inclusions
  module _ {w1 : List ℕ} (z : Zeroed (4 * k) w w1) where
    unmarked_at : (base : ℕ) → base ≤ 3 * k → Unmarked (square_at n base) w1
    unmarked_at base h = zeroed_unmarked z (omega (arith, span_size n))

    first_asks : Unclassified s r.first.table.now (square_at n 0) w1
    first_asks = record { release = both.first; names = both.first_names; area = area_at 0 (omega arith) w1 z.long; unmarked = unmarked_at 0 (omega arith) }

    module _ {w2 : List ℕ} (c : Classified s (square_at n 0) w1 w2) where
      second_asks : Unclassified t r.second.table.now (square_at n k) w2
      second_asks = record {
        release = both.second;
        names = both.second_names;
        area = area_at k (omega arith) w2 (c.frame.long ∙ z.long);
        unmarked = frame_unmarked c.frame (inr (omega (arith, span_size n))) (unmarked_at k (omega arith));
      }

      module _ {w3 : List ℕ} (d : Classified t (square_at n k) w2 w3) where
        both_included : BothIncluded r w w3
        both_included = record {
          long = d.frame.long ∙ (c.frame.long ∙ z.long);
          past = λ i h. d.frame.past i (omega (arith, span_size n)) ∙ (c.frame.past i (omega (arith, span_size n)) ∙ z.past i h);
          first = inclusions_stay d.frame (inl (omega (arith, span_size n))) c.inclusions;
          second = d.inclusions;
          zero = λ i h l. d.frame.past i (omega arith) ∙ (c.frame.past i (omega arith) ∙ z.zero i l);
        }

  -- the same of squares as the layout gives them, and of memory as it was cleared
  module _ {l : Layout} {p q : Square} (laid : l ≡ forward_layout r) (at_first : p ≡ first_square l) (at_second : q ≡ second_square l)
      {z : ℕ} {w1 : List ℕ} (all : z ≡ 4 * k) (cleared : Zeroed z w w1) where
    zeroed : Zeroed (4 * k) w w1
    zeroed = rw all at cleared

    pub first_unclassified : Unclassified s r.first.table.now p w1
    first_unclassified = rw (at_first, laid) (first_asks zeroed)

    module _ {w2 : List ℕ} (c : Classified s p w1 w2) where
      first_classified : Classified s (square_at n 0) w1 w2
      first_classified = rw (at_first, laid) at c

      pub second_unclassified : Unclassified t r.second.table.now q w2
      second_unclassified = rw (at_second, laid) (second_asks zeroed first_classified)

      module _ {w3 : List ℕ} (d : Classified t q w2 w3) where
        both_classified : BothIncluded r w w3
        both_classified = both_included zeroed first_classified (rw (at_second, laid) at d)

        pub first_area : Area p w3
        first_area = rw (at_first, laid) (area_at 0 (omega arith) w3 both_classified.long)

        pub both_filled : {w4 : List ℕ} → Kept p w3 w4 → BothIncluded r w w4
        both_filled kept = both_kept both_classified (rw (at_first, laid) at kept)

  -- the square of marks lies at a base, behind those of the inclusions
  abbrev layout_at : ℕ → Layout
  layout_at base = record { names = n; roles = r.roles; first = 0; second = k; marks = base; few = r.few }

  -- what is handed on of the signature
  pub handable : {g : List ℕ} → signature_fault n r.roles g ≡ 0 → Handable g r
  handable accepted = record { first = rowed (ranges both.first both.first_names); second = rowed (ranges both.second both.second_names); signature = accepted }

  module _ {p : Position} {g : List ℕ} {base : ℕ} {h : layout.Given} (by : PutBy p g r (layout_at base) h) where
    pub handed : Handed p g h
    handed = record { same_names = λ x i. rw by.names (get_or-take n g x 0 (rw by.layout at i)); found = rw (by.layout, by.first, by.second) by.found }

    pub comparing : 2 * k ≤ base → base ≤ 3 * k → {v : List ℕ} → length v ≡ length w → Inclusions s (square_at n 0) v → Inclusions t (square_at n k) v → Unmarked (square_at n base) v
        → Comparing s t h v
    comparing behind inside {v} long first second free = record {
      first_release = rw by.first both.first;
      second_release = rw by.second both.second;
      first_names = rw by.layout both.first_names;
      second_names = rw by.layout both.second_names;
      first_room = rw by.layout (room_at 0 (omega arith) v long);
      second_room = rw by.layout (room_at k (omega arith) v long);
      room = rw by.layout (room_at base inside v long);
      areas = rw by.layout (record { first = area_at 0 (omega arith) v long; second = area_at k (omega arith) v long; marks = area_at base inside v long });
      first_inclusions = rw by.layout first;
      second_inclusions = rw by.layout second;
      unmarked = rw by.layout free;
      first_apart = rw by.layout (omega (arith, span_size n));
      second_apart = rw by.layout (omega (arith, span_size n));
    }

  -- marks
  module _ (ready : Ready r w) where
    unmarked : (base : ℕ) → 2 * k ≤ base → base ≤ 3 * k → Unmarked (square_at n base) w
    unmarked base h l = record {
      none = λ x y i j m. zero_unmarked
          (ready.zero (place (square_at n base) x y) (omega (arith, place_from_lem (square_at n base) x y)) (omega (arith, place_below (square_at n base) x y i j, span_size n))) m;
    }

    forward_below : 1 ≤ n → Beneath (forward_layout r) w
    forward_below some = record { room = below_room r (omega (arith, both.room)) some refl; turned = ready.turned some; apart = omega (arith, two_spans n some) }

    pub comparing_first : {p : Position} {g : List ℕ} {h : layout.Given} → PutBy p g r (forward_layout r) h → Comparing s t h w
    comparing_first by = comparing by (omega arith) (omega arith) refl ready.first ready.second (unmarked (2 * k) (omega arith) (omega arith))

    module _ {g : List ℕ} {h : layout.Given} (by : PutBy position.Above g r (forward_layout r) h) where
      pub forward_asks : Setting h w
      forward_asks = record { places = setting (comparing_first by); below = rw by.layout forward_below }

      pub forwarded : {v : List ℕ} → ForwardFrom h w v → Forwarded g s t (forward_layout r) w v
      forwarded f = rw by.layout at (f.of_releases g s t (handed by) (comparing_first by))

    pub backward_ready : {g v : List ℕ} → Forwarded g s t (forward_layout r) w v → BackwardReady r v
    backward_ready forth = record {
      first = inclusions_stay forth.frame (inl (omega (arith, span_size n))) ready.first;
      second = inclusions_stay forth.frame (inl (omega (arith, span_size n))) ready.second;
      free = frame_unmarked forth.frame (inr (omega (arith, span_size n))) (unmarked (3 * k) (omega arith) (omega arith));
    }

  module _ (ready : BackwardReady r w) {g : List ℕ} {h : layout.Given} (by : PutBy position.Below g r (backward_layout r) h) where
    pub backward_asks : Comparing h.first.file.now h.second.file.now h w
    backward_asks = of_files (ap (λ (x : Terminology). x.file.now) by.first) (ap (λ (x : Terminology). x.file.now) by.second)
        (comparing by (omega arith) (omega arith) refl ready.first ready.second ready.free)

    pub backwarded : {v : List ℕ} → BackwardFrom h w v → Backwarded g s t (backward_layout r) w v
    backwarded b = rw (by.layout, by.first, by.second) at (b.of_signature g (handed by))

  pub all_marked : {g u v : List ℕ} → Forwarded g s t (forward_layout r) w u → Backwarded g s t (backward_layout r) u v → AllMarked g r w v
  all_marked forth back = record {
    long = back.frame.long ∙ forth.frame.long;
    before = λ j h. back.frame.before j (omega arith) ∙ forth.frame.before j h;
    past = λ j h. back.frame.past j (omega (arith, span_size n)) ∙ forth.frame.past j (omega (arith, span_size n));
    forward = forward_stays back.frame (inl (omega (arith, span_size n))) forth.marked;
    backward = back.marked;
  }

  -- the result
  module _ {g v : List ℕ} (marked : AllMarked g r w v) where
    pub readable : signature_fault n r.roles g ≡ 0 → Readable g (forward_layout r) (backward_layout r) v
    readable accepted = record {
      signature = signature_long n r.roles g accepted;
      same_names = refl;
      forward = room_at (2 * k) (omega arith) v marked.long;
      backward = room_at (3 * k) (omega arith) v marked.long;
    }

    pub marking : {o p : List ℕ} → Written g (forward_layout r) (backward_layout r) v n o p → Marking g r o p w v
    marking written = record {
      reported = record { long = written.long; byte = λ c h. is_byte refl refl h marked.forward marked.backward (written.byte c h); rest = written.past };
      long = marked.long;
      before = marked.before;
      past = marked.past;
    }

-- what a comparison asks of memory is its length
pub both_in : {r : Releases} {w v : List ℕ} → length v ≡ length w → BothGiven r w → BothGiven r v
both_in long both = record { first = both.first; second = both.second; first_names = both.first_names; second_names = both.second_names; room = omega (arith, both.room) }

pub given_in : {g : List ℕ} {r : Releases} {w v : List ℕ} → length v ≡ length w → Given g r w → Given g r v
given_in long given = record { both = both_in long given.both; signature = given.signature }

-- what the comparison gives
module _ {g : List ℕ} {r : Releases} {o p w v : List ℕ} where
  pub compared : {w1 u : List ℕ} → Prepared r w w1 → Marking g r o p w1 v → Zeroed (4 * size r.names) v u → Compared g r o p w u
  compared ready marks cleared = record {
    reported = marks.reported;
    zero = λ i h. cleared.zero i (omega arith);
    past = λ i h. cleared.past i (omega arith) ∙ (marks.past i (omega arith) ∙ ready.past i (omega arith));
  }

  pub compared_again : {u : List ℕ} → Ready r w → Marking g r o p w v → ZeroedBetween (2 * size r.names) (4 * size r.names) v u → ComparedAgain g r o p w u
  compared_again {u} ready marks unmarks = record
      { reported = marks.reported; same = ext_get_or 0 u w (unmarks.long ∙ marks.long) (λ i l. by_place i (which (ltb i (2 * size r.names))) (which (ltb i (4 * size r.names)))) }
    where
      by_place : (i : ℕ) → (ltb i (2 * size r.names) ≡ true) ⊎ (ltb i (2 * size r.names) ≡ false) → (ltb i (4 * size r.names) ≡ true) ⊎ (ltb i (4 * size r.names) ≡ false) → get_or u i 0 ≡ get_or w i 0
      by_place i (inl h) _ = let l = ltb-true i (2 * size r.names) h in unmarks.before i l ∙ marks.before i l
      by_place i (inr h) (inl j) = let l = ltb-false i (2 * size r.names) h in let f = ltb-true i (4 * size r.names) j in unmarks.zero i l f ∙ sym (ready.zero i l f)
      by_place i (inr h) (inr j) = let l = ltb-false i (4 * size r.names) j in unmarks.past i l ∙ marks.past i l
