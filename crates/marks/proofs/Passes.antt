-- Laws of passes, for every rule.
--   grows_further, marks_stay, grows_frame, room_stays     what growth keeps
--   grows_good                                             if the rule allows only what is good, all marks stay good
--   put_pass, put_grows                                    a mark that the rule allows is a pass;  grows_as, pass_by: by another rule
--   pass_as, pass_with                                     what is done said otherwise; the latter knows that nothing changed
--   due_there, due_not, due_as                             a mark that is there, that is not allowed, that a test tells of
--   pass_found, pass_next                                  a pass that ends with its first part that changed something
--   pass_changed, pass_unchanged                           two passes, by whether the second changed anything
--   turn_both, turn_skipped                                the same for a turn of a loop; turns_none, turns_to, turns_end: no turn
--   pass_closed                                            a pass that changed nothing ends the passes
--   put_new, absorb_pass                                   a mark that was not there is new; such a mark, and then the whole row
--   passes_left, pass_less                                  passes end: one that finds something leaves fewer bits unset, and one that finds nothing is the last
-- Not here: laws of single cells (Squares).
use mathlib.Core.Path.{◌≡◌, refl, ◌∙◌}
use mathlib.Core.Bool.{Bool, true, false, ◌||◌}
use mathlib.Core.List.{List}
use mathlib.Core.Logic.{inl, inr}
use Prim.Native.Nat.{ℕ, ◌+◌, ◌*◌, ◌/◌, ◌≤◌, ◌<◌}
use lib.ListN.{get_or}
use native.Mathlib.Omega.{arith}
use native.Mathlib.Decide.{ℕ_discrete, dec_lt}
use Rattle.el.proofs.Tests.{Tells}
use Rattle.el.specs.Lists.{pick}
use Rattle.marks.specs.declared.Square.{Square}
use Rattle.marks.specs.Squares.{place, Room, Marked, Unmarked, Frame, Put, Kept, unset}
use Rattle.marks.specs.Passes.{Grows, none, more, Pass, Closed, Below, Due, AllGood, FromRow}
use Rattle.marks.proofs.Squares.{not_true, not_false, refuted, frame_same, frame_further, frame_room, hand_byte}
use Rattle.marks.proofs.Bits.{or_at}

-- what a loop over an index has finished
module _ {D : ℕ → List ℕ → Type 0} {w : List ℕ} where
  pub below_none : Below D 0 w
  below_none = record { at = λ i h. absurd (omega arith) }

  pub below_more : {k : ℕ} → Below D k w → D k w → Below D (k + 1) w
  below_more {k} b d = record { at = λ i h. by_place i h (ℕ_discrete i k) }
    where
      by_place : (i : ℕ) → i < k + 1 → Dec (i ≡ k) → D i w
      by_place i h (yes e) = rw e d
      by_place i h (no e) = b.at i (omega arith)

  pub below_end : {k n : ℕ} → n ≤ k → Below D k w → Below D n w
  below_end h b = record { at = λ i l. b.at i (omega arith) }

-- whether a mark is to be put
module _ {A M : Type 0} where
  pub due_there : M → Due false A M
  due_there m = record { allowed = λ e. not_false e; settled = λ e a. m }

  pub due_not : (A → ⊥) → Due false A M
  due_not f = record { allowed = λ e. not_false e; settled = λ e a. absurd (f a) }

  pub due_as : {r : Bool} → Tells r A → Due r A M
  due_as t = record { allowed = t.sound; settled = λ e a. absurd (refuted t e a) }

pub unmarked_good : {q : Square} {Good : ℕ → ℕ → Type 0} {w : List ℕ} → Unmarked q w → AllGood q Good w
unmarked_good u = record { good = λ x y h l m. absurd (u.none x y h l m) }

module _ {Rule : List ℕ → ℕ → ℕ → Type 0} {q : Square} where
  -- growth
  pub grows_further : {u w v : List ℕ} → Grows Rule q u w → Grows Rule q w v → Grows Rule q u v
  grows_further g none = g
  grows_further g (more t u h e f) = more t u (grows_further g h) e f

  pub unset_falls : {w v : List ℕ} → Grows Rule q w v → unset v ≤ unset w
  unset_falls none = omega arith
  unset_falls (more t u h e f) = omega (arith, unset_falls h, e.fewer)

  pub grows_frame : {w v : List ℕ} → Grows Rule q w v → Frame q w v
  grows_frame none = frame_same
  grows_frame (more t u h e f) = frame_further (grows_frame h) e.frame

  pub room_stays : {w v : List ℕ} → Grows Rule q w v → Room q w → Room q v
  room_stays g r = frame_room (grows_frame g) r

  pub marks_stay : {w v : List ℕ} {x y : ℕ} → Grows Rule q w v → Marked q w x y → Marked q v x y
  marks_stay none m = m
  marks_stay (more t u h e f) m = e.stays _ _ (marks_stay h m)

  pub grows_good : {Good : ℕ → ℕ → Type 0} {w v : List ℕ} → ((u : List ℕ) (x y : ℕ) → Grows Rule q w u → AllGood q Good u → x ≤ q.names → y ≤ q.names → Rule u x y → Good x y)
      → AllGood q Good w → Grows Rule q w v → AllGood q Good v
  grows_good keeps good none = good
  grows_good keeps good (more t u h e f) =
      let before = grows_good keeps good h in
      record { good = λ x y i j m. elim (f x y i j m) [ inl k ↦ before.good x y i j k | inr r ↦ keeps t x y h before i j r ] }

  -- one pass
  pub pass_none : {Done : List ℕ → Type 0} {w : List ℕ} → Done w → Pass Rule q Done w w false
  pass_none d = record { grows = none; fewer = λ e. not_false e; same = λ e. refl; done = λ e. d }

  pub pass_still : {Done : List ℕ → Type 0} {w v : List ℕ} → v ≡ w → Done v → Pass Rule q Done w v false
  pass_still e d = record { grows = rw e none; fewer = λ k. not_false k; same = λ k. e; done = λ k. d }

  pub pass_with : {D E : List ℕ → Type 0} {w v : List ℕ} {r : Bool} → (v ≡ w → D v → E v) → Pass Rule q D w v r → Pass Rule q E w v r
  pass_with f p = record { grows = p.grows; fewer = p.fewer; same = p.same; done = λ e. f (p.same e) (p.done e) }

  pub pass_as : {D E : List ℕ → Type 0} {w v : List ℕ} {r : Bool} → (D v → E v) → Pass Rule q D w v r → Pass Rule q E w v r
  pass_as f p = pass_with (λ e. f) p

  pub put_grows : {x y : ℕ} {w v : List ℕ} {r : Bool} → Put q x y w v r → Rule w x y → Grows Rule q w v
  put_grows {w = w} {v = v} p e = more w v none p.extends (λ a b i j m. elim (p.only a b i j m) [ inl k ↦ inl k | inr k ↦ inr (rw (k.0, k.1) e) ])

  pub kept_grows : {w v : List ℕ} → Kept q w v → Grows Rule q w v
  kept_grows {w} {v} k = more w v none k.extends (λ a b i j m. inl (k.marks a b i j m))

  pub put_pass : {x y : ℕ} {w v : List ℕ} {r : Bool} → Put q x y w v r → Rule w x y → Pass Rule q (λ u. Marked q u x y) w v r
  put_pass p e = record { grows = put_grows p e; fewer = p.less; same = p.same; done = λ k. p.there }

  -- two passes: the second changed something, or nothing
  pub pass_changed : {D E F : List ℕ → Type 0} {u w v : List ℕ} {r t : Bool} → Pass Rule q D u w r → Pass Rule q E w v t → t ≡ true → Pass Rule q F u v true
  pass_changed p s e = record {
    grows = grows_further p.grows s.grows;
    fewer = λ k. omega (arith, s.fewer e, unset_falls p.grows);
    same = λ k. not_true k;
    done = λ k. not_true k;
  }

  pub pass_unchanged : {D E F : List ℕ → Type 0} {u w v : List ℕ} {r t : Bool} → (D v → E v → F v) → Pass Rule q D u w r → Pass Rule q E w v t → t ≡ false → Pass Rule q F u v r
  pass_unchanged f p s e = record {
    grows = grows_further p.grows s.grows;
    fewer = λ k. rw (s.same e) (p.fewer k);
    same = λ k. s.same e ∙ p.same k;
    done = λ k. f (rw (s.same e) (p.done k)) (s.done e);
  }

  -- whatever the two changed
  pub pass_both : {D E F : List ℕ → Type 0} {u w v : List ℕ} {r t : Bool} → (D v → E v → F v) → Pass Rule q D u w r → Pass Rule q E w v t → Pass Rule q F u v (r || t)
  pass_both {r = true} {t = true} f p s = pass_changed p s refl
  pass_both {r = true} {t = false} f p s = pass_unchanged f p s refl
  pass_both {r = false} {t = true} f p s = pass_changed p s refl
  pass_both {r = false} {t = false} f p s = pass_unchanged f p s refl

  -- a pass that ends with its first part that changed something: such a part, and what comes after one that did not
  pub pass_found : {D E : List ℕ → Type 0} {w v : List ℕ} {r : Bool} → Pass Rule q D w v r → r ≡ true → Pass Rule q E w v true
  pass_found p e = record { grows = p.grows; fewer = λ k. p.fewer e; same = λ k. not_true k; done = λ k. not_true k }

  pub pass_next : {D E F : List ℕ → Type 0} {u w v : List ℕ} {r t : Bool} → (D v → E v → F v) → Pass Rule q D u w r → r ≡ false → Pass Rule q E w v t → Pass Rule q F u v t
  pass_next {r = true} f p e s = not_true e
  pass_next {r = false} f p e s = pass_both f p s

  -- turns of a loop
  pub turns_none : {D : ℕ → List ℕ → Type 0} {w : List ℕ} → Pass Rule q (Below D 0) w w false
  turns_none = pass_none below_none

  module _ {D : ℕ → List ℕ → Type 0} {u w : List ℕ} where
    pub turn_both : {k : ℕ} {v : List ℕ} {r t : Bool} → Pass Rule q (Below D k) u w r → Pass Rule q (D k) w v t → Pass Rule q (Below D (k + 1)) u v (r || t)
    turn_both p s = pass_both below_more p s

    pub turn_skipped : {k : ℕ} {r : Bool} → Pass Rule q (Below D k) u w r → D k w → Pass Rule q (Below D (k + 1)) u w r
    turn_skipped p d = pass_as (λ b. below_more b d) p

    -- places that are finished without a turn
    pub turns_to : {k n : ℕ} {r : Bool} → Pass Rule q (Below D k) u w r → ((i : ℕ) → k ≤ i → i < n → D i w) → Pass Rule q (Below D n) u w r
    turns_to {k} p f = pass_as (λ b. record { at = λ i l. elim (dec_lt i k) [ yes h ↦ b.at i h | no h ↦ f i (omega arith) l ] }) p

    pub turns_end : {k n : ℕ} {r : Bool} → n ≤ k → Pass Rule q (Below D k) u w r → Pass Rule q (Below D n) u w r
    turns_end h p = pass_as (below_end h) p

  -- passes until one changes nothing
  pub pass_closed : {D : List ℕ → Type 0} {u w v : List ℕ} {r : Bool} → Grows Rule q u w → Pass Rule q D w v r → r ≡ false → Closed Rule q D u v
  pass_closed g p e = record { grows = grows_further g p.grows; done = p.done e }

  pub closed_further : {D : List ℕ → Type 0} {u w v : List ℕ} → Grows Rule q u w → Closed Rule q D w v → Closed Rule q D u v
  closed_further g c = record { grows = grows_further g c.grows; done = c.done }

abbrev pub passes_left : List ℕ → Bool → ℕ
passes_left w r = 2 * unset w + pick r 1 0

pub pass_less : {R S : List ℕ → ℕ → ℕ → Type 0} {q : Square} {D : List ℕ → Type 0} {w u v : List ℕ} {t : Bool} (r : Bool) → t ≡ true → Grows R q w u → Pass S q D u v r
    → passes_left v r < passes_left w t
pass_less true e g p = rw e (omega (arith, p.fewer refl, unset_falls g))
pass_less false e g p = rw e (omega (arith, unset_falls p.grows, unset_falls g))

-- the same growth by another rule, which allows what the first one does
pub grows_as : {R S : List ℕ → ℕ → ℕ → Type 0} {q : Square} {w v : List ℕ} → ((u : List ℕ) (x y : ℕ) → Grows R q w u → x ≤ q.names → y ≤ q.names → R u x y → S u x y) → Grows R q w v → Grows S q w v
grows_as f none = none
grows_as f (more t u h e g) = more t u (grows_as f h) e (λ x y i j m. elim (g x y i j m) [ inl k ↦ inl k | inr r ↦ inr (f t x y h i j r) ])

-- and by a wider one
pub grows_wider : {R S : List ℕ → ℕ → ℕ → Type 0} {q : Square} {w v : List ℕ} → ((u : List ℕ) (x y : ℕ) → R u x y → S u x y) → Grows R q w v → Grows S q w v
grows_wider f g = grows_as (λ u x y h i j k. f u x y k) g

pub pass_by : {R S : List ℕ → ℕ → ℕ → Type 0} {q : Square} {D : List ℕ → Type 0} {w v : List ℕ} {r : Bool}
    → ((u : List ℕ) (x y : ℕ) → Grows R q w u → x ≤ q.names → y ≤ q.names → R u x y → S u x y) → Pass R q D w v r → Pass S q D w v r
pass_by f p = record { grows = grows_as f p.grows; fewer = p.fewer; same = p.same; done = p.done }

-- a byte of a row handed on
pub hand_further : {q : Square} {u w : List ℕ} {from to source target : ℕ} (i : ℕ) → Grows (FromRow q from to) q u w → Room q u → from ≤ q.names → to ≤ q.names → i ≤ q.names / 8
    → source ≡ place q from 0 → target ≡ place q to 0 → Grows (FromRow q from to) q u (or_at w (target + i) (get_or w (source + i) 0))
hand_further {q} {w = w} {from = from} {to = to} {source = source} {target = target} i g room f t l s e =
    let b = hand_byte q w from to i source target (room_stays g room) f t l s e in
    more w _ g b.0 (λ x y h k m. elim (b.1 x y h k m) [ inl z ↦ inl z | inr z ↦ inr (record { row = z.0; marked = z.1 }) ])

-- what a cell that was not marked tells when it is marked
pub put_new : {q : Square} {x y : ℕ} {w v : List ℕ} {r : Bool} → Put q x y w v r → (Marked q w x y → ⊥) → r ≡ true
put_new {r = true} p n = refl
put_new {r = false} p n = absurd (n (rw (← p.same refl) p.there))

-- one mark that is new, and then the whole row
pub absorb_pass : {q : Square} {D : List ℕ → Type 0} {a z y : ℕ} {u w v : List ℕ} {r : Bool} → Marked q u a y → (Marked q u z y → ⊥) → Put q z y u w r → Grows (FromRow q a z) q w v
    → Pass (FromRow q a z) q D u v true
absorb_pass m n p g = record {
  grows = grows_further (put_grows p (record { row = refl; marked = m })) g;
  fewer = λ h. omega (arith, p.less (put_new p n), unset_falls g);
  same = λ h. not_true h;
  done = λ h. not_true h;
}
