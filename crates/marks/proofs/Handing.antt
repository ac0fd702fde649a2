-- Laws of marks handed along inclusions.
--   stays_anywhere                     a mark of any square stays where the marks of one grow
--   taken, given                       a row absorbed, as a step along inclusions
--   covering_joined, covering_none     the line of what needs no look
--   chain, near_one, near_none, known_start .. known_end          the rows above a row, looked at one after the other
--   done_none, done_more, rest_none, rest_done, rest_more, rest_end     all rows, one after the other
use mathlib.Core.Path.{◌≡◌}
use mathlib.Core.Bool.{Bool, ◌||◌}
use mathlib.Core.List.{List}
use mathlib.Core.Logic.{inl, inr}
use Prim.Native.Nat.{ℕ, ◌+◌, ◌-◌, ◌*◌, ◌%◌, ◌≤◌, ◌<◌}
use native.Mathlib.Omega.{arith}
use native.Mathlib.Decide.{ℕ_discrete, dec_lt}
use Rattle.marks.specs.declared.Square.{Square}
use Rattle.marks.specs.declared.inclusions.Direction.{Direction}
use Rattle.marks.specs.declared.inclusions.Direction.TheVariants.{Down, Up}
use Rattle.marks.specs.Squares.{place, Marked, Extends, First}
use Rattle.marks.specs.Passes.{Grows, none, more, Pass, Below, FromRow}
use Rattle.marks.specs.Lines.{Has, Empty, Added, Joined, MarkedOutside}
use Rattle.marks.specs.Inclusions.{Taking, Giving, Reaches, Every, Done, Given, Rest, Covering, Near, Others}
use Rattle.marks.proofs.Squares.{column_bit}
use Rattle.marks.proofs.Passes.{pass_by, pass_as, pass_both, below_none, below_more, below_end}

-- every byte keeps its bits
extends_anywhere : {p q : Square} {w v : List ℕ} {x y : ℕ} → Extends q w v → Marked p w x y → Marked p v x y
unfolding place
extends_anywhere {p} {q} {w} {v} {x} {y} e m = by_place (dec_lt (place p x y) q.base)
  where
    by_place : Dec (place p x y < q.base) → Marked p v x y
    by_place (yes h) = record { is = rw (e.frame.before (place p x y) h) m.is }
    by_place (no h) =
        let b = 8 * (place p x y - q.base) + y % 8 in
        let there : place q 0 b ≡ place p x y = omega (arith, column_bit y) in
        let column : b % 8 ≡ y % 8 = omega (arith, column_bit y) in
        let had : Marked q w 0 b = record { is = rw (there, column) m.is } in
        record { is = rw (there, column) at (e.stays 0 b had).is }

pub stays_anywhere : {R : List ℕ → ℕ → ℕ → Type 0} {p q : Square} {w v : List ℕ} {x y : ℕ} → Grows R q w v → Marked p w x y → Marked p v x y
stays_anywhere none m = m
stays_anywhere (more t u h e f) m = extends_anywhere e (stays_anywhere h m)

-- one row absorbed
pub taken : {p q : Square} {D : List ℕ → Type 0} {w v : List ℕ} {x c : ℕ} {r : Bool} → c ≤ p.names → Marked p w x c → Pass (FromRow q c x) q D w v r → Pass (Taking p q) q D w v r
taken {c = c} h m s = pass_by (λ u a b g i j k. record { it = c; inside = h; above = rw k.row (stays_anywhere g m); marked = k.marked }) s

pub given : {p q : Square} {D : List ℕ → Type 0} {w v : List ℕ} {x c : ℕ} {r : Bool} → x ≤ p.names → Marked p w x c → Pass (FromRow q x c) q D w v r → Pass (Giving p q) q D w v r
given {x = x} h m s = pass_by (λ u a b g i j k. record { it = x; inside = h; below = rw k.row (stays_anywhere g m); marked = k.marked }) s

pub covering_joined : {p : Square} {k : List ℕ} {c : ℕ} {w i j : List ℕ} → Has k c → Joined p w c i j → Covering p k c w i j
covering_joined h g = record { stays = g.stays; only = λ y b m. elim (g.only y b m) [ inl z ↦ inl z | inr z ↦ inr (h, z) ] }

pub covering_none : {p : Square} {k : List ℕ} {c : ℕ} {w i : List ℕ} → Covering p k c w i i
covering_none = record { stays = λ y h. h; only = λ y b m. inl m }

-- rows contained in each other
pub chain : (d : Direction) (q : Square) (y c x : ℕ) (w : List ℕ) → Reaches d q y c w → Reaches d q c x w → Reaches d q y x w
chain Down q y c x w f g = record { marked = λ z h m. g.marked z h (f.marked z h m) }
chain Up q y c x w f g = record { marked = λ z h m. f.marked z h (g.marked z h m) }

-- what is known of the rows above x, if it is known of those in the line i: of those in the line j, and of those before a
pub record Known (R : ℕ → ℕ → List ℕ → Type 0) (p : Square) (k i j : List ℕ) (x a : ℕ) (w : List ℕ) : Type 0 where
  pub covered : ((y : ℕ) → y ≤ p.names → Has i y → R y x w) → Done p.names k (Every R p) w → (y : ℕ) → y ≤ p.names → Has j y → R y x w
  pub before : ((y : ℕ) → y ≤ p.names → Has i y → R y x w) → Done p.names k (Every R p) w → (y : ℕ) → y ≤ p.names → y < a → Marked p w x y → R y x w

module _ {R : ℕ → ℕ → List ℕ → Type 0} {p : Square} {k : List ℕ} {x : ℕ} where
  pub near_one : {i j : List ℕ} {c : ℕ} {w : List ℕ} → ((y c x : ℕ) (w : List ℕ) → R y c w → R c x w → R y x w) → c ≤ p.names → Covering p k c w i j → R c x w → Near R p k i j x w
  near_one {c = c} {w = w} chain h g r = record { each = λ d y b m. elim (g.only y b m) [ inl z ↦ inl z | inr z ↦ inr (chain y c x w ((d.at c h z.0).each y b z.1) r) ] }

  pub near_none : {i : List ℕ} {w : List ℕ} → Near R p k i i x w
  near_none = record { each = λ d y b m. inl m }

  pub known_start : {i : List ℕ} {w : List ℕ} → Known R p k i i x 0 w
  known_start = record { covered = λ f d y b m. f y b m; before = λ f d y b l m. absurd (omega arith) }

  known_to : {i j : List ℕ} {a r : ℕ} {w : List ℕ} → First (MarkedOutside p w x j) (λ y. Marked p w x y → Has j y) p.names a r → Known R p k i j x a w → Known R p k i j x r w
  known_to {i} {j} {a} {r} {w} n s = record { covered = s.covered; before = λ f d y b l m. by_place f d y b l m (dec_lt y a) }
    where
      by_place : ((y : ℕ) → y ≤ p.names → Has i y → R y x w) → Done p.names k (Every R p) w → (y : ℕ) → y ≤ p.names → y < r → Marked p w x y → Dec (y < a) → R y x w
      by_place f d y b l m (yes g) = s.before f d y b g m
      by_place f d y b l m (no g) = s.covered f d y b (n.before y (omega arith) l m)

  known_more : {i j l : List ℕ} {a : ℕ} {w : List ℕ} → ((y c x : ℕ) (w : List ℕ) → R y c w → R c x w → R y x w) → a ≤ p.names → Covering p k a w j l
      → Known R p k i j x a w → R a x w → Known R p k i l x (a + 1) w
  known_more {i} {j} {l} {a} {w} chain h g s here = record { covered = known; before = λ f d y b e m. by_place f d y b e m (ℕ_discrete y a) }
    where
      known : ((y : ℕ) → y ≤ p.names → Has i y → R y x w) → Done p.names k (Every R p) w → (y : ℕ) → y ≤ p.names → Has l y → R y x w
      known f d y b m = elim (g.only y b m) [ inl z ↦ s.covered f d y b z | inr z ↦ chain y a x w ((d.at a h z.0).each y b z.1) here ]

      by_place : ((y : ℕ) → y ≤ p.names → Has i y → R y x w) → Done p.names k (Every R p) w → (y : ℕ) → y ≤ p.names → y < a + 1 → Marked p w x y → Dec (y ≡ a) → R y x w
      by_place f d y b e m (yes z) = rw z here
      by_place f d y b e m (no z) = s.before f d y b (omega arith) m

  -- a turn: the next row above x that the line has not
  pub known_turn : {Rule : List ℕ → ℕ → ℕ → Type 0} {q : Square} {i j l : List ℕ} {a c : ℕ} {u w v : List ℕ} {r t : Bool} → ((y c x : ℕ) (w : List ℕ) → R y c w → R c x w → R y x w)
      → First (MarkedOutside p w x j) (λ y. Marked p w x y → Has j y) p.names a c → Covering p k c v j l → Pass Rule q (Known R p k i j x a) u w r → Pass Rule q (R c x) w v t
      → Pass Rule q (Known R p k i l x (c + 1)) u v (r || t)
  known_turn {i = i} {j = j} {c = c} chain n g s here =
      pass_both {D = Known R p k i j x c} (λ m e. known_more chain n.inside g m e) (pass_as (known_to n) s) here

  pub near_others : {i j : List ℕ} {w : List ℕ} → Empty i → Near R p k i j x w → Others R p k j x w → Given p.names k (Every R p) x w
  near_others e g o = record { done = λ d. o.each (λ y b m. elim (g.each d y b m) [ inl z ↦ absurd (e.none y z) | inr z ↦ z ]) d }

-- all rows, so far
pub record RestTo (n : ℕ) (D : ℕ → List ℕ → Type 0) (k : List ℕ) (m : ℕ) (w : List ℕ) : Type 0 where
  pub done : Done n k D w → Below D m w

module _ {n : ℕ} {D : ℕ → List ℕ → Type 0} where
  pub done_none : {k : List ℕ} {w : List ℕ} → Empty k → Done n k D w
  done_none e = record { at = λ c h m. absurd (e.none c m) }

  pub done_more : {k l : List ℕ} {x : ℕ} {w : List ℕ} → Added x k l → Done n k D w → Given n k D x w → Done n l D w
  done_more a d g = record { at = λ c h m. elim (a.only c m) [ inl z ↦ d.at c h z | inr z ↦ rw z (g.done d) ] }

  module _ {k : List ℕ} {w : List ℕ} where
    pub rest_none : RestTo n D k 0 w
    rest_none = record { done = λ d. below_none }

    pub rest_done : {m : ℕ} → m ≤ n → Has k m → RestTo n D k m w → RestTo n D k (m + 1) w
    rest_done h e r = record { done = λ d. below_more (r.done d) (d.at _ h e) }

    pub rest_more : {m : ℕ} → RestTo n D k m w → Given n k D m w → RestTo n D k (m + 1) w
    rest_more r g = record { done = λ d. below_more (r.done d) (g.done d) }

    pub rest_end : {m : ℕ} → n < m → RestTo n D k m w → Rest n k D w
    rest_end h r = record { done = λ d. below_end (omega arith) (r.done d) }
