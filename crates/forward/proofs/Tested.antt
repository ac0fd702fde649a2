-- Laws of the rules of forward marks.
--   joined_below, second_small, join_asks     what lies below a name, by a row of the turned inclusions
--   bit_away                              a role's bit that the set has not
--   KeptTo, kept_more, kept_past          the line of the nodes that the names before one keep
--   partnered_none, partnered_more, row_kept     a line of nodes with a partner, and a row that it leaves none to lose
--   quiet_start .. open_full              the next role of an edge by which something can be left to mark
--   roles_to, roles_end                   the roles of an edge, one after the other
--   role_small                            the roles of an edge have bits
--   no_partner_stays                      where there is no partner, marks put later give none
--   seen_stays                            what is asked holds after marks are seen
--   named, named_stays                    what is asked to mark names is there, and stays
--   edges_lost                            marks put where a line has nothing, as steps of the rules;  by_name_pass, by_role_pass: as passes
--   row_quiet, row_lost                   what is answered of all nodes at once
--   edge_lost, cell_kept, cell_lost, cells_to, cells_end     the edge of a name at one node, and at those that its line leaves open
--   missing_start .. missing_none         the next node that a line leaves open;  row_full: none is left open
--   FreeSuccessor                         what the search for a partner looks for
--   above_grows, row_from_above, taking_grows     marks taken from above, as steps of the rules
--   name_grows, follows_grows, taking_pass, looked     marks by names, and those that follow, as steps of all rules
--   quiet_rows                            rows with nothing left to mark
use mathlib.Core.Path.{◌≡◌, sym, ap, ◌∙◌}
use mathlib.Core.Bool.{Bool, true, false, not, ◌||◌, true≢false, false≢true}
use mathlib.Core.List.{List}
use mathlib.Core.Logic.{◌⊎◌, inl, inr}
use Prim.Native.Nat.{ℕ, suc, ◌+◌, ◌/◌, ◌%◌, ◌^◌, ◌≤◌, ◌<◌}
use native.Mathlib.Omega.{arith}
use native.Mathlib.Decide.{ℕ_discrete, dec_lt}
use Rattle.std.specs.Prelude.{eqb, Option, None, Some, is_some}
use Rattle.release.specs.Files.{most_roles}
use Rattle.release.specs.declared.RoleIndex.{RoleIndex}
use Rattle.release.specs.Roles.{HasRole}
use Rattle.release.specs.Tables.{filler_at, HasSuccessor}
use Rattle.marks.specs.declared.Square.{Square}
use Rattle.marks.specs.Squares as squares
use Rattle.marks.specs.Squares.{bit, behind, Small, Room, First, Nowhere, Marked, NotMarked, NextUnmarked, Apart, Frame, Put}
use Rattle.marks.specs.Passes.{Grows, Pass, Below, FromRow}
use Rattle.marks.specs.Lines.{Has, Spans, Empty, Joined, Missing, Full}
use Rattle.marks.specs.Inclusions.{Taking, Takes}
use Rattle.marks.proofs.Squares.{not_true, marked_frame, frame_room}
use Rattle.marks.proofs.Passes.{grows_frame, marks_stay, grows_as, pass_by, pass_as, pass_with, pass_both, put_pass, turns_to, kept_grows}
use Rattle.marks.proofs.Handing.{stays_anywhere}
use Rattle.layout.specs.declared.Layout.{Layout}
use Rattle.layout.specs.declared.Given.{Given}
use Rattle.layout.specs.Searches.{SomeBelow, EachBelow}
use Rattle.layout.specs.Tables.{HasEdge}
use Rattle.layout.specs.Layouts.{first_square, second_square, below_square, mark_square, chosen}
use Rattle.layout.proofs.Layouts.{second_apart}
use Rattle.layout.proofs.Searches.{each_more, each_to}
use Rattle.forward.specs.Rules.{Beneath, beneath_stays, Serves, Setting, setting_stays, Named, NameLost, Partner, Edge, RoleLost, Own, by_name, by_edge, FromAbove, Follows}
use Rattle.forward.specs.Rules.{from_edge, from_above, Step, by_itself, by_above, follows_step, JoinedBelow, Partnered, Kept, RowFull, NextOpen, LeftOpen}
use Rattle.forward.specs.Rules.{ByName, ByRole, ByEdge, EdgeCell, RowLost, Looked, Row}

-- what lies below a name, by a row of the turned inclusions
pub joined_below : {l : Layout} {w : List ℕ} {c : ℕ} {i j : List ℕ} {p : Square} → p ≡ below_square l → Beneath l w → c < l.names → Joined p w c i j → JoinedBelow l w c i j
unfolding behind
joined_below {l} {w} {c} {i} {j} e s h k =
    let g : Joined (below_square l) w c i j = rw e at k in
    record {
      stays = g.stays;
      has = λ y o m. g.has y o (s.turned.to y c o (omega arith) m);
      only = λ y o m. elim (g.only y o m) [ inl f ↦ inl f | inr f ↦ inr (s.turned.from y c o (omega arith) f) ];
    }

pub second_small : {l : Layout} {w : List ℕ} → Beneath l w → Small (second_square l)
unfolding behind
second_small s = record { few = s.room.small.few; near = omega (arith, s.room.small.near) }

pub join_asks : {l : Layout} {w : List ℕ} {c : ℕ} {k : List ℕ} {p : Square} → p ≡ below_square l → Beneath l w → c < l.names → Spans l.names k → Room p w × ((c ≤ p.names) × Spans p.names k)
unfolding behind
join_asks e s h k = rw e (s.room, (omega arith, k))

-- the line of the nodes that keep a partner
pub record KeptTo (given : Given) (w : List ℕ) (z r m : ℕ) (k : List ℕ) : Type 0 where
  pub has : (y c : ℕ) → y ≤ given.layout.names → c < m → Partner given w z y r c → Has k y
  pub only : (y : ℕ) → y ≤ given.layout.names → Has k y → SomeBelow (Partner given w z y r) m

-- one name more, which serves
pub kept_more : {given : Given} {w : List ℕ} {z r c : ℕ} {i j : List ℕ} → Serves given.second.table.now (mark_square given.layout) w z r c → JoinedBelow given.layout w c i j
    → KeptTo given w z r c i → KeptTo given w z r (c + 1) j
kept_more {given} {w} {z} {r} {c} {i} {j} serves joined k = record {
  has = λ y d h o p. by_place y d h o p (ℕ_discrete d c);
  only = λ y h m. elim (joined.only y h m) [
    | inl e ↦ let s = k.only y h e in record { it = s.it; below = omega (arith, s.below); holds = s.holds }
    | inr e ↦ record { it = c; below = omega arith; holds = record { serves = serves; second = e } }
  ];
}
  where
    by_place : (y d : ℕ) → y ≤ given.layout.names → d < c + 1 → Partner given w z y r d → Dec (d ≡ c) → Has j y
    by_place y d h o p (yes e) = let q : Partner given w z y r c = rw e at p in joined.has y h q.second
    by_place y d h o p (no e) = joined.stays y (k.has y d h (omega arith) p)

-- the bit of a role that the set has not
pub bit_away : {set r : ℕ} → eqb (set / 2 ^ (r % 32) % 2) 1 ≡ false → r < 32 → HasRole set r → ⊥
unfolding bit
bit_away {set} {r} e l h =
    let own : r % 32 ≡ r = omega arith in
    let there : set / 2 ^ (r % 32) % 2 ≡ 1 = rw own h.is in
    false≢true (sym (rw there at e))

-- a name more, which does not serve
pub kept_past : {given : Given} {w : List ℕ} {z r c : ℕ} {k : List ℕ} → (Serves given.second.table.now (mark_square given.layout) w z r c → ⊥) → KeptTo given w z r c k → KeptTo given w z r (c + 1) k
kept_past {given} {w} {z} {r} {c} {k} none kept = record {
  has = λ y d h o p. by_place y d h o p (ℕ_discrete d c);
  only = λ y h e. let s = kept.only y h e in record { it = s.it; below = omega (arith, s.below); holds = s.holds };
}
  where
    by_place : (y d : ℕ) → y ≤ given.layout.names → d < c + 1 → Partner given w z y r d → Dec (d ≡ c) → Has k y
    by_place y d h o p (yes e) = absurd (none (rw e at p.serves))
    by_place y d h o p (no e) = kept.has y d h (omega arith) p

-- a line of nodes with a partner: an empty one, one with what lies below a name more that serves, and one that leaves a row none to lose
pub partnered_none : {given : Given} {w : List ℕ} {z r : ℕ} {k : List ℕ} → Empty k → Partnered given w z r k
partnered_none empty = record { partner = λ y h m. absurd (empty.none y m) }

pub partnered_more : {given : Given} {w : List ℕ} {z r c : ℕ} {i j : List ℕ} → Serves given.second.table.now (mark_square given.layout) w z r c → c < given.layout.names
    → JoinedBelow given.layout w c i j → Partnered given w z r i → Partnered given w z r j
partnered_more {c = c} serves c_in joined p = record {
  partner = λ y h m. elim (joined.only y h m) [
    | inl e ↦ p.partner y h e
    | inr e ↦ record { it = c; below = c_in; holds = record { serves = serves; second = e } }
  ];
}

pub row_kept : {given : Given} {w : List ℕ} {x r : ℕ} {k : List ℕ} → Partnered given w (filler_at given.first.table.now x) r k → Full (mark_square given.layout) k x w → ByRole given x r w
row_kept p full = record { marked = λ y h o. full.marked y h (λ m. o.no_partner (p.partner y h m)) }

-- the roles of an edge have bits
pub role_small : {given : Given} {x r : ℕ} → Edge given x r → r < most_roles
role_small {given} {x} {r} e = given.edges_found.few x r e.is_name e.with_role

-- the roles of an edge one after the other: what is none of them gives nothing
role_none : {given : Given} {w : List ℕ} {x r : ℕ} → (HasEdge given.edges.now x r → ⊥) → ByRole given x r w
role_none not = record { marked = λ y h o. absurd (not o.edge.with_role) }

-- the next role by which something can be left: from a number on, by each one before it nothing is
pub record QuietFrom (given : Given) (w : List ℕ) (x from r : ℕ) : Type 0 where
  pub quiet : from ≤ r → ByRole given x r w

module _ {given : Given} {w : List ℕ} {x from : ℕ} where
  pub quiet_start : EachBelow (QuietFrom given w x from) from
  quiet_start = record { at = λ r h. record { quiet = λ j. absurd (omega arith) } }

  pub quiet_to : {m r : ℕ} → First (HasEdge given.edges.now x) (λ q. HasEdge given.edges.now x q → ⊥) 31 m r → EachBelow (QuietFrom given w x from) m
      → EachBelow (QuietFrom given w x from) r
  quiet_to next p = each_to (λ r not. record { quiet = λ j. role_none not }) next p

  pub quiet_more : {r : ℕ} → ByRole given x r w → EachBelow (QuietFrom given w x from) r → EachBelow (QuietFrom given w x from) (r + 1)
  quiet_more quiet p = each_more p (record { quiet = λ j. quiet })

  pub open_found : {m r : ℕ} → from ≤ m → First (HasEdge given.edges.now x) (λ q. HasEdge given.edges.now x q → ⊥) 31 m r → EachBelow (QuietFrom given w x from) r
      → First (HasEdge given.edges.now x) (λ q. ByRole given x q w) 31 from r
  open_found h next p = record { after = omega (arith, next.after); inside = next.inside; there = next.there; before = λ r j l. (p.at r l).quiet j }

  pub open_none : {m : ℕ} → Nowhere (λ q. HasEdge given.edges.now x q → ⊥) 31 m → EachBelow (QuietFrom given w x from) m → Nowhere (λ q. ByRole given x q w) 31 from
  open_none {m} past p = record { each = λ r j h. by_place r j h (dec_lt r m) }
    where
      by_place : (r : ℕ) → from ≤ r → r ≤ 31 → Dec (r < m) → ByRole given x r w
      by_place r j h (yes l) = (p.at r l).quiet j
      by_place r j h (no l) = role_none (past.each r (omega arith) h)

  -- a row that is full
  pub open_full : {q : Square} → q ≡ mark_square given.layout → RowFull q x w → Nowhere (λ r. ByRole given x r w) 31 from
  open_full e full = let all : RowFull (mark_square given.layout) x w = rw e at full in record { each = λ r j h. record { marked = λ y i o. all.marked y i } }

-- from the first role of the edge on
pub open_further : (given : Given) (w : List ℕ) (x : ℕ) {from r : ℕ} (o : Option RoleIndex) → First (HasEdge given.edges.now x) (λ q. HasEdge given.edges.now x q → ⊥) 31 from r
    → NextOpen given w x r o → NextOpen given w x from o
open_further given w x {from} {r} None first past = record { each = λ q j h. by_place q j h (dec_lt q r) }
  where
    by_place : (q : ℕ) → from ≤ q → q ≤ 31 → Dec (q < r) → ByRole given x q w
    by_place q j h (yes l) = role_none (first.before q j l)
    by_place q j h (no l) = past.each q (omega arith) h
open_further given w x {from} {r} (Some role) first next = record {
  after = omega (arith, first.after, next.after);
  inside = next.inside;
  there = next.there;
  before = λ q j l. by_place q j l (dec_lt q r);
}
  where
    by_place : (q : ℕ) → from ≤ q → q < role.0 → Dec (q < r) → ByRole given x q w
    by_place q j l (yes i) = role_none (first.before q j i)
    by_place q j l (no i) = next.before q (omega arith) l

module _ {given : Given} {x from : ℕ} {u w : List ℕ} {b : Bool} (p : Pass (Follows given) (mark_square given.layout) (Below (ByRole given x) from) u w b) where
  pub roles_to : {r : ℕ} → First (HasEdge given.edges.now x) (λ q. ByRole given x q w) 31 from r → Pass (Follows given) (mark_square given.layout) (Below (ByRole given x) r) u w b
  roles_to next = turns_to p (λ q h l. next.before q h l)

  pub roles_end : x < given.layout.names → Nowhere (λ q. ByRole given x q w) 31 from → Pass (Follows given) (mark_square given.layout) (ByEdge given x) u w b
  roles_end x_in past = pass_as (λ below. record { marked = λ y h o. (by_place below o.role (given.edges_found.few x o.role x_in o.lost.edge.with_role) (dec_lt o.role from)).marked y h o.lost }) p
    where
      by_place : Below (ByRole given x) from w → (r : ℕ) → r < 32 → Dec (r < from) → ByRole given x r w
      by_place below r l (yes i) = below.at r i
      by_place below r l (no i) = past.each r (omega arith) (omega arith)

-- what is seen of the marks changes none
pub seen_stays : {given : Given} {w v : List ℕ} → squares.Kept (mark_square given.layout) w v → Setting given w → Setting given v
seen_stays {given} k s = setting_stays {Rule = Follows given} (kept_grows k) s

-- where the line has nothing, there is no partner
kept_lost : {given : Given} {w : List ℕ} {z r : ℕ} {k : List ℕ} {y : ℕ} → y ≤ given.layout.names → Kept given w z r k → (Has k y → ⊥) → SomeBelow (Partner given w z y r) given.layout.names → ⊥
kept_lost {y = y} h e f p = f (e.has y p.it h p.below p.holds)

-- where there is no partner, marks put later give none
no_partner_stays : {R : List ℕ → ℕ → ℕ → Type 0} {given : Given} {w u : List ℕ} {z y r : ℕ} → Beneath given.layout w → Grows R (mark_square given.layout) w u → y ≤ given.layout.names
    → (SomeBelow (Partner given w z y r) given.layout.names → ⊥) → SomeBelow (Partner given u z y r) given.layout.names → ⊥
no_partner_stays {given = given} s grows h f p =
    let q = p.holds in
    f (record {
      it = p.it;
      below = p.below;
      holds = record {
        serves = record { is_restriction = q.serves.is_restriction; role = q.serves.role; free = λ m. q.serves.free (marks_stay grows m) };
        second = marked_frame (grows_frame grows) (second_apart given.layout s.apart) h (omega (arith, p.below)) q.second;
      };
    })

-- marks put where the line of an edge has nothing
module _ {given : Given} {w : List ℕ} (s : Setting given w) {x r : ℕ} {k : List ℕ} (edge : Edge given x r)
    (kept : Kept given w (filler_at given.first.table.now x) r k) where
  edge_missing : (u : List ℕ) (c y : ℕ) → Grows (Missing k x) (mark_square given.layout) w u → c ≤ given.layout.names → y ≤ given.layout.names → Missing k x u c y → Follows given u c y
  edge_missing u c y grows c_in y_in m = from_edge
      (rw m.row (record {
        role = r;
        lost = record { edge = edge; no_partner = no_partner_stays (s.below (omega (arith, edge.is_name))) grows y_in (kept_lost y_in kept m.not_there) };
      }))

  pub edges_lost : {v : List ℕ} → Grows (Missing k x) (mark_square given.layout) w v → Grows (Follows given) (mark_square given.layout) w v
  edges_lost grows = grows_as edge_missing grows

  pub by_role_pass : {v : List ℕ} {f : Bool} → Pass (Missing k x) (mark_square given.layout) (Full (mark_square given.layout) k x) w v f
      → Pass (Follows given) (mark_square given.layout) (ByRole given x r) w v f
  by_role_pass {v} p = pass_with done (pass_by edge_missing p)
    where
      done : v ≡ w → Full (mark_square given.layout) k x v → ByRole given x r v
      done e full = record { marked = λ y h o. full.marked y h (λ m. o.no_partner (rw e (kept.only.partner y h m))) }

-- what is answered of them: no, where the row is full; else yes
module _ {given : Given} {x r : ℕ} {w v : List ℕ} where
  pub row_quiet : {b : Bool} → Pass (Follows given) (mark_square given.layout) (ByRole given x r) w v b → RowLost given x r w v b
  row_quiet p = record { grows = p.grows; same = p.same; done = p.done }

  pub row_lost : Grows (Follows given) (mark_square given.layout) w v → RowLost given x r w v true
  row_lost grows = record { grows = grows; same = λ e. not_true e; done = λ e. not_true e }

-- what those ask that mark names is there, and stays
pub named : {given : Given} {w : List ℕ} → Setting given w → Named given w
named s = record { marks = s.places.marks; below = s.below }

pub named_stays : {R : List ℕ → ℕ → ℕ → Type 0} {given : Given} {w v : List ℕ} → Grows R (mark_square given.layout) w v → Named given w → Named given v
named_stays grows s = record { marks = frame_room (grows_frame grows) s.marks; below = λ h. beneath_stays (grows_frame grows) (s.below h) }

-- marks put where what lies below a name has nothing
module _ {given : Given} {w : List ℕ} (s : Named given w) {x : ℕ} {k i : List ℕ} (is_name : x < given.layout.names) (chosen_name : (chosen given.layout given.chosen_names.now).has_name x ≡ true)
    (empty : Empty i) (joined : JoinedBelow given.layout w x i k) where
  name_missing : (u : List ℕ) (c y : ℕ) → Grows (Missing k x) (mark_square given.layout) w u → c ≤ given.layout.names → y ≤ given.layout.names → Missing k x u c y → NameLost given u c y
  name_missing u c y grows c_in y_in m = rw m.row
      (record {
        is_name = is_name;
        chosen_name = chosen_name;
        not_second = λ o. m.not_there (joined.has y y_in (marked_frame (grows_frame grows) (second_apart given.layout (s.below (omega arith)).apart) y_in (omega arith) o));
      })

  pub by_name_pass : {v : List ℕ} {f : Bool} → Pass (Missing k x) (mark_square given.layout) (Full (mark_square given.layout) k x) w v f
      → Pass (NameLost given) (mark_square given.layout) (ByName given x) w v f
  by_name_pass {v} p = pass_with done (pass_by name_missing p)
    where
      below_it : (y : ℕ) → y ≤ given.layout.names → Has k y → Marked (second_square given.layout) w y x
      below_it y h m = elim (joined.only y h m) [ inl e ↦ absurd (empty.none y e) | inr e ↦ e ]

      done : v ≡ w → Full (mark_square given.layout) k x v → ByName given x v
      done e full = record { marked = λ y h o. full.marked y h (λ m. o.not_second (rw e (below_it y h m))) }

-- the edge of x at one node, and at all nodes that the line of an edge leaves open, one after the other
module _ {given : Given} {x r : ℕ} where
  pub edge_lost : {w : List ℕ} {y z : ℕ} → Edge given x r → z ≡ filler_at given.first.table.now x → (SomeBelow (Partner given w z y r) given.layout.names → ⊥) → RoleLost given w x r y
  edge_lost e f none = record { edge = e; no_partner = rw (← f) none }

  pub cell_kept : {w : List ℕ} {y z : ℕ} → z ≡ filler_at given.first.table.now x → SomeBelow (Partner given w z y r) given.layout.names → EdgeCell given x r y w
  cell_kept f s = record { marked = λ o. absurd (o.no_partner (rw (← f) s)) }

  pub cell_lost : {w v : List ℕ} {y : ℕ} {t : Bool} → RoleLost given w x r y → Put (mark_square given.layout) x y w v t
      → Pass (Follows given) (mark_square given.layout) (EdgeCell given x r y) w v t
  cell_lost e p = pass_as (λ m. record { marked = λ o. m }) (put_pass p (from_edge (record { role = r; lost = e })))

  -- a node that is marked, or that has a partner by the line; the line holds as long as nothing has changed
  settled : {u w k : List ℕ} {y : ℕ} → Kept given u (filler_at given.first.table.now x) r k → w ≡ u → y ≤ given.layout.names
      → Has k y ⊎ Marked (mark_square given.layout) w x y → EdgeCell given x r y w
  settled {y = y} kept e h (inl i) = record { marked = λ o. absurd (o.no_partner (rw e (kept.only.partner y h i))) }
  settled kept e h (inr i) = record { marked = λ o. i }

  -- up to the next node that the line leaves open
  pub cells_to : {u w k : List ℕ} {m y : ℕ} {t : Bool} → Kept given u (filler_at given.first.table.now x) r k
      → First (LeftOpen (mark_square given.layout) w x k) (λ i. Has k i ⊎ Marked (mark_square given.layout) w x i) given.layout.names m y
      → Pass (Follows given) (mark_square given.layout) (Below (EdgeCell given x r) m) u w t
      → Pass (Follows given) (mark_square given.layout) (Below (EdgeCell given x r) y) u w t
  cells_to {u} {w} {k} {m} {y} kept next p = pass_with (λ e c. record { at = λ i h. by_place e c i h (dec_lt i m) }) p
    where
      by_place : w ≡ u → Below (EdgeCell given x r) m w → (i : ℕ) → i < y → Dec (i < m) → EdgeCell given x r i w
      by_place e c i h (yes j) = c.at i j
      by_place e c i h (no j) = settled kept e (omega (arith, next.inside)) (next.before i (omega arith) h)

  -- where it leaves none open
  pub cells_end : {u w k : List ℕ} {m : ℕ} {t : Bool} → Kept given u (filler_at given.first.table.now x) r k
      → Nowhere (λ i. Has k i ⊎ Marked (mark_square given.layout) w x i) given.layout.names m
      → Pass (Follows given) (mark_square given.layout) (Below (EdgeCell given x r) m) u w t
      → Pass (Follows given) (mark_square given.layout) (ByRole given x r) u w t
  cells_end {u} {w} {k} {m} kept past p = pass_with (λ e c. record { marked = λ y h o. (by_place e c y h (dec_lt y m)).marked o }) p
    where
      by_place : w ≡ u → Below (EdgeCell given x r) m w → (y : ℕ) → y ≤ given.layout.names → Dec (y < m) → EdgeCell given x r y w
      by_place e c y h (yes j) = c.at y j
      by_place e c y h (no j) = settled kept e h (past.each y (omega arith) h)

-- the next node that is neither marked nor in a line: from a number on, each one before it is one of the two
pub record SettledFrom (q : Square) (w : List ℕ) (x : ℕ) (k : List ℕ) (from i : ℕ) : Type 0 where
  pub settled : from ≤ i → Has k i ⊎ Marked q w x i

module _ {q : Square} {w : List ℕ} {x : ℕ} {k : List ℕ} {from : ℕ} where
  pub missing_start : EachBelow (SettledFrom q w x k from) from
  missing_start = record { at = λ i h. record { settled = λ j. absurd (omega arith) } }

  pub missing_to : {m y : ℕ} → First (NotMarked q w x) (Marked q w x) q.names m y → EachBelow (SettledFrom q w x k from) m → EachBelow (SettledFrom q w x k from) y
  missing_to next p = each_to (λ i m. record { settled = λ j. inr m }) next p

  pub missing_more : {y : ℕ} → Has k y → EachBelow (SettledFrom q w x k from) y → EachBelow (SettledFrom q w x k from) (y + 1)
  missing_more has p = each_more p (record { settled = λ j. inl has })

  pub missing_found : {m y : ℕ} → from ≤ m → (Has k y → ⊥) → First (NotMarked q w x) (Marked q w x) q.names m y → EachBelow (SettledFrom q w x k from) y
      → First (LeftOpen q w x k) (λ i. Has k i ⊎ Marked q w x i) q.names from y
  missing_found h f next p =
      record { after = omega (arith, next.after); inside = next.inside; there = record { not_marked = next.there; not_there = f }; before = λ i j l. (p.at i l).settled j }

  pub missing_none : {m : ℕ} → Nowhere (Marked q w x) q.names m → EachBelow (SettledFrom q w x k from) m → Nowhere (λ i. Has k i ⊎ Marked q w x i) q.names from
  missing_none {m} past p = record { each = λ i j h. by_place i j h (dec_lt i m) }
    where
      by_place : (i : ℕ) → from ≤ i → i ≤ q.names → Dec (i < m) → Has k i ⊎ Marked q w x i
      by_place i j h (yes l) = (p.at i l).settled j
      by_place i j h (no l) = inr (past.each i (omega arith) h)

-- a row without a node that is not marked
pub row_full : {q : Square} {w : List ℕ} {x : ℕ} (o : Option ℕ) {b : Bool} → NextUnmarked q w x 0 o → is_some o ≡ not b → b ≡ true → RowFull q x w
row_full None next e t = record { marked = λ y h. next.each y (omega arith) h }
row_full (Some y) next e t = absurd (true≢false (e ∙ ap not t))

-- the search for a partner: a successor of a candidate that `end` is not marked with
pub record FreeSuccessor (given : Given) (w : List ℕ) (z r c d : ℕ) : Type 0 where
  pub successor : HasSuccessor given.second.table.now c r d
  pub free : Marked (mark_square given.layout) w z d → ⊥

-- marks of rows above
module _ {l : Layout} {w v : List ℕ} {x c : ℕ} where
  pub row_from_above : c ≤ l.names → Marked (first_square l) w x c → Grows (FromRow (mark_square l) c x) (mark_square l) w v → Grows (FromAbove l) (mark_square l) w v
  row_from_above c_in m grows = grows_as (λ u z y h i j f. record { it = c; inside = c_in; first = λ apart. rw f.row (stays_anywhere h m); lost = f.marked }) grows

module _ {given : Given} {w v : List ℕ} where
  pub above_grows : Grows (FromAbove given.layout) (mark_square given.layout) w v → Grows (Follows given) (mark_square given.layout) w v
  above_grows grows = grows_as (λ u x y h i j f. from_above f) grows

  pub taking_grows : Grows (Taking (first_square given.layout) (mark_square given.layout)) (mark_square given.layout) w v → Grows (Follows given) (mark_square given.layout) w v
  taking_grows grows = grows_as (λ u x y h i j f. from_above (record { it = f.it; inside = f.inside; first = λ apart. f.above; lost = f.marked })) grows

-- as steps of all rules
module _ {given : Given} where
  pub name_grows : {w v : List ℕ} → Grows (NameLost given) (mark_square given.layout) w v → Grows (Step given) (mark_square given.layout) w v
  name_grows grows = grows_as (λ u x y h i j f. by_itself (by_name f)) grows

  pub follows_grows : {w v : List ℕ} → Grows (Follows given) (mark_square given.layout) w v → Grows (Step given) (mark_square given.layout) w v
  follows_grows grows = grows_as (λ u x y h i j f. follows_step f) grows

  pub taking_pass : {D : List ℕ → Type 0} {w v : List ℕ} {r : Bool} → Pass (Taking (first_square given.layout) (mark_square given.layout)) (mark_square given.layout) D w v r
      → Pass (Step given) (mark_square given.layout) D w v r
  taking_pass p = pass_by (λ u x y h i j f. by_above (record { it = f.it; inside = f.inside; first = λ apart. f.above; lost = f.marked })) p

  pub looked : {w u v : List ℕ} {x : ℕ} {p q : Bool} → Pass (NameLost given) (mark_square given.layout) (ByName given x) w u p
      → Pass (Follows given) (mark_square given.layout) (ByEdge given x) u v q → Pass (Step given) (mark_square given.layout) (Looked given x) w v (p || q)
  looked name edge = pass_both (λ n e. record { name = n; edge = e }) (pass_by (λ u x y h i j f. by_itself (by_name f)) name) (pass_by (λ u x y h i j f. follows_step f) edge)

-- rows with nothing left to mark; ⊤ has no axiom
pub quiet_rows : {given : Given} {w : List ℕ} → Below (Looked given) given.layout.names w
    → Below (Takes (first_square given.layout) (mark_square given.layout)) (suc given.layout.names) w → Below (Row given) (suc given.layout.names) w
quiet_rows {given} {w} looked takes = record {
  at = λ x h. record {
    cells = record { at = λ y i. record { marked = cell x y (omega arith) } };
    above = record { at = λ c i. record { within = λ m. (takes.at x h).each c (omega arith) m } };
  };
}
  where
    cell : (x y : ℕ) → y ≤ given.layout.names → Own given w x y → Marked (mark_square given.layout) w x y
    cell x y h (by_name e) = (looked.at x e.is_name).name.marked y h e
    cell x y h (by_edge e) = (looked.at x e.lost.edge.is_name).edge.marked y h e

-- a name that loses nothing
pub by_name_none : {given : Given} {x : ℕ} {w : List ℕ} → (chosen given.layout given.chosen_names.now).has_name x ≡ false → ByName given x w
by_name_none e = record { marked = λ y h o. absurd (false≢true (sym e ∙ o.chosen_name)) }
