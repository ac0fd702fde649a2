-- Laws of the rules of backward marks, as the functions test them.
--   no_rule_row, not_joined_column          a row or a column that needs no look
--   all_serving, none_serving, some_serving     the roles of an edge that serve for a column
--   outside, from_nothing, tells_role_lost      which roles of an edge give a mark
--   cell_marked, cell_put, cell_none        a pair looked at;  row_to, row_end: the pairs of a row
--   missing_grows, name_row                 the columns that a line has not, which has what lies above a name
--   over_grows                              a restriction over another one
--   setting, named, squares                 what the functions ask is there
--   given_below, handed_below               the marks of a row handed on
--   below_grows, name_grows, follows_grows  growth by what lies below, or by names, or by what follows, is growth by the rules
--   Looked, looked, looked_end              the row and the column of a name looked at, and those of all
--   quiet_changed, quiet_unchanged          a pass over the pairs and one that hands marks on
use mathlib.Core.Path.{◌≡◌, refl}
use mathlib.Core.Bool.{Bool, true, false, ◌||◌}
use mathlib.Core.List.{List}
use mathlib.Core.Logic.{inl, inr}
use Prim.Native.Nat.{ℕ, suc, ◌≤◌, ◌<◌}
use native.Mathlib.Omega.{arith}
use native.Mathlib.Decide.{dec_lt}
use Rattle.el.proofs.Tests.{Tells, tells_as}
use Rattle.release.specs.Roles.{NoRole, Met, Without}
use Rattle.release.specs.Tables.{kind_at, role_at, filler_at, ServingAt}
use Rattle.release.proofs.RoleSets.{empty, some_role}
use Rattle.marks.specs.Squares.{Marked, Put, First, Nowhere}
use Rattle.marks.specs.Passes.{Grows, Pass, Below, FromRow}
use Rattle.marks.specs.Lines.{Empty, Joined, Missing, Full}
use Rattle.marks.specs.Inclusions.{Giving, Gives}
use Rattle.marks.proofs.Squares.{not_true, marked_frame}
use Rattle.marks.proofs.Passes.{grows_frame, grows_as, marks_stay, grows_further, pass_none, pass_as, pass_by, pass_both, turns_to, put_pass, put_grows}
use Rattle.marks.proofs.Handing.{stays_anywhere}
use Rattle.layout.specs.declared.Given.{Given}
use Rattle.layout.specs.declared.Layout.{Layout}
use Rattle.layout.specs.Layouts.{first_square, second_square, mark_square, chosen}
use Rattle.layout.specs.Comparing.{Comparing}
use Rattle.layout.proofs.Comparing as comparing
use Rattle.layout.specs.Tables.{edges_at, HasEdge}
use Rattle.backward.specs.Rules.{Setting, Named, Squares, NameLost, Filled, Serving, Restricted, PartnerLost, of_filler, of_nothing, RoleLost, NothingLost, FillerLost, Filling, NoRule}
use Rattle.backward.specs.Rules.{PartLost, RowLost, by_top, by_parts, by_role, PlainLost, by_part, by_row, Own, by_definition, by_name, Over, FromBelow, Follows}
use Rattle.backward.specs.Rules.{from_definition, from_below, Step, by_own, by_below, follows_step, Cell, Row, Column, Quiet}

-- definitions
module _ {given : Given} {w : List ℕ} {x y : ℕ} where
  no_rule : NoRule given x → RowLost given w x y → ⊥
  no_rule n (by_top d) = omega (arith, n.is_name)
  no_rule n (by_parts d i p) = n.not_joined i
  no_rule n (by_role d i p) = (n.no_edge i).none p.role p.edge

  pub no_rule_row : NoRule given x → Cell (PlainLost given) given.layout x y w
  no_rule_row n = record { marked = λ p. absurd (no_rule n p.row) }

-- the roles of an edge that serve for y
pub record SomeServing (given : Given) (x y : ℕ) : Type 0 where
  pub role : ℕ
  pub edge : HasEdge given.edges.now x role
  pub filled : Filled given.second.table.now given.layout.names y role

module _ {given : Given} {x y : ℕ} where
  pub all_serving : {served set : ℕ} → x < given.layout.names → Restricted given.second.table.now given.layout.names y
      → ServingAt given.second.table.now (role_at given.second.table.now y) served → Met (edges_at given.edges.now x) served set → Serving given x y set
  all_serving x_in restricted served met = record {
    tells = λ r. (
      λ k. let w = (met.both r).0 k in (w.0, record { is_name = restricted.is_name; kind = restricted.kind; role = (served.tells r (given.edges_found.few x r x_in w.0)).0 w.1 }),
      λ w. (met.both r).1 (w.0, (served.tells r (given.edges_found.few x r x_in w.0)).1 w.1.role),
    );
  }

  pub none_serving : (Restricted given.second.table.now given.layout.names y → ⊥) → Serving given x y 0
  none_serving f = record { tells = λ r. (λ k. absurd (empty.none r k), λ w. absurd (f (record { is_name = w.1.is_name; kind = w.1.kind }))) }

  module _ {set : ℕ} (serving : Serving given x y set) where
    pub some_serving : (NoRole set → ⊥) → SomeServing given x y
    some_serving some = let e = some_role some in let w = (serving.tells e.it).0 e.has in record { role = e.it; edge = w.0; filled = w.1 }

    module _ {w : List ℕ} where
      pub from_nothing : NothingLost given w x set → RoleLost given w x y
      from_nothing l = record { role = l.role; edge = l.edge; partner = of_nothing (λ f. l.free ((serving.tells l.role).1 (l.edge, f))) l.marked }

      from_filler : FillerLost given w x y set → RoleLost given w x y
      from_filler l = let s = some_serving l.some in record { role = s.role; edge = s.edge; partner = of_filler s.filled l.small l.marked }

      to_filler : (NothingLost given w x set → ⊥) → RoleLost given w x y → FillerLost given w x y set
      to_filler f l = by_partner l.partner
        where
          by_partner : PartnerLost given w y l.role (filler_at given.first.table.now x) → FillerLost given w x y set
          by_partner (of_filler filled small m) = record { some = λ n. n.none l.role ((serving.tells l.role).1 (l.edge, filled)); small = small; marked = m }
          by_partner (of_nothing free m) = absurd (f (record { role = l.role; edge = l.edge; free = λ h. free ((serving.tells l.role).0 h).1; marked = m }))

      pub tells_role_lost : {b : Bool} → (NothingLost given w x set → ⊥) → Tells b (FillerLost given w x y set) → Tells b (RoleLost given w x y)
      tells_role_lost f t = tells_as from_filler (to_filler f) t

-- some role of x's edge is outside a set
pub outside : {given : Given} {w : List ℕ} {x set rest : ℕ} → Without (edges_at given.edges.now x) set rest → (NoRole rest → ⊥)
    → Marked (mark_square given.layout) w (filler_at given.first.table.now x) given.layout.names → NothingLost given w x set
outside rest some m = let e = some_role some in let w = (rest.first_alone e.it).0 e.has in record { role = e.it; edge = w.0; free = w.1; marked = m }

-- a pair
module _ {Rule : List ℕ → ℕ → ℕ → Type 0} {l : Layout} {w : List ℕ} {x y : ℕ} where
  pub cell_marked : Marked (mark_square l) w x y → Pass Rule (mark_square l) (Cell Rule l x y) w w false
  cell_marked m = pass_none (record { marked = λ p. m })

  cell_there : Marked (mark_square l) w x y → Cell Rule l x y w
  cell_there m = record { marked = λ p. m }

  pub cell_none : (Rule w x y → ⊥) → Pass Rule (mark_square l) (Cell Rule l x y) w w false
  cell_none f = pass_none (record { marked = λ p. absurd (f p) })

  pub cell_put : {v : List ℕ} {r : Bool} → Rule w x y → Put (mark_square l) x y w v r → Pass Rule (mark_square l) (Cell Rule l x y) w v r
  cell_put e p = pass_as (λ m. record { marked = λ q. m }) (put_pass p e)

-- the pairs of a row before the next one that is not marked, and all
module _ {Rule : List ℕ → ℕ → ℕ → Type 0} {l : Layout} {u w : List ℕ} {x k : ℕ} {r : Bool} (seen : Pass Rule (mark_square l) (Below (Cell Rule l x) k) u w r) where
  pub row_to : {There : ℕ → Type 0} {y : ℕ} → First There (Marked (mark_square l) w x) l.names k y → Pass Rule (mark_square l) (Below (Cell Rule l x) y) u w r
  row_to n = turns_to seen (λ i h j. cell_there (n.before i h j))

  pub row_end : Nowhere (Marked (mark_square l) w x) l.names k → Pass Rule (mark_square l) (Row Rule l x) u w r
  row_end n = pass_as (λ b. record { cells = b }) (turns_to seen (λ i h j. cell_there (n.each i h (omega arith))))

pub not_joined_column : {given : Given} {w : List ℕ} {y : ℕ} → (kind_at given.second.table.now y ≡ 2 → ⊥) → Column (PartLost given) given.layout y w
not_joined_column f = record { cells = record { at = λ x h. record { marked = λ p. absurd (f p.kind) } } }

-- names
module _ {given : Given} {w : List ℕ} {x : ℕ} {i k : List ℕ} (h : Named given w) (x_in : x ≤ given.layout.names)
    (has : (chosen given.layout given.chosen_names.now).has_name x ≡ true) (empty : Empty i) (row : Joined (second_square given.layout) w x i k) where
  missing_lost : (u : List ℕ) (z y : ℕ) → Grows (Missing k x) (mark_square given.layout) w u → z ≤ given.layout.names → y ≤ given.layout.names → Missing k x u z y → NameLost given u z y
  missing_lost u z y grows z_in y_in m = record
      { chosen_name = rw m.row has; not_second = inr (λ j. m.not_there (row.has y y_in (marked_frame (grows_frame grows) (inl h.apart) x_in y_in (rw m.row at j)))) }

  pub missing_grows : {v : List ℕ} → Grows (Missing k x) (mark_square given.layout) w v → Grows (NameLost given) (mark_square given.layout) w v
  missing_grows grows = grows_as missing_lost grows

  nothing_lost : {u : List ℕ} → NameLost given u x given.layout.names
  nothing_lost = record { chosen_name = has; not_second = inl refl }

  pub name_row : {u v : List ℕ} {r o : Bool} → Pass (Missing k x) (mark_square given.layout) (Full (mark_square given.layout) k x) w u r → Put (mark_square given.layout) x given.layout.names u v o
      → Pass (NameLost given) (mark_square given.layout) (Row (NameLost given) given.layout x) w v (r || o)
  name_row {u} {v} full put = pass_both done (pass_by missing_lost full) (put_pass put nothing_lost)
    where
      grown : Grows (NameLost given) (mark_square given.layout) w v
      grown = grows_further (missing_grows full.grows) (put_grows put nothing_lost)

      done : Full (mark_square given.layout) k x v → Marked (mark_square given.layout) v x given.layout.names → Row (NameLost given) given.layout x v
      done f m = record {
        cells = record {
          at = λ y y_in. record {
            marked = λ p. elim p.not_second [
              | inl e ↦ rw e m
              | inr j ↦ f.marked y (omega arith) (λ q. elim (row.only y (omega arith) q) [ inl z ↦ empty.none y z | inr z ↦ j (stays_anywhere grown z) ])
            ];
          };
        };
      }

-- a restriction over another one
module _ {given : Given} {w : List ℕ} {x y z : ℕ} (filling : Filling given x z) (y_in : y < given.layout.names) (m : Marked (mark_square given.layout) w z y) where
  over_lost : (u : List ℕ) (p c : ℕ) → Grows (Over given x y) (mark_square given.layout) w u → p ≤ given.layout.names → c ≤ given.layout.names → Over given x y u p c → Follows given u p c
  over_lost u p c grows p_in c_in o =
      let lost : PartnerLost given u c o.role z = of_filler o.filled (omega (arith, o.filler)) (rw o.filler (marks_stay grows m)) in
      rw o.row (from_definition (by_row (record {
        plain = record { not_joined = λ h e. omega (arith, o.filled.kind) };
        row = by_role filling.is_name filling.kind (record { role = o.role; edge = o.edge; partner = rw filling.filler lost });
      })))

  pub over_grows : {v : List ℕ} → Grows (Over given x y) (mark_square given.layout) w v → Grows (Follows given) (mark_square given.layout) w v
  over_grows grows = grows_as over_lost grows

-- what is asked
pub setting : {given : Given} {w : List ℕ} → Comparing given.first.file.now given.second.file.now given w → Setting given w
setting c = record {
  places = comparing.setting c;
  first_shaped = comparing.first_shaped c;
  second_shaped = comparing.second_shaped c;
  second_apart = c.second_apart;
}

module _ {given : Given} {w : List ℕ} (h : Setting given w) where
  pub named : Named given w
  named = record { second = h.places.second; marks = h.places.marks; apart = h.second_apart }

  pub squares : Squares given.layout w
  squares = record { first = h.places.first; marks = h.places.marks }

-- the marks of a row handed on
pub given_below : {l : Layout} {w v : List ℕ} → Grows (Giving (first_square l) (mark_square l)) (mark_square l) w v → Grows (FromBelow l) (mark_square l) w v
given_below grows = grows_as (λ u x y k i j r. record { lower = r.it; small = r.inside; first = r.below; marked = r.marked }) grows

pub handed_below : {l : Layout} {w v : List ℕ} {c x : ℕ} → c ≤ l.names → Marked (first_square l) w c x → Grows (FromRow (mark_square l) c x) (mark_square l) w v
    → Grows (FromBelow l) (mark_square l) w v
handed_below {l} {w} {c = c} {x = x} c_in m grows = grows_as below grows
  where
    below : (u : List ℕ) (z y : ℕ) → Grows (FromRow (mark_square l) c x) (mark_square l) w u → z ≤ l.names → y ≤ l.names → FromRow (mark_square l) c x u z y → FromBelow l u z y
    below u z y grown i j r = record { lower = c; small = c_in; first = rw r.row (stays_anywhere grown m); marked = r.marked }

-- by the rules
pub below_grows : {given : Given} {w v : List ℕ} → Grows (FromBelow given.layout) (mark_square given.layout) w v → Grows (Follows given) (mark_square given.layout) w v
below_grows grows = grows_as (λ u x y k i j r. from_below r) grows

module _ {given : Given} {w v : List ℕ} where
  pub name_grows : Grows (NameLost given) (mark_square given.layout) w v → Grows (Step given) (mark_square given.layout) w v
  name_grows grows = grows_as (λ u x y k i j r. by_own (by_name r)) grows

  pub follows_grows : Grows (Follows given) (mark_square given.layout) w v → Grows (Step given) (mark_square given.layout) w v
  follows_grows grows = grows_as (λ u x y k i j r. follows_step r) grows

-- what a pass has looked at: for each name its row and its column, and the row of ⊤
pub record Looked (given : Given) (x : ℕ) (w : List ℕ) : Type 0 where
  pub row : Row (PlainLost given) given.layout x w
  pub name : Row (NameLost given) given.layout x w
  pub column : Column (PartLost given) given.layout x w

module _ {given : Given} where
  by_plain_lem : {D : List ℕ → Type 0} {w v : List ℕ} {r : Bool} → Pass (PlainLost given) (mark_square given.layout) D w v r → Pass (Own given) (mark_square given.layout) D w v r
  by_plain_lem p = pass_by (λ u x y k i j o. by_definition (by_row o)) p

  pub looked : {w v u z : List ℕ} {x : ℕ} {o p q : Bool} → Pass (PlainLost given) (mark_square given.layout) (Row (PlainLost given) given.layout x) w v o
      → Pass (NameLost given) (mark_square given.layout) (Row (NameLost given) given.layout x) v u p → Pass (PartLost given) (mark_square given.layout) (Column (PartLost given) given.layout x) u z q
      → Pass (Own given) (mark_square given.layout) (Looked given x) w z (o || (p || q))
  looked {v = v} {z = z} {x = x} {p = p} {q = q} row name column =
      let both : Pass (Own given) (mark_square given.layout) (λ m. Row (NameLost given) given.layout x m × Column (PartLost given) given.layout x m) v z (p || q) = pass_both (λ d e. (d, e))
      (pass_by (λ m i j k h e o. by_name o) name) (pass_by (λ m i j k h e o. by_definition (by_part o)) column) in
      pass_both (λ d e. record { row = d; name = e.0; column = e.1 }) (by_plain_lem row) both

  module _ {k : ℕ} {w : List ℕ} (n : given.layout.names ≤ k) (d : Below (Looked given) k w) (top : Row (PlainLost given) given.layout given.layout.names w) where
    all_marked : (x y : ℕ) → x ≤ given.layout.names → y ≤ given.layout.names → Own given w x y → Marked (mark_square given.layout) w x y
    all_marked x y x_in y_in (by_name p) = ((d.at x (omega (arith, comparing.chosen_below given.layout given.chosen_names.now x p.chosen_name))).name.cells.at y (omega arith)).marked p
    all_marked x y x_in y_in (by_definition (by_part p)) = ((d.at y (omega (arith, p.is_name))).column.cells.at x (omega arith)).marked p
    all_marked x y x_in y_in (by_definition (by_row p)) = elim (dec_lt x given.layout.names) [
      | yes h ↦ ((d.at x (omega arith)).row.cells.at y (omega arith)).marked p
      | no h ↦ (let e : x ≡ given.layout.names = omega arith in rw e ((top.cells.at y (omega arith)).marked (rw e at p)))
    ]

    all_looked : Below (Row (Own given) given.layout) (suc given.layout.names) w
    all_looked = record { at = λ x i. record { cells = record { at = λ y j. record { marked = λ o. all_marked x y (omega arith) (omega arith) o } } } }

  pub looked_end : {u w v : List ℕ} {k : ℕ} {r o : Bool} → given.layout.names ≤ k → Pass (Own given) (mark_square given.layout) (Below (Looked given) k) u w r
      → Pass (PlainLost given) (mark_square given.layout) (Row (PlainLost given) given.layout given.layout.names) w v o
      → Pass (Own given) (mark_square given.layout) (Below (Row (Own given) given.layout) (suc given.layout.names)) u v (r || o)
  looked_end n p top = pass_both (all_looked n) p (by_plain_lem top)

  module _ {u w : List ℕ} {r : Bool} (pairs : Pass (Own given) (mark_square given.layout) (Below (Row (Own given) given.layout) (suc given.layout.names)) u w r) where
    by_pairs : Pass (Step given) (mark_square given.layout) (Below (Row (Own given) given.layout) (suc given.layout.names)) u w r
    by_pairs = pass_by (λ z x y k i j o. by_own o) pairs

    pub quiet_changed : r ≡ true → Pass (Step given) (mark_square given.layout) (Quiet given) u w true
    quiet_changed e = record { grows = by_pairs.grows; fewer = λ k. pairs.fewer e; same = λ k. not_true k; done = λ k. not_true k }

    pub quiet_unchanged : {v : List ℕ} {o : Bool} → r ≡ false
        → Pass (Giving (first_square given.layout) (mark_square given.layout)) (mark_square given.layout)
        (Below (Gives (first_square given.layout) (mark_square given.layout)) (suc given.layout.names)) w v o
        → Pass (Step given) (mark_square given.layout) (Quiet given) u v o
    quiet_unchanged e given = pass_both (λ d f. record { rows = d; handed = f }) (rw e at by_pairs)
        (pass_by (λ z x y k i j o. by_below (record { lower = o.it; small = o.inside; first = o.below; marked = o.marked })) given)
