-- The rules over the tables and the rule Backward over the axioms.
--   step_backward     a mark that definitions allow is allowed by the rule, by the squares as tests on nodes and columns
--   rows_closed       where nothing is left to mark, the test is closed under the rule
-- Not here: marks by names and by what lies below, which the rule does not have in this form (Meaning).
use mathlib.Core.Path.{◌≡◌, refl, sym, ap, ◌∙◌}
use mathlib.Core.Bool.{true, false, false≢true}
use mathlib.Core.List.{List}
use mathlib.Core.Logic.{◌⊎◌, inl, inr}
use Prim.Native.Nat.{ℕ, ◌≤◌, ◌<◌}
use native.Mathlib.Omega.{arith}
use Rattle.el.specs.Lists.{In}
use Rattle.el.specs.Concepts.{Node, everything, named}
use Rattle.el.specs.Axioms.{Axiom, is_conjunction, filler_of, Terminology}
use Rattle.el.specs.Answers.{Column, node, name_under, partner}
use Rattle.el.specs.Terminologies.{IsNode, name_node}
use Rattle.el.proofs.Tests.{not_both}
use Rattle.el.proofs.Nodes.{IsColumn}
use Rattle.el.proofs.PlainNodes.{plain_name}
use Rattle.el.proofs.BackwardMarks.{Backward, of_part, of_everything, of_parts, of_name, of_role, Partner, filler, none, partner_is}
use Rattle.el.proofs.BackwardMarks as el
use Rattle.release.specs.declared.table.Table.{Table}
use Rattle.release.specs.Files.{most_roles, axioms_of, content_of}
use Rattle.release.specs.Tables.{kind_at, role_at, filler_at, count_at, part_at}
use Rattle.release.specs.Entries.{node_number}
use Rattle.release.proofs.Linked.{role_small}
use Rattle.marks.specs.Squares.{Marked}
use Rattle.classification.specs.Inclusions.{node_at, says}
use Rattle.classification.proofs.Nodes.{at_top, number_at, number_small, said, marked}
use Rattle.classification.proofs.AxiomRows.{Found, defined_conjunction, defined_restriction, restriction_restricts, role_is, name_is, filler_is, part_in, part_at_lem, formed, own}
use Rattle.layout.specs.declared.Given.{Given}
use Rattle.layout.specs.declared.Layout.{Layout}
use Rattle.layout.specs.Layouts.{first_square, second_square, mark_square, chosen}
use Rattle.layout.specs.Searches.{SomeBelow, EachBelow}
use Rattle.layout.specs.declared.edges.Position.TheVariants as position
use Rattle.layout.specs.Findings.{EdgeChosen, Handed}
use Rattle.layout.specs.Comparing.{Comparing}
use Rattle.layout.proofs.Findings.{stands_itself, name_handed}
use Rattle.layout.proofs.Comparing.{chosen_below}
use Rattle.backward.specs.Rules.{PlainColumn, ColumnPart, RowPart, Filled, PartnerLost, of_filler, of_nothing, RoleLost, RowLost, by_top, by_parts, by_role, Defined, by_part}
use Rattle.backward.specs.Rules.{by_row, Own, by_definition, by_name, Quiet}
use Rattle.backward.specs.Backward.{column_at}
use Rattle.backward.proofs.Columns.{column_last, column_name, last_or_name, named_column, by_column, says_column, said_column, column_marked}
use Rattle.backward.proofs.Defined.{joins_2, found_2, found_4, not_joined, not_2, plain_node_at, fills_filled, filled_by}

no_plain_top : {al : Terminology} → el.PlainColumn al (node everything) → ⊥
no_plain_top (el.plain_node p) = elim p [ ]

module _ {given : Given} {g w : List ℕ} (handed : Handed position.Below g given) (c : Comparing given.first.file.now given.second.file.now given w) (v : List ℕ) where
  abbrev s : List ℕ
  s = given.first.file.now

  abbrev t : List ℕ
  t = given.second.file.now

  abbrev a : Table
  a = given.first.table.now

  abbrev b : Table
  b = given.second.table.now

  abbrev l : Layout
  l = given.layout

  abbrev n : ℕ
  n = l.names

  abbrev Rule : Node → Column → Type 0
  Rule x y = Backward (chosen l g) (content_of s) (content_of t) (says (first_square l) v) (says (second_square l) v) (says_column (mark_square l) v) x y

  -- plain columns
  plain_there : {y : ℕ} → y ≤ n → PlainColumn given y → el.PlainColumn (content_of t) (column_at n y)
  plain_there {y} y_in p = elim (last_or_name n y y_in) [
    | inl e ↦ rw (column_last n y e) el.plain_nothing
    | inr h ↦ rw (column_name n y h) (el.plain_node (plain_name (not_joined c.second_release c.second_names (p.not_joined h))))
  ]

  plain_back : {y : ℕ} → el.PlainColumn (content_of t) (column_at n y) → PlainColumn given y
  plain_back {y} p = record { not_joined = λ h e. by_form h e (rw (column_name n y h) at p) }
    where
      by_form : y < n → kind_at b y ≡ 2 → el.PlainColumn (content_of t) (node (named y)) → ⊥
      by_form h e (el.plain_node (plain_name k)) = not_2 c.second_release c.second_names h k e

  -- names below a column
  under_not : {d y : ℕ} → y ≤ n → name_under (says (second_square l) v) d (column_at n y) ≡ false → (y ≡ n) ⊎ (Marked (second_square l) v d y → ⊥)
  under_not {d} {y} y_in k = elim (last_or_name n y y_in) [
    | inl e ↦ inl e
    | inr h ↦ inr (λ m. not_both (said (named d) (named y) refl refl m) (rw (column_name n y h) at k))
  ]

  -- partners
  filler_said : (p q : Node) {x y : ℕ} → node_number n p ≡ x → node_number n q ≡ y → y < n → Marked (mark_square l) v x y → says_column (mark_square l) v p (node q) ≡ true
  filler_said p everything e f h m = absurd (omega arith)
  filler_said p (named z) e f h m = said p (named z) e f m

  partner_there : {x y r : ℕ} (f : Found s a n x) → is_conjunction f.it ≡ false → y ≤ n → PartnerLost given v y r (filler_at a x)
      → Partner (content_of t) r (column_at n y) (partner (content_of t) r (column_at n y))
      → says_column (mark_square l) v (filler_of f.it) (partner (content_of t) r (column_at n y)) ≡ true
  partner_there {x} {y} f k y_in (of_filler filled small m) (filler {b = d} d_in e fills q) =
      let p = named_column n y d.left y_in e in
      let o = own c.second_release c.second_names d_in in
      let at : node_number n (filler_of d) ≡ filler_at b y = filler_is o fills.is_restriction ∙ ap (filler_at b) p.1 in
      rw q (filler_said (filler_of f.it) (filler_of d) (filler_is f k) at small m)
  partner_there {x} {y} f k y_in (of_filler filled small m) (none d q) =
      let o = found_4 c.second_release c.second_names y filled.is_name filled.kind in
      absurd (d o.it o.member (ap (λ z. node (named z)) o.left ∙ sym (column_name n y filled.is_name)) (filled_by c.second_release c.second_names filled o))
  partner_there {x} {y} f k y_in (of_nothing not_filled m) (filler {b = d} d_in e fills q) =
      absurd (not_filled (rw (named_column n y d.left y_in e).1 at (fills_filled c.second_release c.second_names d_in fills)))
  partner_there {x} {y} f k y_in (of_nothing not_filled m) (none d q) = rw q (said (filler_of f.it) everything (filler_is f k) refl m)

  -- definitions are the rule
  module _ {x y : ℕ} (x_in : x ≤ n) (y_in : y ≤ n) where
    row_backward : PlainColumn given y → RowLost given v x y → Rule (node_at n x) (column_at n y)
    row_backward plain (by_top e) = of_everything (plain_there y_in plain) (at_top n x e)
    row_backward plain (by_parts h e p) =
        let f = found_2 c.first_release c.first_names x h e in
        let d = defined_conjunction f e in
        of_parts (plain_there y_in plain) f.member (name_is f h) (record { is_defined = d.1; is_conjunctive = d.0 })
        (record { at = λ z z_in. let q = part_at_lem f d.0 z_in in said_column (named z) refl y_in (rw q.is at (p.at q.at q.inside).marked) })
    row_backward plain (by_role h e p) =
        let f = found_4 c.first_release c.first_names x h e in
        let d = defined_restriction f e in
        let one = (handed.found.sound x p.role h p.edge).role in
        of_role (plain_there y_in plain) (plain_node_at c.first_release c.first_names h (λ z. omega arith)) f.member (name_is f h)
        (filled_by c.first_release c.first_names (record { is_name = h; kind = e; role = one.lies }) f) one.in_signature
        (partner_there f d.0 y_in p.partner (partner_is (content_of t) p.role (column_at n y)))

    pub step_backward : Defined given v x y → Rule (node_at n x) (column_at n y)
    step_backward (by_row p) = row_backward p.plain p.row
    step_backward (by_part o) =
        let p = o.part in
        let f = found_2 c.second_release c.second_names y o.is_name o.kind in
        let d = defined_conjunction f o.kind in
        of_part f.member (ap (λ z. node (named z)) f.left ∙ sym (column_name n y o.is_name)) (record { is_defined = d.1; is_conjunctive = d.0 })
        (part_in f d.0 p.it p.below) (said (node_at n x) (named (part_at t b y p.it)) (number_at n x x_in) refl p.holds.marked)

  -- and back
  said_filler : (p q : Node) {x y : ℕ} → node_number n p ≡ x → node_number n q ≡ y → IsNode n q → says_column (mark_square l) v p (node q) ≡ true → (y < n) × Marked (mark_square l) v x y
  said_filler p everything e f i m = absurd (false≢true m)
  said_filler p (named z) e f i m = (by_node i f, marked p (named z) e f m)
    where
      by_node : {y : ℕ} → IsNode n (named z) → z ≡ y → y < n
      by_node (name_node h) e = omega arith

  partner_back : {y r : ℕ} {o : Axiom} → In (axioms_of s) o → is_conjunction o ≡ false → y ≤ n → Partner (content_of t) r (column_at n y) (partner (content_of t) r (column_at n y))
      → says_column (mark_square given.layout) v (filler_of o) (partner (content_of t) r (column_at n y)) ≡ true → PartnerLost given v y r (node_number n (filler_of o))
  partner_back {y} {r} {o} o_in k y_in (filler {b = d} d_in e fills q) m =
      let p = named_column n y d.left y_in e in
      let f = own c.second_release c.second_names d_in in
      let at : node_number n (filler_of d) ≡ filler_at b y = filler_is f fills.is_restriction ∙ ap (filler_at b) p.1 in
      let z = said_filler (filler_of o) (filler_of d) refl at ((formed c.second_release c.second_names).filler_in d_in) (rw q at m) in
      of_filler (rw p.1 at (fills_filled c.second_release c.second_names d_in fills)) z.0 z.1
  partner_back {y} {r} {o} o_in k y_in (none d q) m = of_nothing (λ h. not_filled h) (marked (filler_of o) everything refl refl (rw q at m))
    where
      not_filled : Filled b n y r → ⊥
      not_filled h =
          let f = found_4 c.second_release c.second_names y h.is_name h.kind in
          d f.it f.member (ap (λ z. node (named z)) f.left ∙ sym (column_name n y h.is_name)) (filled_by c.second_release c.second_names h f)

  module _ (quiet : Quiet given v) (x : Node) (x_in : IsNode n x) where
    module _ {y : ℕ} (y_in : y ≤ n) where
      at_cell : {z : ℕ} → z ≤ n → Own given v z y → Marked (mark_square given.layout) v z y
      at_cell {z} z_in own_step = ((quiet.rows.at z (omega arith)).cells.at y (omega arith)).marked own_step

      marked_by : Defined given v (node_number n x) y → says_column (mark_square given.layout) v x (column_at n y) ≡ true
      marked_by step = said_column x refl y_in (at_cell (number_small n x x_in) (by_definition step))

      marked_row : el.PlainColumn (content_of t) (column_at n y) → RowLost given v (node_number n x) y → says_column (mark_square given.layout) v x (column_at n y) ≡ true
      marked_row plain lost = marked_by (by_row (record { plain = plain_back plain; row = lost }))

      marked_above : {d : ℕ} → d < n → Own given v d y → Marked (first_square given.layout) v d (node_number n x) → says_column (mark_square given.layout) v x (column_at n y) ≡ true
      marked_above {d} d_in own_step below_x = said_column x refl y_in
          (((quiet.handed.at d (omega arith)).each (node_number n x) (number_small n x x_in) below_x).marked y y_in (at_cell (omega arith) own_step))

      cell_closed : Rule x (column_at n y) → says_column (mark_square l) v x (column_at n y) ≡ true
      cell_closed (of_part {b = d} {z = z} d_in e joins z_in m) =
          let p = named_column n y d.left y_in e in
          let f = own c.second_release c.second_names d_in in
          let q = part_at_lem f joins.is_conjunctive z_in in
          let some : SomeBelow (ColumnPart given v (node_number n x) d.left) (count_at t b d.left) = record
          { it = q.at; below = q.inside; holds = record { marked = rw q.is (marked x (named z) refl refl m) } } in
          marked_by (by_part (record { is_name = p.0; kind = rw (← p.1) (joins_2 c.second_release c.second_names d_in joins); part = rw p.1 at some }))
      cell_closed (of_everything plain e) = marked_row plain (by_top (ap (node_number n) e))
      cell_closed (of_parts {a = o} plain o_in e joins every) =
          let f = own c.first_release c.first_names o_in in
          let each : EachBelow (RowPart given v o.left y) (count_at s a o.left) = record {
            at = λ i h. record {
              marked = column_marked (named (part_at s a o.left i)) refl y_in (every.at (part_at s a o.left i) (part_in f joins.is_conjunctive i h));
            };
          } in
          marked_row plain (rw (← e) (by_parts ((formed c.first_release c.first_names).left_in o_in) (joins_2 c.first_release c.first_names o_in joins) each))
      cell_closed (of_name {b = d} plain x_plain over below_x not_below) = marked_above (chosen_below l g d over)
          (by_name (record { chosen_name = name_handed handed d ∙ over; not_second = under_not y_in not_below })) (marked (named d) x refl refl below_x)
      cell_closed (of_role {a = o} {r = r} plain x_plain o_in e fills over m) =
          let f = own c.first_release c.first_names o_in in
          let k = fills.is_restriction in
          let h = fills_filled c.first_release c.first_names o_in fills in
          let p = partner_back o_in k y_in (partner_is (content_of t) r (column_at n y)) m in
          let small : role_at a o.left < most_roles = rw (role_is f k) (role_small s c.first_release.accepted o_in k) in
          let one : EdgeChosen position.Below g a n l.roles o.left r = record
          { is_restriction = restriction_restricts f k; small = small; role = record { in_signature = over; lies = h.role } } in
          let edge = stands_itself (handed.found.complete given.second.file.now c.second_release o.left r h.is_name one) in
          let lost : RoleLost given v o.left y = record { role = r; edge = edge; partner = rw (← filler_is f k) p } in
          marked_row plain (rw (← e) (by_role h.is_name h.kind lost))

    not_at_top : Rule x (node everything) → ⊥
    not_at_top (of_part d_in e joins z_in m) = let z : ◌≡◌ {A = ℕ} 0 1 = cc in omega arith
    not_at_top (of_everything plain e) = no_plain_top plain
    not_at_top (of_parts plain o_in e joins every) = no_plain_top plain
    not_at_top (of_name plain x_plain over below_x not_below) = no_plain_top plain
    not_at_top (of_role plain x_plain o_in e fills over m) = no_plain_top plain

    pub rows_closed : (y : Column) → IsColumn n y → Rule x y → says_column (mark_square l) v x y ≡ true
    rows_closed y y_in rule = elim (by_column n y y_in) [
      | inl e ↦ absurd (not_at_top (rw e at rule))
      | inr k ↦ rw (← k.is) (cell_closed k.small (rw (← k.is) at rule))
    ]
