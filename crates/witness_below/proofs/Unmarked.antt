-- Where a look does nothing, no rule of backward marks gives the pair.
--   not_at_everything            no rule gives a pair with the column ⊤
--   rule_at_nothing              a rule that gives a pair gives it with nothing too
--   stuck_column                 the column is a conjunction, and x is asked for with each of its conjuncts, none marked
--   stuck_parts                  x is a conjunction, and one of its conjuncts is not marked
--   stuck_plain                  x is none: no name is lost, and its restriction, if it has one, gives nothing (other_kind, no_partner,
--                                partner_open)
--   settled_closed               where all pairs are settled, the pairs that are not open are closed under the rules
use mathlib.Core.Path.{◌≡◌, refl, sym, ap, subst, ◌∙◌}
use mathlib.Core.Bool.{true, not, false≢true}
use mathlib.Core.Logic.{inl, inr}
use mathlib.Core.List.{List}
use Prim.Native.Nat.{ℕ, suc, ◌*◌, ◌≤◌, ◌<◌}
use native.Mathlib.Omega.{arith}
use borrow.Author.Tests.{eqb-false, eqb-true, not-true}
use lib.Dec.{eqb}
use Rattle.el.specs.Lists.{In}
use Rattle.el.specs.Concepts.{Node, everything, named}
use Rattle.el.specs.Axioms.{Axiom, parts_of, filler_of, Terminology}
use Rattle.el.specs.Signatures.{Signature}
use Rattle.el.specs.Answers.{Column, nothing, node, partner}
use Rattle.el.proofs.Tests.{which, not_both, and_left, and_right, and_both}
use Rattle.el.specs.Terminologies.{Joins}
use Rattle.el.proofs.Nodes.{IsColumn}
use Rattle.el.specs.Terminologies.{IsNode}
use Rattle.el.proofs.Saturation.{Closed}
use Rattle.el.proofs.PlainNodes.{Plain, plain_name}
use Rattle.el.proofs.BackwardMarks.{PlainColumn, plain_nothing, plain_node, filler, none, partner_is, Backward, of_part, of_everything, of_parts, of_name, of_role}
use Rattle.release.specs.Files.{axioms_of, content_of}
use Rattle.release.specs.Entries.{node_number}
use Rattle.release.specs.Tables.{kind_at, filler_at, count_at, part_at}
use Rattle.classification.specs.Inclusions.{node_at, says}
use Rattle.classification.proofs.Nodes.{at_top, at_name, number_at, at_number, number_small, said, marked}
use Rattle.classification.proofs.AxiomRows.{Found, PartAt, filler_is, part_in, part_at_lem, own}
use Rattle.layout.specs.Layouts.{first_square, second_square}
use Rattle.layout.specs.Tables.{HasEdge}
use Rattle.backward.specs.Backward.{column_at}
use Rattle.backward.proofs.Columns.{column_last, column_name, last_or_name, named_column, by_column}
use Rattle.backward.proofs.Defined.{joins_2, not_2, fills_filled}
use Rattle.layout.specs.declared.Given.{Given}
use Rattle.witness_below.specs.Cells.{pair_of, cell_at}
use Rattle.witness_below.specs.declared.finding.Partner.{Partner}
use Rattle.witness_below.specs.Finding.{LostName, PartnerIs, partner_filler, partner_nothing, PartnerOf, NoPartner}
use Rattle.witness_below.specs.Tasks.{Ready, Over, is_open, not_open, Rule, Stuck, Settled}
use Rattle.witness_below.proofs.Numbering.{pair_small}
use Rattle.witness_below.proofs.Meaning.{partner_number, partner_in, partner_everything}

named_node : (n x m : ℕ) → x ≤ n → named m ≡ node_at n x → (x < n) × (m ≡ x)
named_node n x m h e = elim (last_or_name n x h) [
  | inl f ↦ (let p : named m ≡ everything = e ∙ at_top n x f in let z : ◌≡◌ {A = ℕ} 0 1 = cc in absurd (omega arith))
  | inr l ↦ (let p : named m ≡ named x = e ∙ at_name n x l in let z : m ≡ x = cc in (l, z))
]

-- the test of open pairs
one_not : (v : ℕ) → not (eqb v 1) ≡ true → v ≡ 1 → ⊥
one_not v h e = eqb-false v 1 (not-true (eqb v 1) h) e

not_one : (v : ℕ) → (v ≡ 1 → ⊥) → not (eqb v 1) ≡ true
not_one v k = elim (which (eqb v 1)) [ inl e ↦ absurd (k (eqb-true v 1 e)) | inr e ↦ rw e refl ]

module _ (given : Given) (w : List ℕ) where
  pub open_cell : (a : Node) (x y : ℕ) → node_number given.layout.names a ≡ x → y ≤ given.layout.names → not_open given w a (column_at given.layout.names y) ≡ true → cell_at given.layout w x y ≡ 1 → ⊥
  open_cell a x y e h k one = elim (last_or_name given.layout.names y h) [
    | inl f ↦ one_not (cell_at given.layout w (node_number given.layout.names a) given.layout.names) (rw (column_last given.layout.names y f) at k)
        (subst (λ (z : ℕ). cell_at given.layout w (node_number given.layout.names a) z ≡ 1) f (rw e one))
    | inr l ↦ one_not (cell_at given.layout w (node_number given.layout.names a) y)
        (and_left (not (is_open given w a y)) (not (is_open given w a given.layout.names)) (rw (column_name given.layout.names y l) at k)) (rw e one)
  ]

  -- what is open with nothing is open with all
  open_nothing : (a : Node) (c : Column) → not_open given w a c ≡ true → cell_at given.layout w (node_number given.layout.names a) given.layout.names ≡ 1 → ⊥
  open_nothing a nothing k one = one_not (cell_at given.layout w (node_number given.layout.names a) given.layout.names) k one
  open_nothing a (node everything) k one = false≢true k
  open_nothing a (node (named y)) k one = one_not (cell_at given.layout w (node_number given.layout.names a) given.layout.names)
      (and_right (not (is_open given w a y)) (not (is_open given w a given.layout.names)) k) one

  at_nothing : (a : Node) (c : Column) → not_open given w a c ≡ true → not_open given w a nothing ≡ true
  at_nothing a c k = not_one (cell_at given.layout w (node_number given.layout.names a) given.layout.names) (open_nothing a c k)

  cell_open : (a : Node) (x y : ℕ) → node_number given.layout.names a ≡ x → y ≤ given.layout.names → (cell_at given.layout w x y ≡ 1 → ⊥) → (cell_at given.layout w x given.layout.names ≡ 1 → ⊥)
      → not_open given w a (column_at given.layout.names y) ≡ true
  cell_open a x y e h k o = elim (last_or_name given.layout.names y h) [
    | inl f ↦ rw (column_last given.layout.names y f) (not_one (cell_at given.layout w (node_number given.layout.names a) given.layout.names) (λ one. o (rw e at one)))
    | inr l ↦ rw (column_name given.layout.names y l) (and_both (not_one (cell_at given.layout w (node_number given.layout.names a) y) (λ one. k (rw e at one)))
        (not_one (cell_at given.layout w (node_number given.layout.names a) given.layout.names) (λ one. o (rw e at one))))
  ]

no_partner_of_nothing : (al : Terminology) (r : ℕ) → partner al r nothing ≡ nothing
no_partner_of_nothing al r = elim (partner_is al r nothing) [ filler d_in e fills f ↦ absurd (let z : ◌≡◌ {A = ℕ} 0 1 = cc in omega arith) | none k f ↦ f ]

pub rule_at_nothing : {sig : Signature} (given : Given) (w : List ℕ) {x : Node} {y : Column} → cell_at given.layout w (node_number given.layout.names x) given.layout.names ≡ 1
    → Rule sig given w x y → Rule sig given w x nothing
rule_at_nothing given w {x} one (of_part {z = z} d_in e joins z_in m) = absurd (open_nothing given w x (node (named z)) m one)
rule_at_nothing given w one (of_everything plain e) = of_everything plain_nothing e
rule_at_nothing given w {y = y} one (of_parts plain o_in e joins every) = of_parts plain_nothing o_in e joins (record { at = λ z z_in. at_nothing given w (named z) y (every.at z z_in) })
rule_at_nothing given w one (of_name plain x_plain over below_x not_below) = of_name plain_nothing x_plain over below_x refl
rule_at_nothing given w {y = y} one (of_role {a = o} {r = r} plain x_plain o_in e fills over m) = of_role plain_nothing x_plain o_in e fills over
    (rw (no_partner_of_nothing (content_of given.second.file.now) r) (at_nothing given w (filler_of o) (partner (content_of given.second.file.now) r y) m))

no_plain_top : {al : Terminology} → PlainColumn al (node everything) → ⊥
no_plain_top (plain_node p) = elim p [ ]

pub not_at_everything : {sig : Signature} (given : Given) (w : List ℕ) {x : Node} → Rule sig given w x (node everything) → ⊥
not_at_everything given w (of_part d_in e joins z_in m) = let z : ◌≡◌ {A = ℕ} 0 1 = cc in omega arith
not_at_everything given w (of_everything plain e) = no_plain_top plain
not_at_everything given w (of_parts plain o_in e joins every) = no_plain_top plain
not_at_everything given w (of_name plain x_plain over below_x not_below) = no_plain_top plain
not_at_everything given w (of_role plain x_plain o_in e fills over m) = no_plain_top plain

module _ {given : Given} {w : List ℕ} (ready : Ready given w) {x y : ℕ} (x_in : x ≤ given.layout.names) (y_in : y ≤ given.layout.names) where
  -- forms
  column_not_plain : y < given.layout.names → kind_at given.second.table.now y ≡ 2 → PlainColumn (content_of given.second.file.now) (column_at given.layout.names y) → ⊥
  column_not_plain h e p = by_form (rw (column_name given.layout.names y h) at p)
    where
      by_form : PlainColumn (content_of given.second.file.now) (node (named y)) → ⊥
      by_form (plain_node (plain_name k)) = not_2 ready.second_world.release ready.second_world.names h k e

  node_not_plain : x < given.layout.names → kind_at given.first.table.now x ≡ 2 → Plain (content_of given.first.file.now) (node_at given.layout.names x) → ⊥
  node_not_plain h e p = by_form (rw (at_name given.layout.names x h) at p)
    where
      by_form : Plain (content_of given.first.file.now) (named x) → ⊥
      by_form (plain_name k) = not_2 ready.first_world.release ready.first_world.names h k e

  column_joined : {d : Axiom} → In (axioms_of given.second.file.now) d → node (named d.left) ≡ column_at given.layout.names y → Joins d
      → (y < given.layout.names) × (kind_at given.second.table.now y ≡ 2)
  column_joined {d} d_in e joins =
      let p = named_column given.layout.names y d.left y_in e in
      (p.0, rw (← p.1) (joins_2 ready.second_world.release ready.second_world.names d_in joins))

  not_everything : x < given.layout.names → node_at given.layout.names x ≡ everything → ⊥
  not_everything h e = let p : named x ≡ everything = sym (at_name given.layout.names x h) ∙ e in let z : ◌≡◌ {A = ℕ} 0 1 = cc in omega arith

  -- the column is a conjunction
  pub stuck_column : y < given.layout.names → kind_at given.second.table.now y ≡ 2
      → ((i : ℕ) → i < count_at given.second.file.now given.second.table.now y → cell_at given.layout w x (part_at given.second.file.now given.second.table.now y i) ≡ 1) → Stuck given w x y
  stuck_column h kind all = record { none = λ sig over rule. by_rule sig rule }
    where
      by_rule : (sig : Signature) → Rule sig given w (node_at given.layout.names x) (column_at given.layout.names y) → ⊥
      by_rule sig (of_part {b = d} {z = z} d_in e joins z_in m) =
          let p = named_column given.layout.names y d.left y_in e in
          let f = own ready.second_world.release ready.second_world.names d_in in
          let q : PartAt given.second.file.now given.second.table.now y z = rw p.1 at (part_at_lem f joins.is_conjunctive z_in) in
          let one : cell_at given.layout w x z ≡ 1 = rw q.is at (all q.at q.inside) in
          one_not (cell_at given.layout w (node_number given.layout.names (node_at given.layout.names x)) z)
          (and_left (not (is_open given w (node_at given.layout.names x) z)) (not (is_open given w (node_at given.layout.names x) given.layout.names)) m)
          (rw (number_at given.layout.names x x_in) one)
      by_rule sig (of_everything plain e) = column_not_plain h kind plain
      by_rule sig (of_parts plain o_in e joins every) = column_not_plain h kind plain
      by_rule sig (of_name plain x_plain over below_x not_below) = column_not_plain h kind plain
      by_rule sig (of_role plain x_plain o_in e fills over m) = column_not_plain h kind plain

  module _ (plain_y : y < given.layout.names → kind_at given.second.table.now y ≡ 2 → ⊥) (x_name : x < given.layout.names) where
    -- x is a conjunction
    pub stuck_parts : kind_at given.first.table.now x ≡ 2 → {z : ℕ} → PartAt given.first.file.now given.first.table.now x z → cell_at given.layout w z y ≡ 1 → Stuck given w x y
    stuck_parts kind {z} part one = record { none = λ sig over rule. by_rule sig rule }
      where
        by_rule : (sig : Signature) → Rule sig given w (node_at given.layout.names x) (column_at given.layout.names y) → ⊥
        by_rule sig (of_part d_in e joins z_in m) = let j = column_joined d_in e joins in plain_y j.0 j.1
        by_rule sig (of_everything plain e) = not_everything x_name e
        by_rule sig (of_parts {a = o} plain o_in e joins every) =
            let p = named_node given.layout.names x o.left x_in e in
            let f = own ready.first_world.release ready.first_world.names o_in in
            let q : PartAt given.first.file.now given.first.table.now o.left z = rw p.1 part in
            let z_in : In (parts_of o) z = rw q.is at (part_in f joins.is_conjunctive q.at q.inside) in
            open_cell given w (named z) z y refl y_in (every.at z z_in) one
        by_rule sig (of_name plain x_plain over below_x not_below) = node_not_plain x_name kind x_plain
        by_rule sig (of_role plain x_plain o_in e fills over m) = node_not_plain x_name kind x_plain

    -- x is no conjunction
    abbrev NoRole : Type 0
    NoRole = (sig : Signature) → Over sig given → (r : ℕ) → HasEdge given.edges.now x r → kind_at given.first.table.now x ≡ 4
        → not_open given w (node_at given.layout.names (filler_at given.first.table.now x)) (partner (content_of given.second.file.now) r (column_at given.layout.names y)) ≡ true
        → ⊥

    pub stuck_plain : (kind_at given.first.table.now x ≡ 2 → ⊥) → ((b : ℕ) → b < given.layout.names → LostName given w x y b → ⊥) → NoRole → Stuck given w x y
    stuck_plain not_joined no_name no_role = record { none = by_rule }
      where
        by_rule : (sig : Signature) → Over sig given → Rule sig given w (node_at given.layout.names x) (column_at given.layout.names y) → ⊥
        by_rule sig over (of_part d_in e joins z_in m) = let j = column_joined d_in e joins in plain_y j.0 j.1
        by_rule sig over (of_everything plain e) = not_everything x_name e
        by_rule sig over (of_parts {a = o} plain o_in e joins every) =
            let p = named_node given.layout.names x o.left x_in e in
            not_joined (rw (← p.1) (joins_2 ready.first_world.release ready.first_world.names o_in joins))
        by_rule sig over (of_name {b = d} plain x_plain is_chosen below_x not_below) =
            let d_in = over.comparable.names_in d is_chosen in
            no_name d d_in (record {
              chosen_name = over.name d d_in ∙ is_chosen;
              first = marked (named d) (node_at given.layout.names x) refl (number_at given.layout.names x x_in) below_x;
              not_second = λ h m. not_both (said (named d) (named y) refl refl m) (rw (column_name given.layout.names y h) at not_below);
            })
        by_rule sig over (of_role {a = o} {r = r} plain x_plain o_in e fills is_chosen m) =
            let p = named_node given.layout.names x o.left x_in e in
            let f : Found given.first.file.now given.first.table.now given.layout.names o.left = own ready.first_world.release ready.first_world.names o_in in
            let filled = fills_filled ready.first_world.release ready.first_world.names o_in fills in
            let kind : kind_at given.first.table.now x ≡ 4 = rw (← p.1) filled.kind in
            let edge = over.edge x r x_name kind is_chosen (rw (← p.1) filled.role) in
            let end : filler_of o ≡ node_at given.layout.names (filler_at given.first.table.now x) = sym
            (at_number given.layout.names (filler_of o) (over.comparable.first_formed.filler_in o_in)) ∙ ap (node_at given.layout.names)
            (filler_is f fills.is_restriction ∙ ap (filler_at given.first.table.now) p.1) in
            no_role sig over r edge kind (rw (← end) m)

    pub other_kind : (kind_at given.first.table.now x ≡ 4 → ⊥) → NoRole
    other_kind k sig over r edge kind m = k kind

    pub no_partner : NoPartner given x y → NoRole
    no_partner found sig over r edge kind m = false≢true (rw (partner_everything ready y_in (found.top r edge)) at m)

    pub partner_open : {p : Partner} → filler_at given.first.table.now x ≤ given.layout.names → PartnerOf given x y p
        → cell_at given.layout w (filler_at given.first.table.now x) p.over ≡ 1 → NoRole
    partner_open {p} end_in found one sig over r edge kind m = by_column_kind found.is
      where
        number : node_number given.layout.names (node_at given.layout.names (filler_at given.first.table.now x)) ≡ filler_at given.first.table.now x
        number = number_at given.layout.names (filler_at given.first.table.now x) end_in

        by_column_kind : PartnerIs given y p.role.0 p.over → ⊥
        by_column_kind (partner_filler filled is small) =
            let for_r : PartnerIs given y r p.over = partner_filler (found.all_served small r edge) is small in
            open_cell given w (node_at given.layout.names (filler_at given.first.table.now x)) (filler_at given.first.table.now x) p.over number (partner_in ready for_r)
            (rw (partner_number ready y_in for_r) at m) one
        by_column_kind (partner_nothing not_filled is) = open_nothing given w (node_at given.layout.names (filler_at given.first.table.now x))
            (partner (content_of given.second.file.now) r (column_at given.layout.names y)) m (rw number (subst (λ c. cell_at given.layout w (filler_at given.first.table.now x) c ≡ 1) is one))

-- all pairs
pub settled_closed : {sig : Signature} {given : Given} {w : List ℕ} → Over sig given → ((p : ℕ) → p < suc given.layout.names * suc given.layout.names → Settled given w p)
    → Closed (IsNode given.layout.names) (IsColumn given.layout.names)
    (Backward sig (content_of given.first.file.now) (content_of given.second.file.now) (says (first_square given.layout) w) (says (second_square given.layout) w)) (not_open given w)
settled_closed {sig} {given} {w} over settled x y x_in y_in rule = elim (by_column given.layout.names y y_in) [
  | inl e ↦ absurd (not_at_everything given w (rw e at rule))
  | inr k ↦ rw (← k.is) (cell_open given w x (node_number given.layout.names x) k.number refl k.small
      (λ one. (stuck k.number k.small one).none sig over (rw (at_number given.layout.names x x_in, k.is) rule))
      (λ one. (stuck given.layout.names (omega arith) one).none sig over
      (rw (at_number given.layout.names x x_in, column_last given.layout.names given.layout.names refl) (rule_at_nothing given w one rule))))
]
  where
    stuck : (c : ℕ) → c ≤ given.layout.names → cell_at given.layout w (node_number given.layout.names x) c ≡ 1 → Stuck given w (node_number given.layout.names x) c
    stuck c c_in one =
        let row_in = number_small given.layout.names x x_in in
        (settled (pair_of given.layout.names (node_number given.layout.names x) c) (pair_small given.layout.names (node_number given.layout.names x) c row_in c_in)).at
        (node_number given.layout.names x) c row_in c_in refl one
