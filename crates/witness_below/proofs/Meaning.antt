-- Rows by the rules of backward marks, in the numbers that the code has.
--   plain_column              a column that is not defined by a conjunction
--   row_of_part, row_of_everything, row_of_none, row_of_name, row_of_role     rows for the pair x, y
--   chain_rows, row_of_parts  and one that is made conjunct by conjunct
use mathlib.Core.Path.{◌≡◌, refl, sym, ap, ◌∙◌}
use mathlib.Core.Bool.{false}
use mathlib.Core.Logic.{inl, inr}
use mathlib.Core.List.{List}
use Prim.Native.Nat.{ℕ, suc, ◌+◌, ◌≤◌, ◌<◌}
use native.Mathlib.Omega.{arith}
use native.Mathlib.Decide.{ℕ_discrete}
use Rattle.el.specs.Lists.{In}
use Rattle.el.specs.Concepts.{name, both, everything, named, concept_of}
use Rattle.el.specs.Axioms.{parts_of, filler_of, Terminology}
use Rattle.el.specs.Derivability.{Derives, to_top, one, other}
use Rattle.el.specs.Signatures.{Signature}
use Rattle.el.specs.Answers.{node, name_under, partner}
use Rattle.el.proofs.Tests.{which}
use Rattle.el.proofs.Derivations.{◌▹◌}
use Rattle.el.proofs.Classification.{InclusionTable}
use Rattle.el.proofs.PlainNodes.{plain_name, from_parts_of}
use Rattle.el.proofs.BackwardMarks.{Below, PlainColumn, plain_nothing, plain_node, Partner, filler, none, partner_is}
use Rattle.concept_rows.proofs.Columns.{both_lost}
use Rattle.concept_rows.specs.Rows.{row, is_both, concept_of_row}
use Rattle.concept_rows.specs.Lent.{row_at}
use Rattle.concept_rows.specs.Written.{Formed, Lost}
use Rattle.concept_rows.proofs.Rows.{same_concept, both_row}
use Rattle.concept_rows.proofs.RightRows.{lost_of_part, lost_of_everything, lost_of_name, lost_of_role}
use Rattle.release.specs.Files.{content_of}
use Rattle.release.specs.Entries.{node_number}
use Rattle.release.specs.Tables.{kind_at, filler_at, count_at, part_at}
use Rattle.marks.specs.Squares.{Marked}
use Rattle.classification.specs.Inclusions.{node_at, says}
use Rattle.classification.proofs.Nodes.{at_top, at_name, at_node, number_at, at_number, said, marked}
use Rattle.classification.proofs.AxiomRows.{PartAt, defined_conjunction, defined_restriction, name_is, filler_is, part_in, part_at_lem, formed, ranges, own}
use Rattle.layout.specs.Layouts.{second_square}
use Rattle.backward.specs.Backward.{column_at}
use Rattle.backward.proofs.Columns.{column_last, column_name, last_or_name, named_column, column_in}
use Rattle.backward.proofs.Defined.{found_2, found_4, not_joined, fills_filled, filled_by}
use Rattle.row_evaluation.proofs.Worlds.{filler_node_lem}
use Rattle.witness_above.proofs.LeftSteps.{put_agrees}
use Rattle.witness_above.proofs.LeftEnd.{world_table}
use Rattle.row_evaluation.specs.RowForms.{RowPut}
use Rattle.layout.specs.declared.Given.{Given}
use Rattle.witness_below.specs.Cells.{cell_at}
use Rattle.witness_below.specs.declared.finding.Partner.{Partner as RolePartner}
use Rattle.witness_below.specs.Finding.{LostName, PartnerIs, partner_filler, partner_nothing, PartnerTop, PartnerOf}
use Rattle.witness_below.specs.Looking.{Chain, chain_first, chain_more}
use Rattle.witness_below.specs.Tasks.{Ready, Over, RowFor, RightReport}
use Rattle.witness_below.proofs.Reports.{report_grown}

module _ {given : Given} {w : List ℕ} (ready : Ready given w) where
  abbrev n : ℕ
  n = given.layout.names

  abbrev t : Terminology
  t = content_of given.first.file.now

  abbrev u : Terminology
  u = content_of given.second.file.now

  -- plain columns
  pub plain_column : {y : ℕ} → y ≤ n → (y < n → kind_at given.second.table.now y ≡ 2 → ⊥) → PlainColumn u (column_at n y)
  plain_column {y} y_in k = elim (last_or_name n y y_in) [
    | inl e ↦ rw (column_last n y e) plain_nothing
    | inr h ↦ rw (column_name n y h) (plain_node (plain_name (not_joined ready.second_world.release ready.second_world.names (k h))))
  ]

  -- partners
  pub partner_number : {y q r : ℕ} → y ≤ n → PartnerIs given y q r → partner u q (column_at n y) ≡ column_at n r
  partner_number {y} {q} {r} y_in p = by_partner p (partner_is u q (column_at n y))
    where
      by_partner : PartnerIs given y q r → Partner u q (column_at n y) (partner u q (column_at n y)) → partner u q (column_at n y) ≡ column_at n r
      by_partner (partner_filler filled is small) (filler {b = d} d_in e fills f) =
          let o = named_column n y d.left y_in e in
          let g = own ready.second_world.release ready.second_world.names d_in in
          let at : node_number n (filler_of d) ≡ filler_at given.second.table.now y = filler_is g fills.is_restriction ∙ ap (filler_at given.second.table.now) o.1 in
          let back : node_at n (node_number n (filler_of d)) ≡ filler_of d = at_number n (filler_of d) ((formed ready.second_world.release ready.second_world.names).filler_in d_in) in
          let named_filler : filler_of d ≡ named r = sym back ∙ ap (node_at n) (at ∙ sym is) ∙ at_name n r small in
          f ∙ ap node named_filler ∙ sym (column_name n r small)
      by_partner (partner_filler filled is small) (none k f) =
          let o = found_4 ready.second_world.release ready.second_world.names y filled.is_name filled.kind in
          absurd (k o.it o.member (ap (λ z. node (named z)) o.left ∙ sym (column_name n y filled.is_name)) (filled_by ready.second_world.release ready.second_world.names filled o))
      by_partner (partner_nothing not_filled is) (filler {b = d} d_in e fills f) =
          let o = named_column n y d.left y_in e in
          absurd (not_filled (rw o.1 at (fills_filled ready.second_world.release ready.second_world.names d_in fills)))
      by_partner (partner_nothing not_filled is) (none k f) = f ∙ sym (column_last n r is)

  pub partner_in : {y q r : ℕ} → PartnerIs given y q r → r ≤ n
  partner_in (partner_filler filled is small) = omega arith
  partner_in (partner_nothing not_filled is) = omega arith

  pub partner_everything : {y q : ℕ} → y ≤ n → PartnerTop given y q → partner u q (column_at n y) ≡ node everything
  partner_everything {y} {q} y_in p = by_partner (partner_is u q (column_at n y))
    where
      by_partner : Partner u q (column_at n y) (partner u q (column_at n y)) → partner u q (column_at n y) ≡ node everything
      by_partner (filler {b = d} d_in e fills f) =
          let o = named_column n y d.left y_in e in
          let g = own ready.second_world.release ready.second_world.names d_in in
          let at : node_number n (filler_of d) ≡ filler_at given.second.table.now y = filler_is g fills.is_restriction ∙ ap (filler_at given.second.table.now) o.1 in
          let within = (ranges ready.second_world.release ready.second_world.names).filler y p.filled.is_name (rw p.filled.kind refl) in
          let back : node_at n (node_number n (filler_of d)) ≡ filler_of d = at_number n (filler_of d) ((formed ready.second_world.release ready.second_world.names).filler_in d_in) in
          f ∙ ap node (sym back ∙ at_top n (node_number n (filler_of d)) (omega (arith, p.top)))
      by_partner (none k f) =
          let o = found_4 ready.second_world.release ready.second_world.names y p.filled.is_name p.filled.kind in
          absurd (k o.it o.member (ap (λ z. node (named z)) o.left ∙ sym (column_name n y p.filled.is_name))
          (filled_by ready.second_world.release ready.second_world.names p.filled o))

  -- names below columns
  pub not_under : {b y : ℕ} → y ≤ n → (y < n → Marked (second_square given.layout) w b y → ⊥) → name_under (says (second_square given.layout) w) b (column_at n y) ≡ false
  not_under {b} {y} y_in k = elim (last_or_name n y y_in) [
    | inl e ↦ rw (column_last n y e) refl
    | inr h ↦ rw (column_name n y h) (elim (which (says (second_square given.layout) w (named b) (named y))) [ inl z ↦ absurd (k h (marked (named b) (named y) refl refl z)) | inr z ↦ z ])
  ]

  module _ {sig : Signature} (over : Over sig given) {k : ℕ} {ys : List ℕ} (right : RightReport sig given k ys w) where
    abbrev first_table : InclusionTable n t
    first_table = world_table ready.first_world

    abbrev second_table : InclusionTable n u
    second_table = world_table ready.second_world

    pub row_of_part : {x y z j : ℕ} → x ≤ n → y < n → kind_at given.second.table.now y ≡ 2 → PartAt given.second.file.now given.second.table.now y z → z < n
        → cell_at given.layout w x z ≡ j + 2 → RowFor given k ys x y j
    row_of_part {x} {y} {z} {j} x_in y_in kind part z_in kept =
        let f = found_2 ready.second_world.release ready.second_world.names y y_in kind in
        let d = defined_conjunction f kind in
        let member : In (parts_of f.it) z = rw part.is at (part_in f d.0 part.at part.inside) in
        let is_y : node (named f.it.left) ≡ column_at n y = ap (λ i. node (named i)) f.left ∙ sym (column_name n y y_in) in
        lost_of_part f.member is_y member (rw (column_name n z z_in) at (right.lost x z j x_in (omega arith) kept))

    -- a row of ⊤
    row_of_top : (x y : ℕ) {m : ℕ} → PlainColumn u (column_at n y) → Derives t (concept_of_row (row_at ys) m) (concept_of (node_at n x)) → m < k → row_at ys m ≡ row 0 0 0 → RowFor given k ys x y m
    row_of_top x y plain below_x inside is = lost_of_everything over.comparable first_table second_table right.formed plain below_x inside is

    pub row_of_everything : (x y : ℕ) {m : ℕ} → PlainColumn u (column_at n y) → x ≡ n → m < k → row_at ys m ≡ row 0 0 0 → RowFor given k ys x y m
    row_of_everything x y plain e inside is = row_of_top x y plain (rw (at_top n x e) to_top) inside is

    pub row_of_none : (x y : ℕ) {m : ℕ} → PlainColumn u (column_at n y) → x < n → kind_at given.first.table.now x ≡ 2 → count_at given.first.file.now given.first.table.now x ≡ 0 → m < k
        → row_at ys m ≡ row 0 0 0
        → RowFor given k ys x y m
    row_of_none x y plain x_in kind empty inside is =
        let f = found_2 ready.first_world.release ready.first_world.names x x_in kind in
        let d = defined_conjunction f kind in
        row_of_top x y plain (from_parts_of f.member (name_is f x_in) (record { is_defined = d.1; is_conjunctive = d.0 })
        (λ z z_in. let p = part_at_lem f d.0 z_in in absurd (omega (arith, p.inside)))) inside is

    pub row_of_name : {x y b m : ℕ} → x ≤ n → y ≤ n → b < n → LostName given w x y b → m < k → row_at ys m ≡ row 1 b 0 → RowFor given k ys x y m
    row_of_name {x} {y} {b} x_in y_in b_in lost inside is =
        lost_of_name over.comparable first_table second_table right.formed (at_node n x x_in) (column_in n y y_in)
        (sym (over.name b b_in) ∙ lost.chosen_name)
        (said (named b) (node_at n x) refl (number_at n x x_in) lost.first) (not_under y_in lost.not_second) inside is

    pub row_of_role : {x y m : ℕ} {p : RolePartner} → x < n → y ≤ n → kind_at given.first.table.now x ≡ 4 → PlainColumn u (column_at n y)
        → PartnerOf given x y p → cell_at given.layout w (filler_at given.first.table.now x) p.over ≡ m + 2 → {zs : List ℕ}
        → RowPut k (row 3 p.role.0 m) ys zs → Formed sig (row_at zs) (suc k) → RowFor given (suc k) zs x y k
    row_of_role {x} {y} {m} {p} x_in y_in kind plain found kept {zs} put well =
        let f = found_4 ready.first_world.release ready.first_world.names x x_in kind in
        let d = defined_restriction f kind in
        let fills = filled_by ready.first_world.release ready.first_world.names (record { is_name = x_in; kind = kind; role = over.serves x p.role.0 x_in found.edge }) f in
        let within = (ranges ready.first_world.release ready.first_world.names).filler x x_in (rw kind refl) in
        let is_filler_lem = filler_node_lem ready.first_world f d.0 in
        let lost = rw (is_filler_lem, ← partner_number y_in found.is) at (right.lost (filler_at given.first.table.now x) p.over m within (partner_in found.is) kept) in
        lost_of_role over.comparable first_table second_table right.formed plain f.member (name_is f x_in) fills lost (put_agrees put) well put.here

-- conjunct by conjunct
pub record Conjoined (given : Given) (k : ℕ) (ys : List ℕ) (x y i m : ℕ) : Type 0 where
  pub inside : m < k
  pub first : (j : ℕ) → j < i → Derives (content_of given.first.file.now) (concept_of_row (row_at ys) m) (name (part_at given.first.file.now given.first.table.now x j))
  pub second : Below (content_of given.second.file.now) (concept_of_row (row_at ys) m) (column_at given.layout.names y) → ⊥

module _ {given : Given} {w : List ℕ} (ready : Ready given w) {sig : Signature} (over : Over sig given) {x y : ℕ} (x_in : x < given.layout.names) (y_in : y ≤ given.layout.names)
    (kind : kind_at given.first.table.now x ≡ 2) (plain : PlainColumn (content_of given.second.file.now) (column_at given.layout.names y)) where
  part_name : (i : ℕ) → i < count_at given.first.file.now given.first.table.now x → part_at given.first.file.now given.first.table.now x i < given.layout.names
  part_name i h = (ranges ready.first_world.release ready.first_world.names).part x i x_in (rw kind refl) h

  -- a conjunct that is marked
  part_row : {k : ℕ} {ys : List ℕ} → RightReport sig given k ys w → (i m : ℕ) → i < count_at given.first.file.now given.first.table.now x
      → cell_at given.layout w (part_at given.first.file.now given.first.table.now x i) y ≡ m + 2
      → Lost (content_of given.first.file.now) (content_of given.second.file.now) (row_at ys) k (named (part_at given.first.file.now given.first.table.now x i)) (column_at given.layout.names y) m
  part_row right i m h kept = rw (at_name given.layout.names (part_at given.first.file.now given.first.table.now x i) (part_name i h))
      at (right.lost (part_at given.first.file.now given.first.table.now x i) y m (omega (arith, part_name i h)) y_in kept)

  module _ {k : ℕ} {ys : List ℕ} (right : RightReport sig given k ys w) where
    pub chain_rows : {i : ℕ} {zs : List ℕ} {j m : ℕ} → Chain given w x y k ys i zs j m → RightReport sig given j zs w × Conjoined given j zs x y i m
    chain_rows (chain_first {m = m} h kept) =
        let lost = part_row right 0 m h kept in
        (right, record { inside = lost.inside; first = λ j l. (let z : j ≡ 0 = omega arith in rw z lost.first); second = lost.second })
    chain_rows (chain_more {i = i} {zs = zs} {j = j} {m = m} {o = o} {xs = xs} chain some h kept put) =
        let before = chain_rows chain in
        let so_far = before.0 in
        let parts = before.1 in
        let lost = part_row so_far i o h kept in
        let grown = report_grown so_far put (is_both refl parts.inside lost.inside) in
        let agree = put_agrees put in
        let is : concept_of_row (row_at xs) j ≡ both (concept_of_row (row_at zs) m)
        (concept_of_row (row_at zs) o) = rw (same_concept so_far.formed agree m parts.inside, same_concept so_far.formed agree o lost.inside)
        (both_row grown.formed (omega arith) put.here parts.inside lost.inside) in (
          grown,
          record {
            inside = omega arith;
            first = λ p l. rw is (elim (ℕ_discrete p i) [ yes e ↦ other ▹ rw e lost.first | no e ↦ one ▹ parts.first p (omega arith) ]);
            second = rw is (both_lost over.comparable (world_table ready.second_world) (concept_of_row (row_at zs) m)
                (concept_of_row (row_at zs) o) (column_at given.layout.names y) plain parts.second lost.second);
          },
        )

  pub row_of_parts : (k : ℕ) (ys : List ℕ) (m : ℕ) → Conjoined given k ys x y (count_at given.first.file.now given.first.table.now x) m → RowFor given k ys x y m
  row_of_parts k ys m parts =
      let f = found_2 ready.first_world.release ready.first_world.names x x_in kind in
      let d = defined_conjunction f kind in
      record {
        inside = parts.inside;
        first = from_parts_of f.member (name_is f x_in) (record { is_defined = d.1; is_conjunctive = d.0 })
            (λ z z_in. let p = part_at_lem f d.0 z_in in rw p.is at (parts.first p.at p.inside));
        second = parts.second;
      }
