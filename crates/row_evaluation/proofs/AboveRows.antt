-- What lies above a row by the bytes of earlier rows, lies above it.
--   row_below_sound, row_below_complete         a row below a node, by its bytes
--   plain_above_sound, plain_above_complete     a row below a plain name, by its form
use mathlib.Core.Path.{◌≡◌}
use mathlib.Core.Logic.{inl, inr}
use mathlib.Core.Bool.{true}
use mathlib.Core.List.{List}
use Prim.Native.Nat.{ℕ, suc, ◌≤◌, ◌<◌}
use native.Mathlib.Omega.{arith}
use native.Mathlib.Decide.{ℕ_discrete}
use Rattle.el.specs.Lists.{In}
use Rattle.el.specs.Concepts.{Concept, name, some, named}
use Rattle.el.specs.Axioms.{Axiom}
use Rattle.el.specs.Derivability.{Derives, to_top, one, other}
use Rattle.el.specs.Signatures.{Signature}
use Rattle.el.proofs.Derivations.{◌▹◌, Fills, to_part, from_parts, from_filler}
use Rattle.el.proofs.PlainNodes.{FilledBy, top_below_plain, both_below_plain, some_below_plain}
use Rattle.concept_rows.specs.Rows.{concept_of_row}
use Rattle.concept_rows.specs.Lent.{row_at}
use Rattle.concept_rows.specs.Written.{Formed}
use Rattle.concept_rows.proofs.Rows.{top_row, name_row, both_row, some_row}
use Rattle.release.specs.Tables.{kind_at, role_at, filler_at, serves_at, part_at}
use Rattle.release.proofs.Linked.{tells_serves_at}
use Rattle.classification.proofs.Nodes.{at_top, at_name}
use Rattle.classification.proofs.AxiomRows as rows
use Rattle.row_evaluation.specs.Cells.{Holds, Told}
use Rattle.row_evaluation.specs.declared.Evaluation.{Evaluation}
use Rattle.row_evaluation.specs.declared.rows.Form.{Form}
use Rattle.row_evaluation.specs.declared.rows.Form.TheVariants.{Top, Name, Conjunction, Restriction}
use Rattle.row_evaluation.specs.RowForms.{numbers_of, FormIn}
use Rattle.row_evaluation.specs.Worlds.{WorldOf, content_in, node_point}
use Rattle.row_evaluation.specs.Above.{RowBelow, top_above, parts_above, name_above, FilledAbove, AboveBy, PlainAbove, NameAbove}
use Rattle.row_evaluation.proofs.Worlds.{terminology, axiom_at_lem, axiom_row, not_defined, part_small, part_not_defined, marked_below, below_marked, filler_node_lem, filler_small}
use Rattle.row_evaluation.proofs.StayingAbove.{kind_2_joins, kind_4_restricts}

module _ {E : Evaluation} {w : List ℕ} (world : WorldOf E w) (ys : List ℕ) {i : ℕ} (told : Told (NameAbove E ys) E.square.names w E.base i) where
  abbrev C : ℕ → Concept
  C j = concept_of_row (row_at ys) j

  module _ (j : ℕ) (j_in : j < i) where
    pub row_below_sound : {y : ℕ} → RowBelow E w j y → Derives (content_in E) (concept_of_row (row_at ys) j) (node_point E.square.names y)
    row_below_sound {y} (top_above e) = rw (at_top E.square.names y e) to_top
    row_below_sound {y} (parts_above h e parts) =
        let f = axiom_at_lem world y h (λ z. omega arith) in
        let d = rows.defined_conjunction f e in
        rw (at_name E.square.names y h, ← f.left) (from_parts f.member (record { is_defined = d.1; is_conjunctive = d.0 }) (λ z z_in.
        let p = rows.part_at_lem f d.0 z_in in
        let small = part_small world y p.at h (kind_2_joins e) p.inside in
        rw p.is at (told.sound j (part_at E.terminology.file.now E.terminology.table.now y p.at) j_in (omega arith) (parts.each p.at p.inside)).above))
    row_below_sound {y} (name_above h e m) = rw (at_name E.square.names y h) (told.sound j y j_in (omega arith) m).above

    pub row_below_complete : (y : ℕ) → y ≤ E.square.names → Derives (content_in E) (concept_of_row (row_at ys) j) (node_point E.square.names y) → RowBelow E w j y
    row_below_complete y l p = by_place (ℕ_discrete y E.square.names) (ℕ_discrete (kind_at E.terminology.table.now y) 2)
      where
        by_place : Dec (y ≡ E.square.names) → Dec (kind_at E.terminology.table.now y ≡ 2) → RowBelow E w j y
        by_place (yes e) d = top_above e
        by_place (no e) (yes d) =
            let h : y < E.square.names = omega arith in
            let f = axiom_at_lem world y h (λ z. omega arith) in
            let k = rows.defined_conjunction f d in
            let below : Derives (content_in E) (concept_of_row (row_at ys) j) (name f.it.left) = rw (at_name E.square.names y h, ← f.left) at p in
            parts_above h d
            (record {
              each = λ a m. let small = part_small world y a h (kind_2_joins d) m in told.complete j (part_at E.terminology.file.now E.terminology.table.now y a) j_in (omega arith)
                  (record { is_name = small; plain = part_not_defined world f k.0 a m small; above = below ▹ to_part f.member (rows.part_in f k.0 a m) });
            })
        by_place (no e) (no d) =
            let h : y < E.square.names = omega arith in
            name_above h d (told.complete j y j_in l (record { is_name = h; plain = d; above = rw (at_name E.square.names y h) at p }))

    -- ∃r over it
    pub filled_sound : {y r : ℕ} → y < E.square.names → FilledAbove E w r j y → Derives (content_in E) (some r (concept_of_row (row_at ys) j)) (name y)
    filled_sound {y} {r} h filled =
        let f = axiom_at_lem world y h (λ z. omega (arith, filled.kind)) in
        let d = rows.defined_restriction f filled.kind in
        let role = rw (rows.role_is f d.0) at ((tells_serves_at world.release r (role_at E.terminology.table.now y)).sound filled.role) in
        let fills : Fills (content_in E) r f.it = record { is_defined = d.1; is_restriction = d.0; role = role } in
        rw (← f.left) (from_filler f.member fills (rw (filler_node_lem world f d.0) at (row_below_sound filled.filler)))

    filled_by : {y r : ℕ} → y < E.square.names → {b : Axiom} → In (content_in E).axioms b → FilledBy (content_in E) r (concept_of_row (row_at ys) j) (named y) b → FilledAbove E w r j y
    filled_by {y} {r} h {b} b_in (e, (fills, p)) =
        let left : b.left ≡ y = cc in
        let f : rows.Found E.terminology.file.now E.terminology.table.now E.square.names b.left = axiom_row world b_in in
        let kind : kind_at E.terminology.table.now b.left ≡ 4 = rows.is_4 f fills.is_restriction fills.is_defined in
        let role : serves_at E.terminology.table.now r (role_at E.terminology.table.now b.left) ≡ true =
        (tells_serves_at world.release r (role_at E.terminology.table.now b.left)).complete (rw (rows.role_is f fills.is_restriction) fills.role) in
        let filler : RowBelow E w j (filler_at E.terminology.table.now b.left) = row_below_complete (filler_at E.terminology.table.now b.left)
        (filler_small world b.left (rw left h) (kind_4_restricts kind))
        (rw (filler_node_lem world f fills.is_restriction) p) in
        record { kind = rw left at kind; role = rw left at role; filler = rw left at filler }

    pub filled_complete : {y r : ℕ} → y < E.square.names → (kind_at E.terminology.table.now y ≡ 2 → ⊥) → Derives (content_in E) (some r (concept_of_row (row_at ys) j)) (name y)
        → FilledAbove E w r j y
    filled_complete {y} h plain p = let found = (some_below_plain (terminology world) (not_defined world y plain)).0 p in filled_by h found.member found.holds

  module _ {sig : Signature} (formed : Formed sig (row_at ys) (suc i)) (y : ℕ) where
    pub plain_above_sound : (f : Form) → row_at ys i ≡ numbers_of f → FormIn E.square.names i f → PlainAbove E w f y → NameAbove E ys i y
    plain_above_sound f e fits a = record { is_name = a.is_name; plain = a.plain; above = by_form f e fits a.above }
      where
        by_form : (f : Form) → row_at ys i ≡ numbers_of f → FormIn E.square.names i f → AboveBy E w f y → Derives (content_in E) (concept_of_row (row_at ys) i) (name y)
        by_form Top e fits m = absurd m
        by_form (Name b) e fits m = rw (name_row formed e) (rw (at_name E.square.names b.0 fits) at (marked_below world b.0 y (omega (arith, fits)) a.is_name m))
        by_form (Conjunction j k) e fits m = rw (both_row formed (omega arith) e fits.0 fits.1) (elim m [
          | inl o ↦ one ▹ (told.sound j y fits.0 (omega (arith, a.is_name)) o).above
          | inr o ↦ other ▹ (told.sound k y fits.1 (omega (arith, a.is_name)) o).above
        ])
        by_form (Restriction r j) e fits m = rw (some_row formed (omega arith) e fits) (filled_sound j fits a.is_name m)

    pub plain_above_complete : (f : Form) → row_at ys i ≡ numbers_of f → FormIn E.square.names i f → NameAbove E ys i y → PlainAbove E w f y
    plain_above_complete f e fits a = record { is_name = a.is_name; plain = a.plain; above = by_form f e fits }
      where
        held : (j : ℕ) → j < i → Derives (content_in E) (concept_of_row (row_at ys) j) (name y) → Holds w E.base E.square.names j y
        held j h p = told.complete j y h (omega (arith, a.is_name)) (record { is_name = a.is_name; plain = a.plain; above = p })

        by_form : (f : Form) → row_at ys i ≡ numbers_of f → FormIn E.square.names i f → AboveBy E w f y
        by_form Top e fits = top_below_plain (terminology world) (not_defined world y a.plain) (rw (top_row formed e) at a.above)
        by_form (Name b) e fits = below_marked world b.0 y (omega (arith, fits)) a.is_name (rw (at_name E.square.names b.0 fits) (rw (name_row formed e) at a.above))
        by_form (Conjunction j k) e fits = elim ((both_below_plain (terminology world) (not_defined world y a.plain)).0
            (rw (both_row formed (omega arith) e fits.0 fits.1) at a.above)) [
              | inl d ↦ inl (held j fits.0 d)
              | inr d ↦ inr (held k fits.1 d)
            ]
        by_form (Restriction r j) e fits = filled_complete j fits a.is_name a.plain (rw (some_row formed (omega arith) e fits) at a.above)
