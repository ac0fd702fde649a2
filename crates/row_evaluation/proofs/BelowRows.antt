-- What lies below a row by the bytes of earlier rows, lies below it.
--   reach_sound, reach_complete           ∃r over a row
--   below_by_sound, below_by_complete     a row, by its form
use mathlib.Core.Path.{◌≡◌, refl}
use mathlib.Core.List.{List}
use Prim.Native.Nat.{ℕ, suc, ◌≤◌, ◌<◌}
use native.Mathlib.Omega.{arith}
use Rattle.el.specs.Concepts.{Concept, name, some, Node, everything, named, concept_of}
use Rattle.el.specs.Axioms.{filler_of}
use Rattle.el.specs.Derivability.{Derives, to_top, one, other, meet, under}
use Rattle.el.specs.Signatures.{Signature}
use Rattle.el.proofs.Derivations.{◌▹◌, Restricts, to_filler}
use Rattle.el.proofs.CanonicalModel.{Within, Edge, written, implied, inversion}
use Rattle.concept_rows.specs.Rows.{concept_of_row}
use Rattle.concept_rows.specs.Lent.{row_at}
use Rattle.concept_rows.specs.Written.{Formed}
use Rattle.concept_rows.proofs.Rows.{top_row, name_row, both_row, some_row}
use Rattle.release.specs.Tables.{role_at, filler_at}
use Rattle.release.proofs.Linked.{tells_serves_at}
use Rattle.classification.specs.Inclusions.{node_at}
use Rattle.classification.proofs.AxiomRows as rows
use Rattle.row_evaluation.specs.Cells.{Told}
use Rattle.row_evaluation.specs.declared.Evaluation.{Evaluation}
use Rattle.row_evaluation.specs.declared.rows.Form.{Form}
use Rattle.row_evaluation.specs.declared.rows.Form.TheVariants.{Top, Name, Conjunction, Restriction}
use Rattle.row_evaluation.specs.RowForms.{numbers_of, FormIn}
use Rattle.row_evaluation.specs.Worlds.{WorldOf, content_in, node_point, Below}
use Rattle.row_evaluation.specs.Below.{Reaches, BelowBy}
use Rattle.row_evaluation.proofs.Worlds.{axiom_row, marked_below, below_marked, filler_node_lem, filler_small}

pub no_some_within : (y : Node) {r : ℕ} {d : Concept} → Within (concept_of y) (some r d) → ⊥
no_some_within everything w = elim w [ ]
no_some_within (named y) w = elim w [ ]

module _ {E : Evaluation} {w : List ℕ} (world : WorldOf E w) (ys : List ℕ) where
  module _ {i : ℕ} (told : Told (Below E.terminology.file.now ys E.square.names) E.square.names w E.base i) (j r x : ℕ) (j_in : j < i) (h : x ≤ E.square.names) where
    pub reach_sound : Reaches E w j r x → Derives (content_in E) (node_point E.square.names x) (some r (concept_of_row (row_at ys) j))
    reach_sound reaches =
        let leads = reaches.successor in
        let f = rows.restricted world.release world.names reaches.by reaches.is_name leads.is_restriction in
        let k = rows.is_restriction f leads.is_restriction in
        let role = rw (rows.role_is f k) at ((tells_serves_at world.release (role_at E.terminology.table.now reaches.by) r).sound leads.role) in
        let restricts : Restricts (content_in E) f.it r (concept_of (filler_of f.it)) = record { is_restriction = k; role = role; filler = refl } in
        let below : Derives (content_in E) (node_point E.square.names x) (name f.it.left) = rw f.left (marked_below world x reaches.by h reaches.is_name reaches.above) in
        let filler = rw (filler_node_lem world f k) at (told.sound j (filler_at E.terminology.table.now reaches.by) j_in (filler_small world reaches.by reaches.is_name leads.is_restriction)
        leads.below) in
        below ▹ to_filler f.member restricts ▹ under filler

    pub reach_complete : Derives (content_in E) (node_point E.square.names x) (some r (concept_of_row (row_at ys) j)) → Reaches E w j r x
    reach_complete p = let step = inversion p in by_edge step.to step.by_edge step.then
      where
        by_edge : (e : Concept) → Edge (content_in E) r (node_point E.square.names x) e → Derives (content_in E) e (concept_of_row (row_at ys) j) → Reaches E w j r x
        by_edge e (written within u) p = absurd (no_some_within (node_at E.square.names x) within)
        by_edge e (implied {a = a} a_in restricts above) p =
            let f : rows.Found E.terminology.file.now E.terminology.table.now E.square.names a.left = axiom_row world a_in in
            let k = restricts.is_restriction in
            let is_name = (rows.formed world.release world.names).left_in a_in in
            let kind = rows.restriction_restricts f k in
            record {
              by = a.left;
              is_name = is_name;
              successor = record {
                is_restriction = kind;
                role = (tells_serves_at world.release (role_at E.terminology.table.now a.left) r).complete (rw (rows.role_is f k) restricts.role);
                below = told.complete j (filler_at E.terminology.table.now a.left) j_in (filler_small world a.left is_name kind) (rw (filler_node_lem world f k, restricts.filler) p);
              };
              above = below_marked world x a.left h is_name above;
            }

module _ (E : Evaluation) {w : List ℕ} (world : WorldOf E w) (ys : List ℕ) where
  module _ {sig : Signature} {i : ℕ} (formed : Formed sig (row_at ys) (suc i)) (told : Told (Below E.terminology.file.now ys E.square.names) E.square.names w E.base i) (x : ℕ)
      (h : x ≤ E.square.names) where
    pub below_by_sound : (f : Form) → row_at ys i ≡ numbers_of f → FormIn E.square.names i f → BelowBy E w f x → Below E.terminology.file.now ys E.square.names i x
    below_by_sound Top e fits below = rw (top_row formed e) to_top
    below_by_sound (Name b) e fits below = rw (name_row formed e) (marked_below world x b.0 h fits below)
    below_by_sound (Conjunction j k) e fits below = rw (both_row formed (omega arith) e fits.0 fits.1) (meet (told.sound j x fits.0 h below.0) (told.sound k x fits.1 h below.1))
    below_by_sound (Restriction r j) e fits below = rw (some_row formed (omega arith) e fits) (reach_sound world ys told j r.0 x fits h below)

    pub below_by_complete : (f : Form) → row_at ys i ≡ numbers_of f → FormIn E.square.names i f → Below E.terminology.file.now ys E.square.names i x → BelowBy E w f x
    below_by_complete Top e fits d = tt
    below_by_complete (Name b) e fits d = below_marked world x b.0 h fits (rw (name_row formed e) at d)
    below_by_complete (Conjunction j k) e fits d = let both_below = rw (both_row formed (omega arith) e fits.0 fits.1) at d in
        (told.complete j x fits.0 h (both_below ▹ one), told.complete k x fits.1 h (both_below ▹ other))
    below_by_complete (Restriction r j) e fits d = reach_complete world ys told j r.0 x fits h (rw (some_row formed (omega arith) e fits) at d)
