-- The nodes that lie below an atom.
--   reach_sound, reach_complete       a node lies below ∃r over a root by the line of the names that are idle for it exactly where it does
--   node_below_sound, -complete       a node lies below an atom by its line exactly where it does
-- Not here: the roots of C below an atom (BelowRoots).
use mathlib.Core.Path.{◌≡◌, refl}
use mathlib.Core.List.{List}
use mathlib.Core.Logic.{inl, inr}
use Prim.Native.Nat.{ℕ, suc, ◌≤◌, ◌<◌}
use native.Mathlib.Omega.{arith}
use native.Mathlib.Decide.{ℕ_discrete}
use Rattle.el.specs.Concepts.{Concept, name, some, Node, everything, named, concept_of}
use Rattle.el.specs.Axioms.{role_of, filler_of}
use Rattle.el.specs.Derivability.{Derives, Under, under}
use Rattle.el.proofs.Derivations.{◌▹◌, Restricts, to_filler}
use Rattle.el.proofs.CanonicalModel.{Within, Edge, written, implied, inversion}
use Rattle.release.specs.Files.{restricts}
use Rattle.release.specs.Tables.{filler_at}
use Rattle.release.proofs.Linked.{tells_serves_at}
use Rattle.classification.specs.Inclusions.{node_at}
use Rattle.classification.proofs.AxiomRows as rows
use Rattle.outline.specs.declared.Atom.{Atom}
use Rattle.outline.specs.Atoms.{child_number, value_of, atom_concept}
use Rattle.points.specs.declared.Grid.{Grid}
use Rattle.points.specs.declared.Classified.{Classified}
use Rattle.points.specs.Grids.{most_nodes}
use Rattle.points.specs.Above.{table_in, Includes}
use Rattle.points.specs.Nodes.{AxiomReaches, Idle, IdleOf, NodeReaches, NodeBelow, below_name, below_some}
use Rattle.question.specs.Evaluation.{World, content_in, KeptRow, node_point}
use Rattle.question.proofs.Worlds.{Found, row_of, marked_below, below_marked, filler_node_lem, filler_small}
use Rattle.question.proofs.AboveRoots.{some_atom}

no_some_within : (y : Node) {r : ℕ} {d : Concept} → Within (concept_of y) (some r d) → ⊥
no_some_within everything w = elim w [ ]
no_some_within (named y) w = elim w [ ]

-- nodes
module _ {g : Classified} (world : World g) where
  abbrev n : ℕ
  n = g.square.names

  module _ {l : Grid} {j : ℕ} {d : Concept} (row : KeptRow most_nodes (content_in g) (node_point n) (suc n) l.rows j d) where
    axiom_sound : (x r b : ℕ) → x ≤ n → b < n → Includes g x b → AxiomReaches g l r j b → Derives (content_in g) (node_point n x) (some r d)
    axiom_sound x r b h is_name above reaches =
        let f = rows.restricted world.release world.names b is_name reaches.is_restriction in
        let z = rows.is_restriction f reaches.is_restriction in
        let role : Under (content_in g).roles (role_of f.it) r = (tells_serves_at world.release _ _).sound (rw (← rows.role_is f z) reaches.role) in
        let restricts : Restricts (content_in g) f.it r (concept_of (filler_of f.it)) = record { is_restriction = z; role = role; filler = refl } in
        let below : Derives (content_in g) (node_point n x) (name f.it.left) = rw f.left (marked_below world x b h is_name above) in
        let filler = rw (filler_node_lem world f z) at (row.kept (filler_at (table_in g) b) (omega (arith, filler_small world b is_name reaches.is_restriction)) reaches.kept) in
        below ▹ to_filler f.member restricts ▹ under filler

    pub reach_sound : (x r : ℕ) {k : List ℕ} → Idle g l r j k → x ≤ n → NodeReaches g k x → Derives (content_in g) (node_point n x) (some r d)
    reach_sound x r idle h reaches = elim (idle.all reaches.by reaches.is_name) [
      | inl m ↦ absurd (reaches.not_idle m)
      | inr own ↦ axiom_sound x r reaches.by h reaches.is_name reaches.above own
    ]

    pub reach_complete : (x r : ℕ) {k : List ℕ} → Idle g l r j k → x ≤ n → Derives (content_in g) (node_point n x) (some r d) → NodeReaches g k x
    reach_complete x r {k} idle h p = let step = inversion p in by_edge step.to step.by_edge step.then
      where
        by_edge : (e : Concept) → Edge (content_in g) r (node_point n x) e → Derives (content_in g) e d → NodeReaches g k x
        by_edge e (written within widens) p = absurd (no_some_within (node_at n x) within)
        by_edge e (implied {a = a} a_in restricts above) p =
            let f : Found g a.left = row_of world a_in in
            let z = restricts.is_restriction in
            let is_name = (rows.formed world.release world.names).left_in a_in in
            let kind = rows.restriction_restricts f z in
            let small = filler_small world a.left is_name kind in
            record {
              by = a.left;
              is_name = is_name;
              above = below_marked world x a.left h is_name above;
              not_idle = λ has. idle.none a.left has (record {
                is_restriction = kind;
                role = rw (rows.role_is f z) ((tells_serves_at world.release _ _).complete restricts.role);
                kept = λ m. row.lost (filler_at (table_in g) a.left) (omega arith) m (rw (filler_node_lem world f z, restricts.filler) p);
              });
            }

  module _ {l : Grid} {b : Atom} {d : Concept} (row : 0 < child_number b → KeptRow most_nodes (content_in g) (node_point n) (suc n) l.rows (child_number b) d)
      {k : List ℕ} (idle : IdleOf g l b k) (named_in : child_number b ≡ 0 → value_of b < n) (x : ℕ) (h : x ≤ n) where
    pub node_below_sound : NodeBelow g b k x → Derives (content_in g) (node_point n x) (atom_concept (child_number b) (value_of b) d)
    node_below_sound (below_name z m) = rw z (marked_below world x (value_of b) h (named_in z) m)
    node_below_sound (below_some z m) = rw (some_atom {r = value_of b} {d = d} (child_number b) z) (reach_sound (row z) x (value_of b) (idle.idle z) h m)

    pub node_below_complete : Derives (content_in g) (node_point n x) (atom_concept (child_number b) (value_of b) d) → NodeBelow g b k x
    node_below_complete p = by_child (ℕ_discrete (child_number b) 0)
      where
        by_child : Dec (child_number b ≡ 0) → NodeBelow g b k x
        by_child (yes z) = below_name z (below_marked world x (value_of b) h (named_in z) (rw z at p))
        by_child (no y) =
            let z : 0 < child_number b = omega arith in
            below_some z (reach_complete (row z) x (value_of b) (idle.idle z) h (rw (some_atom {r = value_of b} {d = d} (child_number b) z) at p))
