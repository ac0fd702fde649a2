-- The roots of C that lie below an atom of D.
--   root_reaches_sound, root_reaches_complete     a root lies below ∃r over a root of D by its line and that root's rows exactly where it does
--   under_name_sound, under_name_complete         and below a name by its own row of names
use mathlib.Core.Path.{◌≡◌}
use mathlib.Core.List.{List}
use Prim.Native.Nat.{ℕ, suc, ◌+◌, ◌<◌}
use native.Mathlib.Omega.{arith}
use native.Mathlib.Decide.{ℕ_discrete}
use Rattle.el.specs.Concepts.{Concept, name, some}
use Rattle.el.specs.Derivability.{Derives}
use Rattle.el.proofs.Derivations.{◌▹◌, widened}
use Rattle.el.proofs.Terminologies.{some_below_some}
use Rattle.release.proofs.Linked.{tells_serves_at}
use Rattle.classification.proofs.Nodes.{at_name}
use Rattle.outline.specs.declared.Outline.{Outline}
use Rattle.outline.specs.Atoms.{atom_at, value_at, child_at, Shape}
use Rattle.points.specs.declared.Grid.{Grid}
use Rattle.points.specs.declared.Pairs.{Pairs}
use Rattle.points.specs.declared.Classified.{Classified}
use Rattle.points.specs.Grids.{most_roots, most_nodes}
use Rattle.points.specs.Above.{RootBelow}
use Rattle.points.specs.Nodes.{Idle}
use Rattle.points.specs.Roots.{AtomReaches, name_reaches, some_reaches, RootReaches}
use Rattle.question.specs.Evaluation.{World, content_in, RowAbove, KeptRow, node_point, root_point, atom_in}
use Rattle.question.proofs.Worlds.{normalised}
use Rattle.question.proofs.AboveRoots.{some_atom, root_below_sound, root_below_complete}
use Rattle.question.proofs.BelowAtoms.{reach_sound, reach_complete}
use Rattle.question.proofs.OwnAtoms.{below_own_atom, atom_whole, some_atom_below}

-- the rows of root j of D, which is d, and the line of the names that are idle for ∃ of the role over it
module _ {g : Classified} (world : World g) {o : Outline} (shape : Shape g.square.names o) {ln : Grid} {l : Pairs} {j : ℕ} {d : Concept}
    (nodes : KeptRow most_nodes (content_in g) (node_point g.square.names) (suc g.square.names) ln.rows j d)
    (roots : KeptRow most_roots (content_in g) (root_point o) o.extent.roots l.rows j d) {role : ℕ} {line : List ℕ} (idle : Idle g ln role j line) where
  atom_reaches_sound : {i : ℕ} → i < o.extent.atoms → AtomReaches g (atom_at o.atoms i) line l role j → Derives (content_in g) (atom_in o i) (some role d)
  atom_reaches_sound {i} h (name_reaches k m) =
      let small = shape.named i h k in
      rw k (rw (at_name g.square.names (value_at o.atoms i) small) at (reach_sound world nodes (value_at o.atoms i) role idle (omega arith) m))
  atom_reaches_sound {i} h (some_reaches k e m) = rw (some_atom {r = value_at o.atoms i} {d = root_point o (child_at o.atoms i)} (child_at o.atoms i) k)
      (widened ((tells_serves_at world.release _ _).sound e) (roots.kept (child_at o.atoms i) (shape.child i h) m))

  atom_reaches_complete : (i : ℕ) → i < o.extent.atoms → Derives (content_in g) (atom_in o i) (some role d) → AtomReaches g (atom_at o.atoms i) line l role j
  atom_reaches_complete i h p = by_child (ℕ_discrete (child_at o.atoms i) 0)
    where
      by_child : Dec (child_at o.atoms i ≡ 0) → AtomReaches g (atom_at o.atoms i) line l role j
      by_child (yes k) =
          let small = shape.named i h k in
          name_reaches k (reach_complete world nodes (value_at o.atoms i) role idle (omega arith) (rw (at_name g.square.names (value_at o.atoms i) small) (rw k at p)))
      by_child (no k) =
          let z : 0 < child_at o.atoms i = omega arith in
          let parts = (some_below_some (normalised world)).0
          (rw (some_atom {r = value_at o.atoms i} {d = root_point o (child_at o.atoms i)} (child_at o.atoms i) z) at p) in
          some_reaches z ((tells_serves_at world.release _ _).complete parts.0) (λ m. roots.lost (child_at o.atoms i) (shape.child i h) m parts.1)

  pub root_reaches_sound : {k : ℕ} → RootReaches g o line l k role j → Derives (content_in g) (root_point o k) (some role d)
  root_reaches_sound reaches = rw reaches.owner at (below_own_atom shape {t = content_in g} reaches.by reaches.is_atom) ▹ atom_reaches_sound reaches.is_atom reaches.reaches

  pub root_reaches_complete : (k : ℕ) → Derives (content_in g) (root_point o k) (some role d) → RootReaches g o line l k role j
  root_reaches_complete k p =
      let found = some_atom_below o.atoms (normalised world) 0 o.extent.atoms k role d p in
      let z : 0 + o.extent.atoms ≡ o.extent.atoms = omega arith in
      let inside : found.at < o.extent.atoms = omega (arith, found.inside) in
      record { by = found.at; is_atom = inside; owner = found.owner; reaches = atom_reaches_complete found.at inside (rw (z, atom_whole shape found.at inside) at found.below) }

-- the row of the names above root k of C
module _ {g : Classified} (world : World g) {a : Grid} {k : ℕ} {c : Concept} (row : RowAbove g a k c) {y : ℕ} (small : y < g.square.names) where
  pub under_name_sound : RootBelow g a k y → Derives (content_in g) c (name y)
  under_name_sound m = rw (at_name g.square.names y small) at (root_below_sound world row m)

  pub under_name_complete : Derives (content_in g) c (name y) → RootBelow g a k y
  under_name_complete p = root_below_complete world row y (omega arith) (rw (at_name g.square.names y small) p)
