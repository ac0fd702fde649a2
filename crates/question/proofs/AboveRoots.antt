-- The rows of the names above roots mean what they say.
--   root_below_sound, root_below_complete     a root lies below a node by its row exactly where it does
--   atom_below_sound, atom_below_complete     and an atom below a plain name, by the row of its child
--   above_none, above_more                    the rows before any atom, and after one more is raised
use mathlib.Core.Path.{◌≡◌, refl, sym}
use mathlib.Core.Bool.{true}
use mathlib.Core.Logic.{inl, inr}
use mathlib.Core.List.{List}
use Prim.Native.Nat.{ℕ, zero, suc, ◌≤◌, ◌<◌}
use native.Mathlib.Omega.{arith}
use native.Mathlib.Decide.{ℕ_discrete}
use Rattle.el.specs.Lists.{In}
use Rattle.el.specs.Concepts.{Concept, name, both, some, named}
use Rattle.el.specs.Axioms.{Axiom}
use Rattle.el.specs.Derivability.{Derives, to_top, one, other}
use Rattle.el.proofs.Derivations.{◌▹◌, Fills, to_part, from_parts, from_filler}
use Rattle.el.proofs.PlainNodes.{FilledBy, top_below_plain, both_below_plain, some_below_plain}
use Rattle.release.specs.Tables.{kind_at, role_at, filler_at, serves_at, part_at}
use Rattle.release.proofs.Linked.{tells_serves_at}
use Rattle.classification.proofs.Nodes.{at_top, at_name}
use Rattle.classification.proofs.AxiomRows as rows
use Rattle.outline.specs.declared.Atom.{Atom}
use Rattle.outline.specs.declared.Outline.{Outline}
use Rattle.outline.specs.Atoms.{child_number, value_of, value_at, owner_at, child_at, atom_at, atoms_from, atom_concept, root_of, Shape}
use Rattle.outline.proofs.Atoms.{root_own, root_other, root_none}
use Rattle.points.specs.declared.Grid.{Grid}
use Rattle.points.specs.declared.Classified.{Classified}
use Rattle.points.specs.Grids.{most_roots, Blank}
use Rattle.points.specs.Above.{file_in, table_in, RootBelow, top_above, parts_above, name_above, AtomBelow, name_below, some_below, Risen}
use Rattle.points.proofs.Grids.{adds_row}
use Rattle.points.proofs.Raising.{kind_2_joins, kind_4_restricts}
use Rattle.question.specs.Evaluation.{World, content_in, RowAbove, Above, node_point}
use Rattle.question.proofs.Worlds.{Found, normalised, axiom_at_lem, row_of, not_defined, part_small, part_not_defined, marked_below, below_marked, filler_node_lem, filler_small}

pub some_atom : {r : ℕ} {d : Concept} (k : ℕ) → 0 < k → atom_concept k r d ≡ some r d
some_atom zero h = absurd (omega arith)
some_atom (suc k) h = refl

module _ {g : Classified} (world : World g) where
  abbrev n : ℕ
  n = g.square.names

  module _ {a : Grid} {k : ℕ} {c : Concept} (row : RowAbove g a k c) where
    pub root_below_sound : {y : ℕ} → RootBelow g a k y → Derives (content_in g) c (node_point n y)
    root_below_sound {y} (top_above e) = rw (at_top n y e) to_top
    root_below_sound {y} (parts_above h e parts) =
        let f = axiom_at_lem world y h (λ z. omega arith) in
        let d = rows.defined_conjunction f e in
        rw (at_name n y h, ← f.left) (from_parts f.member (record { is_defined = d.1; is_conjunctive = d.0 }) (λ z z_in.
        let p = rows.part_at_lem f d.0 z_in in
        let small = part_small world y p.at h (kind_2_joins e) p.inside in
        rw p.is at (row.sound (part_at (file_in g) (table_in g) y p.at) small (part_not_defined world f d.0 p.at p.inside small) (parts.each p.at p.inside))))
    root_below_sound {y} (name_above h e m) = rw (at_name n y h) (row.sound y h e m)

    pub root_below_complete : (y : ℕ) → y ≤ n → Derives (content_in g) c (node_point n y) → RootBelow g a k y
    root_below_complete y l p = by_place (ℕ_discrete y n) (ℕ_discrete (kind_at (table_in g) y) 2)
      where
        by_place : Dec (y ≡ n) → Dec (kind_at (table_in g) y ≡ 2) → RootBelow g a k y
        by_place (yes e) d = top_above e
        by_place (no e) (yes d) =
            let h : y < n = omega arith in
            let f = axiom_at_lem world y h (λ z. omega arith) in
            let j = rows.defined_conjunction f d in
            let below : Derives (content_in g) c (name f.it.left) = rw (at_name n y h, ← f.left) at p in
            parts_above h d (record {
              each = λ i m. let small = part_small world y i h (kind_2_joins d) m in row.complete (part_at (file_in g) (table_in g) y i) small
                  (part_not_defined world f j.0 i m small) (below ▹ to_part f.member (rows.part_in f j.0 i m));
            })
        by_place (no e) (no d) =
            let h : y < n = omega arith in
            name_above h d (row.complete y h d (rw (at_name n y h) at p))

  -- an atom, its child's row known
  module _ {a : Grid} {b : Atom} {c : Concept} (row : RowAbove g a (child_number b) c) (named_in : child_number b ≡ 0 → value_of b < n) {y : ℕ} (h : y < n) where
    pub atom_below_sound : AtomBelow g b a y → Derives (content_in g) (atom_concept (child_number b) (value_of b) c) (name y)
    atom_below_sound (name_below z k m) =
        let small = named_in k in
        rw k (rw (at_name n (value_of b) small) at (marked_below world (value_of b) y (omega arith) h m))
    atom_below_sound (some_below e k r m) =
        let f = axiom_at_lem world y h (λ z. omega arith) in
        let d = rows.defined_restriction f e in
        let fills : Fills (content_in g) (value_of b) f.it = record { is_defined = d.1; is_restriction = d.0; role = (tells_serves_at world.release _ _).sound (rw (← rows.role_is f d.0) r) } in
        rw (some_atom {r = value_of b} {d = c} (child_number b) k, ← f.left) (from_filler f.member fills (rw (filler_node_lem world f d.0) at (root_below_sound row m)))

    filled_atom : (kind_at (table_in g) y ≡ 2 → ⊥) → 0 < child_number b
        → {x : Axiom} → In (content_in g).axioms x → FilledBy (content_in g) (value_of b) c (named y) x → AtomBelow g b a y
    filled_atom z k {x} x_in (e, (fills, p)) =
        let left : x.left ≡ y = cc in
        let f : Found g x.left = row_of world x_in in
        let kind : kind_at (table_in g) x.left ≡ 4 = rows.is_4 f fills.is_restriction fills.is_defined in
        let role : serves_at (table_in g) (value_of b) (role_at (table_in g) x.left) ≡ true = rw (rows.role_is f fills.is_restriction) ((tells_serves_at world.release _ _).complete fills.role) in
        let filler : RootBelow g a (child_number b) (filler_at (table_in g) x.left) = root_below_complete row (filler_at (table_in g) x.left)
        (filler_small world x.left (rw left h) (kind_4_restricts kind)) (rw (filler_node_lem world f fills.is_restriction) p) in
        some_below (rw left at kind) k (rw left at role) (rw left at filler)

    pub atom_below_complete : (kind_at (table_in g) y ≡ 2 → ⊥) → Derives (content_in g) (atom_concept (child_number b) (value_of b) c) (name y) → AtomBelow g b a y
    atom_below_complete z p = by_child (ℕ_discrete (child_number b) 0)
      where
        by_child : Dec (child_number b ≡ 0) → AtomBelow g b a y
        by_child (yes k) =
            let small = named_in k in
            name_below z k (below_marked world (value_of b) y (omega arith) h (rw (at_name n (value_of b) small) (rw k at p)))
        by_child (no k) =
            let found = (some_below_plain (normalised world) (not_defined world y z)).0 (rw (some_atom {r = value_of b} {d = c} (child_number b) (omega arith)) at p) in
            filled_atom z (omega arith) found.member found.holds

  -- before any atom; after one more
  pub above_none : (a : Grid) (o : Outline) (i : ℕ) → Blank a → Above g a (atoms_from o.atoms i 0)
  above_none a o i empty = record {
    row = λ k h. rw (root_none o.atoms i k) record {
      sound = λ y l z m. absurd (empty.none _ m);
      complete = λ y l z p. absurd (top_below_plain (normalised world) (not_defined world y z) p);
    };
  }

  module _ {a b : Grid} {o : Outline} (shape : Shape n o) (i left : ℕ) (h : i < o.extent.atoms) (above : Above g a (atoms_from o.atoms (suc i) left))
      (risen : Risen g (atom_at o.atoms i) a b) where
    abbrev rest : List Atom
    rest = atoms_from o.atoms (suc i) left

    abbrev filler : Concept
    filler = root_of rest (child_at o.atoms i)

    abbrev child_row : RowAbove g a (child_at o.atoms i) filler
    child_row = above.row (child_at o.atoms i) (omega (arith, shape.child i h, shape.few))

    own_row : RowAbove g b (owner_at o.atoms i) (both (atom_concept (child_at o.atoms i) (value_at o.atoms i) filler) (root_of rest (owner_at o.atoms i)))
    own_row =
        let small : owner_at o.atoms i < most_roots = omega (arith, shape.owner i h, shape.few) in
        let old = above.row (owner_at o.atoms i) small in
        record {
          sound = λ y l z m. elim (risen.adds.only (owner_at o.atoms i) y (omega (arith, world.few)) m) [
            | inl x ↦ other ▹ old.sound y l z x
            | inr x ↦ one ▹ atom_below_sound child_row (shape.named i h) l x.1.1
          ];
          complete = λ y l z p. elim ((both_below_plain (normalised world) (not_defined world y z)).0 p) [
            | inl x ↦ elim (risen.adds.all y l) [ inl m ↦ m | inr none ↦ absurd (none (atom_below_complete child_row (shape.named i h) l z x)) ]
            | inr x ↦ risen.adds.old (owner_at o.atoms i) y (old.complete y l z x)
          ];
        }

    other_row : (k : ℕ) → k < most_roots → (owner_at o.atoms i ≡ k → ⊥) → RowAbove g b k (root_of rest k)
    other_row k small apart =
        let old = above.row k small in
        record {
          sound = λ y l z m. old.sound y l z (adds_row risen.adds k y (λ e. apart (sym e)) (omega (arith, world.few)) m);
          complete = λ y l z p. risen.adds.old k y (old.complete y l z p);
        }

    pub above_more : Above g b (atoms_from o.atoms i (suc left))
    above_more = record { row = λ k small. by_owner k small (ℕ_discrete (owner_at o.atoms i) k) }
      where
        by_owner : (k : ℕ) → k < most_roots → Dec (owner_at o.atoms i ≡ k) → RowAbove g b k (root_of (atoms_from o.atoms i (suc left)) k)
        by_owner k small (yes e) = rw (root_own o.atoms i left k e, ← e) own_row
        by_owner k small (no e) = rw (root_other o.atoms i left k e) (other_row k small e)
