-- The turns of the loops over atoms; two of them go from the last to the first.
--   next_atom    the atom of a turn;  all_atoms: after the last turn there is none
--   fill_..      the rows of the names above the roots of C
--   sift_..      the rows of the roots of C that do not lie below the names of D
--   lose_..      the rows of the points that the roots of D have lost
use mathlib.Core.Path.{◌≡◌, refl, ap, ◌∙◌}
use mathlib.Core.List.{List, [], ◌∷◌, reverse}
use lib.ListN.{length, get_or, take, length-reverse}
use lib.Seq.{get_or-take, length-take-le}
use Rattle.std.specs.Prelude.{Option, None, Some}
use Rattle.std.specs.declared.iter.Rev.{Rev}
use Rattle.std.specs.declared.slice.Iter.{Iter}
use Rattle.std.specs.Borrow.{Bor}
use Rattle.std.specs.Iterator.{Yields}
use Rattle.std.specs.Iterator.Adapters.{rev_source, rev_steps}
use Rattle.std.specs.Slice.Iter.{iter_rest, iter_steps_back}
use Rattle.std.proofs.lemmas.List.{get_or-reverse}
use Rattle.std.proofs.lemmas.Iterator.Adapters.{YieldsList-from_rev_slice}
use Rattle.std.proofs.lemmas.Iterator.Consumers.{YieldsList-turn, YieldsList-end}
use mathlib.Core.Logic.{◌⊎◌, inl, inr}
use Prim.Native.Nat.{ℕ, zero, suc, ◌+◌, ◌-◌, ◌≤◌, ◌<◌}
use native.Mathlib.Decide.{ℕ_discrete}
use Rattle.el.specs.Concepts.{Concept}
use Rattle.el.specs.Derivability.{Derives, same_role}
use native.Mathlib.Omega.{arith}
use Rattle.release.proofs.Linked.{tells_serves_at}
use Rattle.classification.proofs.AxiomRows as rows
use Rattle.outline.specs.declared.Atom.{Atom}
use Rattle.outline.specs.declared.Outline.{Outline}
use Rattle.outline.specs.Atoms.{blank, atom_at, value_at, child_at, atoms_from, Shape}
use Rattle.points.specs.declared.Grid.{Grid}
use Rattle.points.specs.declared.Pairs.{Pairs}
use Rattle.points.specs.declared.Classified.{Classified}
use Rattle.points.specs.declared.Subsumee.{Subsumee}
use Rattle.points.specs.Grids.{most_roots, most_nodes}
use Rattle.points.specs.Above.{OwnServe, Ranges, InRange, Risen}
use Rattle.points.specs.Above as above
use Rattle.points.specs.Nodes.{Inclusive}
use Rattle.points.specs.Roots.{outline_of, UnderName, UnderSome, NamesLost, PointsLost}
use Rattle.points.specs.Roots as roots
use Rattle.question.specs.Evaluation.{World, content_in, Above, KeptRow, node_point, root_point, atom_in, Sifted, ToFill, ToSift, ToLose, Lost}
use Rattle.question.proofs.AboveRoots.{some_atom, above_none, above_more}
use Rattle.question.proofs.BelowAtoms.{node_below_sound, node_below_complete}
use Rattle.question.proofs.BelowRoots.{root_reaches_sound, root_reaches_complete, under_name_sound, under_name_complete}
use Rattle.question.proofs.OwnAtoms.{child_later}
use Rattle.question.proofs.Sifting.{sifted_none, sifted_more, sifted_row}

module _ {g : Classified} (world : World g) where
  own : OwnServe g
  own = record { own = λ r. (tells_serves_at world.release r r).complete same_role }

  ranges : Ranges g
  ranges = record { shaped = rows.ranges world.release world.names; own = own; few = world.few }

  inclusive : Inclusive g
  inclusive = record { fillers = ranges.shaped.filler; own = own; few = world.few; room = world.room }

  module _ {o : Outline} (shape : Shape g.square.names o) {i : ℕ} (h : i < o.extent.atoms) where
    in_range : InRange g.square.names (atom_at o.atoms i)
    in_range = record {
      value = record { child = omega (arith, shape.child i h, shape.few); named = shape.named i h; rooted = shape.rooted i h };
      owner = omega (arith, shape.owner i h, shape.few);
      later = λ c. shape.later i i h (omega arith) c;
    }

    pub fill_atom : above.OfAtom g (atom_at o.atoms i)
    fill_atom = record { ranges = ranges; room = world.room; atom = in_range }

    pub name_atom : {c : Subsumee} → Shape g.square.names (outline_of c) → roots.OfName g c (atom_at o.atoms i)
    name_atom from = record { ranges = ranges; few = from.few; atom = in_range }

    pub root_atom : {c : Outline} → Shape g.square.names c → roots.OfAtom g c (atom_at o.atoms i)
    root_atom from = record {
      inclusive = inclusive;
      from = record {
        inside = from.room;
        owner = λ j m. omega (arith, from.owner j m, from.few);
        each = λ j m. record { child = omega (arith, from.child j m, from.few); named = from.named j m; rooted = from.rooted j m };
      };
      atom = in_range;
    }

-- the atoms from the last to the first
default_free : (o : List Atom) (i : ℕ) (x y : Atom) → i < length o → get_or o i x ≡ get_or o i y
default_free [] i x y h = absurd (omega arith)
default_free (a ∷ o) zero x y h = refl
default_free (a ∷ o) (suc i) x y h = default_free o i x y (omega arith)

last_atom : (o : List Atom) {n j : ℕ} {x : Atom} → n ≤ length o → (j < length (reverse (take n o))) × (x ≡ get_or (reverse (take n o)) j x) → (j < n) × (x ≡ atom_at o (n - j - 1))
last_atom o {n} {j} {x} h p =
    let long : length (take n o) ≡ n = length-take-le n o h in
    let inside : j < length (take n o) = omega (arith, p.0, length-reverse (take n o)) in
    let place : length (take n o) - 1 - j ≡ n - j - 1 = omega (arith, long) in
    let small : length (take n o) - 1 - j < n = omega (arith, long, inside) in (
      omega (arith, inside, long),
      p.1 ∙ get_or-reverse (take n o) j x inside ∙ get_or-take n o (length (take n o) - 1 - j) x small
          ∙ default_free o (length (take n o) - 1 - j) x blank (omega (arith, small, h)) ∙ ap (λ i. atom_at o i) place,
    )

-- what `next` gives after the atoms xs, in a loop over the first n atoms
pub next_atom : (o : List Atom) {n : ℕ} → n ≤ length o → (s t u : Rev (Iter Atom)) (xs : List (Bor Atom)) → Yields (rev_steps iter_steps_back) s xs t → iter_rest (rev_source s) ≡ take n o
    → (r : Option (Bor Atom)) (x : Bor Atom) → r ≡ Some x → rev_steps iter_steps_back t r u → (length xs < n) × (x.now ≡ atom_at o (n - length xs - 1))
next_atom o {n} h s t u xs yields begins r x is steps = last_atom o h (YieldsList-turn (YieldsList-from_rev_slice (take n o) begins) xs t yields r u x is steps)

-- and when it gives none
pub all_atoms : (o : List Atom) {n : ℕ} → n ≤ length o → (s t u : Rev (Iter Atom)) (xs : List (Bor Atom)) → Yields (rev_steps iter_steps_back) s xs t → iter_rest (rev_source s) ≡ take n o
    → (r : Option (Bor Atom)) → r ≡ None → rev_steps iter_steps_back t r u → n - length xs ≤ 0
all_atoms o {n} h s t u xs yields begins r is steps =
    let all = (YieldsList-end (YieldsList-from_rev_slice (take n o) begins) xs t yields r u is steps).1 in omega (arith, all, length-reverse (take n o), length-take-le n o h)

-- the rows above
module _ {g : Classified} {o : Outline} {a : Grid} (given : ToFill g o a) where
  pub fill_start : Above g a (atoms_from o.atoms o.extent.atoms (o.extent.atoms - o.extent.atoms))
  fill_start = let z : o.extent.atoms - o.extent.atoms ≡ 0 = omega arith in rw z (above_none given.world a o o.extent.atoms given.blank)

  pub fill_turn : {u v : Grid} {left : ℕ} → 0 < left → left ≤ o.extent.atoms → Above g u (atoms_from o.atoms left (o.extent.atoms - left)) → Risen g (atom_at o.atoms (left - 1)) u v
      → Above g v (atoms_from o.atoms (left - 1) (o.extent.atoms - (left - 1)))
  fill_turn {left = left} some_left h above risen =
      let z : suc (left - 1) ≡ left = omega arith in
      let y : o.extent.atoms - (left - 1) ≡ suc (o.extent.atoms - left) = omega arith in
      rw y (above_more given.world given.shape (left - 1) (o.extent.atoms - left) (omega arith) (rw z above) risen)

-- the roots that do not lie below the names before
abbrev NameBefore : Outline → ℕ → ℕ → Type 0
NameBefore o e j = (j < e) × (child_at o.atoms j ≡ 0)

pub record Sifting (g : Classified) (c o : Outline) (e : ℕ) (l : Pairs) : Type 0 where
  pub sifted : Sifted most_roots (content_in g) (root_point c) c.extent.roots l.rows o (NameBefore o e)

module _ {g : Classified} {c : Subsumee} {o : Outline} {l : Pairs} (given : ToSift g c o l) where
  pub sift_start : Sifting g (outline_of c) o 0 l
  sift_start = record { sifted = sifted_none given.blank (λ i h done. omega (arith, done.0)) }

  module _ {e : ℕ} {x y : Pairs} (h : e < o.extent.atoms) (sifting : Sifting g (outline_of c) o e x) (lost : NamesLost g c (atom_at o.atoms e) x y) where
    sound : child_at o.atoms e ≡ 0 → (k : ℕ) → k < (outline_of c).extent.roots → UnderName g c (atom_at o.atoms e) k → Derives (content_in g) (root_point (outline_of c) k) (atom_in o e)
    sound z k m under = rw z (under_name_sound given.world (given.filled.above.row k (omega (arith, given.from.few))) (given.shape.named e h z) (under.below z))

    complete : (k : ℕ) → k < (outline_of c).extent.roots → Derives (content_in g) (root_point (outline_of c) k) (atom_in o e) → UnderName g c (atom_at o.atoms e) k
    complete k m d = record { below = λ z. under_name_complete given.world (given.filled.above.row k (omega (arith, given.from.few))) (given.shape.named e h z) (rw z at d) }

    step : (j : ℕ) → NameBefore o (e + 1) j → NameBefore o e j ⊎ ((j ≡ e) × (child_at o.atoms e ≡ 0))
    step j done = by_place (ℕ_discrete j e)
      where
        by_place : Dec (j ≡ e) → NameBefore o e j ⊎ ((j ≡ e) × (child_at o.atoms e ≡ 0))
        by_place (yes z) = inr (z, rw z at done.1)
        by_place (no z) = inl (omega (arith, done.0), done.1)

    pub sift_turn : Sifting g (outline_of c) o (e + 1) y
    sift_turn = record { sifted = sifted_more (omega arith) given.from.few given.shape h sound complete step sifting.sifted lost.adds }

-- the rows of lost points; the names are done for the roots
abbrev NameOrFrom : Outline → ℕ → ℕ → Type 0
NameOrFrom o left j = (child_at o.atoms j ≡ 0) ⊎ (left ≤ j)

pub record Losing (g : Classified) (c o : Outline) (left : ℕ) (ln : Grid) (l : Pairs) : Type 0 where
  pub nodes : Sifted most_nodes (content_in g) (node_point g.square.names) (suc g.square.names) ln.rows o (λ j. left ≤ j)
  pub roots : Sifted most_roots (content_in g) (root_point c) c.extent.roots l.rows o (NameOrFrom o left)

module _ {g : Classified} {c o : Outline} {ln : Grid} {l : Pairs} (given : ToLose g c o ln l) where
  pub lose_start : Losing g c o o.extent.atoms ln l
  lose_start = record {
    nodes = sifted_none given.blank (λ i h done. omega arith);
    roots = record { lost = given.names.sifted.lost; kept = λ i x h done m k. elim done [ inl z ↦ given.names.sifted.kept i x h z m k | inr z ↦ absurd (omega arith) ] };
  }

  module _ {left : ℕ} {xn yn : Grid} {x y : Pairs} (some_left : 0 < left) (h : left ≤ o.extent.atoms) (losing : Losing g c o left xn x)
      (lost : PointsLost g c (atom_at o.atoms (left - 1)) xn yn x y) where
    abbrev i : ℕ
    i = left - 1

    inside : left - 1 < o.extent.atoms
    inside = omega arith

    child_small : child_at o.atoms (left - 1) < most_roots
    child_small = omega (arith, given.shape.child (left - 1) inside, given.shape.few)

    abbrev child : Concept
    child = root_point o (child_at o.atoms (left - 1))

    nodes_row : 0 < child_at o.atoms (left - 1) → KeptRow most_nodes (content_in g) (node_point g.square.names) (suc g.square.names) xn.rows (child_at o.atoms (left - 1)) child
    nodes_row z = sifted_row given.shape losing.nodes (child_at o.atoms (left - 1)) child_small (λ j m own. omega (arith, child_later given.shape (left - 1) inside z j own))

    roots_row : 0 < child_at o.atoms (left - 1) → KeptRow most_roots (content_in g) (root_point c) c.extent.roots x.rows (child_at o.atoms (left - 1)) child
    roots_row z = sifted_row given.shape losing.roots (child_at o.atoms (left - 1)) child_small (λ j m own. inr (omega (arith, child_later given.shape (left - 1) inside z j own)))

    node_step : (j : ℕ) → left - 1 ≤ j → (left ≤ j) ⊎ ((j ≡ left - 1) × (0 < left))
    node_step j m = by_place (ℕ_discrete j (left - 1))
      where
        by_place : Dec (j ≡ left - 1) → (left ≤ j) ⊎ ((j ≡ left - 1) × (0 < left))
        by_place (yes z) = inr (z, some_left)
        by_place (no z) = inl (omega arith)

    root_step : (j : ℕ) → NameOrFrom o (left - 1) j → NameOrFrom o left j ⊎ ((j ≡ left - 1) × (0 < child_at o.atoms (left - 1)))
    root_step j done = elim done [
      | inl z ↦ inl (inl z)
      | inr m ↦ by_place m (ℕ_discrete j (left - 1)) (ℕ_discrete (child_at o.atoms j) 0)
    ]
      where
        by_place : left - 1 ≤ j → Dec (j ≡ left - 1) → Dec (child_at o.atoms j ≡ 0) → NameOrFrom o left j ⊎ ((j ≡ left - 1) × (0 < child_at o.atoms (left - 1)))
        by_place m y (yes z) = inl (inl z)
        by_place m (yes z) (no y) = inr (z, (let some : 0 < child_at o.atoms j = omega arith in rw z at some))
        by_place m (no z) (no y) = inl (inr (omega arith))

    root_sound : 0 < child_at o.atoms (left - 1) → (k : ℕ) → k < c.extent.roots → UnderSome g c (atom_at o.atoms (left - 1)) lost.line x k
        → Derives (content_in g) (root_point c k) (atom_in o (left - 1))
    root_sound z k m under = rw (some_atom {r = value_at o.atoms i} {d = child} (child_at o.atoms i) z)
        (root_reaches_sound given.world given.from (nodes_row z) (roots_row z) (lost.idle.idle z) (under.reaches z))

    root_complete : (k : ℕ) → k < c.extent.roots → Derives (content_in g) (root_point c k) (atom_in o (left - 1)) → UnderSome g c (atom_at o.atoms (left - 1)) lost.line x k
    root_complete k m d = record {
      reaches = λ z. root_reaches_complete given.world given.from (nodes_row z) (roots_row z) (lost.idle.idle z) k (rw (some_atom {r = value_at o.atoms i} {d = child} (child_at o.atoms i) z) at d);
    }

    pub lose_turn : Losing g c o (left - 1) yn y
    lose_turn = record {
      nodes = sifted_more (omega arith) (omega (arith, given.world.few)) given.shape inside
          (λ z k m b. node_below_sound given.world nodes_row lost.idle (given.shape.named i inside) k (omega arith) b)
          (λ k m b. node_below_complete given.world nodes_row lost.idle (given.shape.named i inside) k (omega arith) b) node_step losing.nodes lost.nodes.adds;
      roots = sifted_more given.from.few (omega arith) given.shape inside root_sound root_complete root_step losing.roots lost.roots.adds;
    }

  pub lose_end : {left : ℕ} {xn : Grid} {x : Pairs} → left ≤ 0 → Losing g c o left xn x → Lost g c o x
  lose_end none losing = record { kept = sifted_row given.shape losing.roots 0 (omega arith) (λ i h own. inr (omega arith)) }
