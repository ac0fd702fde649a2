-- The turns of outlining, by the constructor that is read.
--   Stacked a i ps       the stack a holds the owners of the i pending concepts ps, the first one last
--   Await w n m ps t     t is the bytes of the pending concepts, their names of w bytes and below n and their roles below m
--   Numbers r p k c      the numbers of the loop, where r is still to be read, p concepts are pending, and k roots and c atoms are written
--   State ..             what is pending and what is written, where the text is that of a concept
--   .._by k ..           what the turn of the constructor k leaves of the roots, the atoms and the stack
use mathlib.Core.Path.{◌≡◌, refl, sym, ◌∙◌}
use mathlib.Core.Bool.{true}
use mathlib.Core.List.{List, [], ◌∷◌, ◌++◌, append_assoc, append-nil}
use Prim.Native.Nat.{ℕ, zero, suc, ◌+◌, ◌*◌, ◌-◌, ◌≤◌, ◌<◌}
use native.Mathlib.Numerals.{add-one}
use native.Mathlib.Omega.{arith}
use borrow.Author.Tests.{ltb-true}
use lib.Dec.{ltb}
use lib.ListN.{length, get_or, set, drop, length-set}
use lib.Seq.{get_or-set_same, get_or-set_other}
use Rattle.el.specs.Concepts.{Concept, some}
use Rattle.el.proofs.Tests.{and_left, and_right}
use Rattle.std.specs.Prelude.{Option, Some, None, IsSome}
use Rattle.std.specs.Borrow.{Bor}
use Rattle.release.specs.Versions.{width}
use Rattle.release.specs.declared.number.Version.{Version}
use Rattle.release.specs.declared.number.Version.TheVariants.{One, Two, Three}
use Rattle.concept.specs.Bytes.{number, Spelled, is_top, is_name, is_both, is_some, is_within, IsTextOf}
use Rattle.outline.specs.declared.Atom.{Atom}
use Rattle.outline.specs.declared.Constructor.{Constructor}
use Rattle.outline.specs.declared.Constructor.TheVariants.{Top, Name, Conjunction, Restriction}
use Rattle.outline.specs.Constructors.{arity, atoms_of, found, split, SplitAs}
use Rattle.outline.specs.Atoms.{named, restricted, atoms_from, Outlined, Outlinable}
use Rattle.outline.proofs.Constructors.{no_split, SameSplit, same_split, name_split, begun, splits, lengths}
use Rattle.outline.proofs.Roots.{Pending, awaits, Reads, done, read_top, read_name, read_both, read_some, OwnersBelow, owners_more, reads_mean, same_chain, same_without_top}
use Rattle.outline.proofs.Atoms.{Written, written_none, written_more, atoms_more}

pub data Stacked (a : List ℕ) : ℕ → List Pending → Type 0 where
  bottom : Stacked a 0 []
  onto : {i o : ℕ} {e : Concept} {ps : List Pending} → get_or a i 0 ≡ o → Stacked a i ps → Stacked a (suc i) (awaits o e ∷ ps)

stack_kept : {a : List ℕ} (j v : ℕ) {i : ℕ} {ps : List Pending} → i ≤ j → Stacked a i ps → Stacked (set a j v) i ps
stack_kept j v h bottom = bottom
stack_kept {a} j v h (onto {i = i} e st) = onto (get_or-set_other a j i v 0 (λ z. omega arith) ∙ e) (stack_kept j v (omega arith) st)

pub data Await (w n m : ℕ) : List Pending → List ℕ → Type 0 where
  nothing : Await w n m [] []
  one : {o : ℕ} {e : Concept} {ps : List Pending} {s t : List ℕ} → Spelled w e s t → is_within n m e ≡ true → Await w n m ps t → Await w n m (awaits o e ∷ ps) s

-- the numbers of the loop
pub record Numbers (r : List ℕ) (pending roots count : ℕ) : Type 0 where
  pub high : pending + length r ≤ 256
  pub few : 2 * count + length r ≤ 255
  pub some_root : 1 ≤ roots
  pub roots_few : roots ≤ count + 1

pub data State (w n m : ℕ) (c : Concept) (r : List ℕ) (pending roots count : ℕ) (owners : List ℕ) (atoms : List Atom) : Type 0 where
  state : {ps : List Pending} {t : List ℕ} → Stacked owners pending ps → r ≡ t → Await w n m ps t → OwnersBelow ps roots
      → ((rest : List Atom) → Reads ps roots rest → Reads (awaits 0 c ∷ []) 1 (atoms_from atoms 0 count ++ rest))
      → Written n roots count atoms → State w n m c r pending roots count owners atoms

-- the same for every concept whose text s is
pub record States (w : ℕ) (s r : List ℕ) (pending roots count : ℕ) (owners : List ℕ) (atoms : List Atom) : Type 0 where
  pub numbers : Numbers r pending roots count
  pub stack : 256 ≤ length owners
  pub room : 128 ≤ length atoms
  pub of : (n m : ℕ) (c : Concept) → IsTextOf w n m c s → State w n m c r pending roots count owners atoms

-- what a turn writes, by the constructor that it reads
abbrev pub roots_by : Constructor → ℕ → ℕ
roots_by Top roots = roots
roots_by (Name x) roots = roots
roots_by Conjunction roots = roots
roots_by (Restriction r) roots = roots + 1

abbrev pub count_by : Constructor → ℕ → ℕ
count_by Top count = count
count_by (Name x) count = count + 1
count_by Conjunction count = count
count_by (Restriction r) count = count + 1

abbrev pub owners_by : Constructor → ℕ → ℕ → List ℕ → List ℕ
owners_by Top top roots owners = owners
owners_by (Name x) top roots owners = owners
owners_by Conjunction top roots owners = set owners (top + 1) (get_or owners top 0)
owners_by (Restriction r) top roots owners = set owners top roots

abbrev pub atoms_by : Constructor → ℕ → ℕ → ℕ → List Atom → List Atom
atoms_by Top owner roots count atoms = atoms
atoms_by (Name x) owner roots count atoms = set atoms count (named x owner)
atoms_by Conjunction owner roots count atoms = atoms
atoms_by (Restriction r) owner roots count atoms = set atoms count (restricted r.0 owner roots)

record Counted (k : Constructor) (roots count : ℕ) : Type 0 where
  more : count_by k count ≡ count + atoms_of k
  kept : roots ≤ roots_by k roots
  few : roots_by k roots ≤ roots + atoms_of k

counted : (k : Constructor) (roots count : ℕ) → Counted k roots count
counted Top roots count = record { more = omega arith; kept = omega arith; few = omega arith }
counted (Name x) roots count = record { more = omega arith; kept = omega arith; few = omega arith }
counted Conjunction roots count = record { more = omega arith; kept = omega arith; few = omega arith }
counted (Restriction r) roots count = record { more = omega arith; kept = omega arith; few = omega arith }

owners_long : (k : Constructor) (top roots : ℕ) (owners : List ℕ) → length (owners_by k top roots owners) ≡ length owners
owners_long Top top roots owners = refl
owners_long (Name x) top roots owners = refl
owners_long Conjunction top roots owners = simp length-set refl
owners_long (Restriction r) top roots owners = simp length-set refl

atoms_long : (k : Constructor) (owner roots count : ℕ) (atoms : List Atom) → length (atoms_by k owner roots count atoms) ≡ length atoms
atoms_long Top owner roots count atoms = refl
atoms_long (Name x) owner roots count atoms = simp length-set refl
atoms_long Conjunction owner roots count atoms = refl
atoms_long (Restriction r) owner roots count atoms = simp length-set refl

-- ∃: its filler is pending, a new root
new_root : {ps : List Pending} {o role : ℕ} {d : Concept} (b : ℕ) (later : List Atom) → b ≡ suc (b - 1) → Reads (awaits b d ∷ ps) (b + 1) later
    → Reads (awaits o (some role d) ∷ ps) b (restricted role o b ∷ later)
new_root zero later x q = absurd (omega arith)
new_root (suc b) later x q = read_some (rw (add-one (suc b)) at q)

module _ {w n m : ℕ} {c : Concept} {r : List ℕ} {roots count : ℕ} {owners : List ℕ} {atoms : List Atom} where
  -- where a concept is pending, the text begins with one
  not_cut : {pending : ℕ} → State w n m c r pending roots count owners atoms → 0 < pending → split w r ≡ None → ⊥
  not_cut (state bottom text await below reads written) p cut = absurd (omega arith)
  not_cut (state (onto e st) text (one spelled within rest) below reads written) p cut = no_split (sym (rw text at cut) ∙ (begun spelled).is)

  module _ {k : Constructor} {t : List ℕ} (first : split w r ≡ found k t) (some_root : 1 ≤ roots) (l : count < length atoms) where
    read : {pending : ℕ} → State w n m c r pending roots count owners atoms → 0 < pending → pending < length owners
        → State w n m c t (pending - 1 + arity k) (roots_by k roots) (count_by k count) (owners_by k (pending - 1) roots owners)
        (atoms_by k (get_or owners (pending - 1) 0) roots count atoms)
    read (state bottom text await below reads written) p h = absurd (omega arith)
    -- ⊤: nothing is written
    read (state (onto {i = i} e st) text (one (is_top {t = u}) within rest) below reads written) p h =
        let same : SameSplit k Top t u = same_split w (0 ∷ u) (rw text at first) refl in
        let y : suc i - 1 + 0 ≡ i = omega arith in
        rw (same.first, y) (state st same.rest rest below.1 (λ later q. reads later (read_top q)) written)
    -- a name: an atom
    read (state (onto {i = i} e st) text (one {o = o} (is_name {x = x} {s = u} long is after) within rest) below reads written) p h =
        let same : SameSplit k (Name (number w u)) t (drop w u) = same_split w (1 ∷ u) (rw text at first) (name_split w u long) in
        let z : suc i - 1 ≡ i = omega arith in
        let y : i + 0 ≡ i = omega arith in
        rw (same.first, z, y, e, is) (
        state
        st
        (same.rest ∙ after)
        rest
        below.1
        (λ later q. rw (atoms_more atoms count (named x o) l, append_assoc) (reads (named x o ∷ later) (read_name q)))
        (written_more written (named x o) roots l below.0 (omega arith) (omega arith) (λ u. ltb-true _ _ within) tt (λ u. absurd (omega arith))))
    -- ⊓: two concepts of one owner
    read (state (onto {i = i} e st) text (one {o = o} (is_both {c = d} {d = f} {s = u} one_half other_half) within rest) below reads written) p h =
        let same : SameSplit k Conjunction t u = same_split w (2 ∷ u) (rw text at first) refl in
        let z : suc i - 1 ≡ i = omega arith in
        let y : i + 2 ≡ suc (suc i) = omega arith in
        rw (same.first, z, y, e, add-one i) (
        state
        (onto (get_or-set_same owners (suc i) o 0 h) (onto (get_or-set_other owners (suc i) i o 0 (λ u. omega arith) ∙ e) (stack_kept (suc i) o (omega arith) st)))
        same.rest
        (one one_half (and_left (is_within n m d) (is_within n m f) within) (one other_half (and_right (is_within n m d) (is_within n m f) within) rest))
        (below.0, (below.0, below.1))
        (λ later q. reads later (read_both q))
        written)
    -- ∃: an atom, and its filler is pending, a new root
    read (state (onto {i = i} e st) text (one {o = o} {ps = ps} (is_some {r = role} {c = d} {s = u} filler) within rest) below reads written) p h =
        let same : SameSplit k (Restriction (record { 0 = role })) t u = same_split w (3 ∷ (role ∷ u)) (rw text at first) refl in
        let z : suc i - 1 ≡ i = omega arith in
        let x : roots ≡ suc (roots - 1) = omega arith in
        rw (same.first, z, e, add-one i) (
        state
        (onto (get_or-set_same owners i roots 0 (omega arith)) (stack_kept i roots (omega arith) st))
        same.rest
        (one filler (and_right (ltb role m) (is_within n m d) within) rest)
        (omega arith, owners_more ps (omega arith) below.1)
        (λ later q. rw (atoms_more atoms count (restricted role o roots) l, append_assoc) (reads (restricted role o roots ∷ later) (new_root roots later x q)))
        (written_more written (restricted role o roots) (roots + 1) l below.0 (omega arith) (omega arith) (λ u. absurd (omega arith)) (omega arith) (λ u. omega arith)))

pub some_width : (v : Version) → 1 ≤ width v
some_width One = omega arith
some_width Two = omega arith
some_width Three = omega arith

split_in : (w : ℕ) (s : List ℕ) (o : Option (Constructor × Bor (List ℕ))) → SplitAs w s o → (split w s ≡ None → ⊥) → IsSome o
split_in w s (Some p) is not_none = refl
split_in w s None is not_none = absurd (not_none is)

-- the start
pub starts : {w : ℕ} {s owners : List ℕ} {atoms : List Atom} → Outlinable w s → 128 ≤ length atoms → 256 ≤ length owners → get_or owners 0 0 ≡ 0 → States w s s 1 1 0 owners atoms
unfolding atoms_from
starts given room stack whole = record {
  numbers = record { high = omega (arith, given.text.short); few = omega (arith, given.text.short); some_root = omega arith; roots_few = omega arith };
  stack = stack;
  room = room;
  of = λ n m c text. state (onto whole bottom) refl (one text.bytes text.within nothing) (omega arith, tt) (λ rest q. q) written_none;
}

-- a turn, for the text that outlining is asked for
module _ {w : ℕ} {s r : List ℕ} {pending roots count : ℕ} {owners : List ℕ} {atoms : List Atom} (states : States w s r pending roots count owners atoms) (p : 0 < pending) where
  pub split_there : Outlinable w s → (o : Option (Constructor × Bor (List ℕ))) → SplitAs w r o → IsSome o
  split_there given o is = split_in w r o is (not_cut (states.of _ _ _ given.text) p)

  module _ {k : Constructor} {t : List ℕ} (first : split w r ≡ found k t) where
    -- as the branch of the constructor j gives it, where `more` concepts are pending anew
    pub turn : {j : Constructor} {more : ℕ} → 1 ≤ w → k ≡ j → more ≡ arity k → States w s t (pending - 1 + more) (roots_by j roots) (count_by j count) (owners_by j (pending - 1) roots owners)
        (atoms_by j (get_or owners (pending - 1) 0) roots count atoms)
    turn some_width is more_is =
        let counts = counted k roots count in
        let long = lengths (splits r first) in
        rw (more_is, ← is) record {
          numbers = record {
            high = omega (arith, states.numbers.high, long.concepts);
            few = omega (arith, states.numbers.few, long.atoms some_width, counts.more);
            some_root = omega (arith, states.numbers.some_root, counts.kept);
            roots_few = omega (arith, states.numbers.roots_few, counts.few, counts.more);
          };
          stack = rw (owners_long k (pending - 1) roots owners) states.stack;
          room = rw (atoms_long k (get_or owners (pending - 1) 0) roots count atoms) states.room;
          of = λ n m c text. read first states.numbers.some_root (omega (arith, states.numbers.few, states.room, long.shorter)) (states.of n m c text) p
              (omega (arith, states.numbers.high, states.stack, long.shorter));
        }

-- the end
pub ends : {w : ℕ} {s r : List ℕ} {pending roots count : ℕ} {owners : List ℕ} {atoms : List Atom} → States w s r pending roots count owners atoms → pending ≤ 0
    → (n m : ℕ) (c : Concept) → IsTextOf w n m c s → (k : ℕ) → k ≡ roots → Outlined n c (record { atoms = atoms; extent = record { atoms = count; roots = k } })
ends {w} {r = r} {roots = roots} {count = count} {owners = owners} {atoms = atoms} states p n m c text k e = by_state (states.of n m c text) p
  where
    by_state : {i : ℕ} → State w n m c r i roots count owners atoms → i ≤ 0 → Outlined n c (record { atoms = atoms; extent = record { atoms = count; roots = k } })
    by_state (state (onto f st) t await below reads written) z = absurd (omega arith)
    by_state (state bottom t await below reads written) z =
        let all_read = rw append-nil at (reads [] done) in
        let numbers = states.numbers in
        rw e record {
          shape = record {
            room = omega (arith, numbers.few, states.room);
            few_atoms = omega (arith, numbers.few);
            few = omega (arith, numbers.few, numbers.roots_few);
            whole = omega (arith, numbers.some_root);
            owner = written.owner;
            child = written.child;
            named = written.named;
            rooted = written.rooted;
            later = written.later;
          };
          means = λ _. same_chain same_without_top (reads_mean all_read (omega arith, tt) 0 (omega arith));
        }
