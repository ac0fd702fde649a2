-- What outlining a concept writes, and that it means the concept.
--   Pending              a concept still to be read, and the root that owns it
--   Reads ps k atoms     reading the pending concepts ps gives these atoms, where k roots are numbered before
--   pending_of ps o       the pending conjuncts of root o as one concept
--   reads_mean           a root by its atoms is the root by its pending conjuncts
-- Not here: atoms in memory (Atoms), the turns of the loop (Turns).
use mathlib.Core.Path.{◌≡◌, refl}
use mathlib.Core.Bool.{Bool, true, false}
use mathlib.Core.List.{List, [], ◌∷◌}
use Prim.Native.Nat.{ℕ, suc, ◌<◌}
use native.Mathlib.Omega.{arith}
use borrow.Author.Tests.{eq-eqb, ne_eqb}
use lib.Dec.{eqb}
use Rattle.el.specs.Lists.{pick}
use Rattle.el.specs.Concepts.{Concept, top, name, both, some}
use Rattle.el.specs.Axioms.{Terminology}
use Rattle.el.specs.Derivability.{same, to_top, one, other, meet, under, chain}
use Rattle.outline.specs.declared.Atom.{Atom}
use Rattle.outline.specs.Atoms.{named, restricted, root_of, Same}

pub data Pending : Type 0 where
  awaits : ℕ → Concept → Pending

pub data Reads : List Pending → ℕ → List Atom → Type 0 where
  done : {k : ℕ} → Reads [] k []
  read_top : {k o : ℕ} {ps : List Pending} {rest : List Atom} → Reads ps k rest → Reads (awaits o top ∷ ps) k rest
  read_name : {k o b : ℕ} {ps : List Pending} {rest : List Atom} → Reads ps k rest → Reads (awaits o (name b) ∷ ps) k (named b o ∷ rest)
  read_both : {k o : ℕ} {c d : Concept} {ps : List Pending} {rest : List Atom} → Reads (awaits o c ∷ (awaits o d ∷ ps)) k rest → Reads (awaits o (both c d) ∷ ps) k rest
  read_some : {k o r : ℕ} {c : Concept} {ps : List Pending} {rest : List Atom} → Reads (awaits (suc k) c ∷ ps) (suc (suc k)) rest
      → Reads (awaits o (some r c) ∷ ps) (suc k) (restricted r o (suc k) ∷ rest)

abbrev pub pending_of : List Pending → ℕ → Concept
pending_of [] o = top
pending_of (awaits p e ∷ ps) o = pick (eqb p o) (both e (pending_of ps o)) (pending_of ps o)

-- the roots that own them are numbered
abbrev pub OwnersBelow : List Pending → ℕ → Type 0
OwnersBelow [] k = Unit
OwnersBelow (awaits o e ∷ ps) k = (o < k) × OwnersBelow ps k

pub owners_more : (ps : List Pending) {k j : ℕ} → k < j → OwnersBelow ps k → OwnersBelow ps j
owners_more [] l h = tt
owners_more (awaits o e ∷ ps) l h = (omega (arith, h.0), owners_more ps l h.1)

none_pending : (ps : List Pending) (k : ℕ) → OwnersBelow ps k → pending_of ps k ≡ top
none_pending [] k h = refl
none_pending (awaits o e ∷ ps) k h = rw (ne_eqb o k (λ z. omega (arith, h.0))) (none_pending ps k h.1)

module _ {t : Terminology} where
  pub same_itself : {c : Concept} → Same t c c
  same_itself = record { to = same; from = same }

  pub same_chain : {c d e : Concept} → Same t c d → Same t d e → Same t c e
  same_chain p q = record { to = chain p.to q.to; from = chain q.from p.from }

  same_both : {c d e f : Concept} → Same t c d → Same t e f → Same t (both c e) (both d f)
  same_both p q = record { to = meet (chain one p.to) (chain other q.to); from = meet (chain one p.from) (chain other q.from) }

  same_some : {r : ℕ} {c d : Concept} → Same t c d → Same t (some r c) (some r d)
  same_some p = record { to = under p.to; from = under p.from }

  pub same_without_top : {c : Concept} → Same t c (both c top)
  same_without_top = record { to = meet same to_top; from = one }

  same_top_beside : {c : Concept} → Same t (both top c) c
  same_top_beside = record { to = other; from = meet to_top same }

  same_regrouped : {c d e : Concept} → Same t (both (both c d) e) (both c (both d e))
  same_regrouped = record { to = meet (chain one one) (meet (chain one other) other); from = meet (meet one (chain other one)) (chain other other) }

  -- ∃: its filler is a root of its own, and the other roots have none of it
  module _ (k : ℕ) (c : Concept) (ps : List Pending) (rest : List Atom) (h : OwnersBelow ps (suc k))
      (means : (o : ℕ) → o < suc (suc k) → Same t (pending_of (awaits (suc k) c ∷ ps) o) (root_of rest o)) where
    filler_means : Same t c (root_of rest (suc k))
    filler_means =
        let z : pending_of (awaits (suc k) c ∷ ps) (suc k) ≡ both c top = rw (eq-eqb (suc k) (suc k) refl, none_pending ps (suc k) h) in
        same_chain same_without_top (rw z at (means (suc k) (omega arith)))

    some_means : (p role o : ℕ) → o < suc k → Same t (pending_of (awaits p (some role c) ∷ ps) o) (root_of (restricted role p (suc k) ∷ rest) o)
    unfolding root_of
    some_means p role o l = by_test (eqb p o) (rw (ne_eqb (suc k) o (λ z. omega arith)) at (means o (omega arith)))
      where
        by_test : (u : Bool) → Same t (pending_of ps o) (root_of rest o)
            → Same t (pick u (both (some role c) (pending_of ps o)) (pending_of ps o)) (pick u (both (some role (root_of rest (suc k))) (root_of rest o)) (root_of rest o))
        by_test true q = same_both (same_some filler_means) q
        by_test false q = q

  pub reads_mean : {ps : List Pending} {k : ℕ} {rest : List Atom} → Reads ps k rest → OwnersBelow ps k → (o : ℕ) → o < k → Same t (pending_of ps o) (root_of rest o)
  unfolding root_of
  reads_mean done h o l = same_itself
  reads_mean (read_top {o = p} {ps = ps} {rest = rest} r) h o l = by_test (eqb p o) (reads_mean r h.1 o l)
    where
      by_test : (u : Bool) → Same t (pending_of ps o) (root_of rest o) → Same t (pick u (both top (pending_of ps o)) (pending_of ps o)) (root_of rest o)
      by_test true q = same_chain same_top_beside q
      by_test false q = q
  reads_mean (read_name {o = p} {b = b} {ps = ps} {rest = rest} r) h o l = by_test (eqb p o) (reads_mean r h.1 o l)
    where
      by_test : (u : Bool) → Same t (pending_of ps o) (root_of rest o)
          → Same t (pick u (both (name b) (pending_of ps o)) (pending_of ps o)) (pick u (both (name b) (root_of rest o)) (root_of rest o))
      by_test true q = same_both same_itself q
      by_test false q = q
  reads_mean (read_both {o = p} {c = c} {d = d} {ps = ps} {rest = rest} r) h o l = by_test (eqb p o) (reads_mean r (h.0, (h.0, h.1)) o l)
    where
      by_test : (u : Bool) → Same t (pick u (both c (pick u (both d (pending_of ps o)) (pending_of ps o))) (pick u (both d (pending_of ps o)) (pending_of ps o))) (root_of rest o)
          → Same t (pick u (both (both c d) (pending_of ps o)) (pending_of ps o)) (root_of rest o)
      by_test true q = same_chain same_regrouped q
      by_test false q = q
  reads_mean (read_some {k = k} {o = p} {r = role} {c = c} {ps = ps} {rest = rest} r) h o l = some_means k c ps rest h.1
      (λ q m. reads_mean r (omega arith, owners_more ps (omega arith) h.1) q m) p role o l
