-- The axiom of a name, by the name's row in the table.
--   Found s t n x              an axiom of the release with the left name x, and its row; own, find, joined, restricted: there is one
--   is_conjunctive, ..         its form, by the kind;  role_is, filler_is: its role and filler;  part_in, part_at_lem: its conjuncts
--   formed, ranges             the axioms and the table are over the n names
use mathlib.Core.Path.{◌≡◌, refl, sym, ap, subst, ◌∙◌}
use mathlib.Core.Bool.{Bool, true, false, false≢true}
use mathlib.Core.List.{List}
use Prim.Native.Nat.{ℕ, ◌+◌, ◌<◌}
use native.Mathlib.Omega.{arith}
use Rattle.el.specs.Lists.{In, pick}
use Rattle.el.specs.Concepts.{named}
use Rattle.el.specs.Axioms.{Axiom, is_conjunction, parts_of, role_of, filler_of}
use Rattle.el.specs.Terminologies.{Formed}
use Rattle.release.specs.Files.{numbers, width_of, names_of, axioms_of, joins, restricts, content_of}
use Rattle.release.specs.Tables.{kind_at, role_at, filler_at, tail_at, count_at, part_at, Shaped, Release, AxiomRow, NameRow, no_axiom, has_axiom}
use Rattle.release.specs.Entries.{node_number}
use Rattle.release.proofs.Numbers.{in_numbers, numbers_at}
use Rattle.release.proofs.Linked as linked
use Rattle.release.specs.declared.table.Table.{Table}
use Rattle.classification.specs.Inclusions.{node_at}
use Rattle.classification.proofs.Nodes.{at_name}

-- the kind by an axiom's form: whether it is a conjunction, and whether a definition
abbrev pub kind_by : Bool → Bool → ℕ
kind_by b c = pick b (pick c 2 1) (pick c 4 3)

kind_joins : (b c : Bool) → joins (kind_by b c) ≡ true → b ≡ true
kind_joins true c h = refl
kind_joins false true h = h
kind_joins false false h = h

kind_restricts : (b c : Bool) → restricts (kind_by b c) ≡ true → b ≡ false
kind_restricts true true h = absurd (false≢true h)
kind_restricts true false h = absurd (false≢true h)
kind_restricts false c h = refl

kind_2 : (b c : Bool) → kind_by b c ≡ 2 → (b ≡ true) × (c ≡ true)
kind_2 true true h = (refl, refl)
kind_2 true false h = absurd (omega arith)
kind_2 false true h = absurd (omega arith)
kind_2 false false h = absurd (omega arith)

kind_4 : (b c : Bool) → kind_by b c ≡ 4 → (b ≡ false) × (c ≡ true)
kind_4 true true h = absurd (omega arith)
kind_4 true false h = absurd (omega arith)
kind_4 false true h = (refl, refl)
kind_4 false false h = absurd (omega arith)

pub joins_kind : (b c : Bool) → b ≡ true → joins (kind_by b c) ≡ true
joins_kind true true h = refl
joins_kind true false h = refl
joins_kind false c h = absurd (false≢true h)

pub restricts_kind : (b c : Bool) → b ≡ false → restricts (kind_by b c) ≡ true
restricts_kind true c h = absurd (false≢true (sym h))
restricts_kind false true h = refl
restricts_kind false false h = refl

-- the axiom of a name
pub record Found (s : List ℕ) (t : Table) (n x : ℕ) : Type 0 where
  pub it : Axiom
  pub member : In (axioms_of s) it
  pub left : it.left ≡ x
  pub row : AxiomRow n s t it

pub record PartAt (s : List ℕ) (t : Table) (x y : ℕ) : Type 0 where
  pub at : ℕ
  pub inside : at < count_at s t x
  pub is : part_at s t x at ≡ y

module _ {s : List ℕ} {t : Table} {n x : ℕ} (f : Found s t n x) where
  abbrev pub joint : Bool
  joint = is_conjunction f.it

  abbrev pub defining : Bool
  defining = f.it.defined

  kind_is : kind_at t x ≡ kind_by joint defining
  kind_is = ap (kind_at t) (sym f.left) ∙ f.row.kind

  pub is_conjunctive : joins (kind_at t x) ≡ true → joint ≡ true
  is_conjunctive h = kind_joins joint defining (rw kind_is at h)

  pub is_restriction : restricts (kind_at t x) ≡ true → joint ≡ false
  is_restriction h = kind_restricts joint defining (rw kind_is at h)

  pub conjunction_joins : joint ≡ true → joins (kind_at t x) ≡ true
  conjunction_joins h = rw kind_is (joins_kind joint defining h)

  pub restriction_restricts : joint ≡ false → restricts (kind_at t x) ≡ true
  restriction_restricts h = rw kind_is (restricts_kind joint defining h)

  pub defined_conjunction : kind_at t x ≡ 2 → (joint ≡ true) × (defining ≡ true)
  defined_conjunction h = kind_2 joint defining (sym kind_is ∙ h)

  pub defined_restriction : kind_at t x ≡ 4 → (joint ≡ false) × (defining ≡ true)
  defined_restriction h = kind_4 joint defining (sym kind_is ∙ h)

  pub is_2 : joint ≡ true → defining ≡ true → kind_at t x ≡ 2
  is_2 h l = kind_is ∙ rw (h, l)

  pub is_4 : joint ≡ false → defining ≡ true → kind_at t x ≡ 4
  is_4 h l = kind_is ∙ rw (h, l)

  pub role_is : joint ≡ false → role_at t x ≡ role_of f.it
  role_is h = ap (role_at t) (sym f.left) ∙ f.row.role h

  pub name_is : x < n → named f.it.left ≡ node_at n x
  name_is l = ap named f.left ∙ sym (at_name n x l)

  pub filler_is : joint ≡ false → node_number n (filler_of f.it) ≡ filler_at t x
  filler_is h = sym (f.row.filler h) ∙ ap (filler_at t) f.left

  parts_are : joint ≡ true → parts_of f.it ≡ numbers (width_of s) (count_at s t x) s (tail_at t x + 1)
  parts_are h = f.row.parts h ∙ ap (λ y. numbers (width_of s) (count_at s t y) s (tail_at t y + 1)) f.left

  pub part_in : joint ≡ true → (i : ℕ) → i < count_at s t x → In (parts_of f.it) (part_at s t x i)
  unfolding part_at
  part_in h i l = rw (parts_are h) (in_numbers (width_of s) (count_at s t x) s (tail_at t x + 1) i l)

  pub part_at_lem : joint ≡ true → {y : ℕ} → In (parts_of f.it) y → PartAt s t x y
  unfolding part_at
  part_at_lem h {y} i = let p = numbers_at (width_of s) (count_at s t x) s (tail_at t x + 1) (rw (parts_are h) at i) in record { at = p.place; inside = p.small; is = p.is }

module _ {s : List ℕ} {t : Table} {n : ℕ} (r : Release s t) (names : n ≡ names_of s) where
  pub formed : Formed n (content_of s)
  formed = subst (λ k. Formed k (content_of s)) (sym names) (linked.formed s r.accepted)

  pub ranges : Shaped n s t
  ranges = subst (λ k. Shaped k s t) (sym names) (linked.ranges r)

  abbrev pub own : {a : Axiom} → In (axioms_of s) a → Found s t n a.left
  own {a} i = record { it = a; member = i; left = refl; row = subst (λ k. AxiomRow k s t a) (sym names) (linked.axiom_row r i) }

  pub find : (x : ℕ) → x < n → (kind_at t x ≡ 0 → ⊥) → Found s t n x
  find x l k = by_row (linked.name_row r x (subst (λ m. x < m) names l))
    where
      by_row : NameRow (axioms_of s) t x → Found s t n x
      by_row (no_axiom z f) = absurd (k z)
      by_row (has_axiom i e) = subst (Found s t n) e (own i)

  pub joined : (x : ℕ) → x < n → joins (kind_at t x) ≡ true → Found s t n x
  joined x l j = find x l (λ z. false≢true (rw z at j))

  pub restricted : (x : ℕ) → x < n → restricts (kind_at t x) ≡ true → Found s t n x
  restricted x l j = find x l (λ z. false≢true (rw z at j))
