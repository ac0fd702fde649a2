-- The table by name and the axioms of the file: each row is that of an axiom, and each axiom has its row.
--   Holds n s t q       the row of the axiom at place q, by the file's bytes
--   shaped              the table of axioms without fault has the ranges that loops rely on
--   defined_parts       refusal 15 is met exactly where the table has a conjunct that is itself of kind 2
use mathlib.Core.Path.{◌≡◌, refl, sym, ◌∙◌}
use mathlib.Core.Bool.{Bool, true, false, true≢false, false≢true}
use mathlib.Core.List.{List, []}
use Prim.Native.Nat.{ℕ, zero, suc, ◌+◌, ◌*◌, ◌≤◌, ◌<◌}
use native.Mathlib.Nat.{lt_of_lt_of_le}
use native.Mathlib.Omega.{arith}
use lib.ListN.{length, get_or}
use Rattle.el.specs.Lists.{In, first, later}
use Rattle.el.specs.Axioms.{Axiom, is_conjunction, parts_of}
use Rattle.release.specs.Files.{most_roles, number, numbers, width_of, first_place, joins, restricts, axiom_length, axioms_fault, axiom_at, axioms_from, first_of, filler_node}
use Rattle.release.specs.Tables.{kind_at, role_at, filler_at, tail_at, count_at, part_at, Stands, here, there, Row, entry_at, blank, of_axiom, Decoded, Shaped}
use Rattle.release.specs.Entries.{node_number, entry_of}
use Rattle.release.proofs.Sound.{Sound, axiom_sound, Tail, joined, restricted, Joined, tail_kind}
use Rattle.release.specs.Kinds.{kind_number, kind_of_byte}
use Rattle.release.specs.declared.table.Table.{Table}
use Rattle.release.proofs.Faults.{restricts_not_joins}
use Rattle.release.proofs.KindNumbers.{number_of_byte, joins_of_byte}
use Rattle.release.proofs.Versions.{header_far, first_is}
use Rattle.release.proofs.Scan.{filler_node_lem}

-- a row by the file's bytes
pub record Holds (n : ℕ) (s : List ℕ) (t : Table) (q : ℕ) : Type 0 where
  pub kind : kind_at t (number (width_of s) s q) ≡ kind_number (kind_of_byte (get_or s (q + width_of s) 0))
  pub tail : tail_at t (number (width_of s) s q) ≡ q + width_of s + 1
  pub role : joins (get_or s (q + width_of s) 0) ≡ false → role_at t (number (width_of s) s q) ≡ get_or s (q + width_of s + 1) 0
  pub filler : joins (get_or s (q + width_of s) 0) ≡ false → filler_at t (number (width_of s) s q) ≡ node_number n (filler_node (width_of s) (number (width_of s) s (q + width_of s + 1 + 1)))

row_holds : (n : ℕ) (s : List ℕ) (t : Table) (q : ℕ) → Row t (entry_at n s q) → Holds n s t q
unfolding entry_at entry_of
row_holds n s t q h = by_kind (joins (kind_number (kind_of_byte (get_or s (q + width_of s) 0)))) refl
  where
    by_kind : (b : Bool) → joins (kind_number (kind_of_byte (get_or s (q + width_of s) 0))) ≡ b → Holds n s t q
    by_kind true e = let r : Row t (entry_at n s q) = h in record {
      kind = rw (e, entry_of) at r.kind;
      tail = rw (e, entry_of) at r.tail;
      role = λ z. absurd (true≢false (sym e ∙ (joins_of_byte (get_or s (q + width_of s) 0) ∙ z)));
      filler = λ z. absurd (true≢false (sym e ∙ (joins_of_byte (get_or s (q + width_of s) 0) ∙ z)));
    }
    by_kind false e = let r : Row t (entry_at n s q) = h in record
        { kind = rw (e, entry_of) at r.kind; tail = rw (e, entry_of) at r.tail; role = λ z. rw (e, entry_of) at r.role; filler = λ z. rw (e, entry_of) at r.filler }

pub both_none : (j k : ℕ) → first_of j k ≡ 0 → (j ≡ 0) × (k ≡ 0)
both_none zero k h = (refl, h)
both_none (suc j) k h = absurd (omega arith)

-- each of the axioms read without fault is sound
pub stands_sound : (n m : ℕ) (c least : ℕ) (s : List ℕ) (p q : ℕ) → axioms_fault (width_of s) n m c least s p ≡ 0 → Stands c s p q → Sound (width_of s) n m 0 s q × (least ≤ number (width_of s) s q)
unfolding axioms_fault
stands_sound n m zero least s p q h absent = elim absent [ ]
stands_sound n m (suc c) least s p q h here = let f = (both_none _ _ h).0 in let v = axiom_sound (width_of s) n m least s p f in
    (record { left = v.left; rises = omega arith; tail = v.tail }, v.rises)
stands_sound n m (suc c) least s p q h (there i) = let z = both_none _ _ h in let r = stands_sound n m c (suc (number (width_of s) s p)) s (p + axiom_length (width_of s) s p) q
    z.1 i in (r.0, omega (arith, r.1, (axiom_sound (width_of s) n m least s p z.0).rises))

-- the conjuncts of the axiom at q, in the table and in the file
module _ {n c : ℕ} {s : List ℕ} {t : Table} (d : Decoded n c s t) where
  pub holds : {q : ℕ} → Stands c s (first_place s) q → Holds n s t q
  holds {q} i = row_holds n s t q (d.row q i)

  pub count_is : {q : ℕ} → Stands c s (first_place s) q → count_at s t (number (width_of s) s q) ≡ get_or s (q + width_of s + 1) 0
  unfolding count_at
  count_is i = rw (holds i).tail

  pub part_is : {q : ℕ} → Stands c s (first_place s) q → (j : ℕ) → part_at s t (number (width_of s) s q) j ≡ number (width_of s) s (q + width_of s + 1 + 1 + width_of s * j)
  unfolding part_at
  part_is {q} i j = rw (holds i).tail

-- the ranges
module _ (m : ℕ) {n c : ℕ} {s : List ℕ} {t : Table} (d : Decoded n c s t) (none : axioms_fault (width_of s) n m c 0 s (first_place s) ≡ 0) where
  pub sound : {q : ℕ} → Stands c s (first_place s) q → Sound (width_of s) n m 0 s q
  sound {q} i = (stands_sound n m c 0 s (first_place s) q none i).0

  -- a row's kind, by the kind byte
  pub kind_is : {q : ℕ} → Stands c s (first_place s) q → kind_at t (number (width_of s) s q) ≡ get_or s (q + width_of s) 0
  kind_is {q} i = (holds d i).kind ∙ number_of_byte (get_or s (q + width_of s) 0) (tail_kind (sound i).tail)

  shaped_role : {q : ℕ} → Stands c s (first_place s) q → restricts (kind_at t (number (width_of s) s q)) ≡ true → role_at t (number (width_of s) s q) < m
  shaped_role {q} i e = by_tail (sound i).tail
    where
      by_tail : Tail (width_of s) n m (get_or s (q + width_of s) 0) s (q + width_of s + 1) → role_at t (number (width_of s) s q) < m
      by_tail (joined j k) = absurd (true≢false (sym j ∙ restricts_not_joins (get_or s (q + width_of s) 0) (rw (kind_is i) at e)))
      by_tail (restricted j r k) = rw ((holds d i).role j) k.role

  shaped_filler : {q : ℕ} → Stands c s (first_place s) q → restricts (kind_at t (number (width_of s) s q)) ≡ true → filler_at t (number (width_of s) s q) ≤ n
  shaped_filler {q} i e = by_tail (sound i).tail
    where
      by_tail : Tail (width_of s) n m (get_or s (q + width_of s) 0) s (q + width_of s + 1) → filler_at t (number (width_of s) s q) ≤ n
      by_tail (joined j k) = absurd (true≢false (sym j ∙ restricts_not_joins (get_or s (q + width_of s) 0) (rw (kind_is i) at e)))
      by_tail (restricted j r k) = rw ((holds d i).filler j) (filler_node_lem (width_of s) n (number (width_of s) s (q + width_of s + 1 + 1)) k.filler)

  pub conjuncts : {q : ℕ} → Stands c s (first_place s) q → joins (kind_at t (number (width_of s) s q)) ≡ true → Joined (width_of s) n s (q + width_of s + 1)
  conjuncts {q} i e = by_tail (sound i).tail
    where
      by_tail : Tail (width_of s) n m (get_or s (q + width_of s) 0) s (q + width_of s + 1) → Joined (width_of s) n s (q + width_of s + 1)
      by_tail (joined j k) = k
      by_tail (restricted j r k) = absurd (true≢false (sym (rw (kind_is i) at e) ∙ j))

  shaped_inside : {q : ℕ} → Stands c s (first_place s) q → joins (kind_at t (number (width_of s) s q)) ≡ true
      → tail_at t (number (width_of s) s q) + 1 + width_of s * count_at s t (number (width_of s) s q) ≤ length s
  shaped_inside i e = rw (count_is d i, (holds d i).tail) (conjuncts i e).parts.within

  pub shaped_part : {q : ℕ} → Stands c s (first_place s) q → (j : ℕ) → joins (kind_at t (number (width_of s) s q)) ≡ true → j < count_at s t (number (width_of s) s q)
      → part_at s t (number (width_of s) s q) j < n
  shaped_part {q} i j e l = rw (part_is d i j) ((conjuncts i e).parts.each j (omega (arith, l, count_is d i)))

  pub shaped : m ≤ most_roles → first_place s ≤ length s → Shaped n s t
  shaped few long = record {
    version = omega (arith, first_is s, header_far s);
    rows = d.rows;
    role = λ x l e. elim (d.origin x l) [ blank z ↦ absurd (false≢true (rw z at e)) | of_axiom i z ↦ rw z at (lt_of_lt_of_le (shaped_role i (rw (← z) at e)) few) ];
    filler = λ x l e. elim (d.origin x l) [ blank z ↦ absurd (false≢true (rw z at e)) | of_axiom i z ↦ rw z at (shaped_filler i (rw (← z) at e)) ];
    inside = λ x l e. elim (d.origin x l) [ blank z ↦ absurd (false≢true (rw z at e)) | of_axiom i z ↦ rw z at (shaped_inside i (rw (← z) at e)) ];
    part = λ x j l e k. elim (d.origin x l) [ blank z ↦ absurd (false≢true (rw z at e)) | of_axiom i z ↦ rw z at (shaped_part i j (rw (← z) at e) (rw (← z) at k)) ];
  }

-- the axioms of the list are those that stand in the file
pub record Place (c : ℕ) (s : List ℕ) (p : ℕ) (a : Axiom) : Type 0 where
  pub at : ℕ
  pub stands : Stands c s p at
  pub is : axiom_at (width_of s) s at ≡ a

pub stands_in : {c : ℕ} {s : List ℕ} {p q : ℕ} → Stands c s p q → In (axioms_from c s p) (axiom_at (width_of s) s q)
unfolding axioms_from
stands_in here = first
stands_in (there h) = later (stands_in h)

pub in_stands : (c : ℕ) (s : List ℕ) (p : ℕ) {a : Axiom} → In (axioms_from c s p) a → Place c s p a
unfolding axioms_from
in_stands zero s p {a = a} absent = elim absent [ ]
in_stands (suc c) s p first = record { at = p; stands = here; is = refl }
in_stands (suc c) s p (later h) = let r = in_stands c s (p + axiom_length (width_of s) s p) h in record { at = r.at; stands = there r.stands; is = r.is }

-- an axiom's form, by its bytes
pub axiom_joins : (w : ℕ) (s : List ℕ) (q : ℕ) → is_conjunction (axiom_at w s q) ≡ joins (get_or s (q + w) 0)
unfolding axiom_at
axiom_joins w s q = by_kind (joins (get_or s (q + w) 0)) refl
  where
    by_kind : (b : Bool) → joins (get_or s (q + w) 0) ≡ b → is_conjunction (axiom_at w s q) ≡ joins (get_or s (q + w) 0)
    by_kind true e = rw (e, axiom_at)
    by_kind false e = rw (e, axiom_at)

pub axiom_parts : (w : ℕ) (s : List ℕ) (q : ℕ) → joins (get_or s (q + w) 0) ≡ true → parts_of (axiom_at w s q) ≡ numbers w (get_or s (q + w + 1) 0) s (q + w + 1 + 1)
unfolding axiom_at
axiom_parts w s q e = rw (e, axiom_at)

pub axiom_no_parts : (w : ℕ) (s : List ℕ) (q : ℕ) → joins (get_or s (q + w) 0) ≡ false → parts_of (axiom_at w s q) ≡ []
unfolding axiom_at
axiom_no_parts w s q e = rw (e, axiom_at)
