-- A conjunction of an accepted release has at most 16 conjuncts, and no more than there are names, since they rise strictly.
use mathlib.Core.Path.{◌≡◌, refl, sym, ap, ◌∙◌}
use mathlib.Core.Bool.{true}
use mathlib.Core.List.{List}
use Prim.Native.Nat.{ℕ, zero, suc, ◌+◌, ◌≤◌, ◌<◌}
use native.Mathlib.Omega.{arith}
use borrow.Author.Tests.{ltb-false}
use lib.Dec.{ltb, leb}
use lib.ListN.{length, get_or}
use Rattle.release.specs.Files.{number, most_conjuncts, width_of, first_place, names_of, roles_of, count_of, conjunction_fault, tail_fault, axiom_fault, axioms_fault}
use Rattle.release.specs.Files.{axiom_length, joins}
use Rattle.release.specs.Tables.{kind_at, count_at, Stands, here, there, Origin, blank, of_axiom, Release}
use Rattle.release.proofs.Sound.{passed}
use Rattle.release.proofs.Decoding.{kind_is, both_none, count_is}
use Rattle.release.proofs.Linked.{no_axiom_fault}
use Rattle.witness_above.proofs.Parts.{parts_few}
use Rattle.release.specs.declared.table.Table.{Table}

pub record FewConjuncts (k n : ℕ) : Type 0 where
  pub sixteen : k ≤ 16
  pub names : k ≤ n

tail_few : (w n m kind : ℕ) (s : List ℕ) (p : ℕ) → joins kind ≡ true → tail_fault w n m kind s p ≡ 0 → FewConjuncts (get_or s p 0) n
unfolding tail_fault conjunction_fault
tail_few w n m kind s p e h =
    let a = passed (ltb (length s) (p + 1)) 6 _ (rw e at h) in
    let b = passed (ltb most_conjuncts (get_or s p 0)) 11 _ a.1 in
    record { sixteen = ltb-false most_conjuncts (get_or s p 0) b.0; names = omega (arith, parts_few w n (get_or s p 0) 0 s (p + 1) (omega arith) b.1) }

axiom_few : (w n m least : ℕ) (s : List ℕ) (q : ℕ) → joins (get_or s (q + w) 0) ≡ true → axiom_fault w n m least s q ≡ 0 → FewConjuncts (get_or s (q + w + 1) 0) n
unfolding axiom_fault
axiom_few w n m least s q e h =
    let a = passed (ltb (length s) (q + w)) 6 _ h in
    let b = passed (leb n (number w s q)) 8 _ a.1 in
    let c = passed (ltb (number w s q) least) 9 _ b.1 in
    let d = passed (ltb (length s) (q + w + 1)) 6 _ c.1 in
    tail_few w n m (get_or s (q + w) 0) s (q + w + 1) e d.1

stands_few : (n m : ℕ) (c least : ℕ) (s : List ℕ) (p q : ℕ) → axioms_fault (width_of s) n m c least s p ≡ 0 → Stands c s p q → joins (get_or s (q + width_of s) 0) ≡ true
    → FewConjuncts (get_or s (q + width_of s + 1) 0) n
unfolding axioms_fault
stands_few n m zero least s p q h absent e = elim absent [ ]
stands_few n m (suc c) least s p q h here e = axiom_few (width_of s) n m least s p e
    (both_none (axiom_fault (width_of s) n m least s p) (axioms_fault (width_of s) n m c (suc (number (width_of s) s p)) s (p + axiom_length (width_of s) s p)) h).0
stands_few n m (suc c) least s p q h (there i) e = stands_few n m c (suc (number (width_of s) s p)) s (p + axiom_length (width_of s) s p) q
    (both_none (axiom_fault (width_of s) n m least s p) (axioms_fault (width_of s) n m c (suc (number (width_of s) s p)) s (p + axiom_length (width_of s) s p)) h).1 i e

module _ {s : List ℕ} {t : Table} {n : ℕ} (r : Release s t) (names : n ≡ names_of s) {x : ℕ} (x_in : x < n) where
  pub few_parts : kind_at t x ≡ 2 → FewConjuncts (count_at s t x) n
  few_parts kind = by_origin (r.decoded.origin x (omega arith))
    where
      by_origin : Origin (count_of s) s t x → FewConjuncts (count_at s t x) n
      by_origin (blank z) = absurd (omega arith)
      by_origin (of_axiom {q = q} i z) =
          let is_kind : get_or s (q + width_of s) 0 ≡ 2 = sym (kind_is (roles_of s) r.decoded (no_axiom_fault s r.accepted) i) ∙ ap (kind_at t) z ∙ kind in
          let few = stands_few (names_of s) (roles_of s) (count_of s) 0 s (first_place s) q (no_axiom_fault s r.accepted) i (rw is_kind refl) in
          let count : count_at s t x ≡ get_or s (q + width_of s + 1) 0 = ap (count_at s t) (sym z) ∙ count_is r.decoded i in
          record { sixteen = omega (arith, few.sixteen); names = omega (arith, few.names) }
