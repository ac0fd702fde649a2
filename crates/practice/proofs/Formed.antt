-- An axiom whose numbers are in range and whose conjuncts rise can stand in a file: its bytes are read without a fault, and as that axiom.
--   FormedRight n m r         the numbers of a right side are in range, and its conjuncts rise
--   formed_source             such an axiom is `Sourced`, as the file of rising axioms asks
use mathlib.Core.Path.{◌≡◌, refl, sym, ap, ap₂, ◌∙◌}
use mathlib.Core.Bool.{Bool, true, false}
use mathlib.Core.Logic.{inl, inr}
use mathlib.Core.List.{List, ◌∷◌, ◌++◌}
use Prim.Native.Nat.{ℕ, ◌+◌, ◌≤◌, ◌<◌}
use native.Mathlib.Omega.{arith}
use borrow.Author.Tests.{le-ltb, lt-leb, ne_eqb}
use lib.Dec.{eqb}
use lib.ListN.{length, get_or}
use Rattle.el.specs.Concepts.{Node, everything, named}
use Rattle.el.specs.Axioms.{Axiom, Right, conjunction, restriction}
use Rattle.release.specs.Files.{most_names_of, most_roles, defines, kind_of, number, numbers, ends, is_filler}
use Rattle.release.specs.Files.{parts_fault, conjunction_fault, restriction_fault, tail_fault, axiom_fault, filler_node, right_at, axiom_at}
use Rattle.release.proofs.Faults.{is_filler_lem}
use Rattle.rewriting.specs.Bytes.{number_bytes, names_bytes, filler_number, tail_bytes, axiom_bytes}
use Rattle.rewriting.proofs.Parts.{At, at_start, number_back, byte_fits, byte_back, at_number, at_next, number_inside}
use Rattle.splicing.proofs.Filed.{one_byte}
use Rattle.splicing.proofs.Rising.{Sourced}
use Rattle.practice.proofs.Orders.{RisingNames, none, more}

pub data FormedRight (n m : ℕ) : Right → Type 0 where
  joined : {xs : List ℕ} → RisingNames n 0 xs → length xs ≤ 16 → FormedRight n m (conjunction xs)
  some_thing : {r : ℕ} → r < m → FormedRight n m (restriction r everything)
  some_named : {r b : ℕ} → r < m → b < n → FormedRight n m (restriction r (named b))

module _ (n m : ℕ) (few : n ≤ most_names_of 1) (few_roles : m ≤ most_roles) (t : List ℕ) where
  name_back : (x q : ℕ) → x < n → At t q (number_bytes 1 x) → number 1 t q ≡ x
  name_back x q h a = number_back 1 x (byte_fits x (omega arith)) a

  inside : (x q : ℕ) → At t q (number_bytes 1 x) → ends 1 t q ≡ false
  inside x q a = le-ltb (length t) (q + 1) (number_inside 1 x one_byte a)

  -- names
  record Parted (least : ℕ) (xs : List ℕ) (q : ℕ) : Type 0 where
    fine : parts_fault 1 n (length xs) least t q ≡ 0
    same : numbers 1 (length xs) t q ≡ xs

  parts_back : {least : ℕ} {xs : List ℕ} (q : ℕ) → RisingNames n least xs → At t q (names_bytes 1 xs) → Parted least xs q
  unfolding parts_fault numbers names_bytes
  parts_back q none a = record { fine = refl; same = refl }
  parts_back {least = least} q (more {x = x} {xs = xs} l b r) a =
      let here : At t q (number_bytes 1 x) = at_number 1 x (names_bytes 1 xs) a in
      let e : number 1 t q ≡ x = name_back x q b here in
      let rest = parts_back (q + 1) r (at_next 1 x (names_bytes 1 xs) a) in
      record {
        fine = simp (inside x q here, e, lt-leb n x b, le-ltb x least l, rest.fine);
        same = ap₂ (λ (y : ℕ) (ys : List ℕ). y ∷ ys) e rest.same;
      }

  -- a right side of the kind that says so
  record Tailed (kind : ℕ) (r : Right) (q : ℕ) : Type 0 where
    fine : tail_fault 1 n m kind t q ≡ 0
    same : right_at 1 kind t q ≡ r

  record Conjoined (xs : List ℕ) (q : ℕ) : Type 0 where
    fine : conjunction_fault 1 n t q ≡ 0
    same : numbers 1 (get_or t q 0) t (q + 1) ≡ xs

  conjunction_back : (xs : List ℕ) (q : ℕ) → RisingNames n 0 xs → length xs ≤ 16 → At t q (tail_bytes 1 (conjunction xs)) → Conjoined xs q
  unfolding conjunction_fault tail_bytes
  conjunction_back xs q r short a =
      let here : At t q (number_bytes 1 (length xs)) = at_number 1 (length xs) (names_bytes 1 xs) a in
      let count : get_or t q 0 ≡ length xs = byte_back (length xs) (omega arith) here in
      let rest = parts_back (q + 1) r (at_next 1 (length xs) (names_bytes 1 xs) a) in
      record {
        fine = simp (inside (length xs) q here, count, le-ltb 16 (length xs) short, rest.fine);
        same = ap (λ (k : ℕ). numbers 1 k t (q + 1)) count ∙ rest.same;
      }

  record Restricted (r : ℕ) (b : Node) (q : ℕ) : Type 0 where
    fine : restriction_fault 1 n m t q ≡ 0
    role : get_or t q 0 ≡ r
    filler : filler_node 1 (number 1 t (q + 1)) ≡ b

  restriction_back : (r : ℕ) (b : Node) (q : ℕ) → r < m → (x : ℕ) → x < 256 → filler_number 1 b ≡ x → is_filler 1 n x ≡ true → filler_node 1 x ≡ b
      → At t q (tail_bytes 1 (restriction r b)) → Restricted r b q
  unfolding restriction_fault tail_bytes
  restriction_back r b q small x fits e is node a =
      let rest = number_bytes 1 (filler_number 1 b) in
      let here : At t q (number_bytes 1 r) = at_number 1 r rest a in
      let there : At t (q + 1) (number_bytes 1 x) = rw e at (at_next 1 r rest a) in
      let role : get_or t q 0 ≡ r = byte_back r (omega arith) here in
      let filler : number 1 t (q + 1) ≡ x = number_back 1 x (byte_fits x fits) there in
      record {
        fine = simp (inside r q here, role, lt-leb m r small, inside x (q + 1) there, filler, is);
        role = role;
        filler = rw filler node;
      }

  restricted_back : {r : ℕ} {b : Node} (q : ℕ) → FormedRight n m (restriction r b) → At t q (tail_bytes 1 (restriction r b)) → Restricted r b q
  restricted_back {r} q (some_thing s) a = restriction_back r everything q s 255 (omega arith) refl (is_filler_lem 1 n 255 (inr refl)) refl a
  restricted_back {r} q (some_named {b = x} s h) a =
      let other : eqb x 255 ≡ false = ne_eqb x 255 (λ z. omega arith) in
      restriction_back r (named x) q s x (omega arith) refl (is_filler_lem 1 n x (inl h)) (rw other) a

  joined_back : (kind : ℕ) {xs : List ℕ} (q : ℕ) → tail_fault 1 n m kind t q ≡ conjunction_fault 1 n t q
      → right_at 1 kind t q ≡ conjunction (numbers 1 (get_or t q 0) t (q + 1)) → FormedRight n m (conjunction xs) → At t q (tail_bytes 1 (conjunction xs)) → Tailed kind (conjunction xs) q
  joined_back kind {xs} q e f (joined r l) a =
      let z = conjunction_back xs q r l a in
      record { fine = e ∙ z.fine; same = f ∙ ap conjunction z.same }

  ruled_back : (kind : ℕ) {r : ℕ} {b : Node} (q : ℕ) → tail_fault 1 n m kind t q ≡ restriction_fault 1 n m t q
      → right_at 1 kind t q ≡ restriction (get_or t q 0) (filler_node 1 (number 1 t (q + 1))) → FormedRight n m (restriction r b) → At t q (tail_bytes 1 (restriction r b))
      → Tailed kind (restriction r b) q
  ruled_back kind q e f formed a =
      let z = restricted_back q formed a in
      record { fine = e ∙ z.fine; same = f ∙ ap₂ restriction z.role z.filler }

  -- an axiom: its kind byte says whether it is a definition and which tail follows
  pub record Axiomed (a : Axiom) (q : ℕ) : Type 0 where
    pub fine : axiom_fault 1 n m 0 t q ≡ 0
    pub same : axiom_at 1 t q ≡ a

  axiom_by : (a : Axiom) (q kind : ℕ) → kind_of a ≡ kind → kind < 256 → defines kind ≡ a.defined → a.left < n
      → (At t (q + 1 + 1) (tail_bytes 1 a.right) → Tailed kind a.right (q + 1 + 1)) → At t q (axiom_bytes 1 a) → Axiomed a q
  unfolding axiom_fault axiom_bytes axiom_at
  axiom_by a q kind is small defined b tail at =
      let x = a.left in
      let right = tail_bytes 1 a.right in
      let here : At t q (number_bytes 1 x) = at_number 1 x (number_bytes 1 (kind_of a) ++ right) at in
      let there : At t (q + 1) (number_bytes 1 kind ++ right) = rw is at (at_next 1 x (number_bytes 1 (kind_of a) ++ right) at) in
      let kind_here : At t (q + 1) (number_bytes 1 kind) = at_number 1 kind right there in
      let left : number 1 t q ≡ x = name_back x q b here in
      let f : get_or t (q + 1) 0 ≡ kind = byte_back kind small kind_here in
      let r = tail (at_next 1 kind right there) in
      record {
        fine = simp (inside x q here, left, lt-leb n x b, le-ltb x 0 (omega arith), inside kind (q + 1) kind_here, f, r.fine);
        same = simp (left, f, defined, r.same);
      }

  pub axiom_back : (a : Axiom) (q : ℕ) → a.left < n → FormedRight n m a.right → At t q (axiom_bytes 1 a) → Axiomed a q
  unfolding tail_fault
  axiom_back a q b formed at = by_form a.right a.defined refl refl formed
    where
      by_form : (r : Right) (d : Bool) → a.right ≡ r → a.defined ≡ d → FormedRight n m r → Axiomed a q
      by_form (conjunction xs) false e f g = axiom_by a q 1 (rw (e, f)) (omega arith) (sym f) b (rw e (λ z. joined_back 1 (q + 1 + 1) refl refl g z)) at
      by_form (conjunction xs) true e f g = axiom_by a q 2 (rw (e, f)) (omega arith) (sym f) b (rw e (λ z. joined_back 2 (q + 1 + 1) refl refl g z)) at
      by_form (restriction r x) false e f g = axiom_by a q 3 (rw (e, f)) (omega arith) (sym f) b (rw e (λ z. ruled_back 3 (q + 1 + 1) refl refl g z)) at
      by_form (restriction r x) true e f g = axiom_by a q 4 (rw (e, f)) (omega arith) (sym f) b (rw e (λ z. ruled_back 4 (q + 1 + 1) refl refl g z)) at

pub formed_source : (n m : ℕ) → n ≤ most_names_of 1 → m ≤ most_roles → (a : Axiom) → a.left < n → FormedRight n m a.right → Sourced n m a
formed_source n m few few_roles a b formed =
    let text = axiom_bytes 1 a in
    let back = axiom_back n m few few_roles text a 0 b formed (at_start text) in
    record { text = text; at = 0; none = back.fine; is = back.same }
