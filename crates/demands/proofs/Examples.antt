-- P1 to P10 and the examples of our own: tested all at once by computing, and so true of the definitions.
--   lie s c d          how two concepts lie, by the answers that crate el computes
--   passes e           the test of an example
--   examples_hold      each example of the table holds
use mathlib.Core.Path.{◌≡◌, refl, ap₂}
use mathlib.Core.Bool.{Bool, true, false, ◌&&◌, false≢true}
use mathlib.Core.List.{List, [], ◌∷◌}
use Prim.Native.Nat.{ℕ, ◌+◌, ◌*◌}
use lib.Dec.{eqb}
use borrow.Author.Tests.{eqb-true}
use Rattle.el.specs.Lists.{pick, all, Every}
use Rattle.el.specs.Answers.{comparison_bytes, pair_bytes, is_included}
use Rattle.el.proofs.Tests.{tells_all, tells_true, and_left, and_right}
use Rattle.release.specs.Files.{number, numbers, width_of, names_of, roles_of, count_of, fault, header_fault, parts_fault, conjunction_fault, restriction_fault, tail_fault}
use Rattle.release.specs.Files.{axiom_fault, axiom_at, axioms_fault, axioms_from, conjunct_defined, content_of}
use Rattle.release.specs.Files.{lists_pairs, pair_count, pairs_place, first_place, pair_fault, pairs_fault, pairs_from, pairs_of}
use Rattle.signature.specs.Bytes.{signature_fault}
use Rattle.concept.specs.Bytes.{concept_ok}
use Rattle.demands.specs.Inputs.{chosen, Accepted, text_ok, AcceptedQuestion, concept_in}
use Rattle.el.proofs.Answers.{pair_bytes_lem}
use Rattle.demands.specs.Examples.{Example, compared, roles_compared, asked, Compared, Holds, examples}
use Rattle.demands.proofs.Files.{comparison_bytes_lem, question_answer}

-- the tests, by the answers that crate el computes
abbrev pub same_bytes : List ℕ → List ℕ → Bool
same_bytes [] [] = true
same_bytes [] (y ∷ ys) = false
same_bytes (x ∷ xs) [] = false
same_bytes (x ∷ xs) (y ∷ ys) = eqb x y && same_bytes xs ys

abbrev pub lie : List ℕ → List ℕ → List ℕ → ℕ
lie s c d = pick (is_included (names_of s) (content_of s) (concept_in s c) (concept_in s d)) 1 0
    + 2 * pick (is_included (names_of s) (content_of s) (concept_in s d) (concept_in s c)) 1 0

abbrev pub compares : List ℕ → List ℕ → List ℕ → List ℕ → Bool
compares s t g r = eqb (fault s) 0 &&
    (eqb (fault t) 0 && (eqb (names_of s) (names_of t) &&
    (eqb (roles_of s) (roles_of t) && (eqb (signature_fault (names_of s) (roles_of s) g) 0 && same_bytes (comparison_bytes (names_of s) (chosen s g) (content_of s) (content_of t)) r))))

abbrev pub passes : Example → Bool
passes (compared s t g r) = compares s t g r
passes (roles_compared s t g r p) = compares s t g r && same_bytes (pair_bytes (roles_of s) (chosen s g) (content_of s) (content_of t)) p
passes (asked s c d v) = eqb (fault s) 0 && (text_ok s c && (text_ok s d && eqb (lie s c d) v))

same_bytes_lem : (xs ys : List ℕ) → same_bytes xs ys ≡ true → xs ≡ ys
same_bytes_lem [] [] h = refl
same_bytes_lem [] (y ∷ ys) h = absurd (false≢true h)
same_bytes_lem (x ∷ xs) [] h = absurd (false≢true h)
same_bytes_lem (x ∷ xs) (y ∷ ys) h = ap₂ ◌∷◌ (eqb-true x y (and_left (eqb x y) _ h)) (same_bytes_lem xs ys (and_right (eqb x y) _ h))

compares_holds : (s t g r : List ℕ) → compares s t g r ≡ true → Compared s t g r
compares_holds s t g r h =
    let a = and_right (eqb (fault s) 0) _ h in
    let b = and_right (eqb (fault t) 0) _ a in
    let c = and_right (eqb (names_of s) (names_of t)) _ b in
    let d = and_right (eqb (roles_of s) (roles_of t)) _ c in
    let given : Accepted s t g = record {
      first = eqb-true (fault s) 0 (and_left (eqb (fault s) 0) _ h);
      second = eqb-true (fault t) 0 (and_left (eqb (fault t) 0) _ a);
      names = eqb-true (names_of s) (names_of t) (and_left (eqb (names_of s) (names_of t)) _ b);
      roles = eqb-true (roles_of s) (roles_of t) (and_left (eqb (roles_of s) (roles_of t)) _ c);
      signature = eqb-true (signature_fault (names_of s) (roles_of s) g) 0 (and_left (eqb (signature_fault (names_of s) (roles_of s) g) 0) _ d);
    } in
    let e = same_bytes_lem (comparison_bytes (names_of s) (chosen s g) (content_of s) (content_of t)) r (and_right (eqb (signature_fault (names_of s) (roles_of s) g) 0) _ d) in
    record { accepted = given; bytes = rw e at (comparison_bytes_lem given) }

-- an example that passes holds
pub passes_holds : (e : Example) → passes e ≡ true → Holds e
passes_holds (compared s t g r) h = compares_holds s t g r h
passes_holds (roles_compared s t g r p) h =
    let e = same_bytes_lem (pair_bytes (roles_of s) (chosen s g) (content_of s) (content_of t)) p (and_right (compares s t g r) _ h) in
    record { compared = compares_holds s t g r (and_left (compares s t g r) _ h); pairs = rw e at (pair_bytes_lem (roles_of s) (chosen s g) (content_of s) (content_of t)) }
passes_holds (asked s c d v) h =
    let a = and_right (eqb (fault s) 0) _ h in
    let b = and_right (text_ok s c) _ a in
    let given : AcceptedQuestion s c d = record {
      release = eqb-true (fault s) 0 (and_left (eqb (fault s) 0) _ h);
      below = and_left (text_ok s c) _ a;
      above = and_left (text_ok s d) _ b;
    } in
    let e = eqb-true (lie s c d) v (and_right (text_ok s d) _ b) in
    record { accepted = given; answer = rw e at (question_answer given) }

all_pass : all passes examples ≡ true
unfolding number numbers width_of names_of roles_of count_of fault header_fault parts_fault conjunction_fault restriction_fault tail_fault axiom_fault axiom_at axioms_fault axioms_from
    conjunct_defined lists_pairs pair_count pairs_place first_place pair_fault pairs_fault pairs_from pairs_of signature_fault concept_ok
all_pass = refl

-- the whole table
pub examples_hold : Every examples Holds
examples_hold = record { at = λ e i. passes_holds e (((tells_all passes examples (λ e _. tells_true (passes e))).sound all_pass).at e i) }
