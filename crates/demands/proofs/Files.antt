-- From accepted files to the theory.
--   comparable           what accepted files say, with an accepted signature, can be compared
--   demand3              demand 3
--   comparison_bytes_lem     the bytes that crate el computes are the bytes of the comparison
--   question_answer      and so with the answer of a question, both ways
use mathlib.Core.Path.{◌≡◌, refl}
use mathlib.Core.Bool.{Bool, true, false, false≢true}
use mathlib.Core.List.{List}
use Prim.Native.Nat.{ℕ, ◌+◌, ◌*◌}
use native.Mathlib.Omega.{arith}
use borrow.Author.Tests.{ltb-true}
use lib.Dec.{ltb}
use Rattle.el.specs.Lists.{pick}
use Rattle.el.specs.Concepts.{Concept, top, name, both, some}
use Rattle.el.specs.Axioms.{Terminology}
use Rattle.el.specs.Derivability.{Derives, IsAnswer}
use Rattle.el.specs.Comparison.{AreBytes}
use Rattle.el.specs.Answers.{comparison_bytes, is_included}
use Rattle.el.specs.Terminologies.{Comparable}
use Rattle.el.proofs.Tests.{Tells, and_left, and_right}
use Rattle.el.proofs.Questions.{Scoped, tells_included}
use Rattle.el.proofs.Answers as Answers
use Rattle.el.proofs.Demand3 as Theory
use Rattle.release.specs.Files.{width_of, names_of, roles_of, content_of}
use Rattle.release.proofs.Linked.{formed, normalised}
use Rattle.concept.specs.Bytes.{is_within}
use Rattle.concept.proofs.Texts.{accepted_is_text}
use Rattle.demands.specs.Inputs.{chosen, Accepted, text_ok, AcceptedQuestion, concept_in, Demand3}
use Rattle.demands.specs.Lying.{Lies}

pub comparable : {s t g : List ℕ} → Accepted s t g → Comparable (names_of s) (chosen s g) (content_of s) (content_of t)
comparable {s} {t} {g} given = record {
  names_in = λ x h. ltb-true x (names_of s) (and_left (ltb x (names_of s)) _ h);
  first_formed = formed s given.first;
  second_formed = rw given.names (formed t given.second);
  first_terms = normalised s given.first;
  second_terms = normalised t given.second;
}

pub demand3 : {s t g : List ℕ} → Accepted s t g → Demand3 s t g
demand3 {s} given = Theory.demand3 (comparable given) (λ r h. ltb-true r (roles_of s) (and_left (ltb r (roles_of s)) _ h))

pub comparison_bytes_lem : {s t g : List ℕ} → Accepted s t g
    → AreBytes (names_of s) (chosen s g) (content_of s) (content_of t) (comparison_bytes (names_of s) (chosen s g) (content_of s) (content_of t))
comparison_bytes_lem given = Answers.comparison_bytes_lem (comparable given)

-- questions
within_scoped : (n m : ℕ) (c : Concept) → is_within n m c ≡ true → Scoped n c
within_scoped n m top h = tt
within_scoped n m (name x) h = ltb-true x n h
within_scoped n m (both c d) h = (within_scoped n m c (and_left (is_within n m c) _ h), within_scoped n m d (and_right (is_within n m c) _ h))
within_scoped n m (some r c) h = within_scoped n m c (and_right (ltb r m) _ h)

told : {t : Terminology} {c d : Concept} (b : Bool) → Tells b (Derives t c d) → IsAnswer t c d (pick b 1 0)
told true tells = record { small = omega arith; derivable = (λ e. tells.sound refl, λ p. refl) }
told false tells = record { small = omega arith; derivable = (λ e. absurd (omega arith), λ p. absurd (false≢true (tells.complete p))) }

pub question_answer : {s c d : List ℕ} → AcceptedQuestion s c d
    → Lies (content_of s) (concept_in s c) (concept_in s d)
    (pick (is_included (names_of s) (content_of s) (concept_in s c) (concept_in s d)) 1 0 + 2 * pick (is_included (names_of s) (content_of s) (concept_in s d) (concept_in s c)) 1 0)
question_answer {s} {c} {d} given = record { upward = _; downward = _; below = direction c d given.below given.above; above = direction d c given.above given.below; number = refl }
  where
    scoped : (c : List ℕ) → text_ok s c ≡ true → Scoped (names_of s) (concept_in s c)
    scoped c h = within_scoped (names_of s) (roles_of s) (concept_in s c) (accepted_is_text (width_of s) (names_of s) (roles_of s) c h).within

    direction : (a b : List ℕ) → text_ok s a ≡ true → text_ok s b ≡ true
        → IsAnswer (content_of s) (concept_in s a) (concept_in s b) (pick (is_included (names_of s) (content_of s) (concept_in s a) (concept_in s b)) 1 0)
    direction a b h k = told _ (tells_included (formed s given.release) (normalised s given.release) (concept_in s a) (concept_in s b) (scoped a h) (scoped b k))
