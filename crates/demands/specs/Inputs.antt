-- What a comparison and a question are given, as bytes.
--   chosen s g             the signature whose bytes g are read for the release s
--   Accepted s t g         two accepted releases with the same counts of names and roles, and an accepted signature
--   text_ok s c             the text c is accepted as a concept asked of the release s;  concept_in s c: the concept of such a text
--   AcceptedQuestion s c d   an accepted release, and two concepts accepted for it
--   Demand3 s t g          demand 3 for two releases and a signature, of names and role pairs
use Rattle.std.specs.Prelude.{◌≡◌, Bool, true, List, ℕ}
use Rattle.el.specs.Concepts.{Concept}
use Rattle.el.specs.Signatures.{Signature}
use Rattle.el.specs.Comparison as el
use Rattle.release.specs.Files.{width_of, fault, names_of, roles_of, content_of}
use Rattle.signature.specs.Bytes.{signature_fault, signature_of}
use Rattle.concept.specs.Bytes.{concept_ok, read_concept}

abbrev pub chosen : List ℕ → List ℕ → Signature
chosen s g = signature_of (names_of s) (roles_of s) g

pub record Accepted (s t g : List ℕ) : Type 0 where
  pub first : fault s ≡ 0
  pub second : fault t ≡ 0
  pub names : names_of s ≡ names_of t
  pub roles : roles_of s ≡ roles_of t
  pub signature : signature_fault (names_of s) (roles_of s) g ≡ 0

abbrev pub text_ok : List ℕ → List ℕ → Bool
text_ok s c = concept_ok (width_of s) (names_of s) (roles_of s) c

pub record AcceptedQuestion (s c d : List ℕ) : Type 0 where
  pub release : fault s ≡ 0
  pub below : text_ok s c ≡ true
  pub above : text_ok s d ≡ true

abbrev pub concept_in : List ℕ → List ℕ → Concept
concept_in s c = (read_concept (width_of s) (names_of s) (roles_of s) c).concept

abbrev pub Demand3 : List ℕ → List ℕ → List ℕ → Type 0
Demand3 s t g = el.Demand3 (names_of s) (roles_of s) (chosen s g) (content_of s) (content_of t)
