-- A release rewritten as version w of the file.
--   rewritten w s                  the file of version w of the release that the accepted file s holds
--   answer_to w s o                 what rewriting s to the output o answers: the length written, or the refusal
--   Rewritable s                   the file s is accepted, and lists no role pairs
--   Rewrites w s o output answer   this is what is told of rewriting, and the output, o before, is `output` after it;  RewritesAs: in each version
--   Same w s t                     the file t, of version w, can be rewritten itself and has the names, roles, axioms and so the derivable inclusions of s
--   Returned s o q answer          a call answered and left the output, o before, as one that returns the bytes of s
use Rattle.std.specs.Prelude.{◌≡◌, ◌↔◌, false, eqb, List, ◌++◌, ℕ, zero, suc, ltb, length, drop, Result, Ok, Err}
use Rattle.el.specs.Lists.{pick}
use Rattle.el.specs.Concepts.{Concept}
use Rattle.el.specs.Derivability.{Derives}
use Rattle.release.specs.Files.{version_of, width_of, lists_pairs, most_names_of, names_of, roles_of, axioms_of, content_of, fault}
use Rattle.release.specs.Refusals.{Numbers}
use Rattle.release.specs.Versions.{said_version}
use Rattle.release.specs.declared.number.Version.{Version}
use Rattle.release.specs.declared.number.Version.TheVariants.{One, Two, Three}
use Rattle.output.specs.Written.{fitted, WrittenAs}
use Rattle.rewriting.specs.Bytes.{release_bytes}

unfoldable pub rewritten : ℕ → List ℕ → List ℕ
rewritten w s = release_bytes w (names_of s) (roles_of s) (axioms_of s)

abbrev pub refusal : ℕ → ℕ → Result ℕ Numbers
refusal number side = Err (record { number = number; side = side })

-- 40: more names than the wanted version can have, 127 in version 1; 41: the output is shorter than the rewritten file
unfoldable pub answer_accepted : ℕ → List ℕ → List ℕ → Result ℕ Numbers
answer_accepted w s o = pick (ltb (most_names_of w) (names_of s)) (refusal 40 1) (fitted (record { number = 41; side = 0 }) (rewritten w s) o)

-- the release's own refusals come first
abbrev pub answer_by : ℕ → ℕ → List ℕ → List ℕ → Result ℕ Numbers
answer_by zero w s o = answer_accepted w s o
answer_by (suc k) w s o = refusal (suc k) 1

-- a release with role pairs is not rewritten: where the file says version 3, that is refused before any later check
unfoldable pub source_fault : List ℕ → ℕ
source_fault s = pick (eqb (said_version s) 3) 3 (fault s)

unfoldable pub answer_to : ℕ → List ℕ → List ℕ → Result ℕ Numbers
answer_to w s o = answer_by (source_fault s) w s o

-- a release that can be rewritten: accepted, and in a version that lists no role pairs
pub record Rewritable (s : List ℕ) : Type 0 where
  pub accepted : fault s ≡ 0
  pub plain : lists_pairs s ≡ false

abbrev pub Rewrites : ℕ → List ℕ → List ℕ → List ℕ → Result ℕ Numbers → Type 0
Rewrites w s o output answer = WrittenAs (answer_to w s o) (rewritten w s) o output answer

-- the same of each version that there is: nothing is written as version 3
abbrev pub RewritesAs : Version → List ℕ → List ℕ → List ℕ → Result ℕ Numbers → Type 0
RewritesAs One s o output answer = Rewrites 1 s o output answer
RewritesAs Two s o output answer = Rewrites 2 s o output answer
RewritesAs Three s o output answer = (answer ≡ refusal 3 0) × (output ≡ o)

pub record Same (w : ℕ) (s t : List ℕ) : Type 0 where
  pub accepted : Rewritable t
  pub version : version_of t ≡ w
  pub width : width_of t ≡ w
  pub names : names_of t ≡ names_of s
  pub roles : roles_of t ≡ roles_of s
  pub axioms : axioms_of t ≡ axioms_of s
  pub inclusions : (c d : Concept) → Derives (content_of t) c d ↔ Derives (content_of s) c d

pub record Returned (s o q : List ℕ) (answer : Result ℕ Numbers) : Type 0 where
  pub answers : answer ≡ Ok (length s)
  pub leaves : q ≡ s ++ drop (length s) o
