-- Comparing two releases over a signature: the answer with every refusal in its order, and what becomes of lent memory.
--   work_length n                 how much work memory a comparison of releases with n names needs
--   agreed x y                   the answer as far as the releases decide it, by what checking them answers
--   comparison s t g o p w       the answer for releases s and t, signature g, o result bytes, p bytes of role result and w work bytes
--   Outcome s t g o o2 p p2 w w2 after an accepted comparison: o2 has the names' bytes, p2 those of the role pairs, w2 is cleared, the rest is
--                                as before
--   Says s t g o o2 p p2 w w2 r  what the call promises of its answer r and of the memory at its end
use Rattle.std.specs.Prelude.{◌≡◌, ◌&&◌, List, ◌++◌, ℕ, suc, ◌*◌, eqb, leb, length, take, drop, replicate, Result, Ok, Err}
use Rattle.el.specs.Lists.{pick}
use Rattle.el.specs.Comparison.{AreBytes, ArePairBytes}
use Rattle.release.specs.Files.{names_of, roles_of, content_of}
use Rattle.release.specs.Readings.{checked}
use Rattle.release.specs.Refusals.{Numbers, told}
use Rattle.release.specs.declared.Counts.{Counts}
use Rattle.signature.specs.Bytes.{signature_fault}
use Rattle.demands.specs.Inputs.{chosen}
use Rattle.meanings.specs.declared.Compared.{Compared}
use Rattle.meanings.specs.declared.refusals.CompareRefusal.{CompareRefusal}
use Rattle.meanings.specs.Refusals.{compare_refusal}

abbrev pub work_length : ℕ → ℕ
work_length n = 4 * (suc n * suc n)

abbrev pub refused : ℕ → ℕ → Result Compared Numbers
refused number side = Err (record { number = number; side = side })

-- 16
unfoldable pub same_counts : Counts → Counts → Result Compared Numbers
same_counts a b = pick (eqb a.names b.names && eqb a.roles b.roles) (Ok (record { names = a.names; roles = a.roles })) (refused 16 0)

-- by what checking the two releases answers: the first release's refusal, then the second's, then 16
unfoldable pub agreed : Result Counts Numbers → Result Counts Numbers → Result Compared Numbers
agreed (Err k) second = refused k.number 1
agreed (Ok a) (Err k) = refused k.number 2
agreed (Ok a) (Ok b) = same_counts a b

-- 17 and 18, 31, 50, 32
unfoldable pub lent : List ℕ → ℕ → ℕ → ℕ → Compared → Result Compared Numbers
lent g o p w c =
    pick (eqb (signature_fault c.names c.roles g) 0)
    (pick (leb c.names o)
    (pick (leb (c.roles * c.roles) p)
    (pick (leb (work_length c.names) w)
    (Ok c)
    (refused 32 0))
    (refused 50 0))
    (refused 31 0))
    (refused (signature_fault c.names c.roles g) 0)

-- a refusal stays; where there is none yet, what follows tells
abbrev pub and_then : Result Compared Numbers → (Compared → Result Compared Numbers) → Result Compared Numbers
and_then (Err k) follows = Err k
and_then (Ok c) follows = follows c

unfoldable pub judged : Result Counts Numbers → Result Counts Numbers → List ℕ → ℕ → ℕ → ℕ → Result Compared Numbers
judged first second g o p w = and_then (agreed first second) (lent g o p w)

abbrev pub comparison : List ℕ → List ℕ → List ℕ → ℕ → ℕ → ℕ → Result Compared Numbers
comparison s t g o p w = judged (checked s) (checked t) g o p w

pub record Outcome (s t g o o2 p p2 w w2 : List ℕ) : Type 0 where
  pub bytes : AreBytes (names_of s) (chosen s g) (content_of s) (content_of t) (take (names_of s) o2)
  pub past : drop (names_of s) o2 ≡ drop (names_of s) o
  pub role_bytes : ArePairBytes (roles_of s) (chosen s g) (content_of s) (content_of t) (take (roles_of s * roles_of s) p2)
  pub role_past : drop (roles_of s * roles_of s) p2 ≡ drop (roles_of s * roles_of s) p
  pub work : w2 ≡ replicate (work_length (names_of s)) 0 ++ drop (work_length (names_of s)) w

pub record Says (s t g o o2 p p2 w w2 : List ℕ) (r : Result Compared CompareRefusal) : Type 0 where
  pub answer : told compare_refusal r ≡ comparison s t g (length o) (length p) (length w)
  pub refused_result : {k : CompareRefusal} → r ≡ Err k → o2 ≡ o
  pub refused_roles : {k : CompareRefusal} → r ≡ Err k → p2 ≡ p
  pub refused_work : {k : CompareRefusal} → r ≡ Err k → w2 ≡ w
  pub accepted : {c : Compared} → r ≡ Ok c → Outcome s t g o o2 p p2 w w2
