-- Demand 3 of comparisons that keep the promise of the call.
--   Enough s o p w               o result bytes, p bytes of role result and w work bytes are enough to compare releases with the counts of s
--   Compares s t g o p w         a comparison of s and t over g with the result o, the role result p and the work memory w, as the call
--                                promises it
--   NoneReported n o             no name below n is reported: the first bytes of the result o are 0
--   NoPairReported m p           no pair of roles below m is reported: the first bytes of the role result p are 0
--   NothingReported n m c        the comparison c reports no name below n and no pair of roles below m
--   Demand3 s t g forth back     of comparisons in both orders: neither is refused, each gives every name and every role pair its byte, and
--                                the releases are equal over the signature exactly when neither reports a name or a role pair
use Rattle.std.specs.Prelude.{◌≡◌, ◌↔◌, List, ℕ, ◌+◌, ◌*◌, ◌≤◌, ◌<◌, get_or, take, Result, Ok}
use Rattle.el.specs.Signatures.{EqualOver}
use Rattle.el.specs.Comparison.{AreBytes, ArePairBytes}
use Rattle.release.specs.Files.{names_of, roles_of, content_of}
use Rattle.demands.specs.Inputs.{chosen}
use Rattle.meanings.specs.declared.Compared.{Compared}
use Rattle.meanings.specs.declared.refusals.CompareRefusal.{CompareRefusal}
use Rattle.meanings.specs.Comparing.{work_length, Says}

pub record Enough (s : List ℕ) (o p w : ℕ) : Type 0 where
  pub result : names_of s ≤ o
  pub role_result : roles_of s * roles_of s ≤ p
  pub work : work_length (names_of s) ≤ w

pub record Compares (s t g o p w : List ℕ) : Type 0 where
  pub answer : Result Compared CompareRefusal
  pub result : List ℕ
  pub role_result : List ℕ
  pub memory : List ℕ
  pub says : Says s t g o result p role_result w memory answer

abbrev pub NoneReported : ℕ → List ℕ → Type 0
NoneReported n o = (a : ℕ) → a < n → get_or (take n o) a 0 ≡ 0

abbrev pub NoPairReported : ℕ → List ℕ → Type 0
NoPairReported m p = (r s : ℕ) → r < m → s < m → get_or (take (m * m) p) (r * m + s) 0 ≡ 0

pub record NothingReported (n m : ℕ) {s t g o p w : List ℕ} (c : Compares s t g o p w) : Type 0 where
  pub no_name : NoneReported n c.result
  pub no_pair : NoPairReported m c.role_result

pub record Demand3 (s t g : List ℕ) {o p w o' p' w' : List ℕ} (forth : Compares s t g o p w) (back : Compares t s g o' p' w') : Type 0 where
  pub forth_accepted : forth.answer ≡ Ok (record { names = names_of s; roles = roles_of s })
  pub back_accepted : back.answer ≡ Ok (record { names = names_of s; roles = roles_of s })
  pub forth_bytes : AreBytes (names_of s) (chosen s g) (content_of s) (content_of t) (take (names_of s) forth.result)
  pub back_bytes : AreBytes (names_of s) (chosen s g) (content_of t) (content_of s) (take (names_of s) back.result)
  pub forth_pairs : ArePairBytes (roles_of s) (chosen s g) (content_of s) (content_of t) (take (roles_of s * roles_of s) forth.role_result)
  pub back_pairs : ArePairBytes (roles_of s) (chosen s g) (content_of t) (content_of s) (take (roles_of s * roles_of s) back.role_result)
  pub equal : EqualOver (chosen s g) (content_of s) (content_of t) ↔ (NothingReported (names_of s) (roles_of s) forth × NothingReported (names_of s) (roles_of s) back)
