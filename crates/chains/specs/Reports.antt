-- What a branch that skips releases may rely on, of the reports of accepted comparisons.
--   Report g s t                  a comparison of the releases s and t over the signature g that keeps the call's own promise and is not refused
--   byte_in r a                   the byte that it reports of the name a;  pair_in r i j: that of the roles i and j
--   IsEmpty r                     it reports no name and no role pair
--   Across one two across         a name reported on a side across is reported on that side in one of two steps, and a role pair reported across in
--                                 one of them; two empty reports: an empty one
--   AcrossAll steps across        the same of any number of steps
use Rattle.std.specs.Prelude.{◌≡◌, true, List, ℕ, ◌+◌, ◌*◌, ◌<◌, get_or, take, Ok, ◌⊎◌}
use Rattle.el.specs.Comparison.{on_left, on_right}
use Rattle.release.specs.Files.{names_of, roles_of}
use Rattle.meanings.specs.declared.Compared.{Compared}
use Rattle.meanings.specs.Demand3.{Compares, NothingReported}
use Rattle.chains.specs.Chains.{last_from, Steps, SomeStep, EveryStep}

pub record Report (g s t : List ℕ) : Type 0 where
  pub result_lent : List ℕ
  pub roles_lent : List ℕ
  pub work_lent : List ℕ
  pub call : Compares s t g result_lent roles_lent work_lent
  pub counts : Compared
  pub accepted : call.answer ≡ Ok counts

abbrev pub byte_in : {g s t : List ℕ} → Report g s t → ℕ → ℕ
byte_in {s = s} r a = get_or (take (names_of s) r.call.result) a 0

abbrev pub pair_in : {g s t : List ℕ} → Report g s t → ℕ → ℕ → ℕ
pair_in {s = s} r i j = get_or (take (roles_of s * roles_of s) r.call.role_result) (i * roles_of s + j) 0

abbrev pub IsEmpty : {g s t : List ℕ} → Report g s t → Type 0
IsEmpty {s = s} r = NothingReported (names_of s) (roles_of s) r.call

pub record Across {g s t u : List ℕ} (one : Report g s t) (two : Report g t u) (across : Report g s u) : Type 0 where
  pub left : (a : ℕ) → on_left (byte_in across a) ≡ true → (on_left (byte_in one a) ≡ true) ⊎ (on_left (byte_in two a) ≡ true)
  pub right : (a : ℕ) → on_right (byte_in across a) ≡ true → (on_right (byte_in one a) ≡ true) ⊎ (on_right (byte_in two a) ≡ true)
  pub pair : (i j : ℕ) → i < roles_of s → j < roles_of s → pair_in across i j ≡ 1 → (pair_in one i j ≡ 1) ⊎ (pair_in two i j ≡ 1)
  pub empty : IsEmpty one → IsEmpty two → IsEmpty across

pub record AcrossAll {g s : List ℕ} {ts : List (List ℕ)} (steps : Steps (Report g) s ts) (across : Report g s (last_from s ts)) : Type 0 where
  pub left : (a : ℕ) → on_left (byte_in across a) ≡ true → SomeStep (λ x y r. on_left (byte_in r a) ≡ true) steps
  pub right : (a : ℕ) → on_right (byte_in across a) ≡ true → SomeStep (λ x y r. on_right (byte_in r a) ≡ true) steps
  pub pair : (i j : ℕ) → i < roles_of s → j < roles_of s → pair_in across i j ≡ 1 → SomeStep (λ x y r. pair_in r i j ≡ 1) steps
  pub empty : EveryStep (λ x y r. IsEmpty r) steps → IsEmpty across
