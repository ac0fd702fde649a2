-- Laws of what is told of an answer: for a refusal, for a value, and for a refusal that is passed on.
--   refuses, accepts           what is told where the first refusal's number is known, or where there is none
--   first_some                 a refusal comes before those that are met later
--   is_refused, is_accepted    the first refusal's number, by what is told
--   passes_on                  a refusal of a part, told of the whole; passed: the same of the refusal that `?` returns
use mathlib.Core.Path.{◌≡◌, refl}
use Prim.Native.Nat.{ℕ, zero, suc, ◌<◌}
use native.Mathlib.Omega.{arith}
use Rattle.std.specs.Prelude.{Result, Ok, Err, IsErrAnd}
use Rattle.release.specs.Files.{first_of}
use Rattle.release.specs.Refusals.{Numbers, answer}

pub refuses : {A : Type 0} (side k f : ℕ) (a : A) → 0 < k → f ≡ k → Err (record { number = k; side = side }) ≡ answer side f a
refuses side zero f a some e = absurd (omega arith)
refuses side (suc k) f a some e = rw e

pub accepts : {A : Type 0} (side f : ℕ) (a : A) → f ≡ 0 → Ok a ≡ answer side f a
accepts side f a e = rw e

pub first_some : (j k : ℕ) → 0 < j → first_of j k ≡ j
first_some zero k some = absurd (omega arith)
first_some (suc j) k some = refl

pub is_refused : {A : Type 0} (side f : ℕ) (a : A) (n : Numbers) → Err n ≡ answer side f a → (n ≡ record { number = f; side = side }) × (0 < f)
is_refused side zero a n h = absurd (cc)
is_refused side (suc f) a n h = (cc, omega arith)

pub is_accepted : {A : Type 0} (side f : ℕ) (a b : A) → Ok b ≡ answer side f a → (f ≡ 0) × (b ≡ a)
is_accepted side zero a b h = (refl, cc)
is_accepted side (suc f) a b h = absurd (cc)

pub passes_on : {A B : Type 0} (side f g : ℕ) (a : A) (b : B) (n : Numbers) → Err n ≡ answer side f a → (0 < f → g ≡ f) → Err n ≡ answer side g b
passes_on side f g a b n h e = let r = is_refused side f a n h in rw r.0 (refuses side f g b r.1 (e r.1))

-- the refusal that a `?` passes on is that of the call
pub passed : {A E : Type 0} (r : Result A E) (e : E) → IsErrAnd r (λ x. x ≡ e) → r ≡ Err e
passed (Ok a) e h = absurd h
passed (Err x) e h = rw h
