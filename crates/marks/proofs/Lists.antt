-- Laws of lists.
--   replicated_at     a list of one value has it at each place
use mathlib.Core.Path.{◌≡◌, refl}
use Prim.Native.Nat.{ℕ, zero, suc}
use lib.ListN.{get_or, replicate}

pub replicated_at : {A : Type 0} (d : A) (n k : ℕ) → get_or (replicate n d) k d ≡ d
replicated_at d zero k = refl
replicated_at d (suc n) zero = refl
replicated_at d (suc n) (suc k) = replicated_at d n k
