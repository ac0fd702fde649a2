-- What is lost from a terminology to a later one was lost in some step between them. Each disjunction is one that can be computed with.
--   SkipsOne n sig t u v      a witness from t to v, of a name or of a role pair, is one from t to u or from u to v
--   SkipsAll n sig steps      a witness across a chain of terminologies is one in some step of it
use Rattle.std.specs.Prelude.{List, ℕ, ◌<◌, ◌⊎◌}
use Rattle.el.specs.Axioms.{Terminology}
use Rattle.el.specs.Signatures.{Signature, LeftWitness, RightWitness, RoleWitness}
use Rattle.el.specs.Terminologies.{Comparable}
use Rattle.chains.specs.Chains.{last_from, Steps, SomeStep}

pub record SkipsOne (n : ℕ) (sig : Signature) (t u v : Terminology) : Type 0 where
  pub left : (a : ℕ) → a < n → LeftWitness sig t v a → LeftWitness sig t u a ⊎ LeftWitness sig u v a
  pub right : (a : ℕ) → a < n → RightWitness sig t v a → RightWitness sig t u a ⊎ RightWitness sig u v a
  pub pair : (r s : ℕ) → RoleWitness sig t v r s → RoleWitness sig t u r s ⊎ RoleWitness sig u v r s

pub record SkipsAll (n : ℕ) (sig : Signature) {t : Terminology} {us : List Terminology} (steps : Steps (Comparable n sig) t us) : Type 0 where
  pub left : (a : ℕ) → a < n → LeftWitness sig t (last_from t us) a → SomeStep (λ x y _. LeftWitness sig x y a) steps
  pub right : (a : ℕ) → a < n → RightWitness sig t (last_from t us) a → SomeStep (λ x y _. RightWitness sig x y a) steps
  pub pair : (r s : ℕ) → RoleWitness sig t (last_from t us) r s → SomeStep (λ x y _. RoleWitness sig x y r s) steps
