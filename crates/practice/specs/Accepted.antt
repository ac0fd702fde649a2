-- What holds of a file that was made.
--   IsPractice seed n m t     t is accepted as version 1, with n names, m roles and the axioms that the seed draws
use Rattle.std.specs.Prelude.{◌≡◌, List, ℕ}
use Rattle.release.specs.Files.{version_of, names_of, roles_of, axioms_of, fault}
use Rattle.practice.specs.Practice.{practice_axioms}

pub record IsPractice (seed n m : ℕ) (t : List ℕ) : Type 0 where
  pub accepted : fault t ≡ 0
  pub version : version_of t ≡ 1
  pub names : names_of t ≡ n
  pub roles : roles_of t ≡ m
  pub axioms : axioms_of t ≡ practice_axioms seed n m
