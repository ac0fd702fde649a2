-- What making a practice release answers and leaves.
use mathlib.Core.Path.{◌≡◌}
use mathlib.Core.List.{List}
use Prim.Native.Nat.{ℕ, ◌≤◌, ◌<◌}
use borrow.Author.Tests.{lt-ltb, le-ltb}
use Rattle.std.specs.Prelude.{Result, Err}
use Rattle.release.specs.Files.{most_names_of, most_roles}
use Rattle.output.specs.Written.{fitted, WrittenAs}
use Rattle.output.proofs.Written.{unchanged}
use Rattle.practice.specs.declared.refusals.PracticeRefusal.{PracticeRefusal}
use Rattle.practice.specs.declared.refusals.PracticeRefusal.TheVariants.{ManyNames, ManyRoles, ShortOutput}
use Rattle.practice.specs.Practice.{practice_file}
use Rattle.practice.specs.Making.{answer_to, Makes}

module _ (seed n m : ℕ) (o : List ℕ) where
  pub many_names : most_names_of 1 < n → {a : Result ℕ PracticeRefusal} → a ≡ Err ManyNames → Makes seed n m o o a
  unfolding answer_to
  many_names h e = record { written = unchanged ManyNames (rw (lt-ltb (most_names_of 1) n h)) e }

  module _ (few : n ≤ most_names_of 1) where
    pub many_roles : most_roles < m → {a : Result ℕ PracticeRefusal} → a ≡ Err ManyRoles → Makes seed n m o o a
    unfolding answer_to
    many_roles h e = record { written = unchanged ManyRoles (rw (le-ltb (most_names_of 1) n few, lt-ltb most_roles m h)) e }

    pub made : m ≤ most_roles → {a : Result ℕ PracticeRefusal} {q : List ℕ} → WrittenAs (fitted ShortOutput (practice_file seed n m) o) (practice_file seed n m) o q a → Makes seed n m o q a
    unfolding answer_to
    made few_roles written = record { written = rw (le-ltb (most_names_of 1) n few, le-ltb most_roles m few_roles, answer_to) written }
