-- Every practice release is accepted, and the same at each site.
--   practice_accepted      for every seed, its file is accepted as version 1, with these names, roles and axioms
--   made_accepted          so is the file that a call wrote
--   made_short             it has at most 897 bytes
--   same_file              two calls with one seed and the same numbers that both write a file write the same bytes, and as many
use mathlib.Core.Path.{◌≡◌, refl, sym, ap, subst, ◌∙◌}
use mathlib.Core.Bool.{Bool, true, false}
use mathlib.Core.List.{List}
use Prim.Native.Nat.{ℕ, ◌≤◌}
use native.Mathlib.Omega.{arith}
use borrow.Author.Tests.{ltb-false}
use lib.Dec.{ltb}
use lib.ListN.{length, take, drop}
use lib.Seq.{take_at}
use Rattle.std.specs.Prelude.{Result, Ok, Err}
use Rattle.release.specs.Files.{most_names_of, most_roles}
use Rattle.output.proofs.Written.{fitted_length, written_text}
use Rattle.splicing.proofs.Filed.{filed}
use Rattle.practice.specs.declared.refusals.PracticeRefusal.{PracticeRefusal}
use Rattle.practice.specs.declared.refusals.PracticeRefusal.TheVariants.{ManyNames, ManyRoles, ShortOutput}
use Rattle.practice.specs.Practice.{practice_axioms, practice_file}
use Rattle.practice.specs.Making.{answer_to, Makes}
use Rattle.practice.specs.Accepted.{IsPractice}
use Rattle.practice.proofs.WellFormed.{practice_axioms_rise}
use Rattle.practice.proofs.NormalForm.{practice_fresh}
use Rattle.practice.proofs.Short.{practice_short}

pub practice_accepted : (seed n m : ℕ) → n ≤ most_names_of 1 → m ≤ most_roles → IsPractice seed n m (practice_file seed n m)
unfolding practice_file
practice_accepted seed n m few few_roles =
    let file = filed n m (practice_axioms seed n m) (practice_axioms_rise seed n m few few_roles) few few_roles in
    record {
      accepted = file.fault_is ∙ rw (practice_fresh seed n m);
      version = file.version;
      names = file.names;
      roles = file.roles;
      axioms = file.axioms;
    }

-- not refused: the numbers are in range, and the length is that of the file
record Wrote (seed n m k : ℕ) : Type 0 where
  names : n ≤ most_names_of 1
  roles : m ≤ most_roles
  long : k ≡ length (practice_file seed n m)

abbrev refused : PracticeRefusal → Result ℕ PracticeRefusal
refused e = Err e

wrote : (seed n m : ℕ) (o : List ℕ) (k : ℕ) → Ok k ≡ answer_to seed n m o → Wrote seed n m k
unfolding answer_to
wrote seed n m o k h = by_tests (ltb (most_names_of 1) n) (ltb most_roles m) refl refl
  where
    by_tests : (a b : Bool) → ltb (most_names_of 1) n ≡ a → ltb most_roles m ≡ b → Wrote seed n m k
    by_tests true b e f = let i : Ok k ≡ refused ManyNames = h ∙ rw (e, answer_to) in absurd (cc)
    by_tests false true e f = let i : Ok k ≡ refused ManyRoles = h ∙ rw (e, f, answer_to) in absurd (cc)
    by_tests false false e f = record {
      names = ltb-false (most_names_of 1) n e;
      roles = ltb-false most_roles m f;
      long = (fitted_length ShortOutput (practice_file seed n m) o k (h ∙ rw (e, f, answer_to))).0;
    }

module _ (seed n m : ℕ) {o q : List ℕ} {k : ℕ} (call : Makes seed n m o q (Ok k)) where
  made_bytes : take k q ≡ practice_file seed n m
  made_bytes = ap (take k) (written_text call.written) ∙ take_at (practice_file seed n m) (drop k o) k (sym (wrote seed n m o k call.written.answers).long)

  pub made_accepted : IsPractice seed n m (take k q)
  made_accepted =
      let given = wrote seed n m o k call.written.answers in
      subst (IsPractice seed n m) (sym made_bytes) (practice_accepted seed n m given.names given.roles)

  pub made_short : k ≤ 897
  made_short =
      let given = wrote seed n m o k call.written.answers in
      omega (arith, given.long, practice_short seed n m given.names)

pub same_file : (seed n m : ℕ) {o q o' q' : List ℕ} {k k' : ℕ} → Makes seed n m o q (Ok k) → Makes seed n m o' q' (Ok k') → (k ≡ k') × (take k q ≡ take k' q')
same_file seed n m {o} {o' = o'} {k} {k' = k'} here there =
    let long = (wrote seed n m o k here.written.answers).long in
    let long' = (wrote seed n m o' k' there.written.answers).long in
    (long ∙ sym long', made_bytes seed n m here ∙ sym (made_bytes seed n m there))
