-- What a call of C gives: a value, or where it refuses by itself a number that its caller passes.
use mathlib.Core.Path.{◌≡◌, refl, sym, ap, ◌∙◌}
use mathlib.Core.Bool.{Bool, true, false, ◌||◌, false≢true, true≢false}
use mathlib.Core.List.{List}
use Prim.Native.Nat.{ℕ, ◌*◌, ◌≤◌}
use borrow.Author.Tests.{le-leb}
use lib.Dec.{eqb}
use Rattle.marks.specs.Memory.{size}
use Rattle.release.specs.Files.{most_names, is_version}
use Rattle.release.specs.Versions.{version_number}
use Rattle.release.specs.declared.number.Version.{Version}
use Rattle.release.specs.declared.number.Version.TheVariants.{One, Two, Three}
use Rattle.rewriting.specs.Rewriting.{refusal, RewritesAs}
use Rattle.std.specs.Prelude.{Result, Ok}
use Rattle.release.specs.Refusals.{Numbers}
use Rattle.meanings.proofs.Judging.{work_length_lem}
use Rattle.exported.specs.Codes.{refusal_code, code_of, lent_after, number_refusal, Returns, is_written, RewriteReturns, work_outcome}
use Rattle.exported.specs.declared.refusals.NumberRefusal.TheVariants.{NoVersion}

-- what a call gives where it answers a value
pub gives : {A : Type 0} {o : Result A Numbers} {x y a : A} {r : ℕ} → o ≡ Ok a → y ≡ a → r ≡ 0 → Returns o x y r
gives {A} {x = x} e f g = record { code = g ∙ sym (ap code_of e); lent = f ∙ sym (ap (λ (z : Result A Numbers). lent_after z x) e) }

pub work_given : {n x y : ℕ} → n ≤ most_names → y ≡ 4 * size n → Returns (work_outcome n) x y 0
work_given {n} few is = gives (rw (le-leb n most_names few) refl) (work_length_lem n _ is) refl

pub never_written : (wanted : ℕ) → is_version wanted ≡ false → is_written wanted ≡ false
never_written wanted e = by_test (eqb wanted 1 || eqb wanted 2) e
  where
    by_test : (a : Bool) → a || eqb wanted 3 ≡ false → a ≡ false
    by_test true e = e
    by_test false e = refl

pub no_version : {wanted : ℕ} {s o : List ℕ} {x r : ℕ} → is_written wanted ≡ false → r ≡ refusal_code (number_refusal NoVersion) → RewriteReturns wanted s o o x x r
no_version none g = record {
  answer = refusal 3 0;
  version = λ z. absurd (false≢true (sym none ∙ z));
  no_version = λ _. (refl, refl);
  returns = record { code = g; lent = refl };
}

-- a release rewritten in a version that there is
pub rewritten_as : {wanted : ℕ} {s o p : List ℕ} {answer : Result ℕ Numbers} {x y r : ℕ} (v : Version) → version_number v ≡ wanted → RewritesAs v s o p answer → Returns answer x y r
    → RewriteReturns wanted s o p x y r
rewritten_as {answer = answer} One e does gave = rw (← e) (record { answer = answer; version = λ _. does; no_version = λ z. absurd (true≢false z); returns = gave })
rewritten_as {answer = answer} Two e does gave = rw (← e) (record { answer = answer; version = λ _. does; no_version = λ z. absurd (true≢false z); returns = gave })
rewritten_as {answer = answer} Three e does gave = rw (← e) (record { answer = answer; version = λ z. absurd (false≢true z); no_version = λ _. does; returns = gave })
