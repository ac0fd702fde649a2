-- What reading bytes that are to be one axiom answers, by what reading an axiom at their start answers.
use mathlib.Core.Path.{◌≡◌, refl, ap, ◌∙◌}
use mathlib.Core.List.{List}
use Prim.Native.Nat.{ℕ, zero, suc, ◌+◌, ◌≤◌, ◌<◌}
use native.Mathlib.Omega.{arith}
use borrow.Author.Tests.{lt-ltb, le-ltb}
use lib.ListN.{length, get_or}
use Rattle.std.specs.Prelude.{Result, Ok, Err}
use Rattle.release.specs.Files.{number, axiom_fault, axiom_length, axiom_at, axioms_fault}
use Rattle.release.specs.Entries.{entry_of, reading, reading_at}
use Rattle.release.specs.Kinds.{kind_of_byte}
use Rattle.release.specs.Refusals.{Numbers, answer}
use Rattle.release.specs.declared.ConceptName.{ConceptName}
use Rattle.release.specs.declared.axiom.Cursor.{Cursor}
use Rattle.release.specs.declared.axiom.Entry.{Entry}
use Rattle.release.proofs.Readings.{axiom_read}
use Rattle.release.proofs.Refusing.{refuses, accepts, is_accepted, passes_on}
use Rattle.release.proofs.Scan.{entry_left}
use Rattle.splicing.specs.Places.{text_fault, name_in}

abbrev text_read : ℕ → ℕ → List ℕ → Result ConceptName Numbers
text_read n m text = answer 1 (text_fault n m text) (name_in text)

module _ (n m : ℕ) (text : List ℕ) where
  -- a refusal of the axiom comes first
  first_met : (f : ℕ) → axiom_fault 1 n m 0 text 0 ≡ f → 0 < f → text_fault n m text ≡ f
  unfolding axioms_fault
  first_met zero e h = absurd (omega arith)
  first_met (suc f) e h = rw e

  pub text_refused : (r : Numbers) → Err r ≡ reading_at 1 n m 0 text 0 → Err r ≡ text_read n m text
  unfolding reading_at reading
  text_refused r h = passes_on 1 (axiom_fault 1 n m 0 text 0) (text_fault n m text) _ _ r h (λ some. first_met (axiom_fault 1 n m 0 text 0) refl some)

  module _ {entry : Entry} {next : Cursor} (read : axiom_read entry next ≡ reading_at 1 n m 0 text 0) where
    abbrev entry_there : Entry
    entry_there = entry_of 1 n (number 1 text 0) (kind_of_byte (get_or text (0 + 1) 0)) text (0 + 1 + 1)

    accepted : (axiom_fault 1 n m 0 text 0 ≡ 0) × ◌≡◌ {A = Entry × Cursor} (entry, next) (entry_there, record { at = 0 + axiom_length 1 text 0 })
    unfolding reading_at reading
    accepted = is_accepted 1 (axiom_fault 1 n m 0 text 0) (entry_there, record { at = 0 + axiom_length 1 text 0 }) (entry, next) read

    next_is : next.at ≡ 0 + axiom_length 1 text 0
    next_is = ap (λ (x : Entry × Cursor). x.1.at) accepted.1

    left_is : entry.left ≡ name_in text
    unfolding axiom_at
    left_is =
        let e : entry.left.0 ≡ number 1 text 0 = ap (λ (x : Entry × Cursor). x.0.left.0) accepted.1 ∙ entry_left 1 n (number 1 text 0) (kind_of_byte (get_or text (0 + 1) 0)) text (0 + 1 + 1) in
        ap (λ (x : ℕ). record { 0 = x }) e

    pub text_14 : next.at < length text → Err (record { number = 14; side = 1 }) ≡ text_read n m text
    unfolding axioms_fault
    text_14 h =
        let longer : 0 + axiom_length 1 text 0 < length text = omega (arith, next_is) in
        refuses 1 14 (text_fault n m text) (name_in text) (omega arith) (simp (accepted.0, lt-ltb _ _ longer))

    pub text_whole : length text ≤ next.at → Ok entry.left ≡ text_read n m text
    unfolding axioms_fault
    text_whole h =
        let ended : length text ≤ 0 + axiom_length 1 text 0 = omega (arith, next_is) in
        rw left_is (accepts 1 (text_fault n m text) (name_in text) (simp (accepted.0, le-ltb _ _ ended)))
