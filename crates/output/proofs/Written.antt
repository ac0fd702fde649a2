-- A text is written whole or not at all.
--   fits, lacks      what writing a text answers where there is room for it, and where there is not
--   unchanged        what is refused changes nothing
--   put_written      a text that was put from the start, with room, is written
--   written_text     what the output holds after an answer that is a length
use mathlib.Core.Path.{◌≡◌, sym, ap, ◌∙◌}
use mathlib.Core.List.{List, ◌++◌}
use mathlib.Core.Logic.{⊎_elim}
use Prim.Native.Nat.{ℕ, ◌≤◌, ◌<◌}
use native.Mathlib.Omega.{arith}
use borrow.Author.Tests.{lt-ltb, le-ltb}
use lib.ListN.{length, drop}
use Rattle.std.specs.Prelude.{Result, Ok, Err}
use Rattle.std.proofs.lemmas.Bool.{cases_lt}
use Rattle.output.specs.Places.{Put}
use Rattle.output.specs.Written.{fitted, output_after, WrittenAs}
use Rattle.output.proofs.Puts.{put_at_start}

module _ {E : Type 0} (short : E) (text o : List ℕ) where
  pub fits : length text ≤ length o → fitted short text o ≡ Ok (length text)
  unfolding fitted
  fits h = rw (le-ltb (length o) (length text) h)

  pub lacks : length o < length text → fitted short text o ≡ Err short
  unfolding fitted
  lacks h = rw (lt-ltb (length o) (length text) h)

  pub fitted_length : (k : ℕ) → Ok k ≡ fitted short text o → (k ≡ length text) × (k ≤ length o)
  fitted_length k h = ⊎_elim lacking whole (cases_lt (length o) (length text))
    where
      lacking : length o < length text → (k ≡ length text) × (k ≤ length o)
      lacking l = let e = h ∙ lacks l in absurd (cc)

      whole : length text ≤ length o → (k ≡ length text) × (k ≤ length o)
      whole l = let e = h ∙ fits l in let same : k ≡ length text = cc in (same, omega arith)

module _ {E : Type 0} {text o : List ℕ} {expected : Result ℕ E} where
  pub unchanged : (e : E) {a : Result ℕ E} → expected ≡ Err e → a ≡ Err e → WrittenAs expected text o o a
  unchanged e is told = record { answers = told ∙ sym is; leaves = ap (λ (x : Result ℕ E). output_after x text o) (sym is) }

  -- k is the length as it was computed or measured
  pub put_written : (k : ℕ) {a : Result ℕ E} {q : List ℕ} {next : ℕ} → k ≡ length text → k ≤ length o → Put o 0 text q next → expected ≡ Ok (length text) → a ≡ Ok k
      → WrittenAs expected text o q a
  put_written k long room put is told =
      let within : length text ≤ length o = rw long at room in
      record {
        answers = told ∙ ap Ok long ∙ sym is;
        leaves = put_at_start put within ∙ ap (λ (x : Result ℕ E). output_after x text o) (sym is);
      }

  pub written_text : {k : ℕ} {q : List ℕ} → WrittenAs expected text o q (Ok k) → q ≡ text ++ drop k o
  written_text written = written.leaves ∙ ap (λ (x : Result ℕ E). output_after x text o) (sym written.answers)
