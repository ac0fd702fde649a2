-- What stands in a file where an axiom is read.
--   TailStands w kind s p     the tail of an axiom of this kind stands at place p of the file s, whose names have the width w
--   AxiomStands w s p         an axiom does
use Rattle.std.specs.Prelude.{◌≡◌, List, ℕ, ◌+◌, ◌≤◌, length, get_or}
use Rattle.release.specs.Files.{tail_length, axiom_length, axiom_at, kind_of}

pub record TailStands (w kind : ℕ) (s : List ℕ) (p : ℕ) : Type 0 where
  pub inside : p + tail_length w kind s p ≤ length s

pub record AxiomStands (w : ℕ) (s : List ℕ) (p : ℕ) : Type 0 where
  pub kind : get_or s (p + w) 0 ≡ kind_of (axiom_at w s p)
  pub inside : p + axiom_length w s p ≤ length s
