-- A name's number, as release reads it in a file and as concept spells it in a text: the same, and two bytes hold it.
use mathlib.Core.Path.{◌≡◌, refl}
use mathlib.Core.List.{List, [], ◌∷◌}
use Prim.Native.Nat.{ℕ, ◌≤◌, ◌<◌}
use native.Mathlib.Omega.{arith}
use lib.ListN.{length, get_or}
use Rattle.release.specs.Files as files
use Rattle.release.specs.Versions.{width}
use Rattle.release.specs.declared.number.Version.{Version}
use Rattle.release.specs.declared.number.Version.TheVariants.{One, Two, Three}
use Rattle.concept.specs.Bytes.{number}

number_of_two : (s : List ℕ) → 2 ≤ length s → number 2 s ≡ files.number 2 s 0
unfolding files.number
number_of_two [] long = absurd (omega arith)
number_of_two (low ∷ []) long = absurd (omega arith)
number_of_two (low ∷ (high ∷ s)) long = refl

pub same_number : (v : Version) (s : List ℕ) → width v ≤ length s → number (width v) s ≡ files.number (width v) s 0
unfolding files.number
same_number One [] long = absurd (omega arith)
same_number One (low ∷ s) long = refl
same_number Two s long = number_of_two s long
same_number Three s long = number_of_two s long

pub number_fits : (v : Version) (s : List ℕ) → ((k : ℕ) → get_or s k 0 < 256) → files.number (width v) s 0 < 65536
unfolding files.number
number_fits One s bytes = omega (arith, bytes 0)
number_fits Two s bytes = omega (arith, bytes 0, bytes 1)
number_fits Three s bytes = omega (arith, bytes 0, bytes 1)
