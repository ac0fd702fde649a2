-- The versions of the file, and what each has: the number of bytes that a name takes in it, its width, and whether role pairs are listed.
use Rattle.std.specs.Prelude.{◌≡◌, Bool, true, false, ◌&&◌, List, ℕ, leb, length, Result, MatchResult}
use Rattle.el.specs.Lists.{pick}
use Rattle.release.specs.Files.{mark, starts_with, version_of, is_version, header_length}
use Rattle.release.specs.declared.number.Version.{Version}
use Rattle.release.specs.declared.number.Version.TheVariants.{One, Two, Three}
use Rattle.release.specs.declared.refusals.FileRefusal.{FileRefusal}
use Rattle.release.specs.declared.refusals.FileRefusal.TheVariants.{WrongVersion}

abbrev pub version_number : Version → ℕ
version_number One = 1
version_number Two = 2
version_number Three = 3

abbrev pub width : Version → ℕ
width One = 1
width Two = 2
width Three = 2

abbrev pub has_pairs : Version → Bool
has_pairs One = false
has_pairs Two = false
has_pairs Three = true

-- the result is the version with this number, or the refusal of a number that no version has
abbrev pub HasVersionNumber : ℕ → Result Version FileRefusal → Type 0
HasVersionNumber v r = MatchResult r (λ version. version_number version ≡ v) (λ e. (e ≡ WrongVersion) × (is_version v ≡ false))

-- the version that a file says, whatever follows it: 0 where the file is shorter than any header, or has no mark
unfoldable pub said_version : List ℕ → ℕ
said_version s = pick (leb (header_length 1 false) (length s) && starts_with mark s) (version_of s) 0
