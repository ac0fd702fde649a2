-- Three releases where a change is taken back: the report across says less than the two reports in a row.
-- Names: 0 is A, 1 to 3 are B1 to B3, 4 is X, 5 is C; no roles; all names are chosen.
--   first, second, third     A ≡ B1 ⊓ B2 and X ⊑ C; A ≡ B1 ⊓ B3 and X ⊑ C; A ≡ B1 ⊓ B2 again, and nothing of X (in version 2 of the file)
--   OnlyReport g s t bs      a comparison of s and t over g is accepted, and each that is reports the bytes bs
--   TakenBack                what is reported of each two of the three
use Rattle.std.specs.Prelude.{◌≡◌, List, [], ◌∷◌, ℕ, take}
use Rattle.release.specs.Files.{names_of}
use Rattle.chains.specs.Reports.{Report}

abbrev pub first : List ℕ
first = 0x45 ∷ 0x4C ∷ 0x54 ∷ 1 ∷ 0 ∷ 6 ∷ 0 ∷ 2 ∷ 0 ∷ 2 ∷ 2 ∷ 1 ∷ 2 ∷ 4 ∷ 1 ∷ 1 ∷ 5 ∷ []

abbrev pub second : List ℕ
second = 0x45 ∷ 0x4C ∷ 0x54 ∷ 1 ∷ 0 ∷ 6 ∷ 0 ∷ 2 ∷ 0 ∷ 2 ∷ 2 ∷ 1 ∷ 3 ∷ 4 ∷ 1 ∷ 1 ∷ 5 ∷ []

abbrev pub third : List ℕ
third = 0x45 ∷ 0x4C ∷ 0x54 ∷ 2 ∷ 0 ∷ 6 ∷ 0 ∷ 0 ∷ 1 ∷ 0 ∷ 0 ∷ 0 ∷ 2 ∷ 2 ∷ 1 ∷ 0 ∷ 2 ∷ 0 ∷ []

abbrev pub every_name : List ℕ
every_name = 1 ∷ 1 ∷ 1 ∷ 1 ∷ 1 ∷ 1 ∷ []

pub record OnlyReport (g s t bs : List ℕ) : Type 0 where
  pub some : Report g s t
  pub only : (r : Report g s t) → take (names_of s) r.call.result ≡ bs

-- A and B2 in the first step; A and B3, and X and C, in the second; across X and C alone
pub record TakenBack : Type 0 where
  pub one : OnlyReport every_name first second (3 ∷ 0 ∷ 2 ∷ 0 ∷ 0 ∷ 0 ∷ [])
  pub two : OnlyReport every_name second third (3 ∷ 0 ∷ 0 ∷ 2 ∷ 1 ∷ 2 ∷ [])
  pub across : OnlyReport every_name first third (0 ∷ 0 ∷ 0 ∷ 0 ∷ 1 ∷ 2 ∷ [])
