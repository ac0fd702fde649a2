-- The kinds of an axiom by their numbers in the file.
--   kind_number k     1 A ⊑ B1 ⊓ .. ⊓ Bk, 2 A ≡ the same, 3 A ⊑ ∃r.B, 4 A ≡ ∃r.B
--   numbered o        the same of a kind that may be none: 0
use Rattle.std.specs.Prelude.{◌≡◌, false, ℕ, eqb, Option, Some, None, Result, MatchResult}
use Rattle.el.specs.Lists.{pick}
use Rattle.release.specs.Files.{joins, restricts}
use Rattle.release.specs.declared.kinds.Kind.{Kind}
use Rattle.release.specs.declared.kinds.Kind.TheVariants.{PrimitiveConjunction, DefinedConjunction, PrimitiveRestriction, DefinedRestriction}
use Rattle.release.specs.declared.refusals.FileRefusal.{FileRefusal}
use Rattle.release.specs.declared.refusals.FileRefusal.TheVariants.{WrongKind}

abbrev pub kind_number : Kind → ℕ
kind_number PrimitiveConjunction = 1
kind_number DefinedConjunction = 2
kind_number PrimitiveRestriction = 3
kind_number DefinedRestriction = 4

abbrev pub numbered : Option Kind → ℕ
numbered (Some k) = kind_number k
numbered None = 0

-- the kind of a byte that stands for one
abbrev pub kind_of_byte : ℕ → Kind
kind_of_byte k = pick (eqb k 1) PrimitiveConjunction (pick (eqb k 2) DefinedConjunction (pick (eqb k 3) PrimitiveRestriction DefinedRestriction))

-- the result is the kind with this number, or the refusal of a number that no kind has
abbrev pub HasKindNumber : ℕ → Result Kind FileRefusal → Type 0
HasKindNumber k r = MatchResult r (λ kind. kind_number kind ≡ k) (λ e. (e ≡ WrongKind) × ((joins k ≡ false) × (restricts k ≡ false)))
