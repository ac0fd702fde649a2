-- What the text of a concept begins with: ⊤, a name, ⊓, or ∃ with its role.
--   arity k          how many concepts the constructor k is put before
--   atoms_of k       how many atoms it makes: a name and an ∃ are one
--   is_known n m k   its name is below n, or its role below m
--   split w s        the constructor that the bytes s begin with, its name of w bytes, and the bytes after it; none where they begin with none or are too few
--   SplitAs w s o    o is that, as a function gives it
use Rattle.std.specs.Prelude.{◌≡◌, Bool, true, List, [], ◌∷◌, Option, None, Some, MatchOption, ℕ, zero, suc, ltb, leb, length, drop}
use Rattle.std.specs.Borrow.{Bor}
use Rattle.el.specs.Lists.{pick}
use Rattle.concept.specs.Bytes.{number}
use Rattle.outline.specs.declared.Constructor.{Constructor}
use Rattle.outline.specs.declared.Constructor.TheVariants.{Top, Name, Conjunction, Restriction}

abbrev pub arity : Constructor → ℕ
arity Top = 0
arity (Name x) = 0
arity Conjunction = 2
arity (Restriction r) = 1

abbrev pub atoms_of : Constructor → ℕ
atoms_of Top = 0
atoms_of (Name x) = 1
atoms_of Conjunction = 0
atoms_of (Restriction r) = 1

abbrev pub is_known : ℕ → ℕ → Constructor → Bool
is_known n m Top = true
is_known n m (Name x) = ltb x n
is_known n m Conjunction = true
is_known n m (Restriction r) = ltb r.0 m

abbrev pub found : Constructor → List ℕ → Option (Constructor × List ℕ)
found k s = Some (k, s)

abbrev pub split_role : List ℕ → Option (Constructor × List ℕ)
split_role [] = None
split_role (r ∷ s) = found (Restriction (record { 0 = r })) s

-- by the first byte
abbrev pub split_by : ℕ → ℕ → List ℕ → Option (Constructor × List ℕ)
split_by zero w s = found Top s
split_by (suc zero) w s = pick (leb w (length s)) (found (Name (number w s)) (drop w s)) None
split_by (suc (suc zero)) w s = found Conjunction s
split_by (suc (suc (suc zero))) w s = split_role s
split_by (suc (suc (suc (suc k)))) w s = None

abbrev pub split : ℕ → List ℕ → Option (Constructor × List ℕ)
split w [] = None
split w (k ∷ s) = split_by k w s

abbrev pub SplitAs : ℕ → List ℕ → Option (Constructor × Bor (List ℕ)) → Type 0
SplitAs w s o = MatchOption o (split w s ≡ None) (λ p. split w s ≡ found p.0 p.1.now)
