-- The last byte of a header of version 3.
use mathlib.Core.Path.{sym, ap, ◌∙◌}
use Prim.Native.Nat.{ℕ}
use lib.ListN.{get_or}
use native.Mathlib.Omega.{arith}
use Rattle.release.proofs.Versions.{no_count, listed_count, end_of}
use Rattle.release.proofs.number.Version.pair_count.Goals as goal

pub bounds-file-header_length : goal.bounds-file-header_length
bounds-file-header_length c = omega (arith, c.header_length.ensures, end_of _ _ c.requires, c.requires.inside, (listed_count _ _ c.requires (sym c.has_pairs.ensures ∙ c.if-has_pairs.true)).0)

pub returns-then-has_pairs : goal.returns-then-has_pairs
returns-then-has_pairs c =
    let told = listed_count _ _ c.requires (sym c.has_pairs.ensures ∙ c.if-has_pairs.true) in
    c.from.ensures ∙ ap (λ (i : ℕ). get_or c.args.file.now i 0) (omega (arith, c.header_length.ensures, told.0)) ∙ told.1

pub returns : goal.returns
returns c = sym (no_count _ (sym c.requires.pairs ∙ (sym c.has_pairs.ensures ∙ c.if-has_pairs.false)))
