-- An accepted release has no more names and roles than there can be.
use mathlib.Core.Path.{◌≡◌}
use mathlib.Core.List.{List}
use Prim.Native.Nat.{ℕ, ◌≤◌}
use Rattle.std.specs.Prelude.{Ok}
use Rattle.release.specs.Files.{names_of, roles_of, most_names, most_roles, fault}
use Rattle.release.specs.Readings.{checked, counts_in}
use Rattle.release.specs.declared.Counts.{Counts}
use Rattle.release.proofs.Refusing.{is_accepted}
use Rattle.release.proofs.Checks.{header_sound}
use Rattle.release.proofs.Linked.{no_header_fault}

pub few_counts : (s : List ℕ) → fault s ≡ 0 → (names_of s ≤ most_names) × (roles_of s ≤ most_roles)
few_counts s e = let header = header_sound s (no_header_fault s e) in (header.names, header.roles)

pub limits : (s : List ℕ) (a : Counts) → Ok a ≡ checked s → (a.names ≤ most_names) × (a.roles ≤ most_roles)
unfolding checked
limits s a h = let v = is_accepted 1 (fault s) (counts_in s) a h in rw v.1 (few_counts s v.0)
