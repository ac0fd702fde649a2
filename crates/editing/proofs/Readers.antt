-- What a session tells its readers.
--   names_few, roles_few     there are no more names than the result has room for, and no more roles than a release has, whatever the session
--   counts_few               the counts are within the signature's bytes
use mathlib.Core.Path.{◌≡◌, refl}
use mathlib.Core.Bool.{Bool, true, false}
use Prim.Native.Nat.{◌+◌, ◌≤◌}
use native.Mathlib.Omega.{arith}
use Rattle.el.specs.Lists.{pick}
use Rattle.release.specs.Files.{most_roles}
use Rattle.meanings.specs.declared.Compared.{Compared}
use Rattle.splicing.proofs.Filed.{few_names, few_roles_of}
use Rattle.editing.specs.declared.Session.{Session}
use Rattle.editing.specs.Sessions.{result_room, signature_room, text_of, names_in, roles_in, is_session}
use Rattle.editing.specs.Steps.{counted}
use Rattle.editing.specs.Readers.{names_read, roles_read}
use Rattle.editing.proofs.Sessions.{whole}

module _ (s : Session) where
  pub names_few : names_read s ≤ result_room
  unfolding names_read
  names_few = by_test (is_session s) refl
    where
      by_test : (b : Bool) → is_session s ≡ b → pick b (names_in s) 0 ≤ result_room
      by_test true e = let file = (whole s e).first.file in few_names (text_of s.first) file.accepted file.version
      by_test false e = omega arith

  pub roles_few : roles_read s ≤ most_roles
  unfolding roles_read
  roles_few = by_test (is_session s) refl
    where
      by_test : (b : Bool) → is_session s ≡ b → pick b (roles_in s) 0 ≤ most_roles
      by_test true e = let file = (whole s e).first.file in few_roles_of (text_of s.first) file.accepted file.version
      by_test false e = omega arith

  pub counts_few : {c : Compared} → is_session s ≡ true → c ≡ counted s → c.names + c.roles ≤ signature_room
  counts_few {c} e f =
      let file = (whole s e).first.file in
      rw f (omega (arith, few_names (text_of s.first) file.accepted file.version, few_roles_of (text_of s.first) file.accepted file.version))
