-- A signature that a caller builds, "by a name or a role at a time".
--   empty_signature n m     "the empty signature of a given n and m", the largest that a release has where larger
--   with_name g x           g with the name x more, with_role g r with the role r; unchanged where the number is out of range
--   byte_at g i             g's byte at the place i below its n + m, elsewhere 0
--   Built g                g has the shape that each of these steps gives and keeps
--   lent g, chosen_by g     the bytes of g to lend to a comparison, and the names and roles that they choose
use Rattle.std.specs.Prelude.{◌≡◌, true, List, ℕ, ◌+◌, ◌≤◌, min, ltb, length, get_or, take, set, replicate}
use Rattle.el.specs.Lists.{pick, all}
use Rattle.el.specs.Signatures as el
use Rattle.release.specs.Files.{most_names, most_roles}
use Rattle.signature.specs.Bytes.{is_bit, signature_of}
use Rattle.signature.specs.declared.Signature.{Signature}

-- how many bytes a built signature holds: as many as the limits of n and m
abbrev pub most_bytes : ℕ
most_bytes = most_names + most_roles

unfoldable pub empty_signature : ℕ → ℕ → Signature
empty_signature n m = record {
  names = min n most_names;
  roles = min m most_roles;
  bytes = replicate most_bytes 0;
}

-- the byte at a place becomes 1; past the bytes nothing changes
abbrev pub chosen : Signature → ℕ → Signature
chosen g place = record { names = g.names; roles = g.roles; bytes = set g.bytes place 1 }

unfoldable pub with_name : Signature → ℕ → Signature
with_name g x = pick (ltb x g.names) (chosen g x) g

unfoldable pub with_role : Signature → ℕ → Signature
with_role g r = pick (ltb r g.roles) (chosen g (g.names + r)) g

unfoldable pub byte_at : Signature → ℕ → ℕ
byte_at g i = pick (ltb i (g.names + g.roles)) (get_or g.bytes i 0) 0

pub record Built (g : Signature) : Type 0 where
  pub names : g.names ≤ most_names
  pub roles : g.roles ≤ most_roles
  pub long : length g.bytes ≡ most_bytes
  pub bits : all is_bit g.bytes ≡ true

abbrev pub lent : Signature → List ℕ
lent g = take (g.names + g.roles) g.bytes

abbrev pub chosen_by : Signature → el.Signature
chosen_by g = signature_of g.names g.roles (lent g)
