-- What a session answers a reader. Of one that is refused with 46 there is nothing to read: n = m = 0, no file and no signature.
--   names_read s, roles_read s   n and m
--   byte_read s x               the result byte of the name x, 0 where x is not below n
--   file_read side s            the file held on a side
--   signature_read s            the signature's n + m bytes
use Rattle.std.specs.Prelude.{◌&&◌, List, [], ℕ, ltb, get_or}
use Rattle.el.specs.Lists.{pick}
use Rattle.editing.specs.declared.Session.{Session}
use Rattle.editing.specs.Sessions.{text_of, is_side, file_on, names_in, roles_in, signature_in, is_session}

unfoldable pub names_read : Session → ℕ
names_read s = pick (is_session s) (names_in s) 0

unfoldable pub roles_read : Session → ℕ
roles_read s = pick (is_session s) (roles_in s) 0

unfoldable pub byte_read : Session → ℕ → ℕ
byte_read s x = pick (ltb x (names_read s)) (get_or s.result x 0) 0

unfoldable pub file_read : ℕ → Session → List ℕ
file_read side s = pick (is_side side && is_session s) (text_of (file_on side s)) []

unfoldable pub signature_read : Session → List ℕ
signature_read s = pick (is_session s) (signature_in s) []
