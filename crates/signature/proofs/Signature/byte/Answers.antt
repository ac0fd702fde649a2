-- `Signature::byte` meets its contract. Where the place is past the bytes, which only a signature filled by hand can have, the
-- definition gives 0 too.
use mathlib.Core.Path.{◌≡◌, refl, sym}
use mathlib.Core.Bool.{Bool, true, false}
use Prim.Native.Nat.{◌+◌, ◌≤◌, ◌<◌}
use native.Mathlib.Omega.{arith}
use borrow.Author.Tests.{lt-ltb, ltb-true}
use borrow.Author.Rules.{rules}
use lib.Dec.{ltb}
use lib.ListN.{length, get_or, get_or-eq_default}
use Rattle.el.specs.Lists.{pick}
use Rattle.signature.specs.Building.{most_bytes, byte_at}
use Rattle.signature.proofs.Signature.byte.Goals as goal

pub returns-then-place-min : goal.returns-then-place-min
unfolding byte_at
returns-then-place-min c =
    let h : c.args.place < c.args.self.names + c.args.self.roles = omega (arith, c.min.ensures, c.from.ensures, c.from-2.ensures) in
    simp (lt-ltb _ _ h)

pub returns-else-place-min : goal.returns-else-place-min
unfolding byte_at
returns-else-place-min c = by_test (ltb c.args.place (c.args.self.names + c.args.self.roles)) (λ e. get_or-eq_default c.args.self.bytes 0 (past (ltb-true _ _ e)))
  where
    past : c.args.place < c.args.self.names + c.args.self.roles → length c.args.self.bytes ≤ c.args.place
    past h =
        let good = c.well_formed in
        let long : length c.args.self.bytes ≡ most_bytes = search rules in
        omega (arith, c.min.ensures, c.from.ensures, c.from-2.ensures)

    by_test : (b : Bool) → (b ≡ true → get_or c.args.self.bytes c.args.place 0 ≡ 0) → 0 ≡ pick b (get_or c.args.self.bytes c.args.place 0) 0
    by_test true f = sym (f refl)
    by_test false f = refl
