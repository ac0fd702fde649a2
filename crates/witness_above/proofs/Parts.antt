-- A conjunction has no more conjuncts than there are names, since they rise strictly: so a right report fits in the rows lent.
--   parts_few     from `least` on, k names that rise strictly below n
use mathlib.Core.Path.{◌≡◌}
use mathlib.Core.List.{List}
use Prim.Native.Nat.{ℕ, zero, suc, ◌+◌, ◌≤◌, ◌<◌}
use native.Mathlib.Omega.{arith}
use borrow.Author.Tests.{ltb-false, leb-false}
use lib.Dec.{ltb, leb}
use lib.ListN.{length}
use Rattle.release.specs.Files.{number, parts_fault}
use Rattle.release.proofs.Sound.{passed}

pub parts_few : (w n k least : ℕ) (s : List ℕ) (p : ℕ) → least ≤ n → parts_fault w n k least s p ≡ 0 → least + k ≤ n
unfolding parts_fault
parts_few w n zero least s p l h = omega arith
parts_few w n (suc k) least s p l h =
    let a = passed (ltb (length s) (p + w)) 6 _ h in
    let b = passed (leb n (number w s p)) 8 _ a.1 in
    let c = passed (ltb (number w s p) least) 12 _ b.1 in
    let small : number w s p < n = leb-false n (number w s p) b.0 in
    let rises : least ≤ number w s p = ltb-false (number w s p) least c.0 in
    omega (arith, parts_few w n k (suc (number w s p)) s (p + w) small c.1)
