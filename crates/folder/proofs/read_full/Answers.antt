-- What was read before and what this read gave stand in the room side by side, and together are what the file gave.
use Rattle.std.proofs.Common.{◌≡◌, ℕ, ◌+◌, ◌-◌, ◌≤◌, List, ◌++◌, rules, length, take, sym, ap, ◌∙◌, subst, length-take-le}
use Rattle.std.proofs.Math.Seq.{take-append-add, take-append-le}
use Rattle.std.specs.Io.KnownBytes.{Consumes}
use Rattle.std.proofs.KnownBytes.{Consumes-trans}
use borrow.Rule.Slice.PartMut.{put_mid, post_of}
use Rattle.folder.proofs.read_full.Goals as goal

side_by_side : (a k n : ℕ) (xs ys : List ℕ) → a ≤ length xs → n ≤ length ys → take a xs ++ take n ys ≡ take (a + n) (put_mid a k xs ys)
side_by_side a k n xs ys within fits =
    let front = take a xs in
    let after = post_of a k xs in
    ap (λ l. front ++ l) (sym (take-append-le n ys after fits))
    ∙ sym (take-append-add front (ys ++ after) n)
    ∙ ap (λ m. take (m + n) (front ++ (ys ++ after))) (length-take-le a xs within)

pub loop-done-preserved : goal.loop-done-preserved
loop-done-preserved g c =
    let done = c.loop-done.done in
    let room = c.loop-done.room in
    let joined = side_by_side done (length room - done) c.in-Ok.count room c.read.new.buf c.loop-done.invariant.1 c.in-Ok.ensures.bound.0 in
    let given = Consumes-trans _ _ _ _ _ c.loop-done.invariant.2 c.in-Ok.ensures.bytes.0 in
    (search rules, search rules, subst (Consumes _ _) joined given)
