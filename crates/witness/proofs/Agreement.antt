-- The station writes a row exactly where Compare reports the name on that side, and the check says yes only there.
--   shown_exactly        of the two calls' own promises: where neither is refused, for each name and side
--   reported_by_check    of the check's own promise: it says yes only of a name that is reported on that side
use mathlib.Core.Path.{◌≡◌, refl, subst}
use mathlib.Core.Bool.{Bool, true, false}
use mathlib.Core.Logic.{◌↔◌, inl, inr}
use mathlib.Core.List.{List}
use Prim.Native.Nat.{ℕ, suc, ◌≤◌, ◌<◌}
use native.Mathlib.Omega.{arith}
use lib.ListN.{get_or}
use lib.Seq.{get_or-take}
use Rattle.std.specs.Prelude.{Ok}
use Rattle.el.specs.Axioms.{Terminology}
use Rattle.el.specs.Concepts.{Concept}
use Rattle.el.specs.Signatures.{Signature, is_over}
use Rattle.el.specs.Comparison.{on_left, on_right, IsByte}
use Rattle.el.proofs.Tests.{which, not_both}
use Rattle.concept_rows.specs.Rows.{ReportedOn, is_left, is_right, Differs, above, below}
use Rattle.concept_rows.specs.Lent.{row_at}
use Rattle.concept_rows.specs.Written.{Formed}
use Rattle.concept_rows.proofs.Rows.{row_over}
use Rattle.release.specs.Files.{names_of, roles_of, content_of}
use Rattle.demands.specs.Inputs.{chosen}
use Rattle.meanings.specs.declared.Compared.{Compared}
use Rattle.meanings.specs.Comparing.{Says}
use Rattle.witness.specs.Reports.{ByteReports, byte_left, byte_right}
use Rattle.witness.specs.Showing.{IsReported, ShownAs}
use Rattle.witness.specs.Checking.{CheckedAs}
use Rattle.witness.proofs.CheckedRows.{names_below}

-- a name whose byte reports it is chosen
chosen_by : {sig : Signature} {t u : Terminology} {a b : ℕ} → IsByte sig t u a b → (side : Bool) → (b ≡ 0 → side ≡ false) → side ≡ true → sig.has_name a ≡ true
chosen_by {sig} {a = a} byte side none e = elim (which (sig.has_name a)) [ inl h ↦ h | inr h ↦ absurd (not_both e (none (byte.outside h))) ]

pub shown_exactly : {s t g o o2 p p2 w w2 : List ℕ} {c : Compared} → Says s t g o o2 p p2 w w2 (Ok c) → {side a k : ℕ} {ys zs u v : List ℕ} → ShownAs s t g side a ys zs u v (Ok k)
    → (1 ≤ k) ↔ ByteReports (names_of s) o2 side a
shown_exactly {s} {t} {g} {o2 = o2} compared {side} {a} shown =
    let some = (shown.accepted_rows refl).some in
    (λ h. there (some.0 h), λ r. some.1 (back r))
  where
    byte : a < names_of s → IsByte (chosen s g) (content_of s) (content_of t) a (get_or o2 a 0)
    byte h = subst (λ (b : ℕ). IsByte (chosen s g) (content_of s) (content_of t) a b) (get_or-take (names_of s) o2 a 0 h) ((compared.accepted refl).bytes.each a h)

    there : ReportedOn (chosen s g) (content_of s) (content_of t) side a → ByteReports (names_of s) o2 side a
    there (is_left is in_sig witness) = let h = names_below (names_of s) (roles_of s) g a in_sig in byte_left is h (((byte h).left in_sig).1 witness)
    there (is_right is in_sig witness) = let h = names_below (names_of s) (roles_of s) g a in_sig in byte_right is h (((byte h).right in_sig).1 witness)

    back : ByteReports (names_of s) o2 side a → ReportedOn (chosen s g) (content_of s) (content_of t) side a
    back (byte_left is h e) = let in_sig = chosen_by (byte h) (on_left (get_or o2 a 0)) (λ z. rw z) e in is_left is in_sig (((byte h).left in_sig).0 e)
    back (byte_right is h e) = let in_sig = chosen_by (byte h) (on_right (get_or o2 a 0)) (λ z. rw z) e in is_right is in_sig (((byte h).right in_sig).0 e)

-- a check says yes of a name only if it is reported on that side
pub reported_by_check : {s t g : List ℕ} {side a : ℕ} {ys w v : List ℕ} → CheckedAs s t g side a ys w v (Ok true) → IsReported s t g side a
reported_by_check {s} {t} {g} {side} {a} {ys} check =
    let l = (check.held refl).0 refl in
    let formed : Formed (chosen s g) (row_at ys) (suc l.last) = record { at = λ i h. l.shows.formed i (omega arith) } in
    by_side l.shows.chosen (row_over formed l.last (omega arith)) l.shows.differs
  where
    by_side : {c : Concept} → (chosen s g).has_name a ≡ true → is_over (chosen s g) c ≡ true → Differs (content_of s) (content_of t) side a c → IsReported s t g side a
    by_side {c} in_sig over (above is p q) = is_left is in_sig (record { above = c; over = over; first = p; not_second = q })
    by_side {c} in_sig over (below is p q) = is_right is in_sig (record { below = c; over = over; first = p; not_second = q })
