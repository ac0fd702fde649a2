-- Each refusal is the first of its conditions that holds; the comparison at the end tells the last two.
use mathlib.Core.Path.{◌≡◌, refl, ap, ◌∙◌}
use Prim.Native.Nat.{ℕ}
use lib.ListN.{length}
use borrow.Author.Rules.{rules}
use Rattle.release.specs.Refusals.{file_number}
use Rattle.release.proofs.Refusing.{passed}
use Rattle.editing.specs.Sessions.{result_room}
use Rattle.editing.specs.declared.refusals.EditRefusal.TheVariants.{Comparison}
use Rattle.editing.proofs.Stepping.{editable, names_are, roles_are, file_is, session_is, held_file, tried_refused}
use Rattle.editing.proofs.Stepping.{add_46, add_fault, name_small, add_47, add_asks, add_comparable, add_short, add_done}
use Rattle.editing.proofs.Session.add_axiom.Goals as goal

pub returns-in_err-side : goal.returns-in_err-side
returns-in_err-side c =
    rw (passed _ c.in_err-side.field-0.0 c.from_residual.ensures.1) (tried_refused _ _ _ _ _ _ (rw c.in_err-side.ensures.0 (add_46 _ _ _ _ c.in_err-side.ensures.1)))

pub returns-in-Err : goal.returns-in-Err
returns-in-Err c =
    let h = c.in_ok-side.ensures in
    tried_refused _ _ _ _ _ _ (add_fault _ _ _ _ (editable h) _ (c.from.ensures ∙ names_are h) (c.from-2.ensures ∙ roles_are h) c.in-Err.ensures
    (c.refuse.ensures ∙ ap (λ (k : ℕ). record { number = file_number c.in-Err.refusal; side = k }) h.number))

pub has_axiom-requires : goal.has_axiom-requires
has_axiom-requires c =
    let h = c.in_ok-side.ensures in (
      rw c.text.ensures (held_file (editable h) (file_is h c.held.ensures)),
      name_small _ _ 0 _ (editable h) (c.from.ensures ∙ names_are h) (c.from-2.ensures ∙ roles_are h) c.in-Ok.ensures,
    )

pub returns-then-has_axiom : goal.returns-then-has_axiom
returns-then-has_axiom c =
    let h = c.in_ok-side.ensures in
    tried_refused _ _ _ _ _ _ (add_47 _ _ _ _ (editable h) (c.from.ensures ∙ names_are h) (c.from-2.ensures ∙ roles_are h) c.in-Ok.ensures (file_is h c.held.ensures)
    (rw c.text.ensures at c.has_axiom.ensures) c.if-has_axiom.true (ap (λ (k : ℕ). record { number = 47; side = k }) h.number))

pub add-requires : goal.add-requires
add-requires c =
    let h = c.in_ok-side.ensures in
    add_asks _ _ 0 _ (editable h) (c.from.ensures ∙ names_are h) (c.from-2.ensures ∙ roles_are h) c.in-Ok.ensures (file_is h c.held.ensures) (rw c.text.ensures at c.has_axiom.ensures)
    c.if-has_axiom.false

pub compare-requires : goal.compare-requires
compare-requires c =
    let h = c.in_ok-side.ensures in
    add_comparable _ _ 0 _ (editable h) (c.from.ensures ∙ names_are h) (c.from-2.ensures ∙ roles_are h) c.in-Ok.ensures (file_is h c.held.ensures) (rw c.text.ensures at c.has_axiom.ensures)
    c.if-has_axiom.false c.add.ensures (session_is h _ c.hold.ensures) (names_are h) (roles_are h)

pub returns-in_err-counts : goal.returns-in_err-counts
returns-in_err-counts c =
    let h = c.in_ok-side.ensures in
    let long : length c.args.self.now.result ≡ result_room = search rules in
    rw (passed _ (Comparison c.in_err-counts.field-0.0) c.from_residual-in_err-counts.ensures.1)
    (add_short _ _ _ _ (editable h) (c.from.ensures ∙ names_are h) (c.from-2.ensures ∙ roles_are h) c.in-Ok.ensures (file_is h c.held.ensures) (rw c.text.ensures at c.has_axiom.ensures)
    c.if-has_axiom.false c.add.ensures (session_is h _ c.hold.ensures) long refl c.in_err-counts.ensures refl)

pub returns : goal.returns
returns c =
    let h = c.in_ok-side.ensures in
    let long : length c.args.self.now.result ≡ result_room = search rules in
    add_done _ _ _ _ (editable h) (c.from.ensures ∙ names_are h) (c.from-2.ensures ∙ roles_are h) c.in-Ok.ensures (file_is h c.held.ensures) (rw c.text.ensures at c.has_axiom.ensures)
    c.if-has_axiom.false c.add.ensures (session_is h _ c.hold.ensures) long refl c.in_ok-counts.ensures refl
