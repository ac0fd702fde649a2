-- Each refusal is the first of its conditions that holds; the comparison at the end tells the last one.
use mathlib.Core.Path.{◌≡◌, refl, ap, ◌∙◌}
use Prim.Native.Nat.{ℕ, ◌<◌}
use native.Mathlib.Omega.{arith}
use lib.ListN.{length}
use borrow.Author.Rules.{rules}
use Rattle.release.proofs.Refusing.{passed}
use Rattle.editing.specs.Sessions.{result_room, names_in}
use Rattle.editing.specs.declared.refusals.EditRefusal.TheVariants.{Comparison}
use Rattle.editing.proofs.Stepping.{editable, names_are, roles_are, file_is, session_is, held_file, tried_refused}
use Rattle.editing.proofs.Stepping.{withdraw_46, withdraw_9, few_x, withdraw_48, withdraw_asks, withdraw_comparable, withdraw_short, withdraw_done}
use Rattle.editing.proofs.Session.withdraw_axiom.Goals as goal

pub returns-in_err-side : goal.returns-in_err-side
returns-in_err-side c =
    rw (passed _ c.in_err-side.field-0.0 c.from_residual.ensures.1) (tried_refused _ _ _ _ _ _ (rw c.in_err-side.ensures.0 (withdraw_46 _ _ _ _ c.in_err-side.ensures.1)))

pub returns-then-from-name : goal.returns-then-from-name
returns-then-from-name c =
    let h = c.in_ok-side.ensures in
    tried_refused _ _ _ _ _ _ (withdraw_9 _ _ _ _ (editable h) (omega (arith, c.from.ensures, names_are h)) (c.refuse.ensures ∙ ap (λ (k : ℕ). record { number = 9; side = k }) h.number))

pub has_axiom-requires : goal.has_axiom-requires
has_axiom-requires c =
    let h = c.in_ok-side.ensures in
    let small : c.args.name.0 < names_in c.args.self.now = omega (arith, c.from.ensures, names_are h) in
    (rw c.text.ensures (held_file (editable h) (file_is h c.held.ensures)), few_x _ _ 0 _ (editable h) small)

pub returns-then-not-has_axiom : goal.returns-then-not-has_axiom
returns-then-not-has_axiom c =
    let h = c.in_ok-side.ensures in
    let small : c.args.name.0 < names_in c.args.self.now = omega (arith, c.from.ensures, names_are h) in
    tried_refused _ _ _ _ _ _ (withdraw_48 _ _ _ _ (editable h) small (file_is h c.held.ensures) (rw c.text.ensures at c.has_axiom.ensures) c.if-not-has_axiom.true
    (ap (λ (k : ℕ). record { number = 48; side = k }) h.number))

pub withdraw-requires : goal.withdraw-requires
withdraw-requires c =
    let h = c.in_ok-side.ensures in
    let small : c.args.name.0 < names_in c.args.self.now = omega (arith, c.from.ensures, names_are h) in
    withdraw_asks _ _ 0 _ (editable h) small (file_is h c.held.ensures) (rw c.text.ensures at c.has_axiom.ensures) c.if-not-has_axiom.false

pub compare-requires : goal.compare-requires
compare-requires c =
    let h = c.in_ok-side.ensures in
    let small : c.args.name.0 < names_in c.args.self.now = omega (arith, c.from.ensures, names_are h) in
    withdraw_comparable _ _ 0 _ (editable h) small (file_is h c.held.ensures) (rw c.text.ensures at c.has_axiom.ensures) c.if-not-has_axiom.false c.withdraw.ensures
    (session_is h _ c.hold.ensures) (names_are h) (roles_are h)

pub returns-in_err-counts : goal.returns-in_err-counts
returns-in_err-counts c =
    let h = c.in_ok-side.ensures in
    let small : c.args.name.0 < names_in c.args.self.now = omega (arith, c.from.ensures, names_are h) in
    let long : length c.args.self.now.result ≡ result_room = search rules in
    rw (passed _ (Comparison c.in_err-counts.field-0.0) c.from_residual-in_err-counts.ensures.1)
    (withdraw_short _ _ _ _ (editable h) small (file_is h c.held.ensures) (rw c.text.ensures at c.has_axiom.ensures) c.if-not-has_axiom.false c.withdraw.ensures
    (session_is h _ c.hold.ensures) long refl c.in_err-counts.ensures refl)

pub returns : goal.returns
returns c =
    let h = c.in_ok-side.ensures in
    let small : c.args.name.0 < names_in c.args.self.now = omega (arith, c.from.ensures, names_are h) in
    let long : length c.args.self.now.result ≡ result_room = search rules in
    withdraw_done _ _ _ _ (editable h) small (file_is h c.held.ensures) (rw c.text.ensures at c.has_axiom.ensures) c.if-not-has_axiom.false c.withdraw.ensures
    (session_is h _ c.hold.ensures) long refl c.in_ok-counts.ensures refl
