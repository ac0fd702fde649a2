-- A release that is refused has no part to show; of two accepted ones the side says which is asked.
use mathlib.Core.Path.{ap, ◌∙◌}
use native.Mathlib.Omega.{arith}
use Rattle.release.specs.declared.Counts.{Counts}
use Rattle.release.proofs.Checks.{is_release, counts_are}
use Rattle.release.proofs.Places.{not_accepted, shown_not_first, shown_not_second, shown_1, shown_2, shown_no_side}
use Rattle.release.proofs.Rows.{blank_table}
use Rattle.release.proofs.show.axiom_place.Goals as goal
use Rattle.release.proofs.show.axiom_place.Goals.{in-1, in-2, in_default-side}

pub read_release-requires : goal.read_release-requires
read_release-requires c = blank_table

pub read_release-requires-2 : goal.read_release-requires-2
read_release-requires-2 c = blank_table

pub returns-in_default : goal.returns-in_default
returns-in_default c = shown_not_first _ _ _ _ (not_accepted c.in_default.ensures)

pub returns-in_default-read_release : goal.returns-in_default-read_release
returns-in_default-read_release c = shown_not_second _ _ _ _ (not_accepted c.in_default-read_release.ensures)

pub place_in-place-requires-clause-accepted : goal.place_in-place-requires-clause-accepted
place_in-place-requires-clause-accepted c = is_release c.in-Ok.ensures

pub place_in-place-requires-clause-names : goal.place_in-place-requires-clause-names
place_in-place-requires-clause-names c = ap (λ (a : Counts). a.names) (counts_are c.in-Ok.ensures)

pub place_in-place-requires-in-2-clause-accepted : goal.place_in-place-requires-in-2-clause-accepted
place_in-place-requires-in-2-clause-accepted c = is_release c.in-Ok-read_release.ensures

pub place_in-place-requires-in-2-clause-names : goal.place_in-place-requires-in-2-clause-names
place_in-place-requires-in-2-clause-names c = ap (λ (a : Counts). a.names) (counts_are c.in-Ok-read_release.ensures)

pub returns : goal.returns
returns c =
    let first = (is_release c.in-Ok.ensures).accepted in
    let second = (is_release c.in-Ok-read_release.ensures).accepted in
    c.unwrap_or.ensures ∙ elim c.match-side.branch [
      | in-1 w ↦ rw w.place-is (w.place_in-place.ensures ∙ shown_1 _ _ _ _ first second w.in-1.is)
      | in-2 w ↦ rw w.place-is (w.place_in-place-in-2.ensures ∙ shown_2 _ _ _ _ first second (λ e. omega (arith, e, w.in-2.is)) w.in-2.is)
      | in_default-side w ↦ rw w.place-is (shown_no_side _ _ c.args.side _ first second (λ e. omega (arith, e)) (λ e. omega (arith, e)))
    ]
