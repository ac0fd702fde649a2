-- A name of another kind gathers nothing.
use Rattle.el.proofs.Tests.{never}
use Rattle.release.proofs.KindNumbers.{is_kind, is_not_kind}
use Rattle.classification.proofs.Marking.{name_row}
use Rattle.classification.proofs.Classification.gathers.Goals as goal

pub has_kind-requires : goal.has_kind-requires
has_kind-requires c = name_row c.requires

pub returns-then-not-has_kind : goal.returns-then-not-has_kind
returns-then-not-has_kind c = never (λ g. is_not_kind c.has_kind.ensures c.if-not-has_kind.true g.kind)

pub has_parts-requires : goal.has_parts-requires
has_parts-requires c = record { in_row = c.requires; kind = is_kind c.has_kind.ensures c.if-not-has_kind.false }

pub returns : goal.returns
returns c = c.has_parts.ensures
