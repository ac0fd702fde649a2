-- `answer` meets its contract: the memory after each call is what the next one asks.
use native.Mathlib.Omega.{arith}
use Rattle.question.proofs.Asks.{few_of, three, has_header, to_classify, to_place, answered}
use Rattle.question.proofs.answer.Goals as goal

pub of-version-requires : goal.of-version-requires
of-version-requires c = three c.requires

pub names-names-requires : goal.names-names-requires
names-names-requires c = has_header c.requires c.of-version.ensures.width

pub size-requires : goal.size-requires
size-requires c = omega (arith, few_of c.requires c.names-names.ensures)

pub classify_apart-requires : goal.classify_apart-requires
classify_apart-requires c = to_classify c.requires c.of-version.ensures.width c.names-names.ensures c.size.ensures.0 c.clear.ensures

pub work_length-requires : goal.work_length-requires
work_length-requires c = omega (arith, few_of c.requires c.names-names.ensures)

pub position-position-requires : goal.position-position-requires
position-position-requires c = to_place c.requires c.of-version.ensures.width c.names-names.ensures c.size.ensures.0 c.clear.ensures c.classify_apart.ensures

pub returns : goal.returns
returns c = answered c.requires c.of-version.ensures.width c.names-names.ensures c.size.ensures.0 c.clear.ensures c.classify_apart.ensures
    c.work_length.ensures.0 c.clear-2.ensures c.position-position.ensures
