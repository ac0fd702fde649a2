-- Memory set to 0 is what the first classification asks, and what it leaves is what the second asks; hints change no mark.
use Rattle.comparison.proofs.Pipeline.{first_unclassified, second_unclassified, first_area, both_filled}
use Rattle.comparison.proofs.Releases.fill_inclusions.Goals as goal

pub classify-requires : goal.classify-requires
classify-requires c =
    first_unclassified c.requires c.forward_layout-layout.ensures c.first_square-first.ensures c.second_square-second.ensures c.work_length.ensures.0 c.clear.ensures

pub classify-requires-2 : goal.classify-requires-2
classify-requires-2 c =
    second_unclassified c.requires c.forward_layout-layout.ensures c.first_square-first.ensures c.second_square-second.ensures c.work_length.ensures.0 c.clear.ensures c.classify.ensures

pub list_below-requires : goal.list_below-requires
list_below-requires c =
    first_area c.requires c.forward_layout-layout.ensures c.first_square-first.ensures c.second_square-second.ensures c.work_length.ensures.0 c.clear.ensures
    c.classify.ensures c.classify-2.ensures

pub returns : goal.returns
returns c =
    both_filled c.requires c.forward_layout-layout.ensures c.first_square-first.ensures c.second_square-second.ensures c.work_length.ensures.0 c.clear.ensures
    c.classify.ensures c.classify-2.ensures c.list_below.ensures
