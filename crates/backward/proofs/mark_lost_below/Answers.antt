-- All growth is by the rules, and the last pass finds nothing left to mark.
use Rattle.marks.proofs.Passes.{closed_further}
use Rattle.backward.specs.Rules.{setting_stays}
use Rattle.backward.proofs.Tested.{setting, named, squares, name_grows, below_grows, follows_grows}
use Rattle.backward.proofs.Meaning.{backwarded}
use Rattle.backward.proofs.mark_lost_below.Goals as goal

pub sort-requires-clause-names_bound : goal.sort-requires-clause-names_bound
sort-requires-clause-names_bound c = rw c.first_square.ensures c.args.given.now.layout.few

pub mark_names-requires : goal.mark_names-requires
mark_names-requires c = named (setting c.requires)

pub hand_all_up-requires : goal.hand_all_up-requires
hand_all_up-requires c = squares (setting_stays c.mark_names.ensures (setting c.requires))

pub close-requires : goal.close-requires
close-requires c = setting_stays c.hand_all_up.ensures (setting_stays c.mark_names.ensures (setting c.requires))

pub returns : goal.returns
returns c = record {
  of_signature = λ g handed. backwarded handed c.requires
      (closed_further (name_grows c.mark_names.ensures) (closed_further (follows_grows (below_grows c.hand_all_up.ensures)) c.close.ensures));
}
