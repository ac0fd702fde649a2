-- What was asked stays while marks are put by the rules.
use Rattle.marks.proofs.Squares.{frame_area}
use Rattle.marks.proofs.Passes.{kept_grows, grows_further}
use Rattle.classification.proofs.Marking.{setting_stays, taking_grows}
use Rattle.classification.proofs.Classification.deal_with.Goals as goal

pub see-requires : goal.see-requires
see-requires c = record { area = c.requires.setting.area; x_le_names = (c.requires.x_le_names, c.requires.setting.few) }

pub note_below-requires : goal.note_below-requires
note_below-requires c = record { area = (frame_area c.see.ensures.0.extends.frame c.requires.setting.area, c.requires.setting.few); x_le_names = c.requires.x_le_names }

pub put_above-requires : goal.put_above-requires
put_above-requires c = record { setting = setting_stays (grows_further (kept_grows c.see.ensures.0) (kept_grows c.note_below.ensures)) c.requires.setting; x_le_names = c.requires.x_le_names }

pub put_by_fillers-requires : goal.put_by_fillers-requires
put_by_fillers-requires c = record {
  setting = setting_stays (grows_further (grows_further (kept_grows c.see.ensures.0) (kept_grows c.note_below.ensures)) c.put_above.ensures) c.requires.setting;
  x_le_names = c.requires.x_le_names;
}

pub hand_down-requires : goal.hand_down-requires
hand_down-requires c =
    let g = grows_further (grows_further (grows_further (kept_grows c.see.ensures.0) (kept_grows c.note_below.ensures)) c.put_above.ensures) c.put_by_fillers.ensures in
    record { area = (setting_stays g c.requires.setting).area; x_le_names = c.requires.x_le_names }

pub returns : goal.returns
returns c = grows_further (grows_further (grows_further (grows_further (kept_grows c.see.ensures.0) (kept_grows c.note_below.ensures)) c.put_above.ensures)
    c.put_by_fillers.ensures) (taking_grows c.hand_down.ensures)
