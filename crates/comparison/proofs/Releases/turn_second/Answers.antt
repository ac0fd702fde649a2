-- Behind the second square there is room for it turned, where there is a name.
use native.Mathlib.Omega.{arith}
use Rattle.marks.proofs.Squares.{touches_room}
use Rattle.comparison.proofs.Pipeline.{unchanged, room_turned, room_behind, below_apart, second_behind}
use Rattle.comparison.proofs.Releases.turn_second.Goals as goal

pub behind-below-requires : goal.behind-below-requires
behind-below-requires c =
    ((room_turned c.args.self.now c.forward_layout-layout.ensures c.second_square-second.ensures c.requires c.if-self-gt0.true).small, omega arith)

pub clear_rows-requires : goal.clear_rows-requires
clear_rows-requires c =
    room_behind c.args.self.now c.forward_layout-layout.ensures c.second_square-second.ensures c.behind-below.ensures c.requires c.if-self-gt0.true

pub turn-requires-clause-room : goal.turn-requires-clause-room
turn-requires-clause-room c = (
  touches_room c.clear_rows.ensures.0 (room_turned c.args.self.now c.forward_layout-layout.ensures c.second_square-second.ensures c.requires c.if-self-gt0.true),
  touches_room c.clear_rows.ensures.0
      (room_behind c.args.self.now c.forward_layout-layout.ensures c.second_square-second.ensures c.behind-below.ensures c.requires c.if-self-gt0.true),
)

pub turn-requires-clause-names_value : goal.turn-requires-clause-names_value
turn-requires-clause-names_value c = below_apart _ c.behind-below.ensures

pub returns-then-self-gt0 : goal.returns-then-self-gt0
returns-then-self-gt0 c =
    second_behind c.args.self.now c.forward_layout-layout.ensures c.second_square-second.ensures c.behind-below.ensures c.requires c.if-self-gt0.true
    c.clear_rows.ensures.0 c.turn.ensures.hints.touches (c.turn.ensures.turned c.clear_rows.ensures.1)

pub returns-else-self-gt0 : goal.returns-else-self-gt0
returns-else-self-gt0 c = unchanged (omega (arith, c.if-self-gt0.false))
