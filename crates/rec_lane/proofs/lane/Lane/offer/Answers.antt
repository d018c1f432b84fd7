use Rattle.std.proofs.Common.{◌∙◌, ap, subst, sym, ◌++◌, ◌∷◌, []}
use Rattle.rec_lane.specs.Pieces.{pieces_so_far}
use Rattle.rec_lane.specs.Lanes.{LaneState, HasMet, offered_now, MakesCertain, TakesFrame}
use Rattle.std.specs.Arc.{arc_value}
use Rattle.eth_frame.specs.Views.{frame_data}
use Rattle.eth_frame.specs.Frame.{view}
use Rattle.rec_lane.proofs.Offering.{first_met, first_pieces, runs_first}
use Rattle.rec_lane.specs.Views.{pieces_data}
use Rattle.rec_lane.proofs.lane.Lane.offer.Goals as goal

pub returns-then-is_current-clause-value : goal.returns-then-is_current-clause-value
returns-then-is_current-clause-value c =
    let is = sym c.is_current.ensures.current ∙ c.if-is_current.true in
    c.offer_known-known.ensures.value c.args.drawn.version (arc_value c.args.drawn.program) is

pub returns-then-is_current-clause-met : goal.returns-then-is_current-clause-met
returns-then-is_current-clause-met c =
    let is = sym c.is_current.ensures.current ∙ c.if-is_current.true in
    c.offer_known-known.ensures.met c.args.drawn.version (arc_value c.args.drawn.program) is

pub returns-then-is_current-clause-pieces : goal.returns-then-is_current-clause-pieces
returns-then-is_current-clause-pieces c =
    let version = c.args.drawn.version in
    let program = arc_value c.args.drawn.program in
    let is = sym c.is_current.ensures.current ∙ c.if-is_current.true in
    let now = offered_now c.args.self.now version program (frame_data c.args.frame.now) c.offer_known-known.result.value in
    subst (MakesCertain c.args.self.now now) (sym c.pieces_of.ensures.pieces) (c.offer_known-known.ensures.pieces version program is)

pub returns-then-is_current-clause-in_history : goal.returns-then-is_current-clause-in_history
returns-then-is_current-clause-in_history c =
    let version = c.args.drawn.version in
    let program = arc_value c.args.drawn.program in
    let is = sym c.is_current.ensures.current ∙ c.if-is_current.true in
    subst (TakesFrame c.args.self.now c.offer_known-known.new.self (frame_data c.args.frame.now) version program)
    (sym c.pieces_of.ensures.pieces) (c.offer_known-known.ensures.in_history version program is)

pub returns-else-is_current-clause-value : goal.returns-else-is_current-clause-value
returns-else-is_current-clause-value c =
    let isnt = sym c.is_current.ensures.current ∙ c.if-is_current.false in
    runs_first c.args.self.now.current c.args.drawn.version (arc_value c.args.drawn.program) (view (frame_data c.args.frame.now)) c.offer_first.result.value
    isnt c.offer_first.ensures.value

pub returns-else-is_current-clause-met : goal.returns-else-is_current-clause-met
returns-else-is_current-clause-met c = λ before stands.
    let isnt = sym c.is_current.ensures.current ∙ c.if-is_current.false in
    let now = offered_now c.args.self.now c.args.drawn.version (arc_value c.args.drawn.program) (frame_data c.args.frame.now) c.offer_first.result.value in
    subst (λ (lane : LaneState). HasMet lane (before ++ now ∷ [])) (sym c.offer_first.ensures.lane) (first_met _ before _ _ _ _ isnt stands)

pub returns-else-is_current-clause-pieces : goal.returns-else-is_current-clause-pieces
returns-else-is_current-clause-pieces c = λ before stands.
    let isnt = sym c.is_current.ensures.current ∙ c.if-is_current.false in
    first_pieces _ before _ _ _ _ isnt c.offer_first.ensures.roomy stands
    ∙ ap (λ ps. pieces_so_far c.args.self.now.settings before ++ ps) (sym c.offer_first.ensures.pieces)

pub returns-else-is_current-clause-in_history : goal.returns-else-is_current-clause-in_history
returns-else-is_current-clause-in_history c =
    c.a_lane_stands_for_frames_and_a_history.ensures.takes c.args.self.now c.offer_first.new.self (frame_data c.args.frame.now) c.args.drawn.version
    (arc_value c.args.drawn.program)
    c.offer_first.result.value (pieces_data c.offer_first.result.pieces.items)
    (returns-else-is_current-clause-value c) (returns-else-is_current-clause-met c) (returns-else-is_current-clause-pieces c)
