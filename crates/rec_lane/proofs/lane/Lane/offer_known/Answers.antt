use Rattle.std.proofs.Common.{◌∙◌, ap, subst, sym, ◌++◌, ◌∷◌, []}
use Rattle.rec_lane.specs.Pieces.{pieces_so_far, has_no_packet}
use Rattle.rec_lane.specs.Lanes.{LaneState, HasMet, offered_now}
use Rattle.eth_frame.specs.Views.{frame_data}
use Rattle.eth_frame.specs.Frame.{view}
use Rattle.rec_lane.proofs.Offering.{next_met, next_pieces, runs_next, next_ready}
use Rattle.rec_lane.specs.Views.{packet_pieces}
use Rattle.rec_lane.proofs.lane.Lane.offer_known.Goals as goal

pub returns-clause-value : goal.returns-clause-value
returns-clause-value c = λ version program so. runs_next c.args.self.now.current version program (view (frame_data c.args.frame.now)) c.offer_next.result.value
    so c.offer_next.ensures.value

pub returns-clause-met : goal.returns-clause-met
returns-clause-met c = λ version program so before h. subst (λ (lane : LaneState). HasMet lane
    (before ++ offered_now c.args.self.now version program (frame_data c.args.frame.now) c.offer_next.result.value ∷ [])) (sym c.offer_next.ensures.lane)
    (next_met _ before version program _ _ so h)

pub returns-clause-pieces : goal.returns-clause-pieces
returns-clause-pieces c = λ version program so before h. next_pieces _ before version program _ _ so c.offer_next.ensures.roomy h
    ∙ ap (λ ps. pieces_so_far c.args.self.now.settings before ++ ps) (sym c.offer_next.ensures.packet)

pub returns-clause-in_history : goal.returns-clause-in_history
returns-clause-in_history c = λ version program so. c.a_lane_stands_for_frames_and_a_history.ensures.takes c.args.self.now c.offer_next.new.self
    (frame_data c.args.frame.now) version program c.offer_next.result.value (packet_pieces c.offer_next.result.packet)
    (returns-clause-value c version program so) (returns-clause-met c version program so) (returns-clause-pieces c version program so)

pub returns-clause-ready : goal.returns-clause-ready
returns-clause-ready c =
    ap (λ (lane : LaneState). lane.ready) c.offer_next.ensures.lane
    ∙ (next_ready c.args.self.now (frame_data c.args.frame.now) c.offer_next.result.value c.requires.ready
    ∙ ap has_no_packet (sym c.offer_next.ensures.packet))
