use Rattle.std.proofs.Common.{◌∙◌, ap, subst, sym, ◌++◌}
use Rattle.rec_lane.specs.Offered.{noted_with}
use Rattle.rec_lane.specs.Moments.{is_span_due}
use Rattle.rec_lane.specs.Pieces.{pieces_so_far, has_no_packet}
use Rattle.rec_lane.specs.Lanes.{LaneState, HasMet}
use Rattle.rec_lane.specs.Views.{packet_pieces}
use Rattle.rec_lane.proofs.Noting.{time_meets, time_makes, time_offered, time_current, time_settings, time_idle, time_early}
use Rattle.rec_lane.proofs.Offering.{time_ready}
use Rattle.rec_lane.proofs.lane.Lane.at.Goals as goal

pub returns-clause-met : goal.returns-clause-met
returns-clause-met c = λ before h.
    subst (λ (lane : LaneState). HasMet lane (noted_with c.args.self.now.settings.span before c.args.counter)) (sym c.meet_time.ensures.lane)
    (time_meets c.args.self.now c.args.counter before h)

pub returns-clause-pieces : goal.returns-clause-pieces
returns-clause-pieces c = λ before h. time_makes c.args.self.now c.args.counter before h
    ∙ ap (λ ps. pieces_so_far c.args.self.now.settings before ++ ps) (sym c.meet_time.ensures.packet)

pub returns-clause-settings : goal.returns-clause-settings
returns-clause-settings c = ap (λ (lane : LaneState). lane.settings) c.meet_time.ensures.lane ∙ time_settings c.args.self.now c.args.counter

pub returns-clause-offered : goal.returns-clause-offered
returns-clause-offered c = ap (λ (lane : LaneState). lane.offered) c.meet_time.ensures.lane ∙ time_offered c.args.self.now c.args.counter

pub returns-clause-current : goal.returns-clause-current
returns-clause-current c = ap (λ (lane : LaneState). lane.current) c.meet_time.ensures.lane ∙ time_current c.args.self.now c.args.counter

pub returns-clause-ready : goal.returns-clause-ready
returns-clause-ready c =
    ap (λ (lane : LaneState). lane.ready) c.meet_time.ensures.lane
    ∙ (time_ready c.args.self.now c.args.counter c.requires ∙ ap has_no_packet (sym c.meet_time.ensures.packet))

pub returns-clause-idle : goal.returns-clause-idle
returns-clause-idle c = λ none. c.meet_time.ensures.lane ∙ time_idle c.args.self.now c.args.counter none

pub returns-clause-none_due : goal.returns-clause-none_due
returns-clause-none_due c =
    ap (λ (lane : LaneState). is_span_due lane.settings.span lane.pending c.args.counter) c.meet_time.ensures.lane ∙ time_early c.args.self.now c.args.counter

pub returns-clause-in_history : goal.returns-clause-in_history
returns-clause-in_history c = c.a_lane_stands_for_frames_and_a_history.ensures.times c.args.self.now c.meet_time.new.self c.args.counter
    (packet_pieces c.meet_time.result) (returns-clause-met c) (returns-clause-pieces c)
