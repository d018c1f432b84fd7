use Rattle.std.proofs.Common.{[], ap, subst, sym, ◌∙◌, refl}
use Rattle.std.proofs.lemmas.List.{append-nil}
use Rattle.rec_lane.specs.Lanes.{LaneState, MeetsTime, MakesCertainAt}
use Rattle.rec_lane.specs.Views.{pieces_data}
use Rattle.rec_core.proofs.channel.note.Goals as goal

pub returns-in_default-clause-took : goal.returns-in_default-clause-took
returns-in_default-clause-took c =
    let ready = c.in_ok-ready.ensures.ready in
    let met = c.at.new.self in
    record {
      given = [];
      reply_is = refl;
      settings_stay = c.at.ensures.settings ∙ ap (λ (l : LaneState). l.settings) ready;
      meets = subst (λ (l : LaneState). MeetsTime l met c.args.counter) ready c.at.ensures.met;
      makes = subst (λ (l : LaneState). MakesCertainAt l c.args.counter []) ready c.in_default.ensures.pieces;
      added = ap pieces_data c.in_ok-reserve.ensures.items ∙ sym (append-nil (pieces_data c.args.pending.now.items));
    }
