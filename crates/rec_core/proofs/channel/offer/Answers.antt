use Rattle.std.proofs.Common.{ℕ, ◌∙◌, ◌++◌, ap, subst}
use Rattle.std.specs.Arc.{arc_value}
use Rattle.std.proofs.lemmas.List.{map-append}
use Rattle.bpf_machine.specs.Machine.{Runs}
use Rattle.eth_frame.specs.Frame.{view}
use Rattle.eth_frame.specs.Views.{frame_data}
use Rattle.rec_lane.specs.Lanes.{LaneState, running, offered_now, Meets, MakesCertain}
use Rattle.rec_lane.specs.Views.{piece_data, pieces_data}
use Rattle.rec_core.specs.declared.reply.Reply.TheVariants.{Took}
use Rattle.rec_core.proofs.channel.offer.Goals as goal

pub returns-clause-took : goal.returns-clause-took
returns-clause-took c =
    let ready = c.in_ok-ready.ensures.ready in
    let version = c.in-Ok.drawn.version in
    let program = arc_value c.in-Ok.drawn.program in
    let frame = frame_data c.args.frame.now in
    let value = c.offer-value.result.value in
    let met = c.offer-value.new.self in
    let given = pieces_data c.offer-value.result.pieces.items in
    record {
      version = version;
      program = program;
      value = value;
      given = given;
      reply_is = ap (λ n. Took n version value) c.in-Ok.ensures.number;
      last = c.in-Ok.ensures.last;
      program_is = c.in-Ok.ensures.program;
      ran = subst (λ (l : LaneState). (steps : ℕ) × Runs (running l.current version program) (view frame) steps value) ready c.offer-value.ensures.value;
      counted = c.in-Ok.ensures.counted;
      settings_stay = c.offer-value.ensures.settings ∙ ap (λ (l : LaneState). l.settings) ready;
      meets = subst (λ (l : LaneState). Meets l met (offered_now l version program frame value)) ready c.offer-value.ensures.met;
      makes = subst (λ (l : LaneState). MakesCertain l (offered_now l version program frame value) given) ready c.offer-value.ensures.pieces;
      added = ap pieces_data c.append.ensures ∙ (map-append piece_data c.reserve.new.self.items c.offer-value.result.pieces.items
          ∙ ap (λ ps. pieces_data ps ++ given) c.in_ok-reserve.ensures.items);
    }
