use Rattle.std.proofs.Common.{◌++◌, [], refl, sym, ap, subst, map}
use Rattle.std.proofs.lemmas.Result.{err_from_is_err_and}
use Rattle.rec_pieces.specs.Sources.{pieces_held}
use Rattle.rec_stream.specs.declared.stage.Stage.{Stage}
use Rattle.rec_stream.specs.declared.stage.Stage.TheVariants.{Waiting as WaitsFor, Begun as HasCourse}
use Rattle.rec_stream.specs.StreamPieces.{stream_pieces}
use Rattle.rec_stream.specs.StreamBlocks.{stream_begun}
use Rattle.rec_stream.specs.Streams.StreamStage.{Waiting}
use Rattle.rec_stream.specs.StreamEnds.{past_of}
use Rattle.rec_stream.specs.Sending.{StreamStands, origin_pieces, waiting_piece}
use Rattle.rec_stream.proofs.Standing.{begun_ahead, begun_come, named_fails, named_stands, waiting_ahead, waiting_fresh, waits_stands}
use Rattle.rec_stream.proofs.stage.put_named.Goals as goal

pub returns-in_err-put_hand-in-Begun : goal.returns-in_err-put_hand-in-Begun
returns-in_err-put_hand-in-Begun g c = λ facts before packets packet made is said pieces stands.
    let p = err_from_is_err_and c.from_residual.result c.from_residual.ensures.1 in
    let held = g.W.Write.contents c.args.out.now in
    let st : StreamStands facts before held c.args.sent.now (HasCourse c.in-Begun.course) packets =
    subst (λ (s : Stage). StreamStands facts before held c.args.sent.now s packets) c.in-Begun.is stands in
    let start = record st.is_stage.0 { left = stream_pieces packet } in
    rw (p.1, p.2) (named_fails facts before held (g.W.Write.contents c.put_hand.new.out) c.args.sent.now packets packet c.args.named st.blocks st.now start
    c.in_err-put_hand-in-Begun.field-0.0 (begun_ahead facts before held c.args.sent.now c.in-Begun.course packets packet c.args.named st is said)
    (c.in_err-put_hand-in-Begun.ensures.gone (past_of facts before st.blocks start) [] made.setup
    (begun_come facts before held c.args.sent.now c.in-Begun.course packets packet c.args.named c.args.hand st pieces)))

pub returns-in-Begun : goal.returns-in-Begun
returns-in-Begun g c = λ facts before packets packet made is said pieces stands.
    let held = g.W.Write.contents c.args.out.now in
    let st : StreamStands facts before held c.args.sent.now (HasCourse c.in-Begun.course) packets =
    subst (λ (s : Stage). StreamStands facts before held c.args.sent.now s packets) c.in-Begun.is stands in
    let start = record st.is_stage.0 { left = stream_pieces packet } in
    named_stands facts before held (g.W.Write.contents c.put_hand.new.out) c.args.sent.now c.put_hand.new.sent c.put_hand.new.course packets packet
    c.args.named st.blocks st.now start (begun_ahead facts before held c.args.sent.now c.in-Begun.course packets packet c.args.named st is said)
    (c.in_ok-put_hand-in-Begun.ensures.gone (past_of facts before st.blocks start) [] made.setup
    (begun_come facts before held c.args.sent.now c.in-Begun.course packets packet c.args.named c.args.hand st pieces))
    c.in_ok-put_hand-in-Begun.ensures.other

pub returns-in-None : goal.returns-in-None
returns-in-None g c = λ facts before packets packet made is said pieces stands.
    let held = g.W.Write.contents c.args.out.now in
    let st : StreamStands facts before held c.args.sent.now (WaitsFor c.in-Waiting.ends) packets =
    subst (λ (s : Stage). StreamStands facts before held c.args.sent.now s packets) c.in-Waiting.is stands in
    let waits = c.in_ok-ends-in-None.ensures.waits in
    let new = origin_pieces c.args.named.origin (pieces_held c.args.hand) in
    waits_stands facts before held c.args.sent.now c.in-Waiting.ends.items (WaitsFor c.in_ok-ends-in-None.ends) new packets packet c.args.named
    st.blocks st.now (Waiting (map waiting_piece c.in-Waiting.ends.items ++ new)) st.are st.has_sent st.is_stage.0 st.is_stage.1 st.other is said
    c.in-None.is pieces waits.1 refl (ap Waiting (sym waits.0), refl)

pub returns-in_err-course-in-Some : goal.returns-in_err-course-in-Some
returns-in_err-course-in-Some g c = λ facts before packets packet made is said pieces stands.
    let p = err_from_is_err_and c.from_residual-in_err-course-in-Some.result c.from_residual-in_err-course-in-Some.ensures.1 in
    let held = g.W.Write.contents c.args.out.now in
    let st : StreamStands facts before held c.args.sent.now (WaitsFor c.in-Waiting.ends) packets =
    subst (λ (s : Stage). StreamStands facts before held c.args.sent.now s packets) c.in-Waiting.is stands in
    let left = origin_pieces c.args.named.origin (pieces_held c.args.hand) ++ map waiting_piece c.in-Waiting.ends.items in
    let start = stream_begun c.in-Some.least left in
    rw (p.1, p.2) (named_fails facts before held (g.W.Write.contents c.begin_with.new.out) c.args.sent.now packets packet c.args.named st.blocks st.now
    start c.in_err-course-in-Some.field-0.0
    (waiting_ahead facts before held c.args.sent.now c.in-Waiting.ends.items packets packet c.args.named c.args.hand c.in-Some.least st.blocks st.now
    st.are st.is_stage.0 st.other is said c.in-Some.is pieces)
    (c.in_err-course-in-Some.ensures.begun (past_of facts before st.blocks start) made.setup made.rules
    (waiting_fresh facts before held c.args.sent.now st.blocks c.in-Some.least left st.has_sent st.is_stage.1)))

pub returns : goal.returns
returns g c = λ facts before packets packet made is said pieces stands.
    let held = g.W.Write.contents c.args.out.now in
    let st : StreamStands facts before held c.args.sent.now (WaitsFor c.in-Waiting.ends) packets =
    subst (λ (s : Stage). StreamStands facts before held c.args.sent.now s packets) c.in-Waiting.is stands in
    let left = origin_pieces c.args.named.origin (pieces_held c.args.hand) ++ map waiting_piece c.in-Waiting.ends.items in
    let start = stream_begun c.in-Some.least left in
    named_stands facts before held (g.W.Write.contents c.begin_with.new.out) c.args.sent.now c.begin_with.new.sent c.in_ok-course-in-Some.course packets
    packet c.args.named st.blocks st.now start
    (waiting_ahead facts before held c.args.sent.now c.in-Waiting.ends.items packets packet c.args.named c.args.hand c.in-Some.least st.blocks st.now
    st.are st.is_stage.0 st.other is said c.in-Some.is pieces)
    (c.in_ok-course-in-Some.ensures.begun (past_of facts before st.blocks start) made.setup made.rules
    (waiting_fresh facts before held c.args.sent.now st.blocks c.in-Some.least left st.has_sent st.is_stage.1))
    c.in_ok-course-in-Some.ensures.other
