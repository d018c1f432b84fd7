use Rattle.std.proofs.Common.{◌-◌, ◌∷◌, ◌++◌, ◌∙◌, [], ap, sym, length, arith, List}
use Rattle.ch11_packet.specs.FramesRead.{ReadFrameData}
use Rattle.ch11_packet.specs.Views.{read_frame_data}
use Rattle.ch11_packet.proofs.FirstFrames.{length-first_reads}
use Rattle.rec_pieces.proofs.PartsGoing.{begins, goes_further, goes_on_built, late_body}
use Rattle.rec_pieces.proofs.part.take_part.Goals as goal

pub unreachable-requires : goal.unreachable-requires
unreachable-requires c =
    omega (arith, c.requires.some, ap length c.in_default.ensures.none, length-first_reads c.args.count c.args.bytes.now)

pub frames-init : goal.frames-init
frames-init c = rw c.with-piece.ensures (
  begins c.args.tick c.args.ahead c.args.count c.args.bytes.now (c.args.count - 1) c.in-Some.rest.now (read_frame_data c.in-Some.first) c.push.new.self
      c.requires.body c.in-Some.first.in_range.longest c.in-Some.ensures.first c.in-Some.ensures.rest
      (c.in_ok-push.ensures.added ∙ ap (λ (l : List ReadFrameData). l ++ read_frame_data c.in-Some.first ∷ []) c.in_ok-builder.ensures),
  c.in-Some.ensures.others,
)

pub returns-then-frame-tick-clause-body : goal.returns-then-frame-tick-clause-body
returns-then-frame-tick-clause-body c =
    rw c.sealed-then-frame-tick.ensures.left.2 (late_body c.args.tick c.args.ahead c.args.count c.args.bytes.now c.frames.left c.frames.rest.now c.frames.piece
    (read_frame_data c.in-Some-first_frame.frame) c.frames.builder c.requires.body c.frames.invariant.0 (sym c.goes_on.ensures ∙ c.if-not-goes_on.false))

pub push-requires-in-Some-first_frame : goal.push-requires-in-Some-first_frame
push-requires-in-Some-first_frame c =
    c.a_frame_that_goes_on_fits.ensures.further c.args.ahead c.frames.builder (read_frame_data c.in-Some-first_frame.frame) c.requires.body.0
    (goes_on_built c.args.tick c.args.ahead c.args.count c.args.bytes.now c.frames.left c.frames.rest.now c.frames.piece
    (read_frame_data c.in-Some-first_frame.frame) c.frames.builder c.frames.invariant.0 (sym c.goes_on.ensures ∙ c.if-not-goes_on.false))

pub frames-preserved : goal.frames-preserved
frames-preserved c = rw c.with-piece-in-Some-first_frame.ensures (
  goes_further c.args.tick c.args.ahead c.args.count c.args.bytes.now c.frames.left (c.frames.left - 1) c.frames.rest.now c.in-Some-first_frame.after.now
      c.frames.piece (read_frame_data c.in-Some-first_frame.frame) c.frames.builder c.push-in-Some-first_frame.new.self c.frames.invariant.0
      c.in-Some-first_frame.ensures.first c.in-Some-first_frame.ensures.rest (sym c.goes_on.ensures ∙ c.if-not-goes_on.false) c.if-frame-tick.false
      c.in_ok-push-2.ensures.added,
  c.in-Some-first_frame.ensures.others,
)
