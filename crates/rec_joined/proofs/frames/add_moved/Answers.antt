use Rattle.std.proofs.Common.{◌∙◌, ◌++◌, ◌-◌, ◌<◌, ◌^◌, ap, sym, subst, arith, List}
use Rattle.std.specs.Int.{bytes_low_first}
use Rattle.ch11_packet.specs.Views.{read_frame_data}
use Rattle.rec_joined.specs.Moving.{moving_of}
use Rattle.rec_joined.proofs.MovedFrames.{IsAdded, added_all, added_more, step}
use Rattle.rec_joined.proofs.frames.add_moved.Goals as goal

pub first_part-requires-clause-long : goal.first_part-requires-clause-long
first_part-requires-clause-long c =
    let s = step (moving_of c.args.moves.now).counters c.frames.left c.frames.rest.now c.in-Some.field-0-1.now (read_frame_data c.in-Some.frame)
    c.in-Some.ensures.some c.frames.invariant.held c.in-Some.ensures.first in
    omega (arith, s.least, s.within)

pub frames-preserved : goal.frames-preserved
frames-preserved c =
    let counters = (moving_of c.args.moves.now).counters in
    let frame = read_frame_data c.in-Some.frame in
    let counted = c.in-Some-counter.ensures.some in
    let s = step counters c.frames.left c.frames.rest.now c.in-Some.field-0-1.now frame
    c.in-Some.ensures.some c.frames.invariant.held c.in-Some.ensures.first in
    subst (IsAdded counters c.args.out.now.items c.args.count c.args.bytes.now c.extend_from_slice-in-Some.new.self.items (c.frames.left - 1))
    (sym c.first_part.ensures.others)
    (added_more counters c.args.out.now.items c.args.count c.args.bytes.now c.frames.out.items c.extend_from_slice-in-Some.new.self.items
    c.frames.left c.frames.rest.now frame _ c.frames.invariant s
    (subst (λ n. n < 2 ^ 48) counted c.in-Some-counter.ensures.fits)
    (c.in_ok-extend_from_slice-2.ensures.items
    ∙ ap (λ (l : List _). l ++ c.first_part.result.0.now) (c.in_ok-extend_from_slice.ensures.items
    ∙ ap (λ l. c.frames.out.items ++ l) (c.counter_bytes.ensures.bytes ∙ ap (bytes_low_first 0 6) counted))
    ∙ ap (λ l. (c.frames.out.items ++ bytes_low_first 0 6 (counters frame.counter)) ++ l) c.first_part.ensures.part))

pub returns-clause-bytes : goal.returns-clause-bytes
returns-clause-bytes c = (added_all _ _ _ _ _ _ _ c.frames.invariant c.in_default.ensures.none).0

pub returns-clause-fit : goal.returns-clause-fit
returns-clause-fit c = (added_all _ _ _ _ _ _ _ c.frames.invariant c.in_default.ensures.none).1
