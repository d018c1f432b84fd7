use Rattle.ch11_packet.proofs.ReadBodies.{word_held, frames_held, held_read}
use Rattle.ch11_packet.proofs.frames.decode.held_frames.Goals as goal

pub slice_bounds-result-count : goal.slice_bounds-result-count
slice_bounds-result-count c = word_held c.args.count c.args.body.now c.requires

pub slice_bounds-result-start : goal.slice_bounds-result-start
slice_bounds-result-start c = word_held c.args.count c.args.body.now c.requires

pub invariant_of-result : goal.invariant_of-result
invariant_of-result c = frames_held c.args.count c.args.body.now c.requires

pub returns : goal.returns
returns c = record {
  read = λ frames spells. held_read c.args.count frames c.args.body.now c.requires spells;
}
