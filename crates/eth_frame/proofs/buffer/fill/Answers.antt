use Rattle.std.proofs.Common.{◌-◌, length, rules, subst, sym}
use Rattle.std.specs.Io.KnownBytes.{Consumes}
use Rattle.std.proofs.KnownBytes.{Consumes-trans}
use Rattle.eth_frame.proofs.BufferFill.{take-put_mid-more}
use Rattle.eth_frame.proofs.buffer.fill.Goals as goal

pub pieces-preserved : goal.pieces-preserved
pieces-preserved g c =
    let from = c.pieces.filled in
    let room = length c.pieces.places - from in
    let more = take-put_mid-more from room c.in-Ok.n c.pieces.places c.read.new.buf c.pieces.invariant.within c.in-Ok.ensures.bound.0 in
    record {
      within = search rules;
      taken = subst (Consumes _ _) (sym more) (Consumes-trans _ _ _ _ _ c.pieces.invariant.taken c.in-Ok.ensures.bytes.0);
    }
