use Rattle.std.proofs.Common.{refl}
use Rattle.rec_joined.specs.declared.joined.Part.{Part}
use Rattle.rec_joined.specs.JoinedPackets.{joined_packets}
use Rattle.rec_joined.proofs.PartsRead.{joins}
use Rattle.rec_joined.proofs.joined.Joined.add.Goals as goal

pub returns-clause-joined : goal.returns-clause-joined
returns-clause-joined g c = λ read recording places so begins known there. (
    let old = c.args.self.now in
    let part : Part _ = record { packets = c.args.packets; start = old.end; end = c.in_ok-end.end; moves = c.args.moves } in
    joins g.P.PacketsAt.there old (record { parts = c.push.new.self; listing = c.list_moved.new.listing; end = c.in_ok-end.end }) part read recording places
    (c.in_ok-end.ensures.whole recording (joined_packets old.parts.items read) begins so.lists) so known there c.in-Ok.ensures.items refl refl)

pub returns-clause-pushed : goal.returns-clause-pushed
returns-clause-pushed g c = (_, c.in-Ok.ensures.items, refl, refl)
