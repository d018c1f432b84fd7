use Rattle.std.proofs.Common.{◌++◌, ◌∷◌, [], Ok, subst, sym}
use Rattle.rec_reader.specs.Packets.{PacketData}
use Rattle.rec_reader.specs.Readers.{HasRead, Tells, given_by}
use Rattle.rec_pieces.specs.PieceListings.{ListsPackets}
use Rattle.rec_pieces.specs.declared.reading.ListingEnd.TheVariants.{Reading}
use Rattle.rec_pieces.proofs.RecordingListed.{passed_on}
use Rattle.rec_pieces.proofs.reading.list_recording.Goals as goal

pub returns-in_err-owned-clause-fault : goal.returns-in_err-owned-clause-fault
returns-in_err-owned-clause-fault g c =
    passed_on c.from_residual.result (Reading c.in_err-owned.field-0.0) _ c.from_residual.ensures.1
    (λ recording begins. let had = c.packets.invariant recording begins in
    (had.packets, c.in_err-owned.ensures.tells recording had.packets had.given))

pub returns-in_default-clause-whole : goal.returns-in_default-clause-whole
returns-in_default-clause-whole g c = λ recording begins. (let had = c.packets.invariant recording begins in
    record {
      packets = had.packets;
      reads = subst (λ taken. Tells recording had.packets (Ok taken)) c.in_default.is (c.in_ok-owned.ensures.tells recording had.packets had.given);
      lists = had.lists;
    })

pub packets-preserved : goal.packets-preserved
packets-preserved g c = λ recording begins. (let had = c.packets.invariant recording begins in
    record {
      packets = had.packets ++ c.in-Some.owned ∷ [];
      given = subst (HasRead recording (had.packets ++ c.in-Some.owned ∷ [])) (sym c.give_back.ensures.same)
          (subst (λ taken. HasRead recording (had.packets ++ given_by (Ok taken)) c.next.new.self) c.in-Some.is
          (c.in_ok-owned.ensures.stands recording had.packets had.given));
      lists = subst (λ (p : PacketData). ListsPackets (had.packets ++ p ∷ []) c.add.new.self) c.packet.ensures.same (c.in_ok-add.ensures had.packets had.lists);
    })
