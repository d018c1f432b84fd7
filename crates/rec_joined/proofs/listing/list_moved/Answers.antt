use Rattle.std.proofs.Common.{◌++◌, ◌∷◌, [], Ok, ap, subst, sym, arith}
use Rattle.rec_reader.specs.Packets.{PacketData}
use Rattle.rec_reader.specs.Readers.{HasRead, Tells, given_by}
use Rattle.rec_joined.specs.declared.listing.JoinEnd.TheVariants.{Reading}
use Rattle.rec_joined.specs.Moving.{moving_of}
use Rattle.rec_joined.proofs.ListedSoFar.{moved_further, passed_on}
use Rattle.rec_joined.proofs.listing.list_moved.Goals as goal

pub returns-in_err-owned-clause-fault : goal.returns-in_err-owned-clause-fault
returns-in_err-owned-clause-fault g c =
    passed_on c.from_residual.result (Reading c.in_err-owned.field-0.0) _ c.from_residual.ensures.1
    (λ recording begins. let had = c.packets.invariant recording begins in
    (had.packets, c.in_err-owned.ensures.tells recording had.packets had.given))

pub returns-in_default-clause-whole : goal.returns-in_default-clause-whole
returns-in_default-clause-whole g c = λ recording before begins listed. (let had = c.packets.invariant recording begins in
    record {
      packets = had.packets;
      reads = subst (λ taken. Tells recording had.packets (Ok taken)) c.in_default.is (c.in_ok-owned.ensures.tells recording had.packets had.given);
      movable = had.movable;
      ends = had.ends;
      lists = had.lists before listed;
    })

pub returns-in-Err-clause-fault : goal.returns-in-Err-clause-fault
returns-in-Err-clause-fault g c = λ recording begins. (let had = c.packets.invariant recording begins in (
  had.packets,
  c.in-Some.owned,
  had.movable,
  subst (λ taken. Tells recording had.packets (Ok taken)) c.in-Some.is (c.in_ok-owned.ensures.tells recording had.packets had.given),
  ap (λ (p : PacketData). p.at) c.packet-packet.ensures.same,
  c.in-Err.ensures.stays,
  c.in-Err.ensures.fault,
))

pub packets-preserved : goal.packets-preserved
packets-preserved g c = λ recording begins. (let had = c.packets.invariant recording begins in
    moved_further (moving_of c.args.moves.now) c.args.start recording c.packets.reader c.give_back.new.self c.args.listing.now c.packets.listing
    c.list_packet.new.listing c.packets.end c.in-Some-checked_add.next c.in-Some.owned had
    (subst (HasRead recording (had.packets ++ c.in-Some.owned ∷ [])) (sym c.give_back.ensures.same)
    (subst (λ taken. HasRead recording (had.packets ++ given_by (Ok taken)) c.next.new.self) c.in-Some.is
    (c.in_ok-owned.ensures.stands recording had.packets had.given)))
    c.in-Ok.ensures.placed
    (omega (arith, c.in-Some-checked_add.ensures, ap (λ (p : PacketData). p.header.packet_len) c.packet-packet.ensures.same))
    c.in-Ok.ensures.lists)
