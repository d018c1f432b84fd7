use Rattle.std.proofs.Common.{◌++◌, ◌∷◌, [], Option, refl, sym, ap, subst, map}
use Rattle.std.specs.Prelude.{Ok}
use Rattle.std.proofs.lemmas.Result.{err_from_is_err_and}
use Rattle.rec_reader.specs.Packets.{PacketData}
use Rattle.rec_reader.specs.Readers.{HasRead, Tells, given_by}
use Rattle.rec_stream.specs.declared.counts.StreamCounts.{StreamCounts}
use Rattle.rec_stream.specs.declared.stage.Stage.TheVariants.{Waiting as WaitsFor}
use Rattle.rec_stream.specs.Streams.StreamStage.{Waiting}
use Rattle.rec_stream.specs.StreamEnds.{WritesPackets, stream_facts}
use Rattle.rec_stream.specs.Sending.{waiting_piece}
use Rattle.rec_stream.proofs.Standing.{all_written, next_fails, none_stands, packet_fails, stands_kept}
use Rattle.rec_stream.proofs.StreamWrites.{streamed_some}
use Rattle.rec_stream.proofs.writing.write_packets.Goals as goal

pub packets-init : goal.packets-init
packets-init g c = λ recording has. record {
  packets = [];
  given = has;
  stands = none_stands (stream_facts c.args.made.setup.now c.args.made.clock.now) (g.W.Write.contents c.args.out.now) c.in_ok-sent.sent
      (WaitsFor c.new-2.result) (c.in_ok-sent.ensures.fresh (g.W.Write.contents c.args.out.now)) c.in_ok-sent.ensures.other
      (ap (λ l. Waiting (map waiting_piece l)) (sym c.new-2.ensures.items), refl);
}

pub returns-in_err-packet : goal.returns-in_err-packet
returns-in_err-packet g c = λ recording has.
    let p = err_from_is_err_and c.from_residual-in_err-packet.result c.from_residual-in_err-packet.ensures.1 in
    let facts = stream_facts c.args.made.setup.now c.args.made.clock.now in
    let before = g.W.Write.contents c.args.out.now in
    let now = g.W.Write.contents c.next_packet.new.out in
    let s = c.packets.invariant recording has in
    rw (p.1, p.2) (next_fails facts recording before now c.packets.sent c.packets.stage s.packets c.packets.reader c.in_err-packet.field-0.0 s.given
    (stands_kept facts before (g.W.Write.contents c.packets.out) now c.packets.sent c.packets.stage s.packets s.stands c.in_err-packet.ensures.kept)
    (c.in_err-packet.ensures.fails recording s.packets s.given))

pub packets-preserved : goal.packets-preserved
packets-preserved g c = λ recording has.
    let facts = stream_facts c.args.made.setup.now c.args.made.clock.now in
    let before = g.W.Write.contents c.args.out.now in
    let now = g.W.Write.contents c.next_packet.new.out in
    let s = c.packets.invariant recording has in
    record {
      packets = s.packets ++ c.in-Some.packet ∷ [];
      given = subst (λ (o : Option PacketData). HasRead recording (s.packets ++ given_by (Ok o)) c.next_packet.new.reader) c.in-Some.is
          (c.in_ok-packet.ensures.gives recording s.packets s.given).0;
      stands = c.in_ok-stage.ensures facts before s.packets (record { setup = refl; rules = refl })
          (stands_kept facts before (g.W.Write.contents c.packets.out) now c.packets.sent c.packets.stage s.packets s.stands
          c.in_ok-packet.ensures.kept);
    }

pub returns-in_err-stage : goal.returns-in_err-stage
returns-in_err-stage g c = λ recording has.
    let p = err_from_is_err_and c.from_residual-in_err-stage.result c.from_residual-in_err-stage.ensures.1 in
    let facts = stream_facts c.args.made.setup.now c.args.made.clock.now in
    let before = g.W.Write.contents c.args.out.now in
    let now = g.W.Write.contents c.next_packet.new.out in
    let s = c.packets.invariant recording has in
    rw (p.1, p.2) (packet_fails facts recording before (g.W.Write.contents c.put_packet.new.out) s.packets c.in-Some.packet c.in_err-stage.field-0.0
    (subst (λ (o : Option PacketData). Tells recording s.packets (Ok o)) c.in-Some.is
    (c.in_ok-packet.ensures.gives recording s.packets s.given).1)
    (c.in_err-stage.ensures facts before s.packets (record { setup = refl; rules = refl })
    (stands_kept facts before (g.W.Write.contents c.packets.out) now c.packets.sent c.packets.stage s.packets s.stands c.in_ok-packet.ensures.kept)))

pub returns-in_default : goal.returns-in_default
returns-in_default g c = λ recording has.
    let facts = stream_facts c.args.made.setup.now c.args.made.clock.now in
    let before = g.W.Write.contents c.args.out.now in
    let now = g.W.Write.contents c.next_packet.new.out in
    let s = c.packets.invariant recording has in
    subst (λ (counts : StreamCounts). WritesPackets facts recording before now counts) (sym c.counts.ensures)
    (all_written facts recording before now c.packets.sent c.packets.stage s.packets
    (stands_kept facts before (g.W.Write.contents c.packets.out) now c.packets.sent c.packets.stage s.packets s.stands c.in_ok-packet.ensures.kept)
    (subst (λ (o : Option PacketData). Tells recording s.packets (Ok o)) c.in_default.is
    (c.in_ok-packet.ensures.gives recording s.packets s.given).1))

pub returns : goal.returns
returns g c = λ recording has.
    streamed_some (stream_facts c.args.made.setup.now c.args.made.clock.now) recording (g.W.Write.contents c.args.out.now)
    (g.W.Write.contents c.packets.out) c.packets.sent c.packets.stage c.packets.reader (c.packets.invariant recording has)
