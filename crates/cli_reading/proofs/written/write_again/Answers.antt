use Rattle.std.proofs.Common.{◌+◌, ◌^◌, ◌<◌, Some, refl, sym, ◌∙◌, subst, arith}
use Rattle.std.specs.Io.Buffered.{writer_contents}
use Rattle.std.proofs.KnownBytes.{Appends-nil}
use Rattle.cli_reading.specs.Counts.{CountsPackets}
use Rattle.cli_reading.specs.Written.{GivesNext}
use Rattle.cli_reading.proofs.Passes.{none_given, one_more_given, one_more_went_out, one_more_step, no_counts}
use Rattle.cli_reading.proofs.Passes.{one_more_counted, same_counts, is_taken, on_ok, on_ok_passed}
use Rattle.cli_reading.proofs.written.write_again.Goals as goal

pub packets-init : goal.packets-init
packets-init g c = (
  refl,
  λ recording begins. (
    none_given recording c.args.reader.now begins,
    Appends-nil (writer_contents g.W.Write.contents c.args.output.now),
    no_counts,
    refl,
  ),
)

pub packets-preserved : goal.packets-preserved
packets-preserved g c =
    let few : c.packets.counter + 1 < 2 ^ 64 = omega (arith, c.packets-test.true) in
    let gives = subst (GivesNext (Some c.in_ok-owned.owned) c.packets.reader) (sym c.give_back.ensures.same) c.in_ok-owned.ensures.gives in (
      c.write_packet.ensures.same c.if-not-write_packet.false ∙ c.packets.invariant.0,
      λ recording begins. (let so_far = c.packets.invariant.1 recording begins in (
        one_more_given c.give_back.new.self _ so_far.0 gives,
        one_more_went_out (g.P.PerPacket.bytes_for c.args.written.now) (g.P.PerPacket.bytes_for c.packets.written) so_far.0.packets _ _
            (writer_contents g.W.Write.contents c.args.output.now)
            (writer_contents g.W.Write.contents c.packets.output) (writer_contents g.W.Write.contents c.write_packet.new.out) so_far.1 c.packets.invariant.0
            c.packet-packet.ensures.same
            (c.write_packet.ensures.written c.if-not-write_packet.false),
        one_more_counted c.give_back.new.self _ _ c.packets.counts c.count.new.self so_far.0 gives c.packet-packet.ensures.same few
            so_far.2 c.count.ensures,
        one_more_step g.P.PerPacket.counts so_far.0.packets _ _ c.args.written.now c.packets.written c.write_packet.new.self so_far.3
            c.packet-packet.ensures.same
            (c.write_packet.ensures.counted c.if-not-write_packet.false),
      )),
    )

pub returns : goal.returns
returns g c =
    let same = same_counts c.packets.counts c.args.judged (sym c.ne.ensures ∙ c.if-ne.false) in
    record {
      written = on_ok c.map_err.result _ (λ recording begins. (let so_far = c.packets.invariant.1 recording begins in
          is_taken (g.P.PerPacket.bytes_for c.args.written.now) g.P.PerPacket.counts c.args.judged c.args.written.now c.packets.written
          (writer_contents g.W.Write.contents c.args.output.now) (writer_contents g.W.Write.contents c.packets.output)
          (writer_contents g.W.Write.contents c.flush.new.self) so_far.0 so_far.1 c.flush.ensures.bytes
          (subst (λ counts. CountsPackets so_far.0.packets counts) same so_far.2) so_far.3));
      flushed = on_ok_passed c.flush.result c.map_err.result _ c.map_err.ensures.variant c.flush.ensures.ok;
    }
