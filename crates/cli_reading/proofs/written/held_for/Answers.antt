use Rattle.std.proofs.Common.{[], Some, refl, sym, ◌∙◌, subst}
use Rattle.std.proofs.KnownBytes.{Appends-nil}
use Rattle.cli_reading.specs.Written.{GivesNext}
use Rattle.cli_reading.proofs.Passes.{WentOut, none_given, one_more_given, one_more_went_out, one_more_step, all_written}
use Rattle.cli_reading.proofs.written.held_for.Goals as goal

pub packets-init : goal.packets-init
packets-init g c =
    let its = g.P.PerPacket.bytes_for c.args.written.now in (
      refl,
      λ recording begins. (
        none_given recording c.in_ok-reader.reader begins,
        subst (λ items. WentOut its [] (Some []) (Some items)) (sym c.new-held.ensures.items) (Appends-nil (Some [])),
        refl,
      ),
    )

pub returns-in_default : goal.returns-in_default
returns-in_default g c =
    record {
      written = all_written (g.P.PerPacket.bytes_for c.args.written.now) g.P.PerPacket.counts (g.I.Read.remaining c.args.input) c.packets.counter
          c.in_ok-reader.reader c.packets.reader c.next_packet.new.reader
          c.packets.held.items c.args.written.now c.packets.written c.in_ok-reader.ensures.begins c.packets.invariant.1
          (subst (λ taken. GivesNext taken c.packets.reader c.next_packet.new.reader) c.in_default.is c.in_ok-owned.ensures.gives);
    }

pub packets-preserved : goal.packets-preserved
packets-preserved g c =
    let gives = subst (GivesNext (Some c.in-Some.owned) c.packets.reader) (sym c.give_back.ensures.same)
    (subst (λ taken. GivesNext taken c.packets.reader c.next_packet.new.reader) c.in-Some.is c.in_ok-owned.ensures.gives) in (
      c.write_packet.ensures.same c.if-not-write_packet.false ∙ c.packets.invariant.0,
      λ recording begins. (let so_far = c.packets.invariant.1 recording begins in (
        one_more_given c.give_back.new.self _ so_far.0 gives,
        one_more_went_out (g.P.PerPacket.bytes_for c.args.written.now) (g.P.PerPacket.bytes_for c.packets.written) so_far.0.packets _ _ (Some [])
            (Some c.packets.held.items)
            (Some c.write_packet.new.out.items) so_far.1 c.packets.invariant.0 c.packet.ensures.same
            (c.write_packet.ensures.written c.if-not-write_packet.false),
        one_more_step g.P.PerPacket.counts so_far.0.packets _ _ c.args.written.now c.packets.written c.write_packet.new.self so_far.2 c.packet.ensures.same
            (c.write_packet.ensures.counted c.if-not-write_packet.false),
      )),
    )
