use Rattle.std.proofs.Common.{◌+◌, ◌^◌, ◌<◌, Some, sym, subst, arith}
use Rattle.cli_reading.specs.Written.{GivesNext}
use Rattle.cli_reading.proofs.Passes.{none_given, one_more_given, no_counts, one_more_counted, all_counted}
use Rattle.cli_reading.proofs.reading.counts_of.Goals as goal

pub packets-init : goal.packets-init
packets-init g c =
    λ recording begins. (none_given recording c.args.reader.now begins, no_counts)

pub returns-in_default : goal.returns-in_default
returns-in_default g c =
    let ended = subst (λ taken. GivesNext taken c.packets.reader c.next_packet.new.reader) c.in_default.is c.in_ok-owned.ensures.gives in
    record {
      all = λ recording begins. (let so_far = c.packets.invariant recording begins in
          all_counted c.next_packet.new.reader c.packets.counts so_far.0 ended so_far.1);
    }

pub packets-preserved : goal.packets-preserved
packets-preserved g c =
    let gives = subst (GivesNext (Some c.in-Some.owned) c.packets.reader) (sym c.give_back.ensures.same)
    (subst (λ taken. GivesNext taken c.packets.reader c.next_packet.new.reader) c.in-Some.is c.in_ok-owned.ensures.gives) in
    let few : c.packets.counter + 1 < 2 ^ 64 = omega (arith, c.packets-test.true) in
    λ recording begins. (let so_far = c.packets.invariant recording begins in (
      one_more_given c.give_back.new.self _ so_far.0 gives,
      one_more_counted c.give_back.new.self _ _ c.packets.counts c.count.new.self so_far.0 gives c.packet.ensures.same few so_far.1 c.count.ensures,
    ))
