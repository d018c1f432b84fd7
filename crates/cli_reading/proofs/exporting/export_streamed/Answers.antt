use Rattle.std.proofs.Common.{Some, subst, sym}
use Rattle.std.specs.Io.KnownBytes.{Appends}
use Rattle.rec_export.proofs.Whole.{begun, goes_on}
use Rattle.cli_reading.specs.Written.{GivesNext}
use Rattle.cli_reading.proofs.ExportEndings.{passed_on, ok_part, alone, reading_stops}
use Rattle.cli_reading.proofs.exporting.export_streamed.Goals as goal

pub packets-init : goal.packets-init
packets-init g c = λ recording begins later took.
    begun c.args.origin recording c.args.reader.now c.new-exporter.result (g.O.Write.contents c.args.output.now) later begins c.new-exporter.ensures.first
    (subst (λ bytes. Appends (g.O.Write.contents c.args.output.now) later bytes)
    (alone c.new-blocks.result.items _ _ c.new-blocks.ensures.items
    (ok_part c.begin.result c.map_err.result c.in_ok-map_err.field-0 _ c.in_ok-map_err.was c.map_err.ensures.variant c.begin.ensures.whole)) took)

pub returns-in_err-owned-clause-part : goal.returns-in_err-owned-clause-part
returns-in_err-owned-clause-part g c =
    passed_on c.from_residual-in_err-owned.result c.in_err-owned.field-0.0 _ c.from_residual-in_err-owned.ensures.1
    (reading_stops c.args.origin c.args.reader.now c.packets.reader c.packets.exporter _ _ c.in_err-owned.field-0.0 c.in_err-owned.ensures.stops
    (λ recording begins. c.packets.invariant recording begins _ c.in_ok-print_line.ensures.printed))

pub returns-in_default-clause-whole : goal.returns-in_default-clause-whole
returns-in_default-clause-whole g c = λ recording begins.
    (let had = c.packets.invariant recording begins _ c.in_ok-print_line.ensures.printed in
    let gives = subst (λ taken. GivesNext taken c.packets.reader c.next_packet.new.reader) c.in_default.is c.in_ok-owned.ensures.gives in
    record { packets = had.packets; reads = (gives recording had.packets had.given).1; taken = had.taken })

pub packets-preserved : goal.packets-preserved
packets-preserved g c = λ recording begins later took.
    (let had = c.packets.invariant recording begins _ c.in_ok-print_line.ensures.printed in
    let gives = subst (GivesNext (Some c.in-Some.owned) c.packets.reader) (sym c.give_back.ensures.same)
    (subst (λ taken. GivesNext taken c.packets.reader c.next_packet.new.reader) c.in-Some.is c.in_ok-owned.ensures.gives) in
    let went = ok_part c.export_packet.result c.map_err-in-packets.result c.in_ok-map_err-2.field-0 _ c.in_ok-map_err-2.was c.map_err-in-packets.ensures.variant
    c.export_packet.ensures.whole in
    let state = ok_part c.export_packet.result c.map_err-in-packets.result c.in_ok-map_err-2.field-0 _ c.in_ok-map_err-2.was
    c.map_err-in-packets.ensures.variant c.export_packet.ensures.state in
    goes_on c.args.origin recording c.packets.reader c.give_back.new.self c.packets.exporter c.export_packet.new.self _ _ later _ _ had
    (gives recording had.packets had.given).0 c.packet.ensures.same
    (subst (λ bytes. Appends (g.O.Write.contents c.print_line.new.output) later bytes)
    (alone c.print_line.new.line.items _ _ c.in_ok-print_line.ensures.emptied went) took) state)
