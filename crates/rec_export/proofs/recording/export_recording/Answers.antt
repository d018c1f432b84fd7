use Rattle.std.proofs.Common.{◌++◌, Ok, subst, sym}
use Rattle.rec_reader.specs.Readers.{HasRead, Tells, given_by}
use Rattle.rec_export.specs.declared.fault.ExportEnd.TheVariants.{Reading}
use Rattle.rec_export.specs.Ends.{end_of}
use Rattle.rec_export.proofs.Whole.{kept, goes_on, starts_further, starts_so_far, fails, passed_on}
use Rattle.rec_export.proofs.recording.export_recording.Goals as goal

pub returns-in_err-hand_on-clause-part : goal.returns-in_err-hand_on-clause-part
returns-in_err-hand_on-clause-part g c =
    passed_on c.from_residual-in_err-hand_on.result (end_of c.in_err-hand_on.field-0.0) _ c.from_residual-in_err-hand_on.ensures.1
    (λ recording begins. fails c.args.origin recording _ _ c.in_err-hand_on.field-0.0
    (starts_so_far c.args.origin recording c.packets.reader c.packets.exporter _ _
    (kept c.args.origin recording c.packets.reader c.packets.exporter _ _ _ (c.packets.invariant recording begins) c.hand_on.ensures.kept)))

pub returns-in_err-owned-clause-part : goal.returns-in_err-owned-clause-part
returns-in_err-owned-clause-part g c =
    passed_on c.from_residual-in_err-owned.result (Reading c.in_err-owned.field-0.0) _ c.from_residual-in_err-owned.ensures.1
    (λ recording begins. let had = kept c.args.origin recording c.packets.reader c.packets.exporter _ _ _
    (c.packets.invariant recording begins) c.hand_on.ensures.kept in
    record { packets = had.packets; tells = c.in_err-owned.ensures.tells recording had.packets had.given; taken = had.taken })

pub returns-in_default-clause-whole : goal.returns-in_default-clause-whole
returns-in_default-clause-whole g c = λ recording begins. (let had = kept c.args.origin recording c.packets.reader c.packets.exporter _ _ _
    (c.packets.invariant recording begins) c.hand_on.ensures.kept in
    record {
      packets = had.packets;
      reads = subst (λ taken. Tells recording had.packets (Ok taken)) c.in_default.is (c.in_ok-owned.ensures.tells recording had.packets had.given);
      taken = had.taken;
    })

pub returns-in_err-export_packet-clause-part : goal.returns-in_err-export_packet-clause-part
returns-in_err-export_packet-clause-part g c =
    passed_on c.from_residual-in_err-export_packet.result (end_of c.in_err-export_packet.field-0.0) _ c.from_residual-in_err-export_packet.ensures.1
    (λ recording begins. let had = kept c.args.origin recording c.packets.reader c.packets.exporter _ _ _
    (c.packets.invariant recording begins) c.hand_on.ensures.kept in
    fails c.args.origin recording _ _ c.in_err-export_packet.field-0.0
    (starts_further c.args.origin recording c.packets.reader c.next.new.self c.packets.exporter _ _ _ _ _ had
    (subst (λ taken. HasRead recording (had.packets ++ given_by (Ok taken)) c.next.new.self) c.in-Some.is
    (c.in_ok-owned.ensures.stands recording had.packets had.given))
    c.packet.ensures.same c.in_err-export_packet.ensures.part))

pub packets-preserved : goal.packets-preserved
packets-preserved g c = λ recording begins. (let had = kept c.args.origin recording c.packets.reader c.packets.exporter _ _ _
    (c.packets.invariant recording begins) c.hand_on.ensures.kept in
    goes_on c.args.origin recording c.packets.reader c.give_back.new.self c.packets.exporter c.export_packet.new.self _ _ _ _ _ had
    (subst (HasRead recording _) (sym c.give_back.ensures.same)
    (subst (λ taken. HasRead recording (had.packets ++ given_by (Ok taken)) c.next.new.self) c.in-Some.is
    (c.in_ok-owned.ensures.stands recording had.packets had.given)))
    c.packet.ensures.same c.in_ok-export_packet.ensures.whole c.in_ok-export_packet.ensures.state)

pub returns-clause-part : goal.returns-clause-part
returns-clause-part g c = λ recording begins. starts_so_far c.args.origin recording c.packets.reader c.packets.exporter _ _
    (c.packets.invariant recording begins)
