use Rattle.std.specs.Prelude.{◌==◌, if◌then◌else◌}
use Rattle.std.proofs.Common.{◌≡◌, ◌+◌, ◌≤◌, ◌∙◌, ◌++◌, length, ap, sym, subst}
use Rattle.std.proofs.Props.{props}
use Rattle.std.proofs.Math.Logic.{∥∥₁_elim, ∥∥₁_map}
use Rattle.ch11_packet.specs.Classes.{HasClass, data_in, said_frames}
use Rattle.ch11_packet.specs.Views.{header_data}
use Rattle.rec_reader.specs.Views.{packet_data}
use Rattle.rec_pieces.specs.declared.entry.PieceKind.TheVariants.{Record, Uncounted}
use Rattle.rec_pieces.specs.Entries.{named_by}
use Rattle.rec_reader.proofs.HeldFrames.{body_held}
use Rattle.rec_joined.specs.Moving.{moving_of}
use Rattle.rec_joined.specs.MovedFrames.{HaveCounters}
use Rattle.rec_joined.specs.MovedPackets.{moved_data, record_with}
use Rattle.rec_joined.specs.MovedRecords.{RecordMoving, end_numbers, program_numbers}
use Rattle.rec_joined.proofs.MovedClasses.{end_made, frames_gap, is_data, named_first, not_moved, program_made}
use Rattle.rec_joined.proofs.Concluded.{on_ok}
use Rattle.rec_joined.proofs.packet.add_held.Goals as goal

pub add_body-requires : goal.add_body-requires
add_body-requires c = ∥∥₁_map c.args.packet.now.holds (λ holds.
    let packet = c.args.packet.now in
    body_held (header_data packet.header) packet.body.now c.data.result.now packet.what c.in-Frames.count c.data.ensures c.in-Frames.is holds)

pub add_program-requires : goal.add_program-requires
add_program-requires c = ∥∥₁_elim c.args.packet.now.holds (hlevel props) (λ holds.
    let packet = c.args.packet.now in
    let header = header_data packet.header in
    subst (λ l. 24 ≤ length l) (sym c.data-in-Program.ensures)
    (program_made (moving_of c.args.moves.now) header (data_in header packet.body.now) c.in-Program.channel c.in-Program.version c.in-Program.first
    c.in-Program.count (subst (HasClass header (data_in header packet.body.now)) c.in-Program.is holds.class)).long)

pub add_end-requires : goal.add_end-requires
add_end-requires c = ∥∥₁_elim c.args.packet.now.holds (hlevel props) (λ holds.
    let packet = c.args.packet.now in
    let header = header_data packet.header in
    subst (λ l. 28 ≤ length l) (sym c.data-in-End.ensures)
    (end_made (moving_of c.args.moves.now) header (data_in header packet.body.now) c.in-End.channel c.in-End.offered c.in-End.kept
    (subst (HasClass header (data_in header packet.body.now)) c.in-End.is holds.class)).long)

pub returns-in-Frames-clause-added : goal.returns-in-Frames-clause-added
returns-in-Frames-clause-added c =
    let packet = c.args.packet.now in
    let header = header_data packet.header in
    let moving = moving_of c.args.moves.now in
    on_ok c.add_body.result _ _ (λ bytes.
    bytes ∙ ap (λ l. c.args.out.now.items ++ l) (∥∥₁_elim packet.holds (hlevel props) (λ holds.
    let has = subst (HasClass header (data_in header packet.body.now)) c.in-Frames.is holds.class in
    sym (is_data moving packet.header.kind c.data.result.now has.0.1) ∙ ap (moved_data moving packet.header.kind) c.data.ensures)))
    c.add_body.ensures.bytes

pub returns-in-Frames-clause-fault : goal.returns-in-Frames-clause-fault
returns-in-Frames-clause-fault c =
    let packet = packet_data c.args.packet.now in
    let moving = moving_of c.args.moves.now in
    not_moved moving packet c.add_body.result
    (λ is all. c.add_body.ensures.gap is
    (subst (λ l. HaveCounters moving.counters (said_frames l)) (sym c.data.ensures)
    (frames_gap moving packet c.in-Frames.count (c.requires.channel, c.requires.kind) c.in-Frames.is c.requires.named all)))
    c.add_body.ensures.other c.add_body.ensures.sum

pub returns-in_ok-add_program-in-Program-clause-added : goal.returns-in_ok-add_program-in-Program-clause-added
returns-in_ok-add_program-in-Program-clause-added c =
    let packet = c.args.packet.now in
    let header = header_data packet.header in
    let held = data_in header packet.body.now in
    let moving = moving_of c.args.moves.now in
    let records = moving.records c.in-Program.channel in
    let raised = c.in-Some.ensures in
    c.in_ok-add_program-in-Program.ensures ∙ ap (λ l. c.args.out.now.items ++ l) (∥∥₁_elim packet.holds (hlevel props) (λ holds.
    let has = subst (HasClass header held) c.in-Program.is holds.class in
    let own : c.requires.channel ≡ c.in-Program.channel =
    sym (named_first c.in-Program.channel Record (c.requires.channel, c.requires.kind)
    (sym (ap (named_by header.channel) c.in-Program.is) ∙ c.requires.named)) in
    ap (λ l. record_with c.args.id (program_numbers c.in-Some.version c.in-Some.first l) l) c.data-in-Program.ensures
    ∙ ap (λ i. record_with i (program_numbers c.in-Some.version c.in-Some.first held) held) (c.requires.given ∙ ap moving.ids own)
    ∙ ap (λ n. record_with (moving.ids c.in-Program.channel) (program_numbers n c.in-Some.first held) held)
    (raised.version ∙ ap (λ (r : RecordMoving). r.versions + c.in-Program.version) c.records_of-records.ensures)
    ∙ ap (λ n. record_with (moving.ids c.in-Program.channel) (program_numbers (records.versions + c.in-Program.version) n held) held)
    (raised.first ∙ ap (λ (r : RecordMoving). r.offered + c.in-Program.first) c.records_of-records.ensures)
    ∙ sym (program_made moving header held c.in-Program.channel c.in-Program.version c.in-Program.first c.in-Program.count has).made))

pub returns-in_ok-add_end-in-End-clause-added : goal.returns-in_ok-add_end-in-End-clause-added
returns-in_ok-add_end-in-End-clause-added c =
    let packet = c.args.packet.now in
    let header = header_data packet.header in
    let held = data_in header packet.body.now in
    let moving = moving_of c.args.moves.now in
    let records = moving.records c.in-End.channel in
    let raised = c.in-Some-end_numbers.ensures in
    let offered = c.in-Some-end_numbers.offered in
    let kept = c.in-Some-end_numbers.kept in
    c.in_ok-add_end-in-End.ensures ∙ ap (λ l. c.args.out.now.items ++ l) (∥∥₁_elim packet.holds (hlevel props) (λ holds.
    let has = subst (HasClass header held) c.in-End.is holds.class in
    let own : c.requires.channel ≡ c.in-End.channel =
    sym (named_first c.in-End.channel (if c.in-End.offered == 0 then Uncounted else Record) (c.requires.channel, c.requires.kind)
    (sym (ap (named_by header.channel) c.in-End.is) ∙ c.requires.named)) in
    ap (λ l. record_with c.args.id (end_numbers offered kept l) l) c.data-in-End.ensures
    ∙ ap (λ i. record_with i (end_numbers offered kept held) held) (c.requires.given ∙ ap moving.ids own)
    ∙ ap (λ n. record_with (moving.ids c.in-End.channel) (end_numbers n kept held) held)
    (raised.offered ∙ ap (λ (r : RecordMoving). r.offered + c.in-End.offered) c.records_of-records-in-End.ensures)
    ∙ ap (λ n. record_with (moving.ids c.in-End.channel) (end_numbers (records.offered + c.in-End.offered) n held) held)
    (raised.kept ∙ ap (λ (r : RecordMoving). r.kept + c.in-End.kept) c.records_of-records-in-End.ensures)
    ∙ sym (end_made moving header held c.in-End.channel c.in-End.offered c.in-End.kept has).made))
