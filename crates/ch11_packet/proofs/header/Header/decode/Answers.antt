use Rattle.std.proofs.Common.{arith, ap, subst, sym, ◌∙◌}
use Rattle.std.specs.Prelude.{IsSome}
use Rattle.ch11_packet.specs.Header.{IsHeader, header_bytes, header_at}
use Rattle.ch11_packet.proofs.Headers.{fields_read, header_at-header_bytes, header_bytes-header_at, spelled_by, read_as}
use Rattle.ch11_packet.proofs.header.Header.decode.Goals as goal

pub returns-clause-spelled : goal.returns-clause-spelled
returns-clause-spelled c =
    let bytes = c.args.bytes.now in
    let fields = fields_read c.args.bytes.now c.from_le_bytes-channel.result c.from_le_bytes-packet_len.result c.from_le_bytes-data_len.result
    c.counter_of-counter.result
    c.from_le_bytes-channel.ensures (omega (arith, c.from_le_bytes-packet_len.ensures)) (omega (arith, c.from_le_bytes-data_len.ensures))
    c.counter_of-counter.ensures.value in
    let sum = sym c.from_le_bytes-sum.ensures ∙ c.if-sum-header_sum.false ∙ c.header_sum.ensures.sum in
    let whole = header_bytes-header_at bytes c.told-bytes c.fits-bytes (sym c.from_le_bytes.ensures ∙ c.if-from_le_bytes.false) sum in
    rw c.ok_or.ensures.value (spelled_by bytes c.new-header.result _ (whole ∙ ap header_bytes (sym fields)) c.new-header.ensures.fields)

pub returns-clause-read_back : goal.returns-clause-read_back
returns-clause-read_back c = λ header is e.
    let fields = fields_read c.args.bytes.now c.from_le_bytes-channel.result c.from_le_bytes-packet_len.result c.from_le_bytes-data_len.result
    c.counter_of-counter.result
    c.from_le_bytes-channel.ensures (omega (arith, c.from_le_bytes-packet_len.ensures)) (omega (arith, c.from_le_bytes-data_len.ensures))
    c.counter_of-counter.ensures.value in
    let same = fields ∙ ap header_at e ∙ header_at-header_bytes header is in
    let made : IsSome c.new-header.result = c.new-header.ensures.in_range.1 (subst IsHeader (sym same) is) in
    rw c.ok_or.ensures.value (read_as c.new-header.result _ header same made c.new-header.ensures.fields)
