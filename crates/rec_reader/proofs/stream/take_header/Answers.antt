use Rattle.std.proofs.Common.{◌≡◌, length, refl, subst, take_all, arith}
use Rattle.std.specs.Io.KnownBytes.{Consumes}
use Rattle.ch11_packet.specs.declared.header.TheConstants.{HEADER_LEN}
use Rattle.rec_reader.proofs.Streaming.{told_header}
use Rattle.rec_reader.proofs.stream.take_header.Goals as goal

pub returns-in_err-header-clause-fault : goal.returns-in_err-header-clause-fault
returns-in_err-header-clause-fault g c =
    let head = c.fill.new.places in
    let fault = c.in_err-header.field-0.0 in
    let len : length head ≡ HEADER_LEN = omega (arith, c.fill.auto.places) in
    let whole = take_all c.in_ok-filled.filled head (omega arith) in
    told_header (g.R.Read.remaining c.args.input.now) (g.R.Read.remaining c.fill.new.reader) head c.from_residual-in_err-header.result fault
    c.from_residual-in_err-header.ensures.1
    len (subst (Consumes _ _) whole c.in_ok-filled.ensures.taken) ((c.in_err-header.ensures.fault fault).0 refl)
