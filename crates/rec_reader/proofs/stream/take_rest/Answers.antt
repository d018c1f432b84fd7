use Rattle.std.proofs.Common.{refl, subst, arith}
use Rattle.ch11_packet.specs.Classes.{Holds, HasClassFault}
use Rattle.ch11_packet.specs.Views.{header_data}
use Rattle.rec_reader.proofs.Streaming.{told_body, told_class, rest_taken}
use Rattle.rec_reader.proofs.stream.take_rest.Goals as goal

pub returns-in_err-body-clause-fault : goal.returns-in_err-body-clause-fault
returns-in_err-body-clause-fault g c =
    told_body (header_data c.args.header) (g.R.Read.remaining c.args.input.now) c.from_residual.result c.in_err-body.field-0.0 c.from_residual.ensures.1
    c.in_err-body.ensures.fault

pub returns-in_err-what-clause-fault : goal.returns-in_err-what-clause-fault
returns-in_err-what-clause-fault g c =
    let header = header_data c.args.header in
    let fault = c.in_err-what.field-0.0 in
    told_class header c.in_ok-body.body.items (g.R.Read.remaining c.args.input.now) (g.R.Read.remaining c.read_body.new.input)
    c.from_residual-in_err-what.result fault c.from_residual-in_err-what.ensures.1
    c.in_ok-body.ensures.taken (omega (arith, c.in_ok-body.ensures.len, c.args.header.in_range.lengths.holds))
    (subst (λ bytes. HasClassFault header bytes fault) c.as_slice.ensures.value ((c.in_err-what.ensures.fault fault).0 refl))

pub returns-clause-packet : goal.returns-clause-packet
returns-clause-packet g c =
    let header = header_data c.args.header in
    rest_taken c.args.at header c.in_ok-body.body.items c.in_ok-what.what c.of.result (g.R.Read.remaining c.args.input.now)
    (g.R.Read.remaining c.read_body.new.input)
    c.of.ensures.parts c.in_ok-body.ensures.taken (omega (arith, c.in_ok-body.ensures.len, c.args.header.in_range.lengths.holds))
    (subst (λ bytes. Holds header bytes c.in_ok-what.what) c.as_slice.ensures.value c.in_ok-what.ensures.holds)
