use Rattle.std.proofs.Common.{IfSome, Option, ap, subst}
use Rattle.std.specs.Option.{option_map}
use Rattle.ch11_packet.specs.Header.{HeaderData}
use Rattle.ch11_packet.specs.Views.{header_data}
use Rattle.rec_reader.specs.Readers.{TakesHeader}
use Rattle.rec_reader.proofs.Streaming.{first_taken, first_stops}
use Rattle.rec_reader.proofs.stream.take_packet.Goals as goal

pub returns-in-Ok-clause-first : goal.returns-in-Ok-clause-first
returns-in-Ok-clause-first g c =
    let mid = g.R.Read.remaining c.take_header.new.input in
    let head = subst (λ (h : Option HeaderData). IfSome (g.R.Read.remaining c.args.input.now) (λ bytes. TakesHeader bytes h mid))
    (ap (option_map header_data) c.in-Some.is) c.in_ok-header.ensures.first in
    first_taken c.args.at (header_data c.in-Some.header) c.in-Ok.packet (g.R.Read.remaining c.args.input.now) mid (g.R.Read.remaining c.take_rest.new.input)
    head c.in-Ok.ensures.packet

pub returns-in-Err-clause-fault : goal.returns-in-Err-clause-fault
returns-in-Err-clause-fault g c =
    let mid = g.R.Read.remaining c.take_header.new.input in
    let head = subst (λ (h : Option HeaderData). IfSome (g.R.Read.remaining c.args.input.now) (λ bytes. TakesHeader bytes h mid))
    (ap (option_map header_data) c.in-Some.is) c.in_ok-header.ensures.first in
    first_stops (header_data c.in-Some.header) c.in-Err.kind (g.R.Read.remaining c.args.input.now) mid head c.in-Err.ensures.fault
