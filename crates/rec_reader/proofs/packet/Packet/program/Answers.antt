use Rattle.std.proofs.Common.{Err}
use Rattle.std.proofs.Props.{props}
use Rattle.std.proofs.Math.Logic.{∥∥₁_elim}
use Rattle.ch11_packet.specs.Views.{header_data}
use Rattle.rec_reader.proofs.StoredPrograms.{spelled_program, program_is, program_says, decoded_other}
use Rattle.rec_reader.proofs.packet.Packet.program.Goals as goal

pub returns-in-Ok-Some-Program-clause-program : goal.returns-in-Ok-Some-Program-clause-program
returns-in-Ok-Some-Program-clause-program c =
    let packet = c.args.self.now in
    let program = c.in-Ok-Some-Program.program in
    let read = c.in-Ok-Some-Program in
    let spells = spelled_program read.field-0 read.field-0-0 program c.data.result.now read.ensures.spelled read.field-0-is read.field-0-0-is in
    program_says (header_data packet.header) packet.body.now c.data.result.now packet.what program c.data.ensures
    (∥∥₁_elim packet.holds (hlevel props) (λ holds.
    program_is c.a_packet_holds_one_thing.ensures.one (header_data packet.header) packet.body.now c.data.result.now packet.what c.in-Program.channel
    c.in-Program.version c.in-Program.first c.in-Program.count program
    c.data.ensures c.in-Program.is spells holds))
    spells

pub returns-in-Err-clause-some : goal.returns-in-Err-clause-some
returns-in-Err-clause-some c =
    let packet = c.args.self.now in (
      λ wrong. absurd (cc),
      λ some. ∥∥₁_elim packet.holds (hlevel props) (λ holds. absurd
          (decoded_other (header_data packet.header) packet.body.now c.data.result.now packet.what c.in-Program.channel c.in-Program.version c.in-Program.first
          c.in-Program.count c.decode_record.result (Err c.in-Err.field-0)
          c.data.ensures c.in-Program.is c.decode_record.ensures.read c.in-Err.is (λ program e. cc) holds)),
    )
