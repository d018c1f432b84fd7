use Rattle.std.proofs.Common.{◌+◌, ◌-◌, ◌^◌, min, IfSome, Option, sym, ap, subst, ◌∙◌}
use Rattle.rec_reader.specs.Packets.{PacketData}
use Rattle.rec_reader.specs.Readers.{ReaderState, TakesFirst, HasRead}
use Rattle.rec_reader.proofs.Streaming.{stands_on}
use Rattle.rec_reader.proofs.stream.Reader.next.Goals as goal

pub returns-in-Ok-Some-clause-stands : goal.returns-in-Ok-Some-clause-stands
returns-in-Ok-Some-clause-stands g c = λ bytes packets read.
    let at = c.self.inside.at in
    let packet = c.in-Ok-Some.packet in
    let known = g.R.Read.remaining c.self.inside.input in
    let left = g.R.Read.remaining c.take_packet.new.input in
    let old : ReaderState = record { left = known; at = at; ended = c.self.inside.ended } in
    let new : ReaderState = record { left = left; at = c.saturating_add-self-inside.result; ended = c.self.inside.ended } in
    let first : IfSome known (λ all. TakesFirst at all c.in-Ok-Some.field-0 left) = c.in-Ok-Some.ensures.first in
    let took = subst (λ (taken : Option PacketData). IfSome known (λ all. TakesFirst at all taken left)) c.in-Ok-Some.field-0-is first in
    let place = c.saturating_add-self-inside.ensures ∙ ap (λ n. min (at + n) (2 ^ 64 - 1)) (c.from.ensures ∙ c.len.ensures) in
    stands_on old new packet c.in-None.is c.in-None.is place took bytes packets (subst (HasRead bytes packets) (sym c.self.view_is) read)
