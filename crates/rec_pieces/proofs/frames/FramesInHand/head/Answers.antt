use Rattle.std.proofs.Common.{◌≡◌, ◌<◌, ◌^◌, ap, sym, subst, ◌∙◌, drop}
use Rattle.ch11_packet.specs.FramesRead.{first_reads}
use Rattle.ch11_packet.specs.Views.{read_frame_data}
use Rattle.ch11_packet.specs.Classes.{data_in}
use Rattle.ch11_merge.specs.Merging.{head_of}
use Rattle.rec_reader.specs.Packets.{PacketData}
use Rattle.rec_pieces.proofs.HandPieces.{to_end, head_first, head_none}
use Rattle.rec_pieces.proofs.frames.FramesInHand.head.Goals as goal

pub returns-in-Some-clause-fits : goal.returns-in-Some-clause-fits
returns-in-Some-clause-fits c = λ counter is.
    let fits = c.in-Some.first.in_range.counter in
    let same : c.in-Some.first.counter ≡ counter = cc in
    subst (λ n. n < 2 ^ 48) same fits

pub returns-in-Some-clause-is : goal.returns-in-Some-clause-is
returns-in-Some-clause-is c =
    let f = c.self.inside in
    let same = c.data.ensures ∙ ap (λ (p : PacketData). data_in p.header p.body) c.packet-packet.ensures.same in
    head_first f.place f.ahead f.count f.at (data_in f.packet.header f.packet.body) (read_frame_data c.in-Some.first) _
    (ap (λ bytes. first_reads f.count (drop f.at bytes)) (sym same)
    ∙ ap (first_reads f.count) (sym (to_end c.data.result.now f.at)) ∙ c.in-Some.ensures.first)
    ∙ ap head_of c.self.view_is

pub returns-in-None-clause-is : goal.returns-in-None-clause-is
returns-in-None-clause-is c =
    let f = c.self.inside in
    let same = c.data.ensures ∙ ap (λ (p : PacketData). data_in p.header p.body) c.packet-packet.ensures.same in
    head_none f.place f.ahead f.count f.at (data_in f.packet.header f.packet.body)
    (ap (λ bytes. first_reads f.count (drop f.at bytes)) (sym same)
    ∙ ap (first_reads f.count) (sym (to_end c.data.result.now f.at)) ∙ c.in-None.ensures.none)
    ∙ ap head_of c.self.view_is
