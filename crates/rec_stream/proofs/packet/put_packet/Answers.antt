use Rattle.std.proofs.Common.{◌≡◌, None, inl, sym, ap, subst, ◌∙◌}
use Rattle.ch11_file.specs.declared.setup.FileSetup.{FileSetup}
use Rattle.rec_reader.specs.Packets.{PacketData}
use Rattle.rec_reader.specs.Views.{packet_data}
use Rattle.rec_pieces.specs.Entries.{packet_names}
use Rattle.rec_stream.specs.StreamChannels.{is_said}
use Rattle.rec_stream.specs.Sending.{NamesPacket}
use Rattle.rec_stream.proofs.Standing.{cant_go, named_pieces, other_stands}
use Rattle.rec_stream.proofs.packet.put_packet.Goals as goal

pub returns-in_default : goal.returns-in_default
returns-in_default g c = λ facts before packets made stands.
    let same : packet_data c.packet-2.result ≡ c.args.packet = c.packet-2.ensures.same in
    other_stands facts before _ c.args.sent.now c.note_other.new.self c.args.stage packets c.args.packet
    (subst (λ (p : PacketData). packet_names p ≡ None) same c.in_default.ensures.none) c.note_other.ensures stands

pub returns-then-not-is_said : goal.returns-then-not-is_said
returns-then-not-is_said g c = λ facts before packets made stands.
    let same : packet_data c.packet-2.result ≡ c.args.packet = c.packet-2.ensures.same in
    let named = c.in-Some.named in
    let is : NamesPacket c.args.packet named = subst (λ (p : PacketData). NamesPacket p named) same c.in-Some.ensures.some in
    cant_go facts before _ c.args.sent.now c.args.stage packets c.args.packet named.at is.at stands
    (record {
      channel = named.origin.channel;
      kind = named.kind;
      names = is.names;
      wrong = inl (ap (λ (s : FileSetup). is_said s.channels.now named.origin.channel) made.setup ∙ sym c.is_said.ensures ∙ c.if-not-is_said.true);
    })

pub returns : goal.returns
returns g c = λ facts before packets made stands.
    let same : packet_data c.packet-2.result ≡ c.args.packet = c.packet-2.ensures.same in
    let named = c.in-Some.named in
    let is : NamesPacket c.args.packet named = subst (λ (p : PacketData). NamesPacket p named) same c.in-Some.ensures.some in
    c.put_named.ensures facts before packets c.args.packet made is
    (ap (λ (s : FileSetup). is_said s.channels.now named.origin.channel) made.setup ∙ sym c.is_said.ensures ∙ c.if-not-is_said.false)
    (named_pieces c.args.packet named c.in_ok-hand.hand is c.in_ok-hand.ensures.pieces) stands
