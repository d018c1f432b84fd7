use Rattle.std.proofs.Common.{ap, sym, subst, ◌∙◌, drop, length, ◌-◌, List}
use Rattle.ch11_packet.specs.Classes.{data_in}
use Rattle.ch11_merge.specs.Merging.{FilePiece, head_of, is_due, TakesPart}
use Rattle.ch11_file.specs.OwnedPieces.{owned_data}
use Rattle.rec_reader.specs.Packets.{PacketData}
use Rattle.rec_pieces.specs.Parts.{IsPartTaken}
use Rattle.rec_pieces.specs.Hands.{pieces_in_hand}
use Rattle.rec_pieces.proofs.HandPieces.{to_end, some_left, part_in_hand}
use Rattle.rec_pieces.proofs.frames.FramesInHand.take.Goals as goal

pub take_part-requires-clause-some : goal.take_part-requires-clause-some
take_part-requires-clause-some c = some_left _ _ _ _ _ (λ none. c.requires.some (sym c.self.view_is ∙ none))

pub returns : goal.returns
returns c =
    let f = c.self.inside in
    let part = c.in_ok-part.part in
    let held = data_in f.packet.header f.packet.body in
    let same = c.data-data.ensures ∙ ap (λ (p : PacketData). data_in p.header p.body) c.packet-packet.ensures.same in
    let early = ap (λ (ps : List FilePiece). is_due c.args.tick (head_of ps)) c.self.view_is ∙ c.requires.early in
    subst (λ n. TakesPart c.args.tick c.args.self.now (owned_data part.piece) (pieces_in_hand f.place part.ahead part.count (n - part.len) held))
    (sym (ap length same))
    (subst (λ ps. TakesPart c.args.tick ps (owned_data part.piece) (pieces_in_hand f.place part.ahead part.count (length held - part.len) held)) c.self.view_is
    (part_in_hand c.args.tick f.place f.ahead f.count f.at held part c.self.invariant.within early
    (subst (λ bytes. IsPartTaken c.args.tick f.place f.ahead f.count (drop f.at bytes) part) same
    (subst (λ bytes. IsPartTaken c.args.tick f.place f.ahead f.count bytes part) (to_end c.data-data.result.now f.at) c.in_ok-part.ensures.part))))
