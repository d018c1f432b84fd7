use Rattle.std.proofs.Common.{[], ◌∷◌, List, ℕ, get_or, ap, subst}
use Rattle.std.specs.Prelude.{OnOk, IfErr}
use Rattle.std.specs.Io.KnownBytes.{Appends}
use Rattle.ch11_packet.specs.Outputs.{AppendsPart}
use Rattle.ch11_packet.specs.Views.{header_data}
use Rattle.ch11_packet.proofs.Sending.{trailer_is, parts_are}
use Rattle.ch11_packet.proofs.output.write_packet.Goals as goal

pub returns-clause-whole : goal.returns-clause-whole
returns-clause-whole g c =
    let body = c.args.body.now in
    let four = ap (λ (l : List ℕ). get_or l 0 0 ∷ get_or l 1 0 ∷ get_or l 2 0 ∷ get_or l 3 0 ∷ []) c.to_le_bytes.ensures in
    let trailer = trailer_is body c.packet_len.result c.args.sum _ _ _ _ c.packet_len.ensures c.requires.sum four in
    subst (λ (l : List ℕ). OnOk c.write_parts.result (Appends (g.W.Write.contents c.args.out.now) (g.W.Write.contents c.write_parts.new.out) l))
    (parts_are (header_data c.args.header.now) body _ _ c.encode.ensures.bytes trailer) c.write_parts.ensures.whole

pub returns-clause-part : goal.returns-clause-part
returns-clause-part g c =
    let body = c.args.body.now in
    let four = ap (λ (l : List ℕ). get_or l 0 0 ∷ get_or l 1 0 ∷ get_or l 2 0 ∷ get_or l 3 0 ∷ []) c.to_le_bytes.ensures in
    let trailer = trailer_is body c.packet_len.result c.args.sum _ _ _ _ c.packet_len.ensures c.requires.sum four in
    subst (λ (l : List ℕ). IfErr c.write_parts.result (AppendsPart (g.W.Write.contents c.args.out.now) (g.W.Write.contents c.write_parts.new.out) l))
    (parts_are (header_data c.args.header.now) body _ _ c.encode.ensures.bytes trailer) c.write_parts.ensures.part
