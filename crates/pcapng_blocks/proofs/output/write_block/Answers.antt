use Rattle.std.proofs.Common.{List, ℕ, ◌+◌, ◌∙◌, ap, sym, subst, length}
use Rattle.std.specs.Prelude.{OnOk, OnErr}
use Rattle.std.specs.Io.KnownBytes.{Appends}
use Rattle.pcapng_blocks.specs.Bytes.{padded_len}
use Rattle.pcapng_blocks.specs.Blocks.{CapturedData, block_bytes}
use Rattle.pcapng_blocks.specs.Outputs.{TakesStart}
use Rattle.pcapng_blocks.specs.Views.{block_data, options_data}
use Rattle.pcapng_blocks.specs.declared.block.Block.{Block}
use Rattle.pcapng_blocks.proofs.BlockParts.{length-packet_body, packet_parts}
use Rattle.pcapng_blocks.proofs.output.write_block.Goals as goal

pub returns-in-Packet-clause-whole : goal.returns-in-Packet-clause-whole
returns-in-Packet-clause-whole g c =
    let packet : CapturedData =
    record { interface = c.in-Packet.interface; time = c.in-Packet.time; bytes = c.in-Packet.bytes.now; options = options_data c.in-Packet.options.now } in
    subst (λ (l : List ℕ). OnOk c.write_parts-in-Packet.result (Appends (g.W.Write.contents c.args.out.now) (g.W.Write.contents
    c.write_parts-in-Packet.new.out) l))
    (packet_parts packet _ _ (ap (λ n. 28 + n + (c.options_len-behind.result + 4)) c.padded_len.ensures
    ∙ ap (λ n. 28 + padded_len (length packet.bytes) + (n + 4)) c.options_len-behind.ensures ∙ length-packet_body packet) c.packet_head-head.ensures
    ∙ ap (λ (b : Block). block_bytes (block_data b)) (sym c.in-Packet.is)) c.write_parts-in-Packet.ensures.whole

pub returns-in-Packet-clause-part : goal.returns-in-Packet-clause-part
returns-in-Packet-clause-part g c =
    let packet : CapturedData =
    record { interface = c.in-Packet.interface; time = c.in-Packet.time; bytes = c.in-Packet.bytes.now; options = options_data c.in-Packet.options.now } in
    subst (λ (l : List ℕ). OnErr c.write_parts-in-Packet.result (TakesStart (g.W.Write.contents c.args.out.now) (g.W.Write.contents
    c.write_parts-in-Packet.new.out) l))
    (packet_parts packet _ _ (ap (λ n. 28 + n + (c.options_len-behind.result + 4)) c.padded_len.ensures
    ∙ ap (λ n. 28 + padded_len (length packet.bytes) + (n + 4)) c.options_len-behind.ensures ∙ length-packet_body packet) c.packet_head-head.ensures
    ∙ ap (λ (b : Block). block_bytes (block_data b)) (sym c.in-Packet.is)) c.write_parts-in-Packet.ensures.part
