use Rattle.pcapng_blocks.specs.Blocks.{blocks_bytes}
use Rattle.rec_export.specs.Export.{export_blocks}
use Rattle.rec_export.proofs.Widths.{export_fits}
use Rattle.rec_export.proofs.laws.an_export_is_read_as_its_blocks.Goals as goal

pub returns : goal.returns
returns c = λ origin packets begin.
    (let blocks = export_blocks origin packets in
    let held = c.blocks_are_read_back.ensures blocks (export_fits origin packets begin).0 in
    record {
      held = held;
      alone = λ others also. c.bytes_hold_one_list_of_blocks.ensures (blocks_bytes blocks) others blocks also held;
    })
