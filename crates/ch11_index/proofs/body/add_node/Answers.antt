use Rattle.ch11_index.specs.IndexBytes.{node_entry_bytes}
use Rattle.ch11_index.proofs.Rows.{row_more}
use Rattle.ch11_index.proofs.body.add_node.Goals as goal

pub entries-preserved : goal.entries-preserved
entries-preserved c =
    row_more node_entry_bytes c.extend_from_slice.new.self.items c.entries.body.items c.node_row.result _ c.args.entries.now c.entries.entry-index _
    c.entries-test.true c.entries.invariant c.node_row.ensures c.in_ok-extend_from_slice-2.ensures.items
