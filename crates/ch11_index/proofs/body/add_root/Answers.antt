use Rattle.std.proofs.Common.{arith}
use Rattle.ch11_index.specs.IndexBytes.{root_entry_bytes}
use Rattle.ch11_index.proofs.Rows.{row_more, root_put}
use Rattle.ch11_index.proofs.body.add_root.Goals as goal

pub nodes-preserved : goal.nodes-preserved
nodes-preserved c =
    row_more root_entry_bytes c.extend_from_slice.new.self.items c.nodes.body.items c.root_row.result _ c.args.nodes.now c.nodes.node-index _
    c.nodes-test.true c.nodes.invariant c.root_row.ensures c.in_ok-extend_from_slice-2.ensures.items

pub returns : goal.returns
returns c =
    root_put c.args.nodes.now c.args.last c.args.body.now.items _ c.extend_from_slice.new.self.items c.nodes.body.items _ _ c.nodes.node-index
    c.to_le_bytes.ensures c.in_ok-extend_from_slice.ensures.items c.nodes.invariant (omega arith) c.root_row-2.ensures c.in_ok-extend_from_slice-3.ensures.items
