use Rattle.std.proofs.Common.{sym, ◌∙◌, arith}
use Rattle.ch11_packet.proofs.StoredInsns.{insn_past, eight_there, insn_read}
use Rattle.ch11_packet.proofs.records.record.stored_insn.Goals as goal

pub returns-in_err-bytes : goal.returns-in_err-bytes
returns-in_err-bytes c = record {
  at = λ count len.
      let out = c.in_err-bytes.ensures.lookup.0 in
      rw c.from_residual.ensures (sym (insn_past count c.args.at c.args.insns.now (omega (arith, len, c.from-start.ensures, out))));
}

pub returns : goal.returns
returns c = record {
  at = λ count len.
      let found = c.in_ok-bytes.ensures.lookup.0 in
      insn_read count c.args.at c.args.insns.now c.in_ok-bytes.bytes.now c.from_bytes.result (λ i. omega (arith, c.type_inv.insns i))
      (omega (arith, len, c.from-start.ensures, found.1)) (found.2 ∙ eight_there c.args.insns.now c.from-start.result c.args.at c.from-start.ensures)
      c.from_bytes.ensures.inverse;
}
