use Rattle.std.proofs.Common.{◌≡◌, ◌++◌, ◌<◌, ◌≤◌, length, take, refl, ap, arith}
use Rattle.std.specs.List.{flat_map}
use Rattle.bpf_insn.specs.declared.insn.TheConstants.{MAX_INSNS}
use Rattle.bpf_insn.specs.Bytes.{insn_bytes}
use Rattle.std.proofs.lemmas.List.{length-append, length-take-le}
use Rattle.ch11_packet.proofs.RecordBytes.{length-insns, insns_more}
use Rattle.ch11_packet.proofs.records.encode.program_body.Goals as goal

pub append-requires-in-insns : goal.append-requires-in-insns
append-requires-in-insns c =
    let insns = c.insns-insns.result.now in
    let at = c.insns.insn-index in
    let lt : at < length insns = c.insns-test.true in
    let few : length c.args.program.now ≤ MAX_INSNS = c.insns-insns.ensures.valid.fits in
    let same = ap length c.insns-insns.ensures.program in
    let so_far : c.insns.body.items ≡ c.append.new.body.items ++ flat_map insn_bytes (take at insns) = c.insns.invariant in
    let head : length c.append.new.body.items ≡ 28 = rw (c.append.ensures, c.new-body.ensures) refl in
    let eight : length c.to_bytes.result ≡ 8 = ap length c.to_bytes.ensures.layout in
    omega (
      arith,
      ap length so_far,
      length-append c.append.new.body.items (flat_map insn_bytes (take at insns)),
      length-insns (take at insns),
      length-take-le at insns (omega arith),
      lt,
      few,
      same,
      head,
      eight,
    )

pub insns-preserved : goal.insns-preserved
insns-preserved c =
    insns_more c.append.new.body.items c.insns.body.items c.to_bytes.result _ c.insns-insns.result.now c.insns.insn-index _ c.insns-test.true c.insns.invariant
    c.to_bytes.ensures.layout c.append-in-insns.ensures
