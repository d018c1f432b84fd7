use Rattle.std.proofs.Common.{◌∙◌}
use Rattle.ch11_packet.specs.Views.{record_insns}
use Rattle.rec_reader.proofs.StoredPrograms.{one_more_taken, all_taken}
use Rattle.rec_runs.proofs.channel.insns_of.Goals as goal

pub insns-preserved : goal.insns-preserved
insns-preserved c =
    c.in_ok-push.ensures.items ∙ one_more_taken (record_insns c.args.program.now) c.insns.insns.items c.insns.at c.in-Some.insn c.insns.invariant
    c.in-Some.ensures.at

pub returns : goal.returns
returns c = all_taken c.args.program.now c.insns.insns.items c.insns.at c.insns.invariant c.insns-test.false
