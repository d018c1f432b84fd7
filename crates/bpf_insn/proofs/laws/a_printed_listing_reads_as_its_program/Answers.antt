use Rattle.bpf_insn.proofs.PrintedListings.{reads_back}
use Rattle.bpf_insn.proofs.laws.a_printed_listing_reads_as_its_program.Goals as goal

pub returns : goal.returns
returns c = reads_back
