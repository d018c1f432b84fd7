use Rattle.bpf_asm.proofs.Arp.{arp_denoted}
use Rattle.bpf_asm.proofs.laws.the_arp_text_denotes_the_arp_filter.Goals as goal

pub returns : goal.returns
returns c = arp_denoted
