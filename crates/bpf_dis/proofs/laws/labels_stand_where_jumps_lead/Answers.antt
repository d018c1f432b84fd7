use Rattle.bpf_dis.proofs.Targets.{target_is}
use Rattle.bpf_dis.proofs.laws.labels_stand_where_jumps_lead.Goals as goal

pub returns : goal.returns
returns c = target_is
