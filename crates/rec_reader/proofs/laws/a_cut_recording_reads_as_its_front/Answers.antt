use Rattle.std.proofs.lemmas.List.Concat.{flat_map-append}
use Rattle.rec_reader.proofs.CutRecordings.{reads_as_front}
use Rattle.rec_reader.proofs.laws.a_cut_recording_reads_as_its_front.Goals as goal

pub returns-clause-packets : goal.returns-clause-packets
returns-clause-packets c = λ front rest packets reads. reads_as_front front rest packets reads

pub returns-clause-frames : goal.returns-clause-frames
returns-clause-frames c = λ channel packets more. flat_map-append _ packets more
