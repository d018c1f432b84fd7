use Rattle.rec_export.specs.Export.{first_state}
use Rattle.rec_export.proofs.ShownFrames.{frames_shown, no_frames, names_shown}
use Rattle.rec_export.proofs.laws.an_interface_shows_the_frames_of_its_channel.Goals as goal

pub returns-clause-frames : goal.returns-clause-frames
returns-clause-frames c = λ origin packets channel is. frames_shown (first_state origin) packets channel is

pub returns-clause-none : goal.returns-clause-none
returns-clause-none c = λ origin packets channel isnt. no_frames (first_state origin) packets channel isnt

pub returns-clause-names : goal.returns-clause-names
returns-clause-names c = λ origin packets. names_shown (first_state origin) packets
