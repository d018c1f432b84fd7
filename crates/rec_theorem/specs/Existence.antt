-- What there is for the laws to speak of: channels side by side, and what a core is set to for
-- them.
use Rattle.std.specs.Prelude.{ℕ, List, [], ◌∷◌, length, map}
use Rattle.bpf_insn.specs.declared.insn.Insn.{Insn}
use Rattle.rec_channel.specs.History.{Version}
use Rattle.rec_writer.specs.Recording.{RecordedChannel}
use Rattle.rec_core.specs.Openings.{SpecData}

-- the channel IDs
abbrev pub channel_ids : List RecordedChannel → List ℕ
channel_ids channels = map (λ (c : RecordedChannel). c.settings.channel) channels

-- the program of the first version; of a history there is one
abbrev pub first_program : List Version → List Insn
first_program [] = []
first_program (v ∷ vs) = v.program

-- what a core's channel is set to that may have just these frames, and begins with the first
-- version
abbrev pub spec_of : RecordedChannel → SpecData
spec_of c =
    record { settings = c.settings; program = first_program c.history; max = length c.frames }

abbrev pub specs_of : List RecordedChannel → List SpecData
specs_of channels = map spec_of channels
