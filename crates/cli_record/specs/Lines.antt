-- What `record` prints.
use Rattle.std.specs.Prelude.{ℕ, codes, List, [], ◌∷◌, ◌++◌, length}
use Rattle.std.specs.List.{flat_map}
use Rattle.std.specs.Fmt.{decimal}
use Rattle.eth_frame.specs.declared.source.SourceFault.{SourceFault}
use Rattle.eth_frame.specs.declared.source.SourceFault.TheVariants.{Truncated, Length, Marks}
use Rattle.eth_frame.specs.declared.source.SourceFault.TheVariants.{Device}
use Rattle.rec_run.specs.declared.ending.Ending.{Ending}
use Rattle.rec_run.specs.declared.ending.Ending.TheVariants.{SourceEnd}
use Rattle.rec_run.specs.declared.ending.Ending.TheVariants.{SourceFault as FaultOfSource, Memory}
use Rattle.rec_run.specs.declared.ending.Ending.TheVariants.{CountFull, Stopped}
use Rattle.rec_run.specs.declared.report.ChannelReport.{ChannelReport}

-- ---- how a channel ended

abbrev pub fault_text : SourceFault → List ℕ
fault_text Truncated = codes "Truncated"
fault_text Length = codes "Length"
fault_text Marks = codes "Marks"
fault_text Device = codes "Device"

abbrev pub ending_text : Ending → List ℕ
ending_text SourceEnd = codes "SourceEnd"
ending_text (FaultOfSource fault) = codes "SourceFault " ++ fault_text fault
ending_text Memory = codes "Memory"
ending_text CountFull = codes "CountFull"
ending_text Stopped = codes "Stopped"

-- ---- lines

-- how many programs a channel had, how many frames were offered to it and kept, and how it ended
abbrev pub channel_line : (id versions offered kept : ℕ) → Ending → List ℕ
channel_line id versions offered kept ending =
    codes "channel " ++ (decimal id ++ (codes " versions " ++ (decimal versions
    ++ (codes " offered " ++ (decimal offered ++ (codes " kept " ++ (decimal kept
    ++ (codes " " ++ (ending_text ending ++ (10 ∷ []))))))))))

-- how many packets were written, and their bytes
abbrev pub wrote_line : (pieces bytes : ℕ) → List ℕ
wrote_line pieces bytes =
    codes "wrote " ++ (decimal pieces ++ (codes " " ++ (decimal bytes ++ (10 ∷ []))))

module _ {S : Type 0} where
  abbrev pub report_line : ChannelReport S → List ℕ
  report_line channel =
      channel_line channel.channel
      (length channel.versions.items) channel.offered channel.kept channel.ending

  -- a line for each channel, and one of all
  abbrev pub report_lines : List (ChannelReport S) → (pieces bytes : ℕ) → List ℕ
  report_lines channels pieces bytes = flat_map report_line channels ++ wrote_line pieces bytes
