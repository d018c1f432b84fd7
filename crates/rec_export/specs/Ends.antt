-- What a fault of a packet is to the export of a recording.
use Rattle.rec_export.specs.declared.fault.ExportFault.{ExportFault}
use Rattle.rec_export.specs.declared.fault.ExportFault.TheVariants.{Output as PacketOutput}
use Rattle.rec_export.specs.declared.fault.ExportFault.TheVariants.{Memory as PacketMemory}
use Rattle.rec_export.specs.declared.fault.ExportEnd.{ExportEnd}
use Rattle.rec_export.specs.declared.fault.ExportEnd.TheVariants.{Output, Memory}

-- how the export ends at a fault of a packet
abbrev pub end_of : ExportFault → ExportEnd
end_of PacketOutput = Output
end_of PacketMemory = Memory
