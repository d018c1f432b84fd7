-- What the end of a file comes to, for who knows its recording.
use Rattle.ch11_merge.specs.declared.source.PieceFault.{PieceFault}
use Rattle.ch11_merge.specs.declared.source.PieceFault.TheVariants.{Device as NoDevice}
use Rattle.ch11_merge.specs.declared.source.PieceFault.TheVariants.{Memory as NoMemory}
use Rattle.ch11_file.specs.declared.end.Refusal.{Refusal}
use Rattle.ch11_file.specs.declared.end.Refusal.TheVariants.{Disorder as IsDisordered}
use Rattle.ch11_file.specs.declared.end.Refusal.TheVariants.{Gap as HasGap, Origin as NoOrigin}
use Rattle.ch11_file.specs.declared.end.Refusal.TheVariants.{Year as NoYear}
use Rattle.ch11_file.specs.declared.end.FileEnd.{FileEnd}
use Rattle.ch11_file.specs.declared.end.FileEnd.TheVariants.{Refused as IsRefused, Pieces, Write}
use Rattle.ch11_file.specs.declared.end.FileFault.{FileFault}
use Rattle.ch11_file.specs.declared.end.FileFault.TheVariants.{Memory as LacksMemory}
use Rattle.ch11_file.specs.declared.end.FileFault.TheVariants.{Output as OutputFails, Long}
use Rattle.rec_whole.specs.declared.refusal.WholeRefusal.{WholeRefusal}
use Rattle.rec_whole.specs.declared.refusal.WholeRefusal.TheVariants.{Disorder, Gap, Origin, Year}
use Rattle.rec_whole.specs.declared.refusal.WholeEnd.{WholeEnd}
use Rattle.rec_whole.specs.declared.refusal.WholeEnd.TheVariants.{Refused, Recording, Output}
use Rattle.rec_whole.specs.declared.refusal.WholeEnd.TheVariants.{Memory}

abbrev pub refusal_of : Refusal → WholeRefusal
refusal_of (IsDisordered at) = Disorder at
refusal_of (HasGap at) = Gap at
refusal_of NoOrigin = Origin
refusal_of NoYear = Year

abbrev pub end_of_pieces : PieceFault → WholeEnd
end_of_pieces NoDevice = Recording
end_of_pieces NoMemory = Memory

abbrev pub end_of_fault : FileFault → WholeEnd
end_of_fault LacksMemory = Memory
end_of_fault OutputFails = Output
end_of_fault Long = Output

abbrev pub end_of_file : FileEnd → WholeEnd
end_of_file (IsRefused refusal) = Refused (refusal_of refusal)
end_of_file (Pieces fault) = end_of_pieces fault
end_of_file (Write fault) = end_of_fault fault
