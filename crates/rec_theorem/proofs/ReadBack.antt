-- A recording is read back.
use Rattle.std.proofs.Common.{ℕ, ◌≡◌, ◌^◌, ◌<◌, List, Option, None, sym, subst}
use Rattle.rec_writer.specs.Recording.{RecordedChannel, AreOfChannels, IsRecording}
use Rattle.rec_reader.specs.declared.fault.ReadFaultKind.{ReadFaultKind}
use Rattle.rec_reader.specs.Packets.{PacketData}
use Rattle.rec_reader.specs.Reading.{Reads}
use Rattle.rec_theorem.specs.Recordable.{AreRecordable}
use Rattle.rec_theorem.specs.Found.{ReadsBack}
use Rattle.rec_theorem.proofs.PacketReadings.{packets_of, reads_pieces, all_reflect}
use Rattle.rec_theorem.proofs.Recorded.{writable_pieces, have_accepted, no_others}
use Rattle.rec_theorem.proofs.Audited.{approved}

-- bytes have one reading
abbrev pub OneReading : Type 0
OneReading = (bytes : List ℕ) (packets others : List PacketData) (fault other : Option ReadFaultKind) → Reads bytes packets fault → Reads bytes others other
    → (packets ≡ others) × (fault ≡ other)

-- the packets of the pieces are the reading; each fact on it comes from the pieces beside them
pub read_back : OneReading → (version : ℕ) (channels : List RecordedChannel) (bytes : List ℕ) → version < 2 ^ 8 → AreRecordable channels
    → IsRecording version channels bytes → ReadsBack channels bytes
read_back one version channels bytes small are recording =
    let pieces = recording.0 in
    let of : AreOfChannels channels pieces = recording.2 in
    let writable = writable_pieces channels pieces are of in
    let packets = packets_of version pieces in
    let all = all_reflect version pieces writable in
    let reads = subst (λ bs. Reads bs packets None) (sym recording.1) (reads_pieces version pieces small writable) in
    record {
      packets = packets;
      reading = record { reads = reads; only = λ others fault other. one bytes packets others None fault reads other };
      frames = have_accepted packets pieces channels all of;
      no_others = no_others packets pieces channels all of.named;
      approved = approved channels packets pieces all are of;
    }
