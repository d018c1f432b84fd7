-- A write of the first piece of a channel's ring.
use Rattle.std.proofs.Common.{ℕ, ◌≡◌, ◌⊎◌, inl, inr, true, List, [], ◌∷◌, Some, sym, subst, drop}
use Rattle.std.specs.Prelude.{slice_get}
use Rattle.rec_lane.specs.Pieces.{PieceData, channel_of}
use Rattle.rec_writer.specs.Writers.{WriterState, Knows, PutsWhole, PutsPart, PutFails}
use Rattle.rec_writer.specs.declared.fault.WriteFault.{WriteFault}
use Rattle.rec_writer.specs.declared.fault.WriteFault.TheVariants.{Output as OutputFailed, Failed}
use Rattle.rec_core.specs.declared.reply.Reply.TheVariants.{Wrote}
use Rattle.rec_core.specs.declared.fault.CoreFault.TheVariants.{Output}
use Rattle.rec_core.specs.Rings.{RingState, without_first}
use Rattle.rec_core.specs.World.{HasPacketLen}
use Rattle.rec_core.specs.World.EventData.{OfWrite}
use Rattle.rec_core.specs.Worlds.{ChannelParts, AreHeldParts}
use Rattle.rec_core.specs.Steps.{DoesEvent, RefusesEvent, Writes, FailsAtPiece}
use Rattle.rec_core.proofs.ListPlaces.{first_is}
use Rattle.rec_core.proofs.ChannelServing.{OfTheirChannel, BeginAll, front_is_of, write_done, write_failed}

-- the writer knows the channel of the first piece
pub front_known : OfTheirChannel → BeginAll → (parts : ChannelParts) (writer : WriterState) (piece : PieceData) → AreHeldParts parts
    → Knows writer parts.settings.channel → slice_get parts.ring 0 ≡ Some piece → Knows writer (channel_of piece)
front_known theirs begin parts writer piece held known first =
    subst (λ n. Knows writer n) (sym (front_is_of theirs begin parts piece (drop 1 parts.ring) held (first_is parts.ring piece first))) known

-- why it did not go out
fails_of : (old new : WriterState) (piece : PieceData) (fault : WriteFault) → PutFails old new piece fault
    → PutsPart old new piece ⊎ ((old.failed ≡ true) × (new ≡ old))
fails_of old new piece (OutputFailed whole bytes) p = inl p.0
fails_of old new piece (Failed whole bytes) p = inr (p.0, p.1)

pub write_fails : (size channel : ℕ) (parts : ChannelParts) (old new : WriterState) (piece : PieceData) (fault : WriteFault)
    → slice_get parts.ring 0 ≡ Some piece → PutFails old new piece fault
    → RefusesEvent size parts parts (OfWrite channel) Output × FailsAtPiece old new parts.ring
write_fails size channel parts old new piece fault first p =
    let front = first_is parts.ring piece first in (
      write_failed size channel parts piece (drop 1 parts.ring) front,
      record { piece = piece; rest = drop 1 parts.ring; front = front; fails = fails_of old new piece fault p },
    )

-- the parts of a channel with this ring
abbrev pub with_ring : ChannelParts → RingState → ChannelParts
with_ring parts ring = record parts { places = ring.places; ring = ring.pieces }

abbrev pub ring_of : ChannelParts → RingState
ring_of parts = record { places = parts.places; pieces = parts.ring }

pub write_writes : (size channel : ℕ) (parts : ChannelParts) (ring : RingState) (old new : WriterState) (piece : PieceData) (bytes : ℕ)
    → slice_get parts.ring 0 ≡ Some piece → ring ≡ without_first (ring_of parts) → HasPacketLen piece bytes → PutsWhole old new piece
    → (more : List PieceData) × DoesEvent size parts (with_ring parts ring) (OfWrite channel) (Wrote bytes) more × Writes old new more
write_writes size channel parts ring old new piece bytes first popped long puts = (
  piece ∷ [],
  subst (λ (r : RingState). DoesEvent size parts (with_ring parts r) (OfWrite channel) (Wrote bytes) (piece ∷ [])) (sym popped)
      (write_done size channel parts piece bytes (drop 1 parts.ring) (first_is parts.ring piece first) long),
  puts,
)
