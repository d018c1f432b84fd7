-- Feeds of frames.
use Rattle.std.proofs.Common.{◌≡◌, ℕ, ◌≤◌, Bool, true, false, cond, eqb, List, [], ◌∷◌, ◌++◌, length, Option, refl, sym, ap, subst, ◌∙◌}
use Rattle.std.specs.Prelude.{nat_le, ◌&&◌}
use Rattle.std.specs.Io.KnownBytes.{Appends}
use Rattle.std.proofs.KnownBytes.{Appends-nil, Appends-trans}
use Rattle.std.proofs.lemmas.Bool.{eq-eqb, eqb-true, le-leb, leb-true, and_from, and_parts}
use Rattle.std.proofs.lemmas.List.{append_assoc}
use Rattle.std.proofs.lemmas.List.Concat.{flat_map-append}
use Rattle.eth_frame.specs.declared.frame.TheConstants.{MIN_FRAME_LEN}
use Rattle.eth_frame.specs.FeedRecord.{feed_record}
use Rattle.ch11_packet.specs.FramesRead.{ReadFrameData, frame_in}
use Rattle.rec_reader.specs.Packets.{PacketData}
use Rattle.rec_reader.specs.ChannelFrames.{channel_frames, feed_part, feed_of}

-- what was taken of the frames that a walk meets
pub record Taken (old new : Option (List ℕ)) (left all : List ReadFrameData) : Type 0 where
  pub bytes : List ℕ
  pub taken : Appends old new bytes
  pub whole : bytes ++ feed_of left ≡ feed_of all

pub takes_next : (old held new : Option (List ℕ)) (frame : ReadFrameData) (left rest all : List ReadFrameData) → Taken old held left all → left ≡ frame ∷ rest
    → Appends held new (feed_part frame)
    → Taken old new rest all
takes_next old held new frame left rest all before is a = record {
  bytes = before.bytes ++ feed_part frame;
  taken = Appends-trans old held new before.bytes (feed_part frame) before.taken a;
  whole = append_assoc before.bytes (feed_part frame) (feed_of rest) ∙ ap (λ l. before.bytes ++ feed_of l) (sym is) ∙ before.whole;
}
