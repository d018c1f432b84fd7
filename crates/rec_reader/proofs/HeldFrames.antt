-- The frames that a packet holds.
use Rattle.std.proofs.Common.{◌≡◌, ℕ, List, sym, ap, subst, ◌∙◌}
use Rattle.ch11_packet.specs.declared.class.What.{What}
use Rattle.ch11_packet.specs.declared.class.What.TheVariants.{Frames}
use Rattle.ch11_packet.specs.Header.{HeaderData}
use Rattle.ch11_packet.specs.FramesRead.{ReadFrameData, SpellsBody, IsBodyOf}
use Rattle.ch11_packet.specs.Classes.{Holds, data_in, said_frames}
use Rattle.rec_reader.specs.ChannelFrames.{frames_held}

-- the data of a packet that holds frames are the body of as many
pub body_held : (header : HeaderData) (body bytes : List ℕ) (what : What) (count : ℕ) → bytes ≡ data_in header body → what ≡ Frames count
    → Holds header body what → IsBodyOf count bytes
body_held header body bytes what count is counted holds =
    let held = subst (Holds header body) counted holds in
    (held.class.1, subst (SpellsBody held.class.1) (sym is) held.class.2, held.class.3)

-- the frames that they say are the packet's
pub frames_said : (header : HeaderData) (body bytes : List ℕ) (what : What) (count : ℕ) (frames : List ReadFrameData) → bytes ≡ data_in header body
    → what ≡ Frames count
    → said_frames bytes ≡ frames → frames ≡ frames_held what (data_in header body)
frames_said header body bytes what count frames is counted said =
    sym said ∙ ap said_frames is ∙ ap (λ held. frames_held held (data_in header body)) (sym counted)
