-- What comments are to say of a channel's filter, by what packets say of the channel.
use Rattle.std.specs.Prelude.{ℕ, ◌==◌, if◌then◌else◌, List, [], ◌∷◌, ◌++◌, map, Option, None, Some}
use Rattle.std.specs.Option.{option_map}
use Rattle.std.specs.List.{flat_map}
use Rattle.ch11_packet.specs.FramesRead.{ReadFrameData}
use Rattle.rec_reader.specs.Packets.{PacketData}
use Rattle.rec_reader.specs.Channels.{Saying, saying_of}
use Rattle.rec_reader.specs.Channels.Saying.{OfFrames, OfProgram, OfEnd}
use Rattle.rec_export.specs.declared.version.FilterVersion.{FilterVersion}
use Rattle.rec_export.specs.declared.version.LaterVersions.{LaterVersions}
use Rattle.rec_export.specs.declared.version.LaterVersions.TheVariants.{One, Several}
use Rattle.rec_export.specs.Frames.{note_of}
use Rattle.rec_export.specs.Versions.{filter_version, version_text, later_text}

-- ---- what packets say of a channel

-- what is said of the channel, if it is of this one
abbrev pub said_on : (channel : ℕ) → Option (ℕ × Saying) → List Saying
said_on channel None = []
said_on channel (Some (named, saying)) = if named == channel then saying ∷ [] else []

-- what packets say of a channel, in order
abbrev pub sayings_on : (channel : ℕ) → List PacketData → List Saying
sayings_on channel packets =
    flat_map (λ (packet : PacketData). said_on channel (saying_of packet)) packets

-- ---- versions without a frame between them

-- the last of versions
abbrev pub last_version : FilterVersion → List FilterVersion → FilterVersion
last_version version [] = version
last_version version (next ∷ versions) = last_version next versions

-- they as later versions: one, or the first and the last of several
abbrev pub joined : List FilterVersion → Option LaterVersions
joined [] = None
joined (version ∷ []) = Some (One version)
joined (first ∷ next ∷ versions) = Some (Several first.number (last_version next versions))

-- ---- comments

-- a text as the only one, if there is one
abbrev pub only_text : Option (List ℕ) → List (List ℕ)
only_text None = []
only_text (Some text) = text ∷ []

-- the comments of a frame that stands behind these versions: what is said of them, and what is said
-- of bytes that are no frame
abbrev pub comments_behind : List FilterVersion → ReadFrameData → List (List ℕ)
comments_behind versions frame =
    only_text (option_map later_text (joined versions)) ++ only_text (note_of frame)

-- the comments of each frame among what is said of a channel, where these versions stand ahead: the
-- first frame behind a version has what is said of it
abbrev pub comments_from : (ahead : List FilterVersion) → List Saying → List (List (List ℕ))
comments_from ahead [] = []
comments_from ahead (OfFrames [] ∷ said) = comments_from ahead said
comments_from ahead (OfFrames (frame ∷ frames) ∷ said) =
    comments_behind ahead frame ∷ (map (comments_behind []) frames ++ comments_from [] said)
comments_from ahead (OfProgram program ∷ said) =
    comments_from (ahead ++ filter_version program ∷ []) said
comments_from ahead (OfEnd end ∷ said) = comments_from ahead said

-- the comments of each frame of a channel. A version that stands ahead of all packets of frames is
-- the comment of the interface, and of no frame
abbrev pub frame_comments : List Saying → List (List (List ℕ))
frame_comments [] = []
frame_comments (OfFrames frames ∷ said) = comments_from [] (OfFrames frames ∷ said)
frame_comments (OfProgram program ∷ said) = comments_from [] said
frame_comments (OfEnd end ∷ said) = frame_comments said

-- the comments of a channel's interface: that version, if there is one
abbrev pub interface_comments : List Saying → List (List ℕ)
interface_comments [] = []
interface_comments (OfFrames frames ∷ said) = []
interface_comments (OfProgram program ∷ said) = version_text (filter_version program) ∷ []
interface_comments (OfEnd end ∷ said) = interface_comments said
