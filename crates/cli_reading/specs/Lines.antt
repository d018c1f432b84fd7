-- What `extract` and `upgrade` print.
use Rattle.std.specs.Prelude.{ℕ, ◌≡◌, codes, List, [], ◌∷◌, ◌++◌, Option, None}
use Rattle.std.specs.Fmt.{decimal}
use Rattle.std.specs.Io.KnownBytes.{Appends}
use Rattle.rec_reader.specs.declared.extract.Extracted.{Extracted}
use Rattle.rec_reader.specs.declared.upgrades.Upgraded.{Upgraded}
use Rattle.rec_reader.specs.Packets.{PacketData}
use Rattle.rec_reader.specs.Reading.{Reads}
use Rattle.rec_reader.specs.ChannelFrames.{channel_frames}
use Rattle.rec_reader.specs.Extracting.{Counts}
use Rattle.rec_reader.specs.Upgrades.{counted_with}
use Rattle.cli_streams.specs.Digits.{SaysNumber}
use Rattle.cli_reading.specs.Written.{IsCounted}

-- how many frames were written into the feed, and how many of the channel were passed over, since
-- no feed can have them
abbrev pub extracted_line : ℕ → ℕ → List ℕ
extracted_line frames passed =
    codes "frames " ++ (decimal frames ++ (codes " passed " ++ (decimal passed ++ (10 ∷ []))))

-- the output took one such line
abbrev pub TakesCounts : Option (List ℕ) → Option (List ℕ) → Type 0
TakesCounts before after =
    (frames : ℕ) × (passed : ℕ) × Appends before after (extracted_line frames passed)

-- how many packets were given a data checksum, and how many were copied
abbrev pub upgraded_line : ℕ → ℕ → List ℕ
upgraded_line packets copied =
    codes "upgraded " ++ (decimal packets ++ (codes " copied " ++ (decimal copied ++ (10 ∷ []))))

-- the output took one such line
abbrev pub TakesUpgraded : Option (List ℕ) → Option (List ℕ) → Type 0
TakesUpgraded before after =
    (packets : ℕ) × (copied : ℕ) × Appends before after (upgraded_line packets copied)

-- ---- of a recording that is known

-- these are the counts of the channel's frames in a recording that is read to its end
pub record CountsExtracted (channel : ℕ) (recording : List ℕ) (extracted : Extracted) : Type 0 where
  pub packets : List PacketData
  pub reads : Reads recording packets None
  pub counted : Counts (record { frames = 0; passed = 0 }) extracted
      (channel_frames channel packets)

-- the output took the line of the frames of the channel that a word names
pub record PrintsExtracted (word recording : List ℕ) (before after : Option (List ℕ))
    : Type 0 where
  pub channel : ℕ
  pub named : SaysNumber word channel
  pub extracted : Extracted
  pub counts : CountsExtracted channel recording extracted
  pub took : Appends before after (extracted_line extracted.frames extracted.passed)

-- these are the counts of the packets of a recording that is read to its end, one after the other
abbrev pub CountsUpgrade : (recording : List ℕ) → Upgraded → Type 0
CountsUpgrade recording upgraded =
    IsCounted (λ (old : Upgraded) (packet : PacketData) (new : Upgraded).
    new ≡ counted_with old packet) recording (record { packets = 0; copied = 0 }) upgraded

-- the output took the line of the packets of a recording
pub record PrintsUpgraded (recording : List ℕ) (before after : Option (List ℕ)) : Type 0 where
  pub upgraded : Upgraded
  pub counts : CountsUpgrade recording upgraded
  pub took : Appends before after (upgraded_line upgraded.packets upgraded.copied)
