-- A core of which nothing was taken stands for the opening world.
use Rattle.std.proofs.Common.{ℕ, ◌≡◌, ◌≢◌, false, List, [], ◌∷◌, Option, refl, sym, ◌∙◌, ap, subst, map, All}
use Rattle.std.specs.List.{AllZip}
use Rattle.std.proofs.lemmas.Bool.{both_ways}
use Rattle.rec_writer.specs.Numbers.{numbered_channels}
use Rattle.rec_writer.specs.Writers.{WriterState, HasWritten}
use Rattle.rec_core.specs.Openings.{SpecData, channels_of_specs}
use Rattle.rec_core.specs.World.{opening_channel, opening_world}
use Rattle.rec_core.specs.Worlds.{ChannelParts, HoldsChannel, StandsForWorld, channels_of_parts, IsCore}

pub opening_stands : (size : ℕ) (first : Option (List ℕ)) (specs : List SpecData) (channels : List ChannelParts) (writer : WriterState)
    → AllZip (HoldsChannel size) channels (map opening_channel specs) → HasWritten first [] [] writer → writer.failed ≡ false
    → StandsForWorld size first (record { channels = channels; writer = writer }) (opening_world specs)
opening_stands size first specs channels writer zip written works = record {
  channels_are = zip;
  cut = [];
  written = written;
  none_cut = λ _. refl;
  cut_at_front = λ fails. absurd (both_ways writer.failed works fails);
}

pub opening_core : (size : ℕ) (first : Option (List ℕ)) (specs : List SpecData) (channels : List ChannelParts) (writer : WriterState)
    → AllZip (HoldsChannel size) channels (map opening_channel specs) → HasWritten first [] [] writer → writer.failed ≡ false
    → numbered_channels writer.numbers ≡ 0 ∷ channels_of_specs specs → channels_of_parts channels ≡ channels_of_specs specs
    → All (λ (channel : ℕ). channel ≢ 0) (channels_of_specs specs)
    → IsCore (record { channels = channels; writer = writer })
opening_core size first specs channels writer zip written works numbers same named = record {
  known = numbers ∙ ap (λ cs. 0 ∷ cs) (sym same);
  named = subst (λ cs. All (λ (channel : ℕ). channel ≢ 0) cs) (sym same) named;
  size = size;
  first = first;
  world = opening_world specs;
  stands = opening_stands size first specs channels writer zip written works;
}
