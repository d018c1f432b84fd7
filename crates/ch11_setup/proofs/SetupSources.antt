-- The data sources that a reader of a setup record finds.
use Rattle.std.proofs.Common.{ℕ, ◌+◌, ◌≡◌, Bool, true, false, List, [], ◌∷◌, ◌++◌, map, filter, drop, length, refl, ap, ◌∙◌, codes, cond}
use Rattle.std.proofs.Common.{decimal, append-nil}
use Rattle.std.proofs.lemmas.List.{map-append}
use Rattle.std.proofs.lemmas.List.Elements.{filter-append}
use Rattle.ch11_setup.specs.declared.setup.Setup.{Setup}
use Rattle.ch11_setup.specs.declared.setup.SetupChannel.{SetupChannel}
use Rattle.ch11_setup.specs.Attributes.{AttributeData}
use Rattle.ch11_setup.specs.Names.{cleaned, source_name}
use Rattle.ch11_setup.specs.Lines.{general_attributes, recorder_attributes, content_attributes, time_attributes, channel_attributes}
use Rattle.ch11_setup.specs.Lines.{comment_attribute}
use Rattle.ch11_setup.specs.Setups.{channels_attributes, given_attributes, recording_attributes, source_attributes, setup_attributes, test_name}
use Rattle.ch11_setup.specs.Sources.{begins_so, is_named_so, values_behind, values_named, HasNoneOf, first_network, said_of_each, SaysSources, NamesNoSource}

-- ---- what is said of the recording, with an index or without

abbrev recording_with : Setup → (is_indexed : Bool) → List AttributeData
recording_with setup is_indexed =
    general_attributes (test_name setup.attributes.now) (cleaned setup.host.now) setup.time
    ++ (recorder_attributes (cleaned setup.host.now) (cleaned setup.program.now) setup.time
    ++ content_attributes is_indexed (length setup.channels.now + 1))

-- ---- attributes that are picked

module _ {V : Type 0} (is_one : AttributeData → Bool) (value : AttributeData → V) where
  abbrev picked : List AttributeData → List V
  picked attributes = map value (filter is_one attributes)

  picked_append : (attributes others : List AttributeData) → picked (attributes ++ others) ≡ picked attributes ++ picked others
  picked_append attributes others =
      ap (map value) (filter-append is_one attributes others) ∙ map-append value (filter is_one attributes) (filter is_one others)

  picked_none : (attributes : List AttributeData) → HasNoneOf is_one attributes → picked attributes ≡ []
  picked_none [] none = refl
  picked_none (attribute ∷ attributes) none =
      ap (λ b. map value (cond b (attribute ∷ filter is_one attributes) (filter is_one attributes))) none.0 ∙ picked_none attributes none.1

  in_either : (setup : Setup) (first : List V) → picked (recording_with setup true) ≡ first → picked (recording_with setup false) ≡ first
      → (is_indexed : Bool) → picked (recording_with setup is_indexed) ≡ first
  in_either setup first indexed unindexed true = indexed
  in_either setup first indexed unindexed false = unindexed

  -- of all attributes these are picked: some of the recording's, some of the time channel's, and of each channel's
  of_all : (setup : Setup) (first time : List V) (each : List V) → picked (recording_with setup true) ≡ first
      → picked (recording_with setup false) ≡ first
      → picked (time_attributes setup.time_channel setup.is_external) ≡ time → picked (channels_attributes 2 setup.channels.now) ≡ each
      → is_one comment_attribute ≡ false → HasNoneOf is_one (given_attributes setup.attributes.now)
      → picked (setup_attributes setup) ≡ first ++ (time ++ each)
  of_all setup first time each indexed unindexed in_time in_each comment none =
      let in_recording = in_either setup first indexed unindexed setup.is_indexed in
      let given = given_attributes setup.attributes.now in
      let sources = source_attributes setup in
      let last : picked (comment_attribute ∷ given) ≡ [] = picked_none (comment_attribute ∷ given) (comment, none) in
      let of_sources : picked sources ≡ time ++ each =
      picked_append (time_attributes setup.time_channel setup.is_external) (channels_attributes 2 setup.channels.now)
      ∙ ap (λ l. l ++ picked (channels_attributes 2 setup.channels.now)) in_time ∙ ap (λ l. time ++ l) in_each in
      picked_append (recording_attributes setup) (sources ++ (comment_attribute ∷ given))
      ∙ ap (λ l. l ++ picked (sources ++ (comment_attribute ∷ given))) in_recording
      ∙ ap (λ l. first ++ l) (picked_append sources (comment_attribute ∷ given) ∙ ap (λ l. picked sources ++ l) last
      ∙ append-nil (picked sources) ∙ of_sources)

-- ---- channels

abbrev here : (n : ℕ) → SetupChannel → List AttributeData
here n channel = channel_attributes n channel.id channel.net (source_name channel.name.now channel.id) (cleaned channel.name.now)

module _ (is_one : AttributeData → Bool) (value : AttributeData → List ℕ × List ℕ) (number : ℕ → List ℕ) (said : SetupChannel → List ℕ)
    (at_each : (n : ℕ) (channel : SetupChannel) → picked is_one value (here n channel) ≡ (number n, said channel) ∷ []) where
  each_said : (n : ℕ) (channels : List SetupChannel) → picked is_one value (channels_attributes n channels) ≡ said_of_each number said n channels
  each_said n [] = refl
  each_said n (channel ∷ channels) =
      picked_append is_one value (here n channel) (channels_attributes (n + 1) channels)
      ∙ ap (λ l. l ++ picked is_one value (channels_attributes (n + 1) channels)) (at_each n channel)
      ∙ ap (λ l. (number n, said channel) ∷ l) (each_said (n + 1) channels)

none_counted : (n : ℕ) (channels : List SetupChannel) → values_named (codes "R-1\\N") (channels_attributes n channels) ≡ []
none_counted n [] = refl
none_counted n (channel ∷ channels) =
    picked_append (is_named_so (codes "R-1\\N")) (λ a. a.value) (here n channel) (channels_attributes (n + 1) channels)
    ∙ none_counted (n + 1) channels

-- ---- the sources

abbrev behind : (front : List ℕ) → AttributeData → List ℕ × List ℕ
behind front a = (drop (length front) a.name, a.value)

pub sources_said : (setup : Setup) → NamesNoSource (given_attributes setup.attributes.now) → SaysSources setup (setup_attributes setup)
sources_said setup none =
    let channels = setup.channels.now in record {
      count = of_all (is_named_so (codes "R-1\\N")) (λ a. a.value) setup (decimal (length channels + 1) ∷ []) [] []
          refl refl refl (none_counted 2 channels) refl none.count;
      numbers = of_all (begins_so (codes "R-1\\TK1-")) (behind (codes "R-1\\TK1-")) setup [] ((codes "1", decimal setup.time_channel) ∷ [])
          (said_of_each decimal (λ c. decimal c.id) 2 channels) refl refl refl
          (each_said _ _ decimal (λ c. decimal c.id) (λ n c. refl) 2 channels) refl none.numbers;
      types = of_all (begins_so (codes "R-1\\CDT-")) (behind (codes "R-1\\CDT-")) setup [] ((codes "1", codes "TIMEIN") ∷ [])
          (said_of_each decimal (λ c. codes "ETHIN") 2 channels) refl refl refl
          (each_said _ _ decimal (λ c. codes "ETHIN") (λ n c. refl) 2 channels) refl none.types;
      names = of_all (begins_so (codes "R-1\\DSI-")) (behind (codes "R-1\\DSI-")) setup [] ((codes "1", codes "TIME") ∷ [])
          (said_of_each decimal (λ c. source_name c.name.now c.id) 2 channels) refl refl refl
          (each_said _ _ decimal (λ c. source_name c.name.now c.id) (λ n c. refl) 2 channels) refl none.names;
      networks = of_all (begins_so (codes "R-1\\ENBR-")) (behind (codes "R-1\\ENBR-")) setup [] []
          (said_of_each first_network (λ c. decimal c.net) 2 channels) refl refl refl
          (each_said _ _ first_network (λ c. decimal c.net) (λ n c. refl) 2 channels) refl none.networks;
      network_names = of_all (begins_so (codes "R-1\\ENAM-")) (behind (codes "R-1\\ENAM-")) setup [] []
          (said_of_each first_network (λ c. cleaned c.name.now) 2 channels) refl refl refl
          (each_said _ _ first_network (λ c. cleaned c.name.now) (λ n c. refl) 2 channels) refl none.network_names;
    }
