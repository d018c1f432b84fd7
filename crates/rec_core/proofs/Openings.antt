-- The channel IDs of specs and of channels, one by one.
use Rattle.std.proofs.Common.{ℕ, ◌+◌, ◌≡◌, ◌≢◌, ◌<◌, ◌≤◌, List, [], ◌∷◌, ◌++◌, length, Some, get_or, sym, ◌∙◌, ap, subst, arith, map, take, All}
use Rattle.std.specs.Prelude.{slice_get}
use Rattle.std.specs.List.{AllZip}
use Rattle.std.specs.Arc.{arc_value}
use Rattle.std.proofs.lemmas.List.{length-map, map-append, take_more, get_or_default}
use Rattle.std.proofs.lemmas.List.Elements.{All-push}
use Rattle.rec_lane.specs.declared.spec.LaneSpec.{LaneSpec}
use Rattle.rec_core.specs.declared.spec.ChannelSpec.{ChannelSpec}
use Rattle.rec_core.specs.declared.channel.Channel.{Channel}
use Rattle.rec_core.specs.Openings.{SpecData, IsFilter, HaveFilters, channels_of_specs}
use Rattle.rec_core.specs.World.{opening_channel}
use Rattle.rec_core.specs.Worlds.{ChannelParts, HoldsChannel, channels_of_parts}
use Rattle.rec_core.specs.Views.{channel_spec_data, specs_data, channel_parts, all_parts}
use Rattle.rec_core.proofs.ListPlaces.{zip_push, map_at, map_more, there_map}
use Rattle.std.proofs.lemmas.Option.{slice_get-get_or}

pub channel_at : (specs : List ChannelSpec) (k : ℕ) (spec : ChannelSpec) → k < length specs
    → get_or (channels_of_specs (specs_data specs)) k 0 ≡ (get_or specs k spec).lane.channel
channel_at specs k spec within =
    map_at (λ (s : SpecData). s.settings.channel) (specs_data specs) k (channel_spec_data spec) 0 (let e = length-map specs channel_spec_data in
    omega (arith, e, within))
    ∙ ap (λ (s : SpecData). s.settings.channel) (map_at channel_spec_data specs k spec (channel_spec_data spec) within)

-- the channel IDs of one spec more
pub channels_more : (specs : List ChannelSpec) (k : ℕ) (spec : ChannelSpec) → k < length specs
    → take (k + 1) (channels_of_specs (specs_data specs)) ≡ take k (channels_of_specs (specs_data specs)) ++ (get_or specs k spec).lane.channel ∷ []
channels_more specs k spec within =
    let a = length-map specs channel_spec_data in
    let b = length-map (specs_data specs) (λ (s : SpecData). s.settings.channel) in
    take_more (channels_of_specs (specs_data specs)) k 0 (omega (arith, a, b, within))
    ∙ ap (λ n. take k (channels_of_specs (specs_data specs)) ++ n ∷ []) (channel_at specs k spec within)

pub parts_at : (channels : List Channel) (k : ℕ) (channel : Channel) → k < length channels
    → slice_get (all_parts channels) k ≡ Some (channel_parts (get_or channels k channel))
parts_at channels k channel within = there_map channel_parts channels k (get_or channels k channel) (slice_get-get_or channels k channel within)

pub id_at : (channels : List Channel) (k : ℕ) (channel : Channel) → k < length channels
    → slice_get (channels_of_parts (all_parts channels)) k ≡ Some (get_or channels k channel).spec.channel
id_at channels k channel within = there_map (λ (p : ChannelParts). p.settings.channel) (all_parts channels) k (channel_parts (get_or channels k channel))
    (parts_at channels k channel within)

pub ids_len : (channels : List Channel) → length (channels_of_parts (all_parts channels)) ≡ length channels
ids_len channels = length-map (all_parts channels) (λ (p : ChannelParts). p.settings.channel) ∙ length-map channels channel_parts

-- no ID up to the end is this one
pub none_is : (ids : List ℕ) (channel at : ℕ) → length ids ≤ at → ((j : ℕ) → j < at → get_or ids j 0 ≢ channel) → All (λ (other : ℕ). other ≢ channel) ids
none_is ids channel at past none k d within = λ e. none k (omega (arith, past, within)) (get_or_default ids k 0 d within ∙ e)

-- ---- one channel more

pub opened_more : (size : ℕ) (specs : List ChannelSpec) (k : ℕ) (spec : ChannelSpec) (channels more : List Channel) (channel : Channel)
    → k < length specs → spec ≡ get_or specs k spec → more ≡ channels ++ channel ∷ []
    → HoldsChannel size (channel_parts channel) (opening_channel (channel_spec_data spec))
    → AllZip (HoldsChannel size) (all_parts channels) (map opening_channel (specs_data (take k specs)))
    → AllZip (HoldsChannel size) (all_parts more) (map opening_channel (specs_data (take (k + 1) specs)))
opened_more size specs k spec channels more channel within is pushed holds zip =
    let parts : all_parts more ≡ all_parts channels ++ channel_parts channel ∷ [] = ap all_parts pushed ∙ map-append channel_parts channels (channel ∷ []) in
    let more_data : specs_data (take (k + 1) specs) ≡ specs_data (take k specs) ++ channel_spec_data spec ∷ [] =
    map_more channel_spec_data specs k spec within is in
    let states : map opening_channel (specs_data (take (k + 1) specs))
    ≡ map opening_channel (specs_data (take k specs)) ++ opening_channel (channel_spec_data spec) ∷ [] =
    ap (map opening_channel) more_data ∙ map-append opening_channel (specs_data (take k specs)) (channel_spec_data spec ∷ []) in
    subst (λ ps. AllZip (HoldsChannel size) ps (map opening_channel (specs_data (take (k + 1) specs)))) (sym parts)
    (subst (λ cs. AllZip (HoldsChannel size) (all_parts channels ++ channel_parts channel ∷ []) cs) (sym states)
    (zip_push (HoldsChannel size) (all_parts channels) (map opening_channel (specs_data (take k specs))) (channel_parts channel)
    (opening_channel (channel_spec_data spec)) zip holds))

pub ids_more : (specs : List ChannelSpec) (k : ℕ) (spec : ChannelSpec) (channels more : List Channel) (channel : Channel)
    → k < length specs → spec ≡ get_or specs k spec → more ≡ channels ++ channel ∷ [] → channel.spec ≡ spec.lane
    → channels_of_parts (all_parts channels) ≡ channels_of_specs (specs_data (take k specs))
    → channels_of_parts (all_parts more) ≡ channels_of_specs (specs_data (take (k + 1) specs))
ids_more specs k spec channels more channel within is pushed lane same =
    let parts : all_parts more ≡ all_parts channels ++ channel_parts channel ∷ [] = ap all_parts pushed ∙ map-append channel_parts channels (channel ∷ []) in
    let more_data : specs_data (take (k + 1) specs) ≡ specs_data (take k specs) ++ channel_spec_data spec ∷ [] =
    map_more channel_spec_data specs k spec within is in
    ap channels_of_parts parts
    ∙ (map-append (λ (p : ChannelParts). p.settings.channel) (all_parts channels) (channel_parts channel ∷ [])
    ∙ (ap (λ ns. ns ++ channel.spec.channel ∷ []) same
    ∙ (ap (λ n. channels_of_specs (specs_data (take k specs)) ++ n ∷ []) (ap (λ (l : LaneSpec). l.channel) lane)
    ∙ sym (ap channels_of_specs more_data ∙ map-append (λ (s : SpecData). s.settings.channel) (specs_data (take k specs)) (channel_spec_data spec ∷ [])))))

pub filters_more : (specs : List ChannelSpec) (k : ℕ) (spec : ChannelSpec)
    → k < length specs → spec ≡ get_or specs k spec → IsFilter (arc_value spec.program) → HaveFilters (specs_data (take k specs))
    → HaveFilters (specs_data (take (k + 1) specs))
filters_more specs k spec within is filter have =
    subst HaveFilters (sym (map_more channel_spec_data specs k spec within is))
    (All-push (λ (s : SpecData). IsFilter s.program) (specs_data (take k specs)) (channel_spec_data spec) have filter)
