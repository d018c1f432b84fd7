-- What the interfaces of an export show: each the frames of its channel.
use Rattle.std.proofs.Common.{◌≡◌, ℕ, ◌<◌, ◌≤◌, ◌⊎◌, inl, inr, true, false, List, [], ◌∷◌, ◌++◌, length, get_or, map, Option, None, Some, refl, sym, ap, subst}
use Rattle.std.proofs.Common.{◌∙◌, arith}
use Rattle.std.specs.Prelude.{◌==◌, slice_get}
use Rattle.std.specs.Option.{option_map}
use Rattle.std.specs.List.{Contains}
use Rattle.std.proofs.Math.Dec.{eqb}
use Rattle.std.proofs.lemmas.Bool.{eq-eqb, ne_eqb, lt-ltb, ltb-true, cases_Bool}
use Rattle.std.proofs.lemmas.List.{length-map, get_or-map}
use Rattle.std.proofs.lemmas.List.Sums.{position_or_len_is}
use Rattle.std.proofs.lemmas.Map.Keys.{apart_from_distinct}
use Rattle.std.proofs.lemmas.Option.{slice_get_cases}
use Rattle.rec_reader.specs.Packets.{PacketData, BeginSomeBytes}
use Rattle.rec_reader.specs.Channels.{Saying, saying_of}
use Rattle.rec_reader.specs.Channels.Saying.{OfFrames, OfProgram, OfEnd}
use Rattle.rec_export.specs.Versions.{filter_version, later_text}
use Rattle.rec_export.specs.Frames.{frame_blocks}
use Rattle.rec_export.specs.Interfaces.{Interface, channel_name, number_of, is_described, later_of}
use Rattle.rec_export.specs.Export.{ExportState, description, later_behind, blocks_said, state_said, packet_blocks, state_behind, packets_blocks}
use Rattle.rec_export.specs.Export.{state_behind_all, first_state, export_blocks}
use Rattle.rec_export.specs.Comments.{sayings_on, interface_comments}
use Rattle.rec_export.specs.Shown.{frames_on, comments_on, interfaces_in, interface_name}
use Rattle.rec_export.specs.Found.{ShowChannels}
use Rattle.rec_export.proofs.Numbering.{no_interface, stands_at, takes_number, keeps_all}
use Rattle.rec_export.proofs.ShownFrames.{frames_on-append, frames_elsewhere, no_frames_described, frames_shown, no_frames, names_shown}
use Rattle.rec_export.proofs.Order.{one_section, described_ahead_of_packets}
use Rattle.rec_export.proofs.ShownComments.{comments_shown}
use Rattle.rec_export.proofs.Described.{StandsDescribed, found_there, described_shown}
use Rattle.rec_export.proofs.Widths.{AreInterfaces, channel_of, export_fits}

-- ---- no frame on an interface that isn't described

said_beyond : (n : ℕ) (state : ExportState) (said : Option (ℕ × Saying)) (packets : List PacketData)
    → length (state_behind_all (state_said state said) packets).interfaces ≤ n → frames_on n (blocks_said state said) ≡ []
said_beyond n state (Some (channel, OfFrames frames)) packets past =
    let comment = option_map later_text (later_of channel state.interfaces) in
    let its = number_of channel state.interfaces in
    let last = (state_behind_all (state_said state (Some (channel, OfFrames frames))) packets).interfaces in
    let taken = takes_number channel (later_behind frames (later_of channel state.interfaces)) state.interfaces in
    let kept = keeps_all channel (state_said state (Some (channel, OfFrames frames))) packets taken.described in
    let within = ltb-true (number_of channel last) (length last) kept.described in
    let first = taken.number in
    let then = kept.number in
    frames_on-append n (description state channel None) (frame_blocks its comment frames)
    ∙ ap (λ l. l ++ frames_on n (frame_blocks its comment frames)) (no_frames_described n state channel None)
    ∙ frames_elsewhere n its comment frames (ne_eqb its n (λ same. let same' = same in omega (arith, within, first, then, past, same')))
said_beyond n state (Some (channel, OfProgram program)) packets past = no_frames_described n state channel (Some (filter_version program))
said_beyond n state (Some (channel, OfEnd end)) packets past = refl
said_beyond n state None packets past = refl

frames_beyond : (n : ℕ) (state : ExportState) (packets : List PacketData) → length (state_behind_all state packets).interfaces ≤ n
    → frames_on n (packets_blocks state packets) ≡ []
frames_beyond n state [] past = refl
frames_beyond n state (packet ∷ packets) past =
    frames_on-append n (packet_blocks state packet) (packets_blocks (state_behind state packet) packets)
    ∙ ap (λ l. l ++ frames_on n (packets_blocks (state_behind state packet) packets)) (said_beyond n state (saying_of packet) packets past)
    ∙ frames_beyond n (state_behind state packet) packets past

-- ---- the channels of interfaces

names_of : (interfaces : List Interface) → map interface_name interfaces ≡ map (λ (channel : ℕ). Some (channel_name channel)) (map channel_of interfaces)
names_of [] = refl
names_of (interface ∷ interfaces) = ap (λ l. interface_name interface ∷ l) (names_of interfaces)

-- an interface has its place as the number of its channel
own_number : (interfaces : List Interface) (k : ℕ) → AreInterfaces interfaces → k < length interfaces
    → number_of (get_or interfaces k no_interface).channel interfaces ≡ k
own_number interfaces k are within =
    position_or_len_is (λ (interface : Interface). interface.channel == (get_or interfaces k no_interface).channel) interfaces k no_interface
    (omega (arith, within)) before (λ _. eq-eqb _ _ refl)
  where
    its : (j : ℕ) → j < length interfaces → get_or (map channel_of interfaces) j 0 ≡ (get_or interfaces j no_interface).channel
    its j there = get_or-map channel_of interfaces j no_interface 0 there

    before : (j : ℕ) → j < k → ((get_or interfaces j no_interface).channel == (get_or interfaces k no_interface).channel) ≡ false
    before j less =
        let len = length-map interfaces channel_of in
        ap (λ c. c == (get_or interfaces k no_interface).channel) (sym (its j (omega (arith, less, within))))
        ∙ ap (λ c. get_or (map channel_of interfaces) j 0 == c) (sym (its k within))
        ∙ apart_from_distinct eqb (map channel_of interfaces) j k 0 are.once less (omega (arith, within, len))

-- the channel at a place
record StandsAt (channel number : ℕ) (interfaces : List Interface) : Type 0 where
  pub described : is_described channel interfaces ≡ true
  pub number_is : number_of channel interfaces ≡ number

stands_there : (interfaces : List Interface) (channel number : ℕ) → AreInterfaces interfaces → slice_get (map channel_of interfaces) number ≡ Some channel
    → StandsAt channel number interfaces
stands_there interfaces channel number are at = by_cases (slice_get_cases (map channel_of interfaces) number).1
  where
    some : (it : ℕ) → Some it ≡ Some channel → it ≡ channel
    some it same = cc

    by_cases : ((it : ℕ) × (number < length (map channel_of interfaces)) × (slice_get (map channel_of interfaces) number ≡ Some it)
        × (get_or (map channel_of interfaces) number it ≡ it))
        ⊎ ((length (map channel_of interfaces) ≤ number) × (slice_get (map channel_of interfaces) number ≡ None)) → StandsAt channel number interfaces
    by_cases (inl there) =
        let len = length-map interfaces channel_of in
        let listed = there.1 in
        let within : number < length interfaces = omega (arith, len, listed) in
        let is : (get_or interfaces number no_interface).channel ≡ channel =
        sym (get_or-map channel_of interfaces number no_interface there.0 within) ∙ there.3 ∙ some there.0 (sym there.2 ∙ at) in
        let its : number_of channel interfaces ≡ number = ap (λ c. number_of c interfaces) (sym is) ∙ own_number interfaces number are within in
        record { described = lt-ltb (number_of channel interfaces) (length interfaces) (omega (arith, its, within)); number_is = its }
    by_cases (inr past) = absurd (none (sym past.1 ∙ at))
      where
        none : None ≡ Some channel → ⊥
        none same = cc

without : (interfaces : List Interface) (channel : ℕ) → (Contains (map channel_of interfaces) channel → ⊥) → is_described channel interfaces ≡ false
without interfaces channel absent = by_cases (cases_Bool (is_described channel interfaces))
  where
    by_cases : (is_described channel interfaces ≡ true) ⊎ (is_described channel interfaces ≡ false) → is_described channel interfaces ≡ false
    by_cases (inl is) =
        let number = number_of channel interfaces in
        let within = ltb-true number (length interfaces) is in
        let len = length-map interfaces channel_of in
        absurd (absent (
          number,
          omega (arith, within, len),
          get_or-map channel_of interfaces number no_interface channel within
              ∙ stands_at channel interfaces is,
        ))
    by_cases (inr isnt) = isnt

-- ---- the export

pub shows_channels : (origin : Option ℕ) (packets : List PacketData) → BeginSomeBytes packets
    → ShowChannels origin (map channel_of (state_behind_all (first_state origin) packets).interfaces) packets (export_blocks origin packets)
shows_channels origin packets begin =
    let state = first_state origin in
    let last = (state_behind_all state packets).interfaces in
    let are = (export_fits origin packets begin).1 in
    record {
      section = one_section origin packets;
      ahead = described_ahead_of_packets origin packets;
      names = names_shown state packets ∙ names_of last;
      once = are.once;
      described = λ number channel at.
          (let it = stands_there last channel number are at in
          found_there origin channel number (interface_comments (sayings_on channel packets)) (interfaces_in (packets_blocks state packets))
          (subst (λ n. StandsDescribed origin channel 0 n (interface_comments (sayings_on channel packets)) (interfaces_in (packets_blocks state packets)))
          it.number_is (described_shown channel packets state refl it.described)));
      frames = λ number channel at.
          (let it = stands_there last channel number are at in
          ap (λ n. frames_on n (packets_blocks state packets)) (sym it.number_is) ∙ frames_shown state packets channel it.described);
      comments = λ number channel at.
          (let it = stands_there last channel number are at in
          ap (λ n. comments_on n (packets_blocks state packets)) (sym it.number_is) ∙ comments_shown channel packets state refl it.described);
      beyond = λ number past. (let len = length-map last channel_of in frames_beyond number state packets (omega (arith, past, len)));
      others = λ channel absent. no_frames state packets channel (without last channel absent);
    }
