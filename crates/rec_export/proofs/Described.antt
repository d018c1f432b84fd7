-- How an export describes a channel's interface.
use Rattle.std.proofs.Common.{◌≡◌, ℕ, ◌+◌, ◌⊎◌, inl, inr, true, false, List, [], ◌∷◌, ◌++◌, length, Option, None, Some}
use Rattle.std.proofs.Common.{refl, sym, ap, subst, ◌∙◌, arith, true≢false}
use Rattle.std.specs.Prelude.{◌==◌, slice_get, IsSomeAnd}
use Rattle.std.specs.Option.{option_map}
use Rattle.std.proofs.lemmas.Bool.{eqb-true, eq-eqb, ltb-false, cond-true, cond-false, cases_Bool}
use Rattle.std.proofs.lemmas.List.{append_assoc, length-append}
use Rattle.std.proofs.lemmas.List.Concat.{flat_map-cons}
use Rattle.pcapng_blocks.specs.Blocks.{InterfaceData, BlockData}
use Rattle.rec_reader.specs.Packets.{PacketData}
use Rattle.rec_reader.specs.Channels.{Saying, saying_of}
use Rattle.rec_reader.specs.Channels.Saying.{OfFrames, OfProgram, OfEnd}
use Rattle.rec_export.specs.declared.version.FilterVersion.{FilterVersion}
use Rattle.rec_export.specs.Versions.{filter_version, version_text}
use Rattle.rec_export.specs.Interfaces.{channel_name, description_options, number_of, is_described, later_of}
use Rattle.rec_export.specs.Export.{ExportState, description, later_behind, later_with, blocks_said, state_said, state_behind, packets_blocks}
use Rattle.rec_export.specs.Export.{state_behind_all}
use Rattle.rec_export.specs.Comments.{said_on, sayings_on, only_text, interface_comments}
use Rattle.rec_export.specs.Shown.{interfaces_in}
use Rattle.rec_export.specs.Found.{DescribesChannel}
use Rattle.rec_export.proofs.Numbering.{most, takes_number, keeps_all}
use Rattle.rec_export.proofs.Order.{length_said}
use Rattle.rec_export.proofs.ShownFrames.{interfaces_in-append, frames_have_no_interface}
use Rattle.rec_export.proofs.ShownComments.{stays_undescribed}

-- ---- one description

-- the interface that a channel's description is
abbrev described_as : (origin : Option ℕ) (channel : ℕ) → Option FilterVersion → InterfaceData
described_as origin channel version = record {
  link_type = 1;
  snap_len = 0;
  options = description_options (option_map version_text version) (channel_name channel) origin;
}

describes : (origin : Option ℕ) (channel : ℕ) (version : Option FilterVersion)
    → DescribesChannel origin channel (only_text (option_map version_text version)) (described_as origin channel version)
describes None channel None = record {
  link = refl;
  any_length = refl;
  unit_first = refl;
  unit = refl;
  name = refl;
  check_sequence = refl;
  offset = refl;
  comment = refl;
  comment_last = refl;
}
describes None channel (Some version) = record {
  link = refl;
  any_length = refl;
  unit_first = refl;
  unit = refl;
  name = refl;
  check_sequence = refl;
  offset = refl;
  comment = refl;
  comment_last = refl;
}
describes (Some seconds) channel None = record {
  link = refl;
  any_length = refl;
  unit_first = refl;
  unit = refl;
  name = refl;
  check_sequence = refl;
  offset = refl;
  comment = refl;
  comment_last = refl;
}
describes (Some seconds) channel (Some version) = record {
  link = refl;
  any_length = refl;
  unit_first = refl;
  unit = refl;
  name = refl;
  check_sequence = refl;
  offset = refl;
  comment = refl;
  comment_last = refl;
}

-- ---- among the blocks

-- a channel's interface stands behind so many others, and is described so
pub record StandsDescribed (origin : Option ℕ) (channel count number : ℕ) (comments : List (List ℕ)) (interfaces : List InterfaceData) : Type 0 where
  pub before : List InterfaceData
  pub behind : List InterfaceData
  pub interface : InterfaceData
  pub whole : interfaces ≡ before ++ interface ∷ behind
  pub place : count + length before ≡ number
  pub its : DescribesChannel origin channel comments interface

-- behind some more
stands_behind : (origin : Option ℕ) (channel count next number : ℕ) (comments : List (List ℕ)) (first interfaces : List InterfaceData)
    → count + length first ≡ next
    → StandsDescribed origin channel next number comments interfaces → StandsDescribed origin channel count number comments (first ++ interfaces)
stands_behind origin channel count next number comments first interfaces more stands =
    let both = length-append first stands.before in
    let place = stands.place in
    record {
      before = first ++ stands.before;
      behind = stands.behind;
      interface = stands.interface;
      whole = ap (λ l. first ++ l) stands.whole ∙ sym (append_assoc first stands.before (stands.interface ∷ stands.behind));
      place = omega (arith, both, more, place);
      its = stands.its;
    }

-- it is found there
pub found_there : (origin : Option ℕ) (channel number : ℕ) (comments : List (List ℕ)) (interfaces : List InterfaceData)
    → StandsDescribed origin channel 0 number comments interfaces → IsSomeAnd (slice_get interfaces number) (DescribesChannel origin channel comments)
found_there origin channel number comments interfaces stands =
    subst (λ (o : Option InterfaceData). IsSomeAnd o (DescribesChannel origin channel comments))
    (sym (ap (λ (l : List InterfaceData). slice_get l number) stands.whole
    ∙ ap (slice_get (stands.before ++ stands.interface ∷ stands.behind)) (sym there)
    ∙ seam stands.before)) stands.its
  where
    there : length stands.before ≡ number
    there = let place = stands.place in omega (arith, place)

    seam : (before : List InterfaceData) → slice_get (before ++ stands.interface ∷ stands.behind) (length before) ≡ Some stands.interface
    seam [] = refl
    seam (first ∷ before) = seam before

-- ---- the first packet of a channel

own_first : (channel : ℕ) (saying : Saying) (said : List Saying) → said_on channel (Some (channel, saying)) ++ said ≡ saying ∷ said
own_first channel saying said = ap (λ l. l ++ said) (cond-true (channel == channel) _ _ (eq-eqb channel channel refl))

none_first : (channel other : ℕ) (saying : Saying) (said : List Saying) → (other == channel) ≡ false → said_on channel (Some (other, saying)) ++ said ≡ said
none_first channel other saying said differ = ap (λ l. l ++ said) (cond-false (other == channel) _ _ differ)

abbrev Begins : (channel : ℕ) → List PacketData → Type 0
Begins channel packets =
    (state : ExportState) → is_described channel state.interfaces ≡ false → is_described channel (state_behind_all state packets).interfaces ≡ true
    → StandsDescribed state.origin channel (length state.interfaces) (number_of channel (state_behind_all state packets).interfaces)
    (interface_comments (sayings_on channel packets)) (interfaces_in (packets_blocks state packets))

abbrev StandsFirst : (channel : ℕ) (state : ExportState) (packets : List PacketData) → Option (ℕ × Saying) → Type 0
StandsFirst channel state packets said =
    StandsDescribed state.origin channel (length state.interfaces) (number_of channel (state_behind_all (state_said state said) packets).interfaces)
    (interface_comments (said_on channel said ++ sayings_on channel packets))
    (interfaces_in (blocks_said state said ++ packets_blocks (state_said state said) packets))

-- the number of a channel that has no interface is that of the next one
next_number : (channel : ℕ) (state : ExportState) → is_described channel state.interfaces ≡ false
    → number_of channel state.interfaces ≡ length state.interfaces
next_number channel state isnt =
    let least = ltb-false (number_of channel state.interfaces) (length state.interfaces) isnt in
    let upper = most channel state.interfaces in
    omega (arith, least, upper)

-- the interface of a description that stands first
now_described : (channel : ℕ) (state : ExportState) (version : Option FilterVersion) (number : ℕ) (comments : List (List ℕ)) (more : List BlockData)
    (interfaces : List InterfaceData)
    → is_described channel state.interfaces ≡ false → number ≡ number_of channel state.interfaces → only_text (option_map version_text version) ≡ comments
    → interfaces ≡ interfaces_in (description state channel version) ++ interfaces_in more
    → StandsDescribed state.origin channel (length state.interfaces) number comments interfaces
now_described channel state version number comments more interfaces isnt same says whole =
    let next = next_number channel state isnt in
    record {
      before = [];
      behind = interfaces_in more;
      interface = described_as state.origin channel version;
      whole = whole ∙ ap (λ blocks. interfaces_in blocks ++ interfaces_in more) (cond-false (is_described channel state.interfaces) _ _ isnt);
      place = omega (arith, same, next);
      its = subst (λ texts. DescribesChannel state.origin channel texts (described_as state.origin channel version)) says
          (describes state.origin channel version);
    }

own_begins : (channel : ℕ) (state : ExportState) (packets : List PacketData) (saying : Saying) → is_described channel state.interfaces ≡ false
    → is_described channel (state_behind_all (state_said state (Some (channel, saying))) packets).interfaces ≡ true → Begins channel packets
    → StandsFirst channel state packets (Some (channel, saying))
own_begins channel state packets (OfFrames frames) isnt is begins =
    let next = state_said state (Some (channel, OfFrames frames)) in
    let blocks = blocks_said state (Some (channel, OfFrames frames)) in
    let keeps = takes_number channel (later_behind frames (later_of channel state.interfaces)) state.interfaces in
    now_described channel state None _ _ (packets_blocks next packets) _ isnt
    ((keeps_all channel next packets keeps.described).number ∙ keeps.number)
    (ap interface_comments (sym (own_first channel (OfFrames frames) (sayings_on channel packets))))
    (interfaces_in-append blocks (packets_blocks next packets)
    ∙ ap (λ l. l ++ interfaces_in (packets_blocks next packets)) (interfaces_in-append (description state channel None) _
    ∙ ap (λ l. interfaces_in (description state channel None) ++ l) (frames_have_no_interface _ _ frames)
    ∙ nil (interfaces_in (description state channel None))))
  where
    nil : (l : List InterfaceData) → l ++ [] ≡ l
    nil [] = refl
    nil (first ∷ l) = ap (λ r. first ∷ r) (nil l)
own_begins channel state packets (OfProgram program) isnt is begins =
    let next = state_said state (Some (channel, OfProgram program)) in
    let keeps = takes_number channel (later_with channel (filter_version program) state.interfaces) state.interfaces in
    now_described channel state (Some (filter_version program)) _ _ (packets_blocks next packets) _ isnt
    ((keeps_all channel next packets keeps.described).number ∙ keeps.number)
    (ap interface_comments (sym (own_first channel (OfProgram program) (sayings_on channel packets))))
    (interfaces_in-append (description state channel (Some (filter_version program))) (packets_blocks next packets))
own_begins channel state packets (OfEnd end) isnt is begins =
    subst (λ said. StandsDescribed state.origin channel (length state.interfaces) (number_of channel (state_behind_all state packets).interfaces)
    (interface_comments said) (interfaces_in (packets_blocks state packets))) (sym (own_first channel (OfEnd end) (sayings_on channel packets)))
    (begins state isnt is)

same_origin : (state : ExportState) (other : ℕ) (saying : Saying) → (state_said state (Some (other, saying))).origin ≡ state.origin
same_origin state other (OfFrames frames) = refl
same_origin state other (OfProgram program) = refl
same_origin state other (OfEnd end) = refl

other_begins : (channel other : ℕ) (state : ExportState) (packets : List PacketData) (saying : Saying) → (other == channel) ≡ false
    → is_described channel state.interfaces ≡ false
    → is_described channel (state_behind_all (state_said state (Some (other, saying))) packets).interfaces ≡ true → Begins channel packets
    → StandsFirst channel state packets (Some (other, saying))
other_begins channel other state packets saying differ isnt is begins =
    let said = Some (other, saying) in
    let next = state_said state said in
    let number = number_of channel (state_behind_all next packets).interfaces in
    subst (λ l. StandsDescribed state.origin channel (length state.interfaces) number
    (interface_comments (said_on channel said ++ sayings_on channel packets)) l)
    (sym (interfaces_in-append (blocks_said state said) (packets_blocks next packets)))
    (stands_behind state.origin channel (length state.interfaces) (length next.interfaces) number _ (interfaces_in (blocks_said state said)) _
    (length_said state said)
    (subst (λ said. StandsDescribed state.origin channel (length next.interfaces) number (interface_comments said)
    (interfaces_in (packets_blocks next packets)))
    (sym (none_first channel other saying (sayings_on channel packets) differ))
    (subst (λ origin. StandsDescribed origin channel (length next.interfaces) number (interface_comments (sayings_on channel packets))
    (interfaces_in (packets_blocks next packets))) (same_origin state other saying)
    (begins next (stays_undescribed channel other state saying differ isnt) is))))

first_said : (channel : ℕ) (state : ExportState) (packets : List PacketData) (said : Option (ℕ × Saying)) → is_described channel state.interfaces ≡ false
    → is_described channel (state_behind_all (state_said state said) packets).interfaces ≡ true → Begins channel packets
    → StandsFirst channel state packets said
first_said channel state packets None isnt is begins = begins state isnt is
first_said channel state packets (Some (other, saying)) isnt is begins = by_cases (cases_Bool (other == channel))
  where
    by_cases : ((other == channel) ≡ true) ⊎ ((other == channel) ≡ false) → StandsFirst channel state packets (Some (other, saying))
    by_cases (inl own) =
        let same = eqb-true other channel own in
        subst (λ c. StandsFirst channel state packets (Some (c, saying))) (sym same)
        (own_begins channel state packets saying isnt
        (subst (λ c. is_described channel (state_behind_all (state_said state (Some (c, saying))) packets).interfaces ≡ true) same is) begins)
    by_cases (inr differ) = other_begins channel other state packets saying differ isnt is begins

-- the description of a channel's interface
pub described_shown : (channel : ℕ) (packets : List PacketData) → Begins channel packets
described_shown channel [] = λ state isnt is. absurd (true≢false (sym is ∙ isnt))
described_shown channel (packet ∷ packets) = λ state isnt is.
    (subst (λ said. StandsDescribed state.origin channel (length state.interfaces)
    (number_of channel (state_behind_all (state_behind state packet) packets).interfaces) (interface_comments said)
    (interfaces_in (packets_blocks state (packet ∷ packets))))
    (sym (flat_map-cons (λ (p : PacketData). said_on channel (saying_of p)) packet packets))
    (first_said channel state packets (saying_of packet) isnt is (described_shown channel packets)))
