-- The channels that are kept, at the end.
use Rattle.std.proofs.Common.{◌≡◌, ℕ, ◌<◌, inl, inr, true, false, is_some, IsSome, List, [], ◌∷◌, ◌++◌, length, map}
use Rattle.std.proofs.Common.{All, Contains, Option, None, Some, refl, sym, ap, subst, ◌∙◌, arith}
use Rattle.std.specs.Prelude.{unwrap_or}
use Rattle.std.specs.List.{AllByRecursion}
use Rattle.std.specs.List.Sorted.{IsStrictlySortedBy}
use Rattle.std.specs.declared.cmp.Ordering.TheVariants.{Less}
use Rattle.std.specs.Map.{keys_of}
use Rattle.std.specs.Ordering.{nat_cmp}
use Rattle.std.specs.BTreeMap.{BTreeMap, get, keys, IsOrdered}
use Rattle.std.proofs.lemmas.Cmp.{nat_cmp_total, ranked}
use Rattle.std.proofs.lemmas.List.{append_assoc, append-nil, map-append}
use Rattle.std.proofs.lemmas.List.Elements.{All-nil, All-push, All-contains, Contains-append_cases}
use Rattle.std.proofs.lemmas.Map.Keys.{sorted_head, sorted_tail, IsStrictlyIncreasing-from_sorted}
use Rattle.std.proofs.lemmas.Map.Lookups.{exact_unsigned}
use Rattle.std.proofs.lemmas.Map.Views.{btree_map_contains_key_iff, btree_map_get_iff}
use Rattle.rec_reader.specs.declared.audits.answer.AuditLine.{AuditLine}
use Rattle.rec_reader.specs.declared.audits.answer.AuditFault.{AuditFault}
use Rattle.rec_reader.specs.declared.audits.channel.ChannelState.{ChannelState}
use Rattle.rec_reader.specs.Packets.{PacketData}
use Rattle.rec_reader.specs.ChannelFrames.{channel_frames}
use Rattle.rec_reader.specs.Channels.{IsNamed, last_program, programs_of, capped}
use Rattle.rec_reader.specs.Audits.{IsClosing, Closes, EndsWith, line_with, line_of, AreLines, EachPasses}
use Rattle.rec_reader.specs.Auditors.{unnamed_state, counted, IsStateOf, KeepsChannels}
use Rattle.rec_reader.proofs.ListSplits.{first_or_later, none_in}
use Rattle.rec_reader.proofs.OneAudit.{in_middle}

-- ---- one channel

pub state_found : (channels : BTreeMap ℕ ChannelState) (packets : List PacketData) (channel : ℕ) (state : ChannelState) → KeepsChannels channels packets
    → get nat_cmp channels channel ≡ Some state → IsStateOf channel packets state
state_found channels packets channel state keeps e =
    subst (λ (s : ChannelState). IsStateOf channel packets s) (ap (λ (o : Option ChannelState). unwrap_or o unnamed_state) e) (keeps.states channel)

closes_as : (packets : List PacketData) (channel : ℕ) (state : ChannelState) (answer : Option AuditFault) → IsStateOf channel packets state
    → IsClosing channel state.end state.last (length (channel_frames channel packets)) answer → Closes packets channel answer
closes_as packets channel state answer is closing =
    subst (λ end. IsClosing channel end (last_program channel packets) (length (channel_frames channel packets)) answer) is.end
    (subst (λ last. IsClosing channel state.end last (length (channel_frames channel packets)) answer) is.last closing)

line_as : (packets : List PacketData) (channel : ℕ) (state : ChannelState) (line : AuditLine) → IsStateOf channel packets state
    → line ≡ line_with channel state.programs (length (channel_frames channel packets)) state.end → line ≡ line_of packets channel
line_as packets channel state line is e =
    e ∙ ap (λ n. line_with channel n (length (channel_frames channel packets)) state.end) is.programs
    ∙ ap (λ end. line_with channel (capped (length (programs_of channel packets))) (length (channel_frames channel packets)) end) is.end

named_by : (channels : BTreeMap ℕ ChannelState) (packets : List PacketData) (channel : ℕ) (state : ChannelState) → KeepsChannels channels packets
    → get nat_cmp channels channel ≡ Some state → IsNamed channel packets
named_by channels packets channel state keeps e = (keeps.named channel).0 (ap is_some e)

some_state : (o : Option ChannelState) → IsSome o → (state : ChannelState) × (o ≡ Some state)
some_state None some = (let wrong : false ≡ true = some in cc)
some_state (Some state) some = (state, refl)

-- ---- the channels so far

-- what a turn of the loop over the channels knows: those so far are right at the end, and the lines
-- are theirs
abbrev pub ClosesThese : BTreeMap ℕ ChannelState → (done : List (ℕ × ChannelState)) → List AuditLine → Type 0
ClosesThese channels done lines =
    (packets : List PacketData) → KeepsChannels channels packets
    → (lines ≡ map (λ (e : ℕ × ChannelState). line_of packets e.0) done) × All (λ (e : ℕ × ChannelState). Closes packets e.0 None) done

-- what the code says of a channel that is right at the end
abbrev Right : (channel : ℕ) → ChannelState → AuditLine → Type 0
Right channel state line =
    (frames : ℕ) → state.frames ≡ counted frames
    → IsClosing channel state.end state.last frames None × (line ≡ line_with channel state.programs frames state.end)

pub one_more_closed : (channels : BTreeMap ℕ ChannelState) (done : List (ℕ × ChannelState)) (lines : List AuditLine) (channel : ℕ) (state : ChannelState)
    (line : AuditLine)
    → get nat_cmp channels channel ≡ Some state → Right channel state line → ClosesThese channels done lines
    → ClosesThese channels (done ++ (channel, state) ∷ []) (lines ++ line ∷ [])
one_more_closed channels done lines channel state line there right closes = λ packets keeps.
    let before = closes packets keeps in
    let is = state_found channels packets channel state keeps there in
    let known = right (length (channel_frames channel packets)) is.frames in (
      ap (λ l. l ++ line ∷ []) before.0 ∙ ap (λ x. map (λ (e : ℕ × ChannelState). line_of packets e.0) done ++ x ∷ [])
          (line_as packets channel state line is known.1)
          ∙ sym (map-append (λ (e : ℕ × ChannelState). line_of packets e.0) done ((channel, state) ∷ [])),
      All-push (λ (e : ℕ × ChannelState). Closes packets e.0 None) done (channel, state) before.1 (closes_as packets channel state None is known.0),
    )

-- ---- the order of the channels

sorted_from : (done others : List (ℕ × ChannelState)) → IsStrictlySortedBy nat_cmp (keys_of (done ++ others)) → IsStrictlySortedBy nat_cmp (keys_of others)
sorted_from [] others sorted = sorted
sorted_from (e ∷ done) others sorted = sorted_from done others (sorted_tail nat_cmp e.0 (keys_of (done ++ others)) sorted)

above : (channel : ℕ) (others : List (ℕ × ChannelState)) (e : ℕ × ChannelState) → AllByRecursion (λ y. nat_cmp channel y ≡ Less) (keys_of others)
    → Contains others e → channel < e.0
above channel [] e all has = absurd (none_in e has)
above channel (f ∷ others) e all has =
    elim (first_or_later f others e has) [
      | inl same ↦ subst (λ (g : ℕ × ChannelState). channel < g.0) same (ranked channel f.0 Less (sym all.0))
      | inr later ↦ above channel others e all.1 later
    ]

stands_before : (done others : List (ℕ × ChannelState)) (channel : ℕ) (state : ChannelState) (e : ℕ × ChannelState)
    → IsStrictlySortedBy nat_cmp (keys_of (done ++ (channel, state) ∷ others))
    → Contains (done ++ (channel, state) ∷ others) e → e.0 < channel → Contains done e
stands_before done others channel state e sorted has less =
    elim (Contains-append_cases done ((channel, state) ∷ others) e has) [
      | inl before ↦ before
      | inr rest ↦ (
          elim (first_or_later (channel, state) others e rest) [
            | inl same ↦ (let equal : channel ≡ e.0 = ap (λ (g : ℕ × ChannelState). g.0) same in absurd (omega arith))
            | inr later ↦ (let more = above channel others e (sorted_head nat_cmp channel (keys_of others)
                (sorted_from done ((channel, state) ∷ others) sorted)) later in absurd (omega arith))
          ])
    ]

-- ---- the answer

entry_of : (channels : BTreeMap ℕ ChannelState) → IsOrdered nat_cmp channels → (packets : List PacketData) → KeepsChannels channels packets → (channel : ℕ)
    → IsNamed channel packets
    → (state : ChannelState) × Contains channels.entries (channel, state)
entry_of channels ordered packets keeps channel named =
    let some = some_state (get nat_cmp channels channel) ((keeps.named channel).1 named) in
    (some.0, (btree_map_get_iff nat_cmp_total exact_unsigned channels ordered channel some.0).0 some.1)

-- ---- a turn of the loop

pub turn_whole : (entries done left rest : List (ℕ × ChannelState)) (e : ℕ × ChannelState) → entries ≡ done ++ left → left ≡ e ∷ rest
    → entries ≡ done ++ e ∷ rest
turn_whole entries done left rest e whole first = whole ∙ ap (λ l. done ++ l) first

pub turn_next : (entries done rest : List (ℕ × ChannelState)) (e : ℕ × ChannelState) → entries ≡ done ++ e ∷ rest → entries ≡ (done ++ e ∷ []) ++ rest
turn_next entries done rest e whole = whole ∙ sym (append_assoc done (e ∷ []) rest)

pub turn_end : (entries done left : List (ℕ × ChannelState)) → entries ≡ done ++ left → left ≡ [] → entries ≡ done
turn_end entries done left whole none = whole ∙ ap (λ l. done ++ l) none ∙ append-nil done

pub turn_found : (channels : BTreeMap ℕ ChannelState) (done rest : List (ℕ × ChannelState)) (channel : ℕ) (state : ChannelState)
    → All (λ (e : ℕ × ChannelState). get nat_cmp channels e.0 ≡ Some e.1) channels.entries
    → channels.entries ≡ done ++ (channel, state) ∷ rest → get nat_cmp channels channel ≡ Some state
turn_found channels done rest channel state found whole =
    in_middle (λ (e : ℕ × ChannelState). get nat_cmp channels e.0 ≡ Some e.1) done (channel, state) rest
    (subst (λ es. All (λ (e : ℕ × ChannelState). get nat_cmp channels e.0 ≡ Some e.1) es) whole found)

-- the channel of this turn has a fault
pub ends_with : (channels : BTreeMap ℕ ChannelState) (done others : List (ℕ × ChannelState)) (lines : List AuditLine) (channel : ℕ) (state : ChannelState)
    (fault : AuditFault)
    → IsOrdered nat_cmp channels → channels.entries ≡ done ++ (channel, state) ∷ others → get nat_cmp channels channel ≡ Some state
    → ClosesThese channels done lines
    → ((frames : ℕ) → state.frames ≡ counted frames → IsClosing channel state.end state.last frames (Some fault))
    → (packets : List PacketData) → EachPasses packets → KeepsChannels channels packets → EndsWith packets fault
ends_with channels done others lines channel state fault ordered whole there closes wrong packets passed keeps =
    let is = state_found channels packets channel state keeps there in
    record {
      passed = passed;
      channel = channel;
      named = named_by channels packets channel state keeps there;
      lower = λ other less named. (
          let entry = entry_of channels ordered packets keeps other named in
          let before = stands_before done others channel state (other, entry.0) (subst (λ es. IsStrictlySortedBy nat_cmp (keys_of es)) whole ordered)
          (subst (λ es. Contains es (other, entry.0)) whole entry.1) less in
          All-contains (λ (e : ℕ × ChannelState). Closes packets e.0 None) done (other, entry.0) (closes packets keeps).1 before);
      closed = closes_as packets channel state (Some fault) is (wrong (length (channel_frames channel packets)) is.frames);
    }

map_again : (f : ℕ → AuditLine) (es : List (ℕ × ChannelState)) → map f (keys_of es) ≡ map (λ (e : ℕ × ChannelState). f e.0) es
map_again f [] = refl
map_again f (e ∷ es) = ap (λ l. f e.0 ∷ l) (map_again f es)

-- all channels are right at the end
pub all_closed : (channels : BTreeMap ℕ ChannelState) (done : List (ℕ × ChannelState)) (lines : List AuditLine) → IsOrdered nat_cmp channels
    → channels.entries ≡ done → ClosesThese channels done lines
    → (packets : List PacketData) → KeepsChannels channels packets
    → ((channel : ℕ) → IsNamed channel packets → Closes packets channel None) × AreLines packets lines
all_closed channels done lines ordered whole closes packets keeps = (
  λ channel named. (
      let entry = entry_of channels ordered packets keeps channel named in
      All-contains (λ (e : ℕ × ChannelState). Closes packets e.0 None) done (channel, entry.0) (closes packets keeps).1
      (subst (λ es. Contains es (channel, entry.0)) whole entry.1)),
  record {
    channels = keys channels;
    ascending = IsStrictlyIncreasing-from_sorted (keys channels) ordered;
    all = λ channel. (
        let iff = btree_map_contains_key_iff nat_cmp_total exact_unsigned channels channel in
        (λ has. (keeps.named channel).0 (iff.1 has), λ named. iff.0 ((keeps.named channel).1 named)));
    lines_are = (closes packets keeps).0 ∙ ap (map (λ (e : ℕ × ChannelState). line_of packets e.0)) (sym whole)
        ∙ sym (map_again (line_of packets) channels.entries);
  },
)
