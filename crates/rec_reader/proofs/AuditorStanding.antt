-- What an auditor stands for, packet by packet.
use Rattle.std.proofs.Common.{◌≡◌, ℕ, ◌+◌, ◌-◌, ◌^◌, min, ◌⊎◌, inl, inr, Bool, true, false, cond, List, [], ◌∷◌, ◌++◌, length, Option, None}
use Rattle.std.proofs.Common.{Some, Result, Ok, Err, OnOk, MatchOption, MatchResult, IsSome, refl, sym, ap, subst, ◌∙◌, arith}
use Rattle.std.specs.Ordering.{nat_cmp}
use Rattle.std.specs.BTreeMap.{BTreeMap, get, is_at}
use Rattle.std.specs.Map.{lookup}
use Rattle.std.specs.Prelude.{unwrap_or}
use Rattle.std.proofs.lemmas.List.{length-append}
use Rattle.std.proofs.lemmas.List.Sums.{sum_by_push}
use Rattle.ch11_packet.specs.declared.class.What.{What}
use Rattle.ch11_packet.specs.declared.class.What.TheVariants.{Frames, Program, End, Other}
use Rattle.rec_reader.specs.declared.audits.answer.AuditFault.{AuditFault}
use Rattle.rec_reader.specs.declared.audits.answer.AuditFault.TheVariants.{Memory}
use Rattle.rec_reader.specs.declared.audits.channel.ChannelState.{ChannelState}
use Rattle.rec_reader.specs.declared.audits.auditor.Auditor.{Auditor}
use Rattle.rec_reader.specs.Packets.{PacketData}
use Rattle.rec_reader.specs.Channels.{Saying, saying_in, saying_of, last_program, last_end, capped}
use Rattle.rec_reader.specs.Audits.{IsJudgement, JudgesSaying, Judges, EachPasses, StopsAt, is_other, other_count}
use Rattle.rec_reader.specs.Auditors.{unnamed_state, state_after, IsStateOf, state_of, SetsState, KeepsChannels}
use Rattle.rec_reader.specs.Auditors.{Keeps, AuditorStandsFor, TakesPacket, Walks, JudgesState}
use Rattle.rec_reader.proofs.Walking.{none_named, passes_one_more, stops_now, stops_then}
use Rattle.rec_reader.proofs.ChannelTables.{channels_stay, channels_on}

-- ---- no packets

pub no_channels : (channels : BTreeMap ℕ ChannelState) → channels.entries ≡ [] → KeepsChannels channels []
no_channels channels empty =
    let none : (channel : ℕ) → get nat_cmp channels channel ≡ None = λ channel. ap (lookup (is_at (nat_cmp channel))) empty in
    record {
      named = λ channel. (
        λ some. (let wrong : false ≡ true = subst (λ (o : Option ChannelState). IsSome o) (none channel) some in cc),
        λ named. absurd (none_named channel named),
      );
      states = λ channel. subst (λ (s : ChannelState). IsStateOf channel [] s)
          (sym (ap (λ (o : Option ChannelState). unwrap_or o unnamed_state) (none channel)))
          (record { programs = refl; last = refl; frames = refl; end = refl });
    }

-- ---- one packet

kind_said : (own : ℕ) (what : What) (bytes : List ℕ) (said : ℕ × Saying) → saying_in own what bytes ≡ Some said → is_other what ≡ false
kind_said own (Frames count) bytes said e = refl
kind_said own (Program named version first count) bytes said e = refl
kind_said own (End named offered kept) bytes said e = refl
kind_said own Other bytes said e = cc

kind_unsaid : (own : ℕ) (what : What) (bytes : List ℕ) → saying_in own what bytes ≡ None → is_other what ≡ true
kind_unsaid own (Frames count) bytes e = cc
kind_unsaid own (Program named version first count) bytes e = cc
kind_unsaid own (End named offered kept) bytes e = cc
kind_unsaid own Other bytes e = refl

other_more : (packets : List PacketData) (packet : PacketData) (b : Bool) → is_other packet.what ≡ b
    → other_count (packets ++ packet ∷ []) ≡ other_count packets + cond b 1 0
other_more packets packet b e = sum_by_push _ packets packet ∙ ap (λ t. other_count packets + cond t 1 0) e

judged_packet : (packets : List PacketData) (packet : PacketData) (channel : ℕ) (saying : Saying) (state : ChannelState) (place : ℕ)
    (answer : Option AuditFault)
    → saying_of packet ≡ Some (channel, saying) → place ≡ capped (length packets) → IsStateOf channel packets state
    → IsJudgement place state.end saying state.last answer → Judges packets packet answer
judged_packet packets packet channel saying state place answer says at is judged =
    subst (λ said. JudgesSaying packets said answer) (sym says)
    (subst (λ n. IsJudgement n (last_end channel packets) saying (last_program channel packets) answer) at
    (subst (λ end. IsJudgement place end saying (last_program channel packets) answer) is.end
    (subst (λ last. IsJudgement place state.end saying last answer) is.last judged)))

abbrev Taken : (packets : List PacketData) (packet : PacketData) (other : ℕ) (channels : BTreeMap ℕ ChannelState) → Type 0
Taken packets packet other channels =
    Judges packets packet None × (other ≡ capped (other_count (packets ++ packet ∷ []))) × KeepsChannels channels (packets ++ packet ∷ [])

abbrev Refused : (packets : List PacketData) (packet : PacketData) → AuditFault → Type 0
Refused packets packet fault = (fault ≡ Memory) ⊎ Judges packets packet (Some fault)

took : (packets : List PacketData) (packet : PacketData) (channel : ℕ) (saying : Saying) (old new : BTreeMap ℕ ChannelState) (place other : ℕ)
    (result : Result (Unit {0}) AuditFault)
    → saying_of packet ≡ Some (channel, saying) → place ≡ capped (length packets) → other ≡ capped (other_count packets) → KeepsChannels old packets
    → JudgesState place (state_of old channel) saying result → OnOk result (SetsState old channel (state_after (state_of old channel) saying) new)
    → MatchResult result (λ _. Taken packets packet other new) (Refused packets packet)
took packets packet channel saying old new place other (Ok answer) says at is keeps judged sets = (
  judged_packet packets packet channel saying (state_of old channel) place None says at (keeps.states channel) judged,
  (let same = other_more packets packet false (kind_said _ packet.what _ _ says) in
      is ∙ ap capped (let e : other_count packets ≡ other_count (packets ++ packet ∷ []) = omega (arith, same) in e)),
  channels_on old new packets packet channel saying says keeps sets,
)
took packets packet channel saying old new place other (Err fault) says at is keeps (inl memory) sets = inl memory
took packets packet channel saying old new place other (Err fault) says at is keeps (inr judged) sets =
    inr (judged_packet packets packet channel saying (state_of old channel) place (Some fault) says at (keeps.states channel) judged)

-- a packet that says something of a channel
pub takes_said : (old new : Auditor) (packet : PacketData) (channel : ℕ) (saying : Saying) (result : Result (Unit {0}) AuditFault)
    → saying_of packet ≡ Some (channel, saying) → new.other ≡ old.other
    → JudgesState old.taken (state_of old.channels channel) saying result
    → OnOk result (SetsState old.channels channel (state_after (state_of old.channels channel) saying) new.channels)
    → TakesPacket old new packet result
takes_said old new packet channel saying result says same judged sets = λ packets keeps.
    took packets packet channel saying old.channels new.channels old.taken new.other result says keeps.taken (same ∙ keeps.other) keeps.channels judged sets

-- a packet of another kind
pub takes_other : (old new : Auditor) (packet : PacketData) → saying_of packet ≡ None → new.other ≡ min (old.other + 1) (2 ^ 64 - 1)
    → new.channels ≡ old.channels
    → (packets : List PacketData) → Keeps old packets → Taken packets packet new.other new.channels
takes_other old new packet none more same packets keeps =
    let one = other_more packets packet true (kind_unsaid _ packet.what _ none) in
    let was = keeps.other in (
      subst (λ said. JudgesSaying packets said None) (sym none) refl,
      (let e : new.other ≡ capped (other_count (packets ++ packet ∷ [])) = omega (arith, one, was, more) in e),
      subst (λ channels. KeepsChannels channels (packets ++ packet ∷ [])) (sym same) (channels_stay old.channels packets packet none keeps.channels),
    )

-- ---- after a call

still : (fault : Option AuditFault) (auditor : Auditor) (packets more : List PacketData) (some : AuditFault) → fault ≡ Some some
    → MatchOption fault (Keeps auditor packets) (λ f. (f ≡ Memory) ⊎ StopsAt packets f)
    → MatchOption fault (Keeps auditor (packets ++ more)) (λ f. (f ≡ Memory) ⊎ StopsAt (packets ++ more) f)
still None auditor packets more some e stands = cc
still (Some fault) auditor packets more some e (inl memory) = inl memory
still (Some fault) auditor packets more some e (inr stops) = inr (stops_then packets more fault stops)

-- an auditor that has answered a fault
pub still_stands : (auditor : Auditor) (packets more : List PacketData) (fault : AuditFault) → auditor.fault ≡ Some fault → AuditorStandsFor auditor packets
    → AuditorStandsFor auditor (packets ++ more)
still_stands auditor packets more fault e stands = still auditor.fault auditor packets more fault e stands

stopped : (fault : Option AuditFault) (auditor : Auditor) (packets more : List PacketData) (some : AuditFault) → fault ≡ Some some
    → MatchOption fault (Keeps auditor packets) (λ f. (f ≡ Memory) ⊎ StopsAt packets f) → (some ≡ Memory) ⊎ StopsAt (packets ++ more) some
stopped None auditor packets more some e stands = cc
stopped (Some fault) auditor packets more some e (inl memory) = inl (let same : fault ≡ some = cc in sym same ∙ memory)
stopped (Some fault) auditor packets more some e (inr stops) =
    inr (stops_then packets more some (let same : fault ≡ some = cc in subst (StopsAt packets) same stops))

pub stopped_before : (auditor : Auditor) (packets more : List PacketData) (fault : AuditFault) → auditor.fault ≡ Some fault → AuditorStandsFor auditor packets
    → Walks (packets ++ more) (Err fault)
stopped_before auditor packets more fault e stands = stopped auditor.fault auditor packets more fault e stands

kept : (fault : Option AuditFault) (auditor : Auditor) (packets : List PacketData) → fault ≡ None
    → MatchOption fault (Keeps auditor packets) (λ f. (f ≡ Memory) ⊎ StopsAt packets f) → Keeps auditor packets
kept None auditor packets e stands = stands
kept (Some fault) auditor packets e stands = cc

-- an auditor that has answered none
pub keeps_these : (auditor : Auditor) (packets : List PacketData) → auditor.fault ≡ None → AuditorStandsFor auditor packets → Keeps auditor packets
keeps_these auditor packets e stands = kept auditor.fault auditor packets e stands

walks : (packets : List PacketData) (packet : PacketData) (other : ℕ) (channels : BTreeMap ℕ ChannelState) (result : Result (Unit {0}) AuditFault)
    → EachPasses packets
    → MatchResult result (λ _. Taken packets packet other channels) (Refused packets packet) → Walks (packets ++ packet ∷ []) result
walks packets packet other channels (Ok answer) passed taken = passes_one_more packets packet passed taken.0
walks packets packet other channels (Err fault) passed (inl memory) = inl memory
walks packets packet other channels (Err fault) passed (inr judged) = inr (stops_now packets packet fault passed judged)

pub walks_on : (old new : Auditor) (packet : PacketData) (result : Result (Unit {0}) AuditFault) → old.fault ≡ None → TakesPacket old new packet result
    → (packets : List PacketData) → AuditorStandsFor old packets → Walks (packets ++ packet ∷ []) result
walks_on old new packet result none takes packets stands =
    let keeps = keeps_these old packets none stands in
    walks packets packet new.other new.channels result keeps.passed (takes packets keeps)

pub stands_ok : (auditor : Auditor) (packets : List PacketData) (packet : PacketData) (place : ℕ) → auditor.fault ≡ None → EachPasses packets
    → place ≡ capped (length packets)
    → auditor.taken ≡ min (place + 1) (2 ^ 64 - 1) → Taken packets packet auditor.other auditor.channels → AuditorStandsFor auditor (packets ++ packet ∷ [])
stands_ok auditor packets packet place none passed was now taken =
    let long = length-append packets (packet ∷ []) in
    subst (λ fault. MatchOption fault (Keeps auditor (packets ++ packet ∷ [])) (λ f. (f ≡ Memory) ⊎ StopsAt (packets ++ packet ∷ []) f)) (sym none)
    (record {
      passed = passes_one_more packets packet passed taken.0;
      taken = omega (arith, long, was, now);
      other = taken.1;
      channels = taken.2;
    })

refused_stops : (packets : List PacketData) (packet : PacketData) (fault : AuditFault) → EachPasses packets → Refused packets packet fault
    → (fault ≡ Memory) ⊎ StopsAt (packets ++ packet ∷ []) fault
refused_stops packets packet fault passed (inl memory) = inl memory
refused_stops packets packet fault passed (inr judged) = inr (stops_now packets packet fault passed judged)

pub stands_err : (auditor : Auditor) (packets : List PacketData) (packet : PacketData) (fault : AuditFault) → auditor.fault ≡ Some fault → EachPasses packets
    → Refused packets packet fault
    → AuditorStandsFor auditor (packets ++ packet ∷ [])
stands_err auditor packets packet fault some passed refused =
    subst (λ f. MatchOption f (Keeps auditor (packets ++ packet ∷ [])) (λ g. (g ≡ Memory) ⊎ StopsAt (packets ++ packet ∷ []) g)) (sym some)
    (refused_stops packets packet fault passed refused)
