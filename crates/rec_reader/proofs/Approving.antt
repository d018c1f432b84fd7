-- What the yes of an audit means.
use Rattle.std.proofs.Common.{◌≡◌, ℕ, ◌<◌, ◌⊎◌, ◌↔◌, inl, inr, List, [], ◌∷◌, ◌++◌, length, All, Option, None, Some, refl, sym, ap, subst, ◌∙◌, arith}
use Rattle.std.specs.List.{last_or}
use Rattle.std.proofs.lemmas.Bool.{cases_eq}
use Rattle.std.proofs.lemmas.List.{append_assoc}
use Rattle.std.proofs.lemmas.List.Concat.{flat_map-append}
use Rattle.std.proofs.lemmas.List.Elements.{All-nil, All-weaker}
use Rattle.ch11_packet.specs.declared.class.What.{What}
use Rattle.ch11_packet.specs.declared.class.What.TheVariants.{Frames, Program, End, Other}
use Rattle.ch11_packet.specs.Classes.{data_in, said_frames}
use Rattle.ch11_packet.specs.FramesRead.{ReadFrameData}
use Rattle.rec_reader.specs.declared.audits.answer.Audit.{Audit}
use Rattle.rec_reader.specs.declared.audits.channel.ChannelProgram.{ChannelProgram}
use Rattle.rec_reader.specs.declared.audits.channel.ChannelEnd.{ChannelEnd}
use Rattle.rec_reader.specs.Packets.{PacketData}
use Rattle.rec_reader.specs.ChannelFrames.{frames_held, channel_frames}
use Rattle.rec_reader.specs.Channels.{Saying, saying_in, saying_of, IsNamed, end_said, ends_of, programs_of, last_program, last_end, capped}
use Rattle.rec_reader.specs.Channels.Saying.{OfFrames, OfProgram, OfEnd}
use Rattle.rec_reader.specs.Audits.{Accepts, AreApproved, IsJudgement, JudgesSaying, Judges, EachPasses, WereOffered, HasCounts, IsClosing, IsAudit, EndsWell}
use Rattle.rec_reader.proofs.Keeping.{here, elsewhere}

-- ---- frames

by_program : (place : ℕ) (end : Option ChannelEnd) (frames : List ReadFrameData) (last : Option ChannelProgram)
    → IsJudgement place end (OfFrames frames) last None
    → All (λ frame. (program : ChannelProgram) × (last ≡ Some program) × Accepts program.insns frame) frames
by_program place (Some end) frames last judged = cc
by_program place None frames None judged = cc
by_program place None frames (Some program) judged =
    All-weaker (Accepts program.insns) (λ frame. (other : ChannelProgram) × (Some program ≡ Some other) × Accepts other.insns frame)
    (λ frame accepts. (program, refl, accepts)) frames judged

approved_frames : (before : List PacketData) (own : ℕ) (what : What) (bytes : List ℕ) → JudgesSaying before (saying_in own what bytes) None
    → All (λ frame. (program : ChannelProgram) × (last_program own before ≡ Some program) × Accepts program.insns frame) (frames_held what bytes)
approved_frames before own (Frames count) bytes judged = by_program (capped (length before)) (last_end own before) (said_frames bytes)
    (last_program own before) judged
approved_frames before own (Program named version first count) bytes judged = All-nil _
approved_frames before own (End named offered kept) bytes judged = All-nil _
approved_frames before own Other bytes judged = All-nil _

pub approved : (packets : List PacketData) → EachPasses packets → AreApproved packets
approved packets passed = λ before packet after e.
    approved_frames before packet.header.channel packet.what (data_in packet.header packet.body) (passed before packet after e)

-- ---- ends

-- a packet with an end of the channel
record Found (channel : ℕ) (packets : List PacketData) : Type 0 where
  before : List PacketData
  packet : PacketData
  after : List PacketData
  end : ChannelEnd
  whole : packets ≡ before ++ packet ∷ after
  says : saying_of packet ≡ Some (channel, OfEnd end)

end_or_none : (channel : ℕ) (said : Option (ℕ × Saying)) → (end_said channel said ≡ []) ⊎ ((end : ChannelEnd) × (said ≡ Some (channel, OfEnd end)))
end_or_none channel None = inl refl
end_or_none channel (Some (named, OfFrames frames)) = inl refl
end_or_none channel (Some (named, OfProgram program)) = inl refl
end_or_none channel (Some (named, OfEnd end)) =
    elim (cases_eq named channel) [
      | inl same ↦ inr (end, ap (λ c. Some (c, OfEnd end)) same)
      | inr apart ↦ inl (elsewhere named channel (end ∷ []) apart)
    ]

find : (channel : ℕ) (packets : List PacketData) → (ends_of channel packets ≡ []) ⊎ Found channel packets
find channel [] = inl refl
find channel (p ∷ ps) =
    elim (end_or_none channel (saying_of p)) [
      | inr says ↦ inr (record { before = []; packet = p; after = ps; end = says.0; whole = refl; says = says.1 })
      | inl none ↦ (
          elim (find channel ps) [
            | inl others ↦ inl (ap (λ l. l ++ ends_of channel ps) none ∙ others)
            | inr found ↦ inr (record {
              before = p ∷ found.before;
              packet = found.packet;
              after = found.after;
              end = found.end;
              whole = ap (λ l. p ∷ l) found.whole;
              says = found.says;
            })
          ])
    ]

last_some : {A : Type 0} (x : A) (xs : List A) → (y : A) × (last_or (Some x) xs ≡ Some y)
last_some x [] = (x, refl)
last_some x (y ∷ ys) = last_some y ys

none_last : {A : Type 0} (xs : List A) → last_or None xs ≡ None → xs ≡ []
none_last [] e = refl
none_last (x ∷ xs) e = let some = last_some x xs in let both : Some some.0 ≡ None = sym some.1 ∙ e in cc

end_first : (place : ℕ) (before : Option ChannelEnd) (end : ChannelEnd) (last : Option ChannelProgram) → IsJudgement place before (OfEnd end) last None
    → before ≡ None
end_first place None end last judged = refl
end_first place (Some other) end last judged = cc

not_after : (place : ℕ) (end : Option ChannelEnd) (saying : Saying) (last : Option ChannelProgram) (some : ChannelEnd) → end ≡ Some some
    → IsJudgement place end saying last None → ⊥
not_after place None saying last some e judged = cc
not_after place (Some end) saying last some e judged = cc

judged_as : (before : List PacketData) (packet : PacketData) (channel : ℕ) (saying : Saying) → saying_of packet ≡ Some (channel, saying)
    → Judges before packet None
    → IsJudgement (capped (length before)) (last_end channel before) saying (last_program channel before) None
judged_as before packet channel saying e judged = subst (λ said. JudgesSaying before said None) e judged

module _ (channel : ℕ) (packets : List PacketData) (passed : EachPasses packets) (found : Found channel packets) where
  first_end : ends_of channel found.before ≡ []
  first_end =
      none_last (ends_of channel found.before)
      (end_first _ (last_end channel found.before) found.end _ (judged_as found.before found.packet channel (OfEnd found.end) found.says
      (passed found.before found.packet found.after found.whole)))

  ends_from : (more : List PacketData) → ends_of channel (found.before ++ found.packet ∷ more) ≡ found.end ∷ ends_of channel more
  ends_from more =
      flat_map-append (λ (p : PacketData). end_said channel (saying_of p)) found.before (found.packet ∷ more)
      ∙ ap (λ l. l ++ (end_said channel (saying_of found.packet) ++ ends_of channel more)) first_end
      ∙ ap (λ s. end_said channel s ++ ends_of channel more) found.says
      ∙ ap (λ l. l ++ ends_of channel more) (here channel (found.end ∷ []))

  none_after : IsNamed channel found.after → ⊥
  none_after named =
      let between = found.before ++ found.packet ∷ named.before in
      let whole : packets ≡ between ++ named.packet ∷ named.after =
      found.whole ∙ ap (λ l. found.before ++ found.packet ∷ l) named.whole
      ∙ sym (append_assoc found.before (found.packet ∷ named.before) (named.packet ∷ named.after)) in
      let some = last_some found.end (ends_of channel named.before) in
      not_after _ (last_end channel between) named.names.0 _ some.0 (ap (last_or None) (ends_from named.before) ∙ some.1)
      (judged_as between named.packet channel named.names.0 named.names.1 (passed between named.packet named.after whole))

  no_ends_after : ends_of channel found.after ≡ []
  no_ends_after =
      elim (find channel found.after) [
        | inl none ↦ none
        | inr more ↦ absurd (none_after (record {
          before = more.before;
          packet = more.packet;
          after = more.after;
          whole = more.whole;
          names = (OfEnd more.end, more.says);
        }))
      ]

  one_end_of : ends_of channel packets ≡ found.end ∷ []
  one_end_of = ap (ends_of channel) found.whole ∙ ends_from found.after ∙ ap (λ l. found.end ∷ l) no_ends_after

were_none : (programs : List ChannelProgram) (offered : ℕ) → WereOffered (last_or None programs) offered → (offered ≡ 0) ↔ (programs ≡ [])
were_none [] offered were = (λ _. refl, λ _. were)
were_none (p ∷ ps) offered were =
    let some = last_some p ps in
    let more : some.0.first < offered = subst (λ last. WereOffered last offered) some.1 were in
    (λ none. absurd (omega arith), λ none. cc)

closing_some : (channel : ℕ) (end : Option ChannelEnd) (last : Option ChannelProgram) (frames : ℕ) → IsClosing channel end last frames None
    → (some : ChannelEnd) × (end ≡ Some some) × HasCounts last frames some
closing_some channel None last frames closed = cc
closing_some channel (Some end) last frames closed = (end, refl, closed)

one_some : {A : Type 0} (a b : A) → Some a ≡ Some b → a ≡ b
one_some a b e = cc

pub ends_well : (packets : List PacketData) (audit : Audit) → IsAudit packets audit → (channel : ℕ) → IsNamed channel packets → EndsWell channel packets
ends_well packets audit is channel named =
    let closed = closing_some channel _ _ _ (is.closed channel named) in
    elim (find channel packets) [
      | inl none ↦ (let both : None ≡ Some closed.0 = sym (ap (last_or None) none) ∙ closed.1 in cc)
      | inr found ↦ (
          let one = one_end_of channel packets is.passed found in
          let same : found.end ≡ closed.0 = one_some found.end closed.0 (sym (ap (last_or None) one) ∙ closed.1) in
          let counts = subst (HasCounts (last_program channel packets) (length (channel_frames channel packets))) (sym same) closed.2 in
          record {
            before = found.before;
            packet = found.packet;
            after = found.after;
            end = found.end;
            whole = found.whole;
            says = found.says;
            last = none_after channel packets is.passed found;
            one = one;
            kept = counts.kept;
            offered = were_none (programs_of channel packets) found.end.offered counts.offered;
          })
    ]
