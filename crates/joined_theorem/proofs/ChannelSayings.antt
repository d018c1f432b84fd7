-- What packets say of one channel, and that an audit passes packets channel by channel.
use Rattle.std.proofs.Common.{ℕ, ◌≡◌, List, [], ◌∷◌, ◌++◌, length, Option, None, Some, refl, sym, subst, ap, ◌∙◌}
use Rattle.std.specs.Prelude.{Bool, true, false, ◌==◌, if◌then◌else◌}
use Rattle.std.specs.List.{flat_map, last_or}
use Rattle.std.proofs.lemmas.Bool.{eq-eqb, eqb-true}
use Rattle.std.proofs.lemmas.List.{append_assoc, append-nil}
use Rattle.std.proofs.lemmas.Option.{none-some}
use Rattle.std.proofs.lemmas.Grind.{flat_map-append}
use Rattle.ch11_packet.specs.FramesRead.{ReadFrameData}
use Rattle.rec_reader.specs.declared.audits.answer.AuditFault.TheVariants.{Order, NoProgram}
use Rattle.rec_reader.specs.declared.audits.channel.ChannelProgram.{ChannelProgram}
use Rattle.rec_reader.specs.declared.audits.channel.ChannelEnd.{ChannelEnd}
use Rattle.rec_reader.specs.Packets.{PacketData}
use Rattle.rec_reader.specs.Channels.{Saying, saying_of, program_said, programs_of, end_said, ends_of, last_program, last_end, capped}
use Rattle.rec_reader.specs.Channels.Saying.{OfFrames, OfProgram, OfEnd}
use Rattle.rec_reader.specs.Audits.{IsJudgement, JudgesSaying, Judges, EachPasses}
use Rattle.rec_whole.proofs.PassingChannels.{last_append}

-- ---- what is said of one channel

abbrev pub said_in : (channel : ℕ) → Option (ℕ × Saying) → List Saying
said_in channel None = []
said_in channel (Some (named, saying)) = if named == channel then saying ∷ [] else []

abbrev pub sayings_of : (channel : ℕ) → List PacketData → List Saying
sayings_of channel packets = flat_map (λ (p : PacketData). said_in channel (saying_of p)) packets

abbrev pub end_in : Saying → List ChannelEnd
end_in (OfFrames frames) = []
end_in (OfProgram program) = []
end_in (OfEnd end) = end ∷ []

abbrev pub program_in : Saying → List ChannelProgram
program_in (OfFrames frames) = []
program_in (OfProgram program) = program ∷ []
program_in (OfEnd end) = []

abbrev pub frames_in : Saying → List ReadFrameData
frames_in (OfFrames frames) = frames
frames_in (OfProgram program) = []
frames_in (OfEnd end) = []

-- ---- what is kept of it

abbrev pub end_after : Option ChannelEnd → Saying → Option ChannelEnd
end_after end (OfFrames frames) = end
end_after end (OfProgram program) = end
end_after end (OfEnd later) = Some later

abbrev pub program_after : Option ChannelProgram → Saying → Option ChannelProgram
program_after last (OfFrames frames) = last
program_after last (OfProgram program) = Some program
program_after last (OfEnd end) = last

abbrev pub ends_after : Option ChannelEnd → List Saying → Option ChannelEnd
ends_after end [] = end
ends_after end (s ∷ ss) = ends_after (end_after end s) ss

abbrev pub programs_after : Option ChannelProgram → List Saying → Option ChannelProgram
programs_after last [] = last
programs_after last (s ∷ ss) = programs_after (program_after last s) ss

pub ends_append : (end : Option ChannelEnd) (ss ts : List Saying) → ends_after end (ss ++ ts) ≡ ends_after (ends_after end ss) ts
ends_append end [] ts = refl
ends_append end (s ∷ ss) ts = ends_append (end_after end s) ss ts

pub programs_append : (last : Option ChannelProgram) (ss ts : List Saying)
    → programs_after last (ss ++ ts) ≡ programs_after (programs_after last ss) ts
programs_append last [] ts = refl
programs_append last (s ∷ ss) ts = programs_append (program_after last s) ss ts

end_said_last : (channel : ℕ) (end : Option ChannelEnd) (said : Option (ℕ × Saying))
    → last_or end (end_said channel said) ≡ ends_after end (said_in channel said)
end_said_last channel end None = refl
end_said_last channel end (Some (named, OfFrames frames)) = here (named == channel)
  where
    here : (is : Bool) → end ≡ ends_after end (if is then OfFrames frames ∷ [] else [])
    here true = refl
    here false = refl
end_said_last channel end (Some (named, OfProgram program)) = here (named == channel)
  where
    here : (is : Bool) → end ≡ ends_after end (if is then OfProgram program ∷ [] else [])
    here true = refl
    here false = refl
end_said_last channel end (Some (named, OfEnd later)) = here (named == channel)
  where
    here : (is : Bool) → last_or end (if is then later ∷ [] else []) ≡ ends_after end (if is then OfEnd later ∷ [] else [])
    here true = refl
    here false = refl

program_said_last : (channel : ℕ) (last : Option ChannelProgram) (said : Option (ℕ × Saying))
    → last_or last (program_said channel said) ≡ programs_after last (said_in channel said)
program_said_last channel last None = refl
program_said_last channel last (Some (named, OfFrames frames)) = here (named == channel)
  where
    here : (is : Bool) → last ≡ programs_after last (if is then OfFrames frames ∷ [] else [])
    here true = refl
    here false = refl
program_said_last channel last (Some (named, OfProgram program)) = here (named == channel)
  where
    here : (is : Bool)
        → last_or last (if is then program ∷ [] else []) ≡ programs_after last (if is then OfProgram program ∷ [] else [])
    here true = refl
    here false = refl
program_said_last channel last (Some (named, OfEnd end)) = here (named == channel)
  where
    here : (is : Bool) → last ≡ programs_after last (if is then OfEnd end ∷ [] else [])
    here true = refl
    here false = refl

pub end_of_sayings : (channel : ℕ) (end : Option ChannelEnd) (packets : List PacketData)
    → last_or end (ends_of channel packets) ≡ ends_after end (sayings_of channel packets)
end_of_sayings channel end [] = refl
end_of_sayings channel end (p ∷ ps) =
    last_append end (end_said channel (saying_of p)) (ends_of channel ps)
    ∙ ap (λ e. last_or e (ends_of channel ps)) (end_said_last channel end (saying_of p))
    ∙ end_of_sayings channel (ends_after end (said_in channel (saying_of p))) ps
    ∙ sym (ends_append end (said_in channel (saying_of p)) (sayings_of channel ps))

pub program_of_sayings : (channel : ℕ) (last : Option ChannelProgram) (packets : List PacketData)
    → last_or last (programs_of channel packets) ≡ programs_after last (sayings_of channel packets)
program_of_sayings channel last [] = refl
program_of_sayings channel last (p ∷ ps) =
    last_append last (program_said channel (saying_of p)) (programs_of channel ps)
    ∙ ap (λ l. last_or l (programs_of channel ps)) (program_said_last channel last (saying_of p))
    ∙ program_of_sayings channel (programs_after last (said_in channel (saying_of p))) ps
    ∙ sym (programs_append last (said_in channel (saying_of p)) (sayings_of channel ps))

-- ---- what passes

-- it passes behind this end and this last program
abbrev pub SayingPasses : Option ChannelEnd → Option ChannelProgram → Saying → Type 0
SayingPasses end last saying = IsJudgement 0 end saying last None

abbrev pub SayingsPass : Option ChannelEnd → Option ChannelProgram → List Saying → Type 0
SayingsPass end last [] = Unit {0}
SayingsPass end last (s ∷ ss) = SayingPasses end last s × SayingsPass (end_after end s) (program_after last s) ss

pub pass_both : (end : Option ChannelEnd) (last : Option ChannelProgram) (ss ts : List Saying) → SayingsPass end last ss
    → SayingsPass (ends_after end ss) (programs_after last ss) ts → SayingsPass end last (ss ++ ts)
pass_both end last [] ts a b = b
pass_both end last (s ∷ ss) ts a b = (a.0, pass_both (end_after end s) (program_after last s) ss ts a.1 b)

pass_front : (end : Option ChannelEnd) (last : Option ChannelProgram) (ss ts : List Saying) → SayingsPass end last (ss ++ ts)
    → SayingsPass end last ss
pass_front end last [] ts a = tt
pass_front end last (s ∷ ss) ts a = (a.0, pass_front (end_after end s) (program_after last s) ss ts a.1)

pass_back : (end : Option ChannelEnd) (last : Option ChannelProgram) (ss ts : List Saying) → SayingsPass end last (ss ++ ts)
    → SayingsPass (ends_after end ss) (programs_after last ss) ts
pass_back end last [] ts a = a
pass_back end last (s ∷ ss) ts a = pass_back (end_after end s) (program_after last s) ss ts a.1

-- the number of a packet that passes says nothing
any_number : (one other : ℕ) (end : Option ChannelEnd) (saying : Saying) (last : Option ChannelProgram) → IsJudgement one end saying last None
    → IsJudgement other end saying last None
any_number one other (Some end) saying last judged = absurd (none-some (Order one) judged)
any_number one other None (OfFrames frames) None judged = absurd (none-some (NoProgram one) judged)
any_number one other None (OfFrames frames) (Some program) judged = judged
any_number one other None (OfProgram program) last judged = judged
any_number one other None (OfEnd end) last judged = refl

-- ---- packet by packet

abbrev EachFrom : (before rest : List PacketData) → Type 0
EachFrom before [] = Unit {0}
EachFrom before (p ∷ ps) = Judges before p None × EachFrom (before ++ p ∷ []) ps

one_by_one : (before rest : List PacketData) → EachPasses (before ++ rest) → EachFrom before rest
one_by_one before [] passed = tt
one_by_one before (p ∷ ps) passed =
    (passed before p ps refl, one_by_one (before ++ p ∷ []) ps (subst EachPasses (sym (append_assoc before (p ∷ []) ps)) passed))

passed_at : (before xs ys : List PacketData) (q : PacketData) → EachFrom before (xs ++ q ∷ ys) → Judges (before ++ xs) q None
passed_at before [] ys q each = subst (λ l. Judges l q None) (sym (append-nil before)) each.0
passed_at before (x ∷ xs) ys q each =
    subst (λ l. Judges l q None) (append_assoc before (x ∷ []) xs) (passed_at (before ++ x ∷ []) xs ys q each.1)

all_at_once : (packets : List PacketData) → EachFrom [] packets → EachPasses packets
all_at_once packets each = λ before q after whole. passed_at [] before after q (subst (EachFrom []) whole each)

end_behind : (channel : ℕ) (before : List PacketData) (p : PacketData)
    → last_end channel (before ++ p ∷ []) ≡ ends_after (last_end channel before) (said_in channel (saying_of p))
end_behind channel before p =
    ap (last_or None) (flat_map-append (λ (q : PacketData). end_said channel (saying_of q)) before (p ∷ []))
    ∙ last_append None (ends_of channel before) (ends_of channel (p ∷ []))
    ∙ ap (last_or (last_end channel before)) (append-nil (end_said channel (saying_of p)))
    ∙ end_said_last channel (last_end channel before) (saying_of p)

program_behind : (channel : ℕ) (before : List PacketData) (p : PacketData)
    → last_program channel (before ++ p ∷ []) ≡ programs_after (last_program channel before) (said_in channel (saying_of p))
program_behind channel before p =
    ap (last_or None) (flat_map-append (λ (q : PacketData). program_said channel (saying_of q)) before (p ∷ []))
    ∙ last_append None (programs_of channel before) (programs_of channel (p ∷ []))
    ∙ ap (last_or (last_program channel before)) (append-nil (program_said channel (saying_of p)))
    ∙ program_said_last channel (last_program channel before) (saying_of p)

said_passes : (channel : ℕ) (before : List PacketData) (said : Option (ℕ × Saying)) → JudgesSaying before said None
    → SayingsPass (last_end channel before) (last_program channel before) (said_in channel said)
said_passes channel before None judged = tt
said_passes channel before (Some (named, saying)) judged = here (named == channel) refl
  where
    here : (is : Bool) → (named == channel) ≡ is
        → SayingsPass (last_end channel before) (last_program channel before) (if is then saying ∷ [] else [])
    here true same = subst (λ n. SayingsPass (last_end n before) (last_program n before) (saying ∷ [])) (eqb-true named channel same)
        (any_number (capped (length before)) 0 (last_end named before) saying (last_program named before) judged, tt)
    here false other = tt

passes_from : (channel : ℕ) (before rest : List PacketData) → EachFrom before rest
    → SayingsPass (last_end channel before) (last_program channel before) (sayings_of channel rest)
passes_from channel before [] each = tt
passes_from channel before (p ∷ ps) each =
    pass_both (last_end channel before) (last_program channel before) (said_in channel (saying_of p)) (sayings_of channel ps)
    (said_passes channel before (saying_of p) each.0)
    (subst (λ e. SayingsPass e (programs_after (last_program channel before) (said_in channel (saying_of p))) (sayings_of channel ps))
    (end_behind channel before p)
    (subst (λ l. SayingsPass (last_end channel (before ++ p ∷ [])) l (sayings_of channel ps)) (program_behind channel before p)
    (passes_from channel (before ++ p ∷ []) ps each.1)))

-- what is said of a channel of packets that pass, passes
pub channel_passes : (channel : ℕ) (packets : List PacketData) → EachPasses packets → SayingsPass None None (sayings_of channel packets)
channel_passes channel packets passed = passes_from channel [] packets (one_by_one [] packets passed)

said_of_own : (named : ℕ) (saying : Saying) → said_in named (Some (named, saying)) ≡ saying ∷ []
said_of_own named saying = ap (λ b. if b then saying ∷ [] else []) (eq-eqb named named refl)

passes_said : (before : List PacketData) (said : Option (ℕ × Saying))
    → ((channel : ℕ) → SayingsPass (last_end channel before) (last_program channel before) (said_in channel said)) → JudgesSaying before said None
passes_said before None pass = refl
passes_said before (Some (named, saying)) pass =
    any_number 0 (capped (length before)) (last_end named before) saying (last_program named before)
    (subst (SayingsPass (last_end named before) (last_program named before)) (said_of_own named saying) (pass named)).0

passes_each : (before rest : List PacketData)
    → ((channel : ℕ) → SayingsPass (last_end channel before) (last_program channel before) (sayings_of channel rest)) → EachFrom before rest
passes_each before [] pass = tt
passes_each before (p ∷ ps) pass = (
  passes_said before (saying_of p) (λ channel.
      pass_front (last_end channel before) (last_program channel before) (said_in channel (saying_of p)) (sayings_of channel ps) (pass channel)),
  passes_each (before ++ p ∷ []) ps (λ channel.
      subst (λ e. SayingsPass e (last_program channel (before ++ p ∷ [])) (sayings_of channel ps)) (sym (end_behind channel before p))
      (subst (λ l. SayingsPass (ends_after (last_end channel before) (said_in channel (saying_of p))) l (sayings_of channel ps))
      (sym (program_behind channel before p))
      (pass_back (last_end channel before) (last_program channel before) (said_in channel (saying_of p)) (sayings_of channel ps) (pass channel)))),
)

-- packets pass where what is said of each channel does
pub all_pass : (packets : List PacketData) → ((channel : ℕ) → SayingsPass None None (sayings_of channel packets)) → EachPasses packets
all_pass packets pass = all_at_once packets (passes_each [] packets pass)
