-- The audit says yes of packets that say of each channel what approved packets say.
-- idea: a packet is judged by what was said of its channel ahead of it, so a yes is a yes for each channel alone.
use Rattle.std.proofs.Common.{ℕ, ◌≡◌, ◌≢◌, ◌⊎◌, inl, inr, List, [], ◌∷◌, ◌++◌, map, length, Option, None, Some, refl, sym, subst, ap, ◌∙◌}
use Rattle.std.specs.Prelude.{Bool, true, false, ◌==◌, if◌then◌else◌}
use Rattle.std.specs.List.{AllByRecursion, flat_map, last_or}
use Rattle.std.proofs.lemmas.Bool.{eq-eqb, eqb-true}
use Rattle.std.proofs.lemmas.List.{append_assoc, append-nil}
use Rattle.std.proofs.lemmas.List.Elements.{All-from_recursion, recursion_from_All}
use Rattle.std.proofs.lemmas.Option.{none-some, same_Some}
use Rattle.std.proofs.lemmas.Grind.{flat_map-append}
use Rattle.bpf_verify.specs.Validity.{Valid}
use Rattle.ch11_packet.specs.FramesRead.{ReadFrameData}
use Rattle.rec_reader.specs.declared.audits.answer.Audit.{Audit}
use Rattle.rec_reader.specs.declared.audits.answer.AuditLine.{AuditLine}
use Rattle.rec_reader.specs.declared.audits.answer.AuditFault.{AuditFault}
use Rattle.rec_reader.specs.declared.audits.answer.AuditFault.TheVariants.{Order, NoProgram, NoEnd}
use Rattle.rec_reader.specs.declared.audits.channel.ChannelProgram.{ChannelProgram}
use Rattle.rec_reader.specs.declared.audits.channel.ChannelEnd.{ChannelEnd}
use Rattle.rec_reader.specs.Packets.{PacketData}
use Rattle.rec_reader.specs.ChannelFrames.{channel_frames}
use Rattle.rec_reader.specs.Channels.{Saying, saying_of, IsNamed, program_said, programs_of, end_said, ends_of, last_program, last_end, capped}
use Rattle.rec_reader.specs.Channels.Saying.{OfFrames, OfProgram, OfEnd}
use Rattle.rec_reader.specs.Audits.{Accepts, FollowsProgram, IsJudgement, JudgesSaying, Judges, EachPasses, IsClosing, Closes}
use Rattle.rec_reader.specs.Audits.{line_with, line_of, AreLines, other_count, IsAudit}
use Rattle.rec_whole.specs.FilesFound.{AreApprovedAs}
use Rattle.rec_whole.specs.ToldOfChannels.{Told, told_by, told_in, told_of}
use Rattle.rec_whole.proofs.ToldChannels.{ends_by, ends_of_told, programs_by, end_told, program_told}
use Rattle.rec_whole.proofs.ToldChannels.{same_ends, same_frames, same_programs}
use Rattle.rec_whole.specs.ToldOfChannels.Told.{ToldFrame, ToldProgram, ToldEnd}

-- ---- what is told of one channel

abbrev pub end_after : Option ChannelEnd → Told → Option ChannelEnd
end_after end (ToldFrame frame) = end
end_after end (ToldProgram program) = end
end_after end (ToldEnd later) = Some later

abbrev pub program_after : Option ChannelProgram → Told → Option ChannelProgram
program_after last (ToldFrame frame) = last
program_after last (ToldProgram program) = Some program
program_after last (ToldEnd end) = last

abbrev pub ends_after : Option ChannelEnd → List Told → Option ChannelEnd
ends_after end [] = end
ends_after end (t ∷ ts) = ends_after (end_after end t) ts

abbrev pub programs_after : Option ChannelProgram → List Told → Option ChannelProgram
programs_after last [] = last
programs_after last (t ∷ ts) = programs_after (program_after last t) ts

-- it passes behind this end and this last program
abbrev pub TellPasses : Option ChannelEnd → Option ChannelProgram → Told → Type 0
TellPasses end last (ToldFrame frame) =
    (end ≡ None) × (program : ChannelProgram) × (last ≡ Some program) × Accepts program.insns frame
TellPasses end last (ToldProgram program) = (end ≡ None) × FollowsProgram last program × Valid program.insns
TellPasses end last (ToldEnd later) = end ≡ None

abbrev pub TellsPass : Option ChannelEnd → Option ChannelProgram → List Told → Type 0
TellsPass end last [] = Unit {0}
TellsPass end last (t ∷ ts) = TellPasses end last t × TellsPass (end_after end t) (program_after last t) ts

pass_both : (end : Option ChannelEnd) (last : Option ChannelProgram) (ts us : List Told) → TellsPass end last ts
    → TellsPass (ends_after end ts) (programs_after last ts) us → TellsPass end last (ts ++ us)
pass_both end last [] us a b = b
pass_both end last (t ∷ ts) us a b = (a.0, pass_both (end_after end t) (program_after last t) ts us a.1 b)

pass_front : (end : Option ChannelEnd) (last : Option ChannelProgram) (ts us : List Told) → TellsPass end last (ts ++ us) → TellsPass end last ts
pass_front end last [] us a = tt
pass_front end last (t ∷ ts) us a = (a.0, pass_front (end_after end t) (program_after last t) ts us a.1)

pass_back : (end : Option ChannelEnd) (last : Option ChannelProgram) (ts us : List Told) → TellsPass end last (ts ++ us)
    → TellsPass (ends_after end ts) (programs_after last ts) us
pass_back end last [] us a = a
pass_back end last (t ∷ ts) us a = pass_back (end_after end t) (program_after last t) ts us a.1

-- ---- the last end and the last program

pub last_append : {A : Type 0} (o : Option A) (xs ys : List A) → last_or o (xs ++ ys) ≡ last_or (last_or o xs) ys
last_append o [] ys = refl
last_append o (x ∷ xs) ys = last_append (Some x) xs ys

ends_told : (end : Option ChannelEnd) (ts : List Told) → last_or end (flat_map end_told ts) ≡ ends_after end ts
ends_told end [] = refl
ends_told end (ToldFrame frame ∷ ts) = ends_told end ts
ends_told end (ToldProgram program ∷ ts) = ends_told end ts
ends_told end (ToldEnd later ∷ ts) = ends_told (Some later) ts

programs_told : (last : Option ChannelProgram) (ts : List Told) → last_or last (flat_map program_told ts) ≡ programs_after last ts
programs_told last [] = refl
programs_told last (ToldFrame frame ∷ ts) = programs_told last ts
programs_told last (ToldProgram program ∷ ts) = programs_told (Some program) ts
programs_told last (ToldEnd end ∷ ts) = programs_told last ts

told_append : (channel : ℕ) (ps qs : List PacketData) → told_of channel (ps ++ qs) ≡ told_of channel ps ++ told_of channel qs
told_append channel ps qs = flat_map-append (λ (p : PacketData). told_in channel (saying_of p)) ps qs

end_behind : (channel : ℕ) (before : List PacketData) (p : PacketData)
    → last_end channel (before ++ p ∷ []) ≡ ends_after (last_end channel before) (told_in channel (saying_of p))
end_behind channel before p =
    ap (last_or None) (flat_map-append (λ (q : PacketData). end_said channel (saying_of q)) before (p ∷ []) ∙
    ap (λ l. ends_of channel before ++ l) (append-nil (end_said channel (saying_of p)) ∙ ends_by channel (saying_of p)))
    ∙ last_append None (ends_of channel before) (flat_map end_told (told_in channel (saying_of p)))
    ∙ ends_told (last_end channel before) (told_in channel (saying_of p))

program_behind : (channel : ℕ) (before : List PacketData) (p : PacketData)
    → last_program channel (before ++ p ∷ []) ≡ programs_after (last_program channel before) (told_in channel (saying_of p))
program_behind channel before p =
    ap (last_or None) (flat_map-append (λ (q : PacketData). program_said channel (saying_of q)) before (p ∷ []) ∙
    ap (λ l. programs_of channel before ++ l) (append-nil (program_said channel (saying_of p)) ∙ programs_by channel (saying_of p)))
    ∙ last_append None (programs_of channel before) (flat_map program_told (told_in channel (saying_of p)))
    ∙ programs_told (last_program channel before) (told_in channel (saying_of p))

-- ---- packet by packet

abbrev pub EachFrom : (before rest : List PacketData) → Type 0
EachFrom before [] = Unit {0}
EachFrom before (p ∷ ps) = Judges before p None × EachFrom (before ++ p ∷ []) ps

one_by_one : (before rest : List PacketData) → EachPasses (before ++ rest) → EachFrom before rest
one_by_one before [] passed = tt
one_by_one before (p ∷ ps) passed =
    (passed before p ps refl, one_by_one (before ++ p ∷ []) ps (subst EachPasses (sym (append_assoc before (p ∷ []) ps)) passed))

passed_at : (before xs ys : List PacketData) (q : PacketData) → EachFrom before (xs ++ q ∷ ys) → Judges (before ++ xs) q None
passed_at before [] ys q each = subst (λ l. Judges l q None) (sym (append-nil before)) each.0
passed_at before (x ∷ xs) ys q each =
    subst (λ l. Judges l q None) (append_assoc before (x ∷ []) xs) (passed_at (before ++ x ∷ []) xs ys q each.1)

all_at_once : (packets : List PacketData) → EachFrom [] packets → EachPasses packets
all_at_once packets each = λ before q after whole. passed_at [] before after q (subst (EachFrom []) whole each)

-- ---- what is approved

no_answer : (fault : AuditFault) → None ≡ Some fault → ⊥
no_answer fault e = none-some fault e

all_accepted : (program : ChannelProgram) (frames : List ReadFrameData) → AllByRecursion (Accepts program.insns) frames
    → TellsPass None (Some program) (map ToldFrame frames)
all_accepted program [] all = tt
all_accepted program (f ∷ fs) all = ((refl, program, refl, all.0), all_accepted program fs all.1)

saying_passes : (number : ℕ) (end : Option ChannelEnd) (saying : Saying) (last : Option ChannelProgram) → IsJudgement number end saying last None
    → TellsPass end last (told_by saying)
saying_passes number (Some end) saying last judged = absurd (no_answer (Order number) judged)
saying_passes number None (OfFrames frames) None judged = absurd (no_answer (NoProgram number) judged)
saying_passes number None (OfFrames frames) (Some program) judged =
    all_accepted program frames (recursion_from_All (Accepts program.insns) frames judged)
saying_passes number None (OfProgram program) last judged = ((refl, judged.0, judged.1), tt)
saying_passes number None (OfEnd end) last judged = (refl, tt)

said_passes : (channel : ℕ) (before : List PacketData) (said : Option (ℕ × Saying)) → JudgesSaying before said None
    → TellsPass (last_end channel before) (last_program channel before) (told_in channel said)
said_passes channel before None judged = tt
said_passes channel before (Some (named, saying)) judged = here (named == channel) refl
  where
    here : (is : Bool) → (named == channel) ≡ is
        → TellsPass (last_end channel before) (last_program channel before) (if is then told_by saying else [])
    here true same = subst (λ n. TellsPass (last_end n before) (last_program n before) (told_by saying)) (eqb-true named channel same)
        (saying_passes (capped (length before)) (last_end named before) saying (last_program named before) judged)
    here false other = tt

channel_passes : (channel : ℕ) (before rest : List PacketData) → EachFrom before rest
    → TellsPass (last_end channel before) (last_program channel before) (told_of channel rest)
channel_passes channel before [] each = tt
channel_passes channel before (p ∷ ps) each =
    pass_both (last_end channel before) (last_program channel before) (told_in channel (saying_of p)) (told_of channel ps)
    (said_passes channel before (saying_of p) each.0)
    (subst (λ e. TellsPass e (programs_after (last_program channel before) (told_in channel (saying_of p))) (told_of channel ps))
    (end_behind channel before p)
    (subst (λ l. TellsPass (last_end channel (before ++ p ∷ [])) l (told_of channel ps)) (program_behind channel before p)
    (channel_passes channel (before ++ p ∷ []) ps each.1)))

-- ---- and the other way round

-- it says something of a channel from 1 on
abbrev pub SaysSome : Option (ℕ × Saying) → Type 0
SaysSome None = Unit {0}
SaysSome (Some (named, saying)) = (named ≢ 0) × (told_by saying ≢ [])

accepted_by : (program : ChannelProgram) (frames : List ReadFrameData) → TellsPass None (Some program) (map ToldFrame frames)
    → AllByRecursion (Accepts program.insns) frames
accepted_by program [] pass = tt
accepted_by program (f ∷ fs) pass =
    (subst (λ (q : ChannelProgram). Accepts q.insns f) (sym (same_Some program pass.0.1 pass.0.2)) pass.0.3, accepted_by program fs pass.1)

passes_saying : (number : ℕ) (end : Option ChannelEnd) (saying : Saying) (last : Option ChannelProgram) → told_by saying ≢ []
    → TellsPass end last (told_by saying) → IsJudgement number end saying last None
passes_saying number (Some end) (OfFrames []) last some pass = absurd (some refl)
passes_saying number (Some end) (OfFrames (f ∷ fs)) last some pass = absurd (none-some end (sym pass.0.0))
passes_saying number (Some end) (OfProgram program) last some pass = absurd (none-some end (sym pass.0.0))
passes_saying number (Some end) (OfEnd later) last some pass = absurd (none-some end (sym pass.0))
passes_saying number None (OfFrames []) last some pass = absurd (some refl)
passes_saying number None (OfFrames (f ∷ fs)) None some pass = absurd (none-some pass.0.1 pass.0.2)
passes_saying number None (OfFrames (f ∷ fs)) (Some program) some pass =
    All-from_recursion (Accepts program.insns) (f ∷ fs) (accepted_by program (f ∷ fs) pass)
passes_saying number None (OfProgram program) last some pass = (pass.0.1, pass.0.2)
passes_saying number None (OfEnd end) last some pass = refl

said_of_own : (named : ℕ) (saying : Saying) → told_in named (Some (named, saying)) ≡ told_by saying
said_of_own named saying = ap (λ b. if b then told_by saying else []) (eq-eqb named named refl)

passes_said : (before : List PacketData) (said : Option (ℕ × Saying)) → SaysSome said
    → ((channel : ℕ) → TellsPass (last_end channel before) (last_program channel before) (told_in channel said)) → JudgesSaying before said None
passes_said before None some pass = refl
passes_said before (Some (named, saying)) some pass =
    passes_saying (capped (length before)) (last_end named before) saying (last_program named before) some.1
    (subst (TellsPass (last_end named before) (last_program named before)) (said_of_own named saying) (pass named))

passes_each : (before rest : List PacketData) → AllByRecursion (λ (p : PacketData). SaysSome (saying_of p)) rest
    → ((channel : ℕ) → TellsPass (last_end channel before) (last_program channel before) (told_of channel rest)) → EachFrom before rest
passes_each before [] some pass = tt
passes_each before (p ∷ ps) some pass = (
  passes_said before (saying_of p) some.0 (λ channel.
      pass_front (last_end channel before) (last_program channel before) (told_in channel (saying_of p)) (told_of channel ps) (pass channel)),
  passes_each (before ++ p ∷ []) ps some.1 (λ channel.
      subst (λ e. TellsPass e (last_program channel (before ++ p ∷ [])) (told_of channel ps)) (sym (end_behind channel before p))
      (subst (λ l. TellsPass (ends_after (last_end channel before) (told_in channel (saying_of p))) l (told_of channel ps))
      (sym (program_behind channel before p))
      (pass_back (last_end channel before) (last_program channel before) (told_in channel (saying_of p)) (told_of channel ps) (pass channel)))),
)

-- packets say the same of each channel
abbrev pub SayTheSame : (packets found : List PacketData) → Type 0
SayTheSame packets found = (channel : ℕ) → told_of channel found ≡ told_of channel packets

pub each_found : (packets found : List PacketData) → SayTheSame packets found → AllByRecursion (λ (p : PacketData). SaysSome (saying_of p)) found
    → EachPasses packets → EachPasses found
each_found packets found same some passed =
    all_at_once found (passes_each [] found some (λ channel.
    subst (TellsPass None None) (sym (same channel)) (channel_passes channel [] packets (one_by_one [] packets passed))))

-- ---- channels that are named

front_empty : {A : Type 0} (xs ys : List A) → xs ++ ys ≡ [] → xs ≡ []
front_empty [] ys e = refl
front_empty (x ∷ xs) ys e = cc

back_empty : {A : Type 0} (xs ys : List A) → xs ++ ys ≡ [] → ys ≡ []
back_empty [] ys e = e
back_empty (x ∷ xs) ys e = cc

said_named : (p : PacketData) (ps : List PacketData) (channel : ℕ) (said : Option (ℕ × Saying)) → saying_of p ≡ said
    → (told_in channel said ≡ []) ⊎ IsNamed channel (p ∷ ps)
said_named p ps channel None is = inl refl
said_named p ps channel (Some (named, saying)) is = here (named == channel) refl
  where
    here : (at : Bool) → (named == channel) ≡ at → ((if at then told_by saying else []) ≡ []) ⊎ IsNamed channel (p ∷ ps)
    here false other = inl refl
    here true same = inr (record {
      before = [];
      packet = p;
      after = ps;
      whole = refl;
      names = (saying, is ∙ ap (λ n. Some (n, saying)) (eqb-true named channel same));
    })

behind_named : (p : PacketData) (ps : List PacketData) (channel : ℕ) → IsNamed channel ps → IsNamed channel (p ∷ ps)
behind_named p ps channel named = record {
  before = p ∷ named.before;
  packet = named.packet;
  after = named.after;
  whole = ap (λ l. p ∷ l) named.whole;
  names = named.names;
}

named_or_not : (channel : ℕ) (packets : List PacketData) → (told_of channel packets ≡ []) ⊎ IsNamed channel packets
named_or_not channel [] = inl refl
named_or_not channel (p ∷ ps) = elim (said_named p ps channel (saying_of p) refl) as (λ _. (told_of channel (p ∷ ps) ≡ []) ⊎ IsNamed channel (p ∷ ps)) [
  | inr here ↦ inr here
  | inl none ↦ elim (named_or_not channel ps) as (λ _. (told_of channel (p ∷ ps) ≡ []) ⊎ IsNamed channel (p ∷ ps)) [
    | inr later ↦ inr (behind_named p ps channel later)
    | inl nothing ↦ inl (ap (λ l. l ++ told_of channel ps) none ∙ nothing)
  ]
]

says_at : (before after : List PacketData) (q : PacketData) → AllByRecursion (λ (p : PacketData). SaysSome (saying_of p)) (before ++ q ∷ after)
    → SaysSome (saying_of q)
says_at [] after q some = some.0
says_at (p ∷ before) after q some = says_at before after q some.1

is_told : (channel : ℕ) (packets : List PacketData) → AllByRecursion (λ (p : PacketData). SaysSome (saying_of p)) packets → IsNamed channel packets
    → told_of channel packets ≡ [] → ⊥
is_told channel packets some named none =
    let says = subst SaysSome named.names.1 (says_at named.before named.after named.packet
    (subst (AllByRecursion (λ (p : PacketData). SaysSome (saying_of p))) named.whole some)) in
    let split = sym (told_append channel named.before (named.packet ∷ named.after)) ∙ ap (told_of channel) (sym named.whole) ∙ none in
    let first = front_empty (told_in channel (saying_of named.packet)) (told_of channel named.after)
    (back_empty (told_of channel named.before) (told_of channel (named.packet ∷ named.after)) split) in
    says.1 (sym (said_of_own channel named.names.0) ∙ ap (told_in channel) (sym named.names.1) ∙ first)

pub named_found : (packets found : List PacketData) (channel : ℕ) → SayTheSame packets found
    → AllByRecursion (λ (p : PacketData). SaysSome (saying_of p)) found → IsNamed channel found → IsNamed channel packets
named_found packets found channel same some named = elim (named_or_not channel packets) as (λ _. IsNamed channel packets) [
  | inr is ↦ is
  | inl none ↦ absurd (is_told channel found some named (same channel ∙ none))
]

no_end_closes : (channel : ℕ) (packets : List PacketData) → told_of channel packets ≡ [] → Closes packets channel None → ⊥
no_end_closes channel packets none closes =
    let no_end : last_end channel packets ≡ None = ap (last_or None) (ends_of_told channel packets ∙ ap (flat_map end_told) none) in
    no_answer (NoEnd channel)
    (subst (λ e. IsClosing channel e (last_program channel packets) (length (channel_frames channel packets)) None) no_end closes)

found_named : (packets found : List PacketData) (channel : ℕ) → SayTheSame packets found → Closes packets channel None
    → IsNamed channel packets → IsNamed channel found
found_named packets found channel same closes named = elim (named_or_not channel found) as (λ _. IsNamed channel found) [
  | inr is ↦ is
  | inl none ↦ absurd (no_end_closes channel packets (sym (same channel) ∙ none) closes)
]

-- ---- the audit

pub closes_found : (packets found : List PacketData) (channel : ℕ) → SayTheSame packets found → Closes packets channel None → Closes found channel None
closes_found packets found channel same closed =
    subst (λ n. IsClosing channel (last_end channel found) (last_program channel found) n None)
    (sym (ap length (same_frames channel packets found (same channel))))
    (subst (λ l. IsClosing channel (last_end channel found) l (length (channel_frames channel packets)) None)
    (sym (ap (last_or None) (same_programs channel packets found (same channel))))
    (subst (λ e. IsClosing channel e (last_program channel packets) (length (channel_frames channel packets)) None)
    (sym (ap (last_or None) (same_ends channel packets found (same channel)))) closed))

line_found : (packets found : List PacketData) → SayTheSame packets found → (channel : ℕ) → line_of packets channel ≡ line_of found channel
line_found packets found same channel =
    ap (λ l. line_with channel (capped (length l)) (length (channel_frames channel packets)) (last_end channel packets))
    (sym (same_programs channel packets found (same channel)))
    ∙ ap (λ l. line_with channel (capped (length (programs_of channel found))) (length l) (last_end channel packets))
    (sym (same_frames channel packets found (same channel)))
    ∙ ap (λ e. line_with channel (capped (length (programs_of channel found))) (length (channel_frames channel found)) (last_or None e))
    (sym (same_ends channel packets found (same channel)))

map_agree : (f g : ℕ → AuditLine) → ((n : ℕ) → f n ≡ g n) → (ns : List ℕ) → map f ns ≡ map g ns
map_agree f g same [] = refl
map_agree f g same (n ∷ ns) = ap (λ x. x ∷ map f ns) (same n) ∙ ap (λ l. g n ∷ l) (map_agree f g same ns)

lines_found : (packets found : List PacketData) (lines : List AuditLine) → SayTheSame packets found
    → AllByRecursion (λ (p : PacketData). SaysSome (saying_of p)) found
    → ((channel : ℕ) → IsNamed channel packets → Closes packets channel None) → AreLines packets lines → AreLines found lines
lines_found packets found lines same some closed are = record {
  channels = are.channels;
  ascending = are.ascending;
  all = λ channel. (
    λ has. let named = (are.all channel).0 has in found_named packets found channel same (closed channel named) named,
    λ named. (are.all channel).1 (named_found packets found channel same some named),
  );
  lines_are = are.lines_are ∙ map_agree (line_of packets) (line_of found) (line_found packets found same) are.channels;
}

pub approved_found : (packets found : List PacketData) (audit : Audit) → SayTheSame packets found
    → AllByRecursion (λ (p : PacketData). SaysSome (saying_of p)) found → IsAudit packets audit → AreApprovedAs found audit
approved_found packets found audit same some is = record {
  own = record { channels = audit.channels; other = capped (other_count found) };
  audited = record {
    passed = each_found packets found same some is.passed;
    closed = λ channel named. closes_found packets found channel same (is.closed channel (named_found packets found channel same some named));
    lines = lines_found packets found audit.channels same some is.closed is.lines;
    other = refl;
  };
  lines = refl;
}
