-- The frames, the programs and the ends of a channel, by what is said of it.
use Rattle.std.proofs.Common.{ℕ, ◌≡◌, ◌+◌, ◌<◌, ◌^◌, List, [], ◌∷◌, ◌++◌, map, Option, None, Some, Bool, true, false, refl, sym, subst, ap, ◌∙◌}
use Rattle.std.specs.Prelude.{◌==◌, ◌||◌, if◌then◌else◌, drop}
use Rattle.std.specs.List.{flat_map}
use Rattle.std.proofs.lemmas.List.{append-nil, map-append}
use Rattle.std.proofs.lemmas.Grind.{flat_map-append}
use Rattle.ch11_packet.specs.FramesRead.{ReadFrameData}
use Rattle.ch11_packet.specs.declared.class.What.{What}
use Rattle.ch11_packet.specs.declared.class.What.TheVariants.{Frames, Program, End, Other}
use Rattle.ch11_packet.specs.Classes.{data_in}
use Rattle.rec_reader.specs.declared.audits.channel.ChannelProgram.{ChannelProgram}
use Rattle.rec_reader.specs.declared.audits.channel.ChannelEnd.{ChannelEnd}
use Rattle.rec_reader.specs.Packets.{PacketData}
use Rattle.rec_reader.specs.ChannelFrames.{channel_frames, frames_held}
use Rattle.rec_reader.specs.Channels.{Saying, saying_in, saying_of, program_said, end_said, ends_of, stored_program}
use Rattle.rec_reader.specs.Channels.Saying.{OfFrames, OfProgram, OfEnd}
use Rattle.rec_runs.specs.FilePrograms.{program_in_file}
use Rattle.rec_runs.specs.ProgramMoves.{PlacedProgram, placed_program, placed_programs}
use Rattle.rec_runs.specs.RunSayings.{is_said_of}
use Rattle.rec_joined.specs.MovedRecords.{RecordMoving}
use Rattle.joined_theorem.specs.RunMoves.{names_channel}
use Rattle.joined_theorem.proofs.ChannelSayings.{SayingsPass, end_in, ends_after, frames_in, program_in, said_in, sayings_of}
use Rattle.joined_theorem.proofs.Continued.{FitSayings, nothing_more, programs_said}

-- ---- frames

no_frames_said : (is other : Bool) (saying : Saying) → frames_in saying ≡ []
    → (if is then [] else []) ≡ flat_map frames_in (if other then saying ∷ [] else [])
no_frames_said true true saying none = sym (ap (λ l. l ++ []) none)
no_frames_said true false saying none = refl
no_frames_said false true saying none = sym (ap (λ l. l ++ []) none)
no_frames_said false false saying none = refl

frames_said : (channel own : ℕ) (what : What) (bytes : List ℕ)
    → (if own == channel then frames_held what bytes else []) ≡ flat_map frames_in (said_in channel (saying_in own what bytes))
frames_said channel own (Frames count) bytes = here (own == channel)
  where
    here : (is : Bool) → (if is then frames_held (Frames count) bytes else [])
        ≡ flat_map frames_in (if is then OfFrames (frames_held (Frames count) bytes) ∷ [] else [])
    here true = sym (append-nil (frames_held (Frames count) bytes))
    here false = refl
frames_said channel own (Program named version first count) bytes =
    no_frames_said (own == channel) (named == channel) (OfProgram (stored_program version first count bytes)) refl
frames_said channel own (End named offered kept) bytes =
    no_frames_said (own == channel) (named == channel) (OfEnd (record { offered = offered; kept = kept })) refl
frames_said channel own Other bytes = here (own == channel)
  where
    here : (is : Bool) → ◌≡◌ {A = List ReadFrameData} (if is then [] else []) []
    here true = refl
    here false = refl

pub frames_of_sayings : (channel : ℕ) (packets : List PacketData) → channel_frames channel packets ≡ flat_map frames_in (sayings_of channel packets)
frames_of_sayings channel [] = refl
frames_of_sayings channel (p ∷ ps) =
    ap (λ l. l ++ channel_frames channel ps) (frames_said channel p.header.channel p.what (data_in p.header p.body))
    ∙ ap (λ l. flat_map frames_in (said_in channel (saying_of p)) ++ l) (frames_of_sayings channel ps)
    ∙ sym (flat_map-append frames_in (said_in channel (saying_of p)) (sayings_of channel ps))

-- ---- programs

program_placed : (channel at : ℕ) (said : Option (ℕ × Saying))
    → map (λ (placed : PlacedProgram). placed.program) (map (placed_program at) (program_said channel said)) ≡ flat_map program_in (said_in channel said)
program_placed channel at None = refl
program_placed channel at (Some (named, OfFrames frames)) = here (named == channel)
  where
    here : (is : Bool) → ◌≡◌ {A = List ChannelProgram} [] (flat_map program_in (if is then OfFrames frames ∷ [] else []))
    here true = refl
    here false = refl
program_placed channel at (Some (named, OfProgram program)) = here (named == channel)
  where
    here : (is : Bool) → map (λ (placed : PlacedProgram). placed.program) (map (placed_program at) (if is then program ∷ [] else []))
        ≡ flat_map program_in (if is then OfProgram program ∷ [] else [])
    here true = refl
    here false = refl
program_placed channel at (Some (named, OfEnd end)) = here (named == channel)
  where
    here : (is : Bool) → ◌≡◌ {A = List ChannelProgram} [] (flat_map program_in (if is then OfEnd end ∷ [] else []))
    here true = refl
    here false = refl

pub programs_placed : (channel : ℕ) (packets : List PacketData)
    → map (λ (placed : PlacedProgram). placed.program) (placed_programs channel packets) ≡ flat_map program_in (sayings_of channel packets)
programs_placed channel [] = refl
programs_placed channel (p ∷ ps) =
    map-append (λ (placed : PlacedProgram). placed.program) (map (placed_program p.at) (program_said channel (saying_of p))) (placed_programs channel ps)
    ∙ ap (λ l. l ++ map (λ (placed : PlacedProgram). placed.program) (placed_programs channel ps)) (program_placed channel p.at (saying_of p))
    ∙ ap (λ l. flat_map program_in (said_in channel (saying_of p)) ++ l) (programs_placed channel ps)
    ∙ sym (flat_map-append program_in (said_in channel (saying_of p)) (sayings_of channel ps))

all_in_file : (records : RecordMoving) (ss : List Saying) → programs_said records false ss ≡ map (program_in_file records.versions) (flat_map program_in ss)
all_in_file records [] = refl
all_in_file records (OfFrames frames ∷ ss) = all_in_file records ss
all_in_file records (OfProgram program ∷ ss) = ap (λ l. program_in_file records.versions program ∷ l) (all_in_file records ss)
all_in_file records (OfEnd end ∷ ss) = all_in_file records ss

others_in_file : (records : RecordMoving) (ss : List Saying)
    → programs_said records true ss ≡ map (program_in_file records.versions) (drop 1 (flat_map program_in ss))
others_in_file records [] = refl
others_in_file records (OfFrames frames ∷ ss) = others_in_file records ss
others_in_file records (OfProgram program ∷ ss) = all_in_file records ss
others_in_file records (OfEnd end ∷ ss) = others_in_file records ss

map_drop : {A B : Type 0} (f : A → B) (xs : List A) → map f (drop 1 xs) ≡ drop 1 (map f xs)
map_drop f [] = refl
map_drop f (x ∷ xs) = refl

map_twice : {A B C : Type 0} (f : A → B) (g : B → C) (xs : List A) → map (λ x. g (f x)) xs ≡ map g (map f xs)
map_twice f g [] = refl
map_twice f g (x ∷ xs) = ap (λ l. g (f x) ∷ l) (map_twice f g xs)

abbrev pub kept_of : (skips : Bool) → List PlacedProgram → List PlacedProgram
kept_of skips programs = if skips then drop 1 programs else programs

-- a recording's programs in the file, by their places and by what is said
pub placed_in_file : (records : RecordMoving) (channel : ℕ) (packets : List PacketData) (skips : Bool)
    → map (λ (placed : PlacedProgram). program_in_file records.versions placed.program) (kept_of skips (placed_programs channel packets))
    ≡ programs_said records skips (sayings_of channel packets)
placed_in_file records channel packets true =
    map_twice (λ (placed : PlacedProgram). placed.program) (program_in_file records.versions) (drop 1 (placed_programs channel packets))
    ∙ ap (map (program_in_file records.versions)) (map_drop (λ (placed : PlacedProgram). placed.program) (placed_programs channel packets)
    ∙ ap (drop 1) (programs_placed channel packets))
    ∙ sym (others_in_file records (sayings_of channel packets))
placed_in_file records channel packets false =
    map_twice (λ (placed : PlacedProgram). placed.program) (program_in_file records.versions) (placed_programs channel packets)
    ∙ ap (map (program_in_file records.versions)) (programs_placed channel packets)
    ∙ sym (all_in_file records (sayings_of channel packets))

-- ---- ends

end_placed : (channel : ℕ) (said : Option (ℕ × Saying)) → end_said channel said ≡ flat_map end_in (said_in channel said)
end_placed channel None = refl
end_placed channel (Some (named, OfFrames frames)) = here (named == channel)
  where
    here : (is : Bool) → ◌≡◌ {A = List ChannelEnd} [] (flat_map end_in (if is then OfFrames frames ∷ [] else []))
    here true = refl
    here false = refl
end_placed channel (Some (named, OfProgram program)) = here (named == channel)
  where
    here : (is : Bool) → ◌≡◌ {A = List ChannelEnd} [] (flat_map end_in (if is then OfProgram program ∷ [] else []))
    here true = refl
    here false = refl
end_placed channel (Some (named, OfEnd end)) = here (named == channel)
  where
    here : (is : Bool) → (if is then end ∷ [] else []) ≡ flat_map end_in (if is then OfEnd end ∷ [] else [])
    here true = refl
    here false = refl

pub ends_of_sayings : (channel : ℕ) (packets : List PacketData) → ends_of channel packets ≡ flat_map end_in (sayings_of channel packets)
ends_of_sayings channel [] = refl
ends_of_sayings channel (p ∷ ps) =
    ap (λ l. l ++ ends_of channel ps) (end_placed channel (saying_of p))
    ∙ ap (λ l. flat_map end_in (said_in channel (saying_of p)) ++ l) (ends_of_sayings channel ps)
    ∙ sym (flat_map-append end_in (said_in channel (saying_of p)) (sayings_of channel ps))

some_end : (one other : ChannelEnd) → Some one ≡ Some other → one ≡ other
some_end one other is = cc

no_end : (end : ChannelEnd) → ◌≡◌ {A = Option ChannelEnd} None (Some end) → ⊥
no_end end is = cc

-- what passes has one end at most
pub one_end : (last : Option ChannelProgram) (end : ChannelEnd) (ss : List Saying) → SayingsPass None last ss → ends_after None ss ≡ Some end
    → flat_map end_in ss ≡ end ∷ []
one_end last end [] pass is = absurd (no_end end is)
one_end last end (OfFrames frames ∷ ss) pass is = one_end last end ss pass.1 is
one_end last end (OfProgram program ∷ ss) pass is = one_end (Some program) end ss pass.1 is
one_end last end (OfEnd own ∷ ss) pass is =
    let none = nothing_more own last ss pass.1 in
    ap (λ l. own ∷ flat_map end_in l) none
    ∙ ap (λ (e : ChannelEnd). e ∷ []) (some_end own end (sym (ap (ends_after (Some own)) none) ∙ is))

-- and its numbers fit, if it isn't left out
pub end_fits : (records : RecordMoving) (skips : Bool) (last : Option ChannelProgram) (end : ChannelEnd) (ss : List Saying) → records.continues ≡ false
    → SayingsPass None last ss → ends_after None ss ≡ Some end → FitSayings records skips ss
    → (records.offered + end.offered < 2 ^ 64) × (records.kept + end.kept < 2 ^ 64)
end_fits records skips last end [] stays pass is fit = absurd (no_end end is)
end_fits records skips last end (OfFrames frames ∷ ss) stays pass is fit = end_fits records skips last end ss stays pass.1 is fit
end_fits records true last end (OfProgram program ∷ ss) stays pass is fit = end_fits records false (Some program) end ss stays pass.1 is fit
end_fits records false last end (OfProgram program ∷ ss) stays pass is fit = end_fits records false (Some program) end ss stays pass.1 is fit.2
end_fits records skips last end (OfEnd own ∷ ss) stays pass is fit =
    let none = nothing_more own last ss pass.1 in
    subst (λ (e : ChannelEnd). (records.offered + e.offered < 2 ^ 64) × (records.kept + e.kept < 2 ^ 64))
    (some_end own end (sym (ap (ends_after (Some own)) none) ∙ is)) (fit.0 stays)

-- ---- who is named

neither : (a b : Bool) → (a || b) ≡ false → (a ≡ false) × (b ≡ false)
neither true b is = cc
neither false b is = (refl, is)

not_said : (channel : ℕ) (said : Option (ℕ × Saying)) → is_said_of channel said ≡ false → said_in channel said ≡ []
not_said channel None is = refl
not_said channel (Some (named, saying)) is = ap (λ b. if b then saying ∷ [] else []) is

pub nothing_said : (channel : ℕ) (packets : List PacketData) → names_channel channel packets ≡ false → sayings_of channel packets ≡ []
nothing_said channel [] is = refl
nothing_said channel (p ∷ ps) is =
    let both = neither (is_said_of channel (saying_of p)) (names_channel channel ps) is in
    ap (λ l. l ++ sayings_of channel ps) (not_said channel (saying_of p) both.0) ∙ nothing_said channel ps both.1
