-- What a recording that follows others of its run says of a channel, in the file: it passes behind what they say.
use Rattle.std.proofs.Common.{ℕ, ◌≡◌, ◌+◌, ◌<◌, ◌≤◌, ◌^◌, List, [], ◌∷◌, ◌++◌, map, length, Option, None, Some, refl, sym, subst, ap, ◌∙◌, arith}
use Rattle.std.proofs.Common.{length-append, inl, inr}
use Rattle.std.specs.Prelude.{Bool, true, false, if◌then◌else◌, ◌⊎◌, nat_le}
use Rattle.std.specs.List.{AllByRecursion, flat_map}
use Rattle.std.specs.Option.{option_map}
use Rattle.std.proofs.lemmas.List.{length-map}
use Rattle.std.proofs.lemmas.List.Elements.{All-from_recursion, recursion_from_All}
use Rattle.std.proofs.lemmas.Option.{none-some}
use Rattle.bpf_insn.specs.declared.insn.Insn.{Insn}
use Rattle.ch11_packet.specs.FramesRead.{ReadFrameData}
use Rattle.rec_reader.specs.declared.audits.answer.AuditFault.TheVariants.{Order, NoProgram}
use Rattle.rec_reader.specs.declared.audits.channel.ChannelProgram.{ChannelProgram}
use Rattle.rec_reader.specs.declared.audits.channel.ChannelEnd.{ChannelEnd}
use Rattle.rec_reader.specs.Channels.{Saying}
use Rattle.rec_reader.specs.Channels.Saying.{OfFrames, OfProgram, OfEnd}
use Rattle.rec_reader.specs.Audits.{Accepts}
use Rattle.rec_runs.specs.FilePrograms.{FileProgram, file_version, program_in_file, greater_program, greatest_behind}
use Rattle.rec_joined.specs.MovedFrames.{moved_frame}
use Rattle.rec_joined.specs.MovedRecords.{RecordMoving}
use Rattle.joined_theorem.proofs.ChannelSayings.{SayingsPass, SayingPasses, ends_after, frames_in, programs_after}

-- ---- in the file

abbrev pub moved_program : RecordMoving → ChannelProgram → ChannelProgram
moved_program records program = record {
  version = records.versions + program.version;
  first = records.offered + program.first;
  insns = program.insns;
}

abbrev pub moved_end : RecordMoving → ChannelEnd → ChannelEnd
moved_end records end = record { offered = records.offered + end.offered; kept = records.kept + end.kept }

abbrev pub end_moved : RecordMoving → ChannelEnd → List Saying
end_moved records end = if records.continues then [] else OfEnd (moved_end records end) ∷ []

-- what a recording says, whose first program is left out or isn't
abbrev pub said_moved : (counters : ℕ → ℕ) → RecordMoving → (skips : Bool) → List Saying → List Saying
said_moved counters records skips [] = []
said_moved counters records skips (OfFrames frames ∷ ss) =
    OfFrames (map (moved_frame counters) frames) ∷ said_moved counters records skips ss
said_moved counters records true (OfProgram program ∷ ss) = said_moved counters records false ss
said_moved counters records false (OfProgram program ∷ ss) =
    OfProgram (moved_program records program) ∷ said_moved counters records false ss
said_moved counters records skips (OfEnd end ∷ ss) = end_moved records end ++ said_moved counters records skips ss

-- its programs in the file
abbrev pub programs_said : RecordMoving → (skips : Bool) → List Saying → List FileProgram
programs_said records skips [] = []
programs_said records skips (OfFrames frames ∷ ss) = programs_said records skips ss
programs_said records true (OfProgram program ∷ ss) = programs_said records false ss
programs_said records false (OfProgram program ∷ ss) =
    program_in_file records.versions program ∷ programs_said records false ss
programs_said records skips (OfEnd end ∷ ss) = programs_said records skips ss

-- the numbers of what isn't left out fit
abbrev pub FitSayings : RecordMoving → (skips : Bool) → List Saying → Type 0
FitSayings records skips [] = Unit {0}
FitSayings records skips (OfFrames frames ∷ ss) = FitSayings records skips ss
FitSayings records true (OfProgram program ∷ ss) = FitSayings records false ss
FitSayings records false (OfProgram program ∷ ss) =
    (records.versions + program.version < 2 ^ 32) × (records.offered + program.first < 2 ^ 64) × FitSayings records false ss
FitSayings records skips (OfEnd end ∷ ss) =
    (records.continues ≡ false → (records.offered + end.offered < 2 ^ 64) × (records.kept + end.kept < 2 ^ 64))
    × FitSayings records skips ss

-- ---- frames and ends

pub frames_as_many : (counters : ℕ → ℕ) (records : RecordMoving) (skips : Bool) (ss : List Saying)
    → length (flat_map frames_in (said_moved counters records skips ss)) ≡ length (flat_map frames_in ss)
frames_as_many counters records skips [] = refl
frames_as_many counters records skips (OfFrames frames ∷ ss) =
    length-append (map (moved_frame counters) frames) (flat_map frames_in (said_moved counters records skips ss))
    ∙ ap (λ n. n + length (flat_map frames_in (said_moved counters records skips ss))) (length-map frames (moved_frame counters))
    ∙ ap (λ n. length frames + n) (frames_as_many counters records skips ss)
    ∙ sym (length-append frames (flat_map frames_in ss))
frames_as_many counters records true (OfProgram program ∷ ss) = frames_as_many counters records false ss
frames_as_many counters records false (OfProgram program ∷ ss) = frames_as_many counters records false ss
frames_as_many counters records skips (OfEnd end ∷ ss) = here records.continues ∙ frames_as_many counters records skips ss
  where
    here : (continues : Bool)
        → length (flat_map frames_in ((if continues then [] else OfEnd (moved_end records end) ∷ []) ++ said_moved counters records skips ss))
        ≡ length (flat_map frames_in (said_moved counters records skips ss))
    here true = refl
    here false = refl

pub end_left_out : (counters : ℕ → ℕ) (records : RecordMoving) (skips : Bool) (ss : List Saying) → records.continues ≡ true
    → ends_after None (said_moved counters records skips ss) ≡ None
end_left_out counters records skips [] is = refl
end_left_out counters records skips (OfFrames frames ∷ ss) is = end_left_out counters records skips ss is
end_left_out counters records true (OfProgram program ∷ ss) is = end_left_out counters records false ss is
end_left_out counters records false (OfProgram program ∷ ss) is = end_left_out counters records false ss is
end_left_out counters records skips (OfEnd end ∷ ss) is =
    ap (λ b. ends_after None ((if b then [] else OfEnd (moved_end records end) ∷ []) ++ said_moved counters records skips ss)) is
    ∙ end_left_out counters records skips ss is

pub end_stays : (counters : ℕ → ℕ) (records : RecordMoving) (skips : Bool) (own : Option ChannelEnd) (ss : List Saying)
    → records.continues ≡ false
    → ends_after (option_map (moved_end records) own) (said_moved counters records skips ss)
    ≡ option_map (moved_end records) (ends_after own ss)
end_stays counters records skips own [] is = refl
end_stays counters records skips own (OfFrames frames ∷ ss) is = end_stays counters records skips own ss is
end_stays counters records true own (OfProgram program ∷ ss) is = end_stays counters records false own ss is
end_stays counters records false own (OfProgram program ∷ ss) is = end_stays counters records false own ss is
end_stays counters records skips own (OfEnd end ∷ ss) is =
    ap (λ b. ends_after (option_map (moved_end records) own)
    ((if b then [] else OfEnd (moved_end records end) ∷ []) ++ said_moved counters records skips ss)) is
    ∙ end_stays counters records skips (Some end) ss is

-- nothing passes behind an end
pub nothing_more : (end : ChannelEnd) (last : Option ChannelProgram) (ss : List Saying) → SayingsPass (Some end) last ss → ss ≡ []
nothing_more end last [] pass = refl
nothing_more end last (s ∷ ss) pass = absurd (none-some (Order 0) pass.0)

-- ---- behind a program

-- a program of the recording is this one in the file: it has its instructions, its version there, and came into force
-- no later than at its frame there, where so many frames were offered before the recording
pub record IsInFile (records : RecordMoving) (offered : ℕ) (own file : ChannelProgram) : Type 0 where
  pub insns : file.insns ≡ own.insns
  pub version : file.version ≡ records.versions + own.version
  pub first : file.first ≤ offered + own.first

abbrev pub as_file : ChannelProgram → FileProgram
as_file program = record { version = program.version; insns = program.insns }

pub record GoesOnBehind (counters : ℕ → ℕ) (records : RecordMoving) (offered : ℕ) (own file : ChannelProgram) (ss : List Saying) : Type 0 where
  pub passes : SayingsPass None (Some file) (said_moved counters records false ss)
  pub own_last : ChannelProgram
  pub own_is : programs_after (Some own) ss ≡ Some own_last
  pub file_last : ChannelProgram
  pub file_is : programs_after (Some file) (said_moved counters records false ss) ≡ Some file_last
  pub in_file : IsInFile records offered own_last file_last
  pub greatest : greatest_behind (Some (as_file file)) (programs_said records false ss) ≡ Some (as_file file_last)

frames_accepted : (counters : ℕ → ℕ) (one other : List Insn) (frames : List ReadFrameData) → other ≡ one → AllByRecursion (Accepts one) frames
    → AllByRecursion (Accepts other) (map (moved_frame counters) frames)
frames_accepted counters one other [] same all = tt
frames_accepted counters one other (f ∷ fs) same all =
    let is = subst (λ l. Accepts l f) (sym same) all.0 in (
      record { valid = is.valid; whole = is.whole; steps = is.steps; value = is.value; runs = is.runs; accepted = is.accepted },
      frames_accepted counters one other fs same all.1,
    )

least_version : (n : ℕ) → n < 2 ^ 32 → file_version n ≡ n
least_version n fits = omega (arith, fits)

in_the_file : (records : RecordMoving) (program : ChannelProgram) → records.versions + program.version < 2 ^ 32
    → program_in_file records.versions program ≡ as_file (moved_program records program)
in_the_file records program fits = ap (λ n. made n program.insns) (least_version (records.versions + program.version) fits)
  where
    made : ℕ → List Insn → FileProgram
    made version insns = record { version = version; insns = insns }

is_greater : (file : ChannelProgram) (next : FileProgram) → file.version ≤ next.version → greater_program (Some (as_file file)) next ≡ Some next
is_greater file next more = ap (λ b. if b then Some next else Some (as_file file)) (here more)
  where
    here : file.version ≤ next.version → nat_le file.version next.version ≡ true
    here more = grind (arith, more)

greatest_next : (records : RecordMoving) (file program : ChannelProgram) (ss : List Saying) → records.versions + program.version < 2 ^ 32
    → file.version ≤ records.versions + program.version
    → greatest_behind (Some (as_file file)) (programs_said records false (OfProgram program ∷ ss))
    ≡ greatest_behind (Some (as_file (moved_program records program))) (programs_said records false ss)
greatest_next records file program ss fits more =
    ap (λ q. greatest_behind (greater_program (Some (as_file file)) q) (programs_said records false ss)) (in_the_file records program fits)
    ∙ ap (λ o. greatest_behind o (programs_said records false ss)) (is_greater file (as_file (moved_program records program)) more)

-- the program is moved, and is that in the file
moved_in_file : (records : RecordMoving) (offered : ℕ) (program : ChannelProgram) → (records.offered < 2 ^ 64 → records.offered ≡ offered)
    → records.offered + program.first < 2 ^ 64 → IsInFile records offered program (moved_program records program)
moved_in_file records offered program so fits =
    let same = so (omega (arith, fits)) in
    record { insns = refl; version = refl; first = omega (arith, same) }

end_passes : (file : Option ChannelProgram) (end : ChannelEnd) (left : Bool) → SayingsPass None file ((if left then [] else OfEnd end ∷ []) ++ [])
end_passes file end true = tt
end_passes file end false = (refl, tt)

no_program : (file : Option ChannelProgram) (end : ChannelEnd) (left : Bool)
    → programs_after file ((if left then [] else OfEnd end ∷ []) ++ []) ≡ file
no_program file end true = refl
no_program file end false = refl

only_end : (counters : ℕ → ℕ) (records : RecordMoving) (offered : ℕ) (own file : ChannelProgram) (end : ChannelEnd)
    → IsInFile records offered own file → GoesOnBehind counters records offered own file (OfEnd end ∷ [])
only_end counters records offered own file end is = record {
  passes = end_passes (Some file) (moved_end records end) records.continues;
  own_last = own;
  own_is = refl;
  file_last = file;
  file_is = no_program (Some file) (moved_end records end) records.continues;
  in_file = is;
  greatest = refl;
}

pub goes_on : (counters : ℕ → ℕ) (records : RecordMoving) (offered : ℕ) (own file : ChannelProgram) (ss : List Saying)
    → (records.offered < 2 ^ 64 → records.offered ≡ offered) → IsInFile records offered own file → SayingsPass None (Some own) ss
    → FitSayings records false ss → GoesOnBehind counters records offered own file ss
goes_on counters records offered own file [] so is pass fit = record {
  passes = tt;
  own_last = own;
  own_is = refl;
  file_last = file;
  file_is = refl;
  in_file = is;
  greatest = refl;
}
goes_on counters records offered own file (OfFrames frames ∷ ss) so is pass fit =
    let more = goes_on counters records offered own file ss so is pass.1 fit in
    record {
      passes = (
        All-from_recursion (Accepts file.insns) (map (moved_frame counters) frames)
            (frames_accepted counters own.insns file.insns frames is.insns (recursion_from_All (Accepts own.insns) frames pass.0)),
        more.passes,
      );
      own_last = more.own_last;
      own_is = more.own_is;
      file_last = more.file_last;
      file_is = more.file_is;
      in_file = more.in_file;
      greatest = more.greatest;
    }
goes_on counters records offered own file (OfProgram program ∷ ss) so is pass fit =
    let same = so (omega (arith, fit.1)) in
    let next = moved_in_file records offered program so fit.1 in
    let more = goes_on counters records offered program (moved_program records program) ss so next pass.1 fit.2 in
    let later : own.version < program.version = pass.0.0.0 in
    let behind : own.first < program.first = pass.0.0.1 in
    let version : file.version < records.versions + program.version = omega (arith, is.version, later) in
    let first : file.first < records.offered + program.first = omega (arith, is.first, behind, same) in
    record {
      passes = (((version, first), pass.0.1), more.passes);
      own_last = more.own_last;
      own_is = more.own_is;
      file_last = more.file_last;
      file_is = more.file_is;
      in_file = more.in_file;
      greatest = greatest_next records file program ss fit.0 (omega (arith, version)) ∙ more.greatest;
    }
goes_on counters records offered own file (OfEnd end ∷ ss) so is pass fit =
    subst (λ l. GoesOnBehind counters records offered own file (OfEnd end ∷ l)) (sym (nothing_more end (Some own) ss pass.1))
    (only_end counters records offered own file end is)

-- ---- behind the recordings before

-- what is kept of a channel behind recordings: this was offered, and the programs of the file end with this one
abbrev pub HasOffered : Option ChannelProgram → (offered : ℕ) → Type 0
HasOffered None offered = offered ≡ 0
HasOffered (Some file) offered = file.first < offered

-- the first program of what is said goes on with this one
abbrev pub GoesOnWith : ChannelProgram → List Saying → Type 0
GoesOnWith last [] = Unit {0}
GoesOnWith last (OfFrames frames ∷ ss) = GoesOnWith last ss
GoesOnWith last (OfProgram program ∷ ss) = (program.version ≡ 0) × (program.insns ≡ last.insns)
GoesOnWith last (OfEnd end ∷ ss) = GoesOnWith last ss

-- how a recording goes on behind a program of the file, or begins
abbrev pub Begins : RecordMoving → Option ChannelProgram → (skips : Bool) → List Saying → Type 0
Begins records None true ss = ⊥
Begins records None false ss = records.offered ≡ 0
Begins records (Some last) true ss = (records.versions ≡ last.version) × GoesOnWith last ss
Begins records (Some last) false ss = records.versions < 2 ^ 32 → last.version < records.versions

-- it passes behind this program; its last program is that of the file, or there is none; and so are the greatest
pub record GoesOn (counters : ℕ → ℕ) (records : RecordMoving) (offered : ℕ) (file : Option ChannelProgram) (skips : Bool) (ss : List Saying)
    : Type 0 where
  pub passes : SayingsPass None file (said_moved counters records skips ss)
  pub own : (programs_after None ss ≡ None) × (programs_after file (said_moved counters records skips ss) ≡ file)
      ⊎ ((own : ChannelProgram) × (last : ChannelProgram) × (programs_after None ss ≡ Some own)
      × (programs_after file (said_moved counters records skips ss) ≡ Some last) × IsInFile records offered own last)
  pub greatest : greatest_behind (option_map as_file file) (programs_said records skips ss)
      ≡ option_map as_file (programs_after file (said_moved counters records skips ss))

-- what goes on behind a program of it
from_program : (counters : ℕ → ℕ) (records : RecordMoving) (offered : ℕ) (file : Option ChannelProgram) (program : ChannelProgram) (ss : List Saying)
    → SayingPasses None file (OfProgram (moved_program records program))
    → greatest_behind (option_map as_file file) (programs_said records false (OfProgram program ∷ ss))
    ≡ greatest_behind (Some (as_file (moved_program records program))) (programs_said records false ss)
    → GoesOnBehind counters records offered program (moved_program records program) ss
    → GoesOn counters records offered file false (OfProgram program ∷ ss)
from_program counters records offered file program ss passes greatest more = record {
  passes = (passes, more.passes);
  own = inr (more.own_last, more.file_last, more.own_is, more.file_is, more.in_file);
  greatest = greatest ∙ more.greatest ∙ ap (option_map as_file) (sym more.file_is);
}

pub begins : (counters : ℕ → ℕ) (records : RecordMoving) (offered : ℕ) (file : Option ChannelProgram) (skips : Bool) (ss : List Saying)
    → (records.offered < 2 ^ 64 → records.offered ≡ offered) → HasOffered file offered → Begins records file skips ss
    → SayingsPass None None ss → FitSayings records skips ss → GoesOn counters records offered file skips ss
begins counters records offered file skips [] so has begin pass fit = record { passes = tt; own = inl (refl, refl); greatest = refl }
begins counters records offered file skips (OfFrames frames ∷ ss) so has begin pass fit = absurd (none-some (NoProgram 0) pass.0)
begins counters records offered None true (OfProgram program ∷ ss) so has begin pass fit = absurd begin
begins counters records offered None false (OfProgram program ∷ ss) so has begin pass fit =
    let first : program.first ≡ 0 = pass.0.0 in
    from_program counters records offered None program ss ((omega (arith, begin, first), pass.0.1))
    (ap (λ q. greatest_behind (Some q) (programs_said records false ss)) (in_the_file records program fit.0))
    (goes_on counters records offered program (moved_program records program) ss so (moved_in_file records offered program so fit.1) pass.1 fit.2)
begins counters records offered (Some last) true (OfProgram program ∷ ss) so has begin pass fit =
    let first : program.first ≡ 0 = pass.0.0 in
    let more = goes_on counters records offered program last ss so
    (record { insns = sym begin.1.1; version = omega (arith, begin.0, begin.1.0); first = omega (arith, has, first) }) pass.1 fit in
    record {
      passes = more.passes;
      own = inr (more.own_last, more.file_last, more.own_is, more.file_is, more.in_file);
      greatest = more.greatest ∙ ap (option_map as_file) (sym more.file_is);
    }
begins counters records offered (Some last) false (OfProgram program ∷ ss) so has begin pass fit =
    let first : program.first ≡ 0 = pass.0.0 in
    let same = so (omega (arith, fit.1)) in
    let above : last.version < records.versions = begin (omega (arith, fit.0)) in
    from_program counters records offered (Some last) program ss
    (((omega (arith, above), omega (arith, has, same, first)), pass.0.1))
    (greatest_next records last program ss fit.0 (omega (arith, above)))
    (goes_on counters records offered program (moved_program records program) ss so (moved_in_file records offered program so fit.1) pass.1 fit.2)
begins counters records offered file skips (OfEnd end ∷ ss) so has begin pass fit =
    subst (λ l. GoesOn counters records offered file skips (OfEnd end ∷ l)) (sym (nothing_more end None ss pass.1))
    (record {
      passes = end_passes file (moved_end records end) records.continues;
      own = inl (refl, no_program file (moved_end records end) records.continues);
      greatest = ap (option_map as_file) (sym (no_program file (moved_end records end) records.continues));
    })
