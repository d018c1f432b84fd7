-- A channel of a run, recording by recording: what the file says of it so far passes, and goes on.
use Rattle.std.proofs.Common.{ℕ, ◌≡◌, ◌+◌, ◌<◌, ◌≤◌, ◌^◌, List, [], ◌∷◌, ◌++◌, map, length, Option, None, Some, Bool, true, false, inl, inr}
use Rattle.std.proofs.Common.{refl, sym, subst, ap, ◌∙◌, arith, length-append}
use Rattle.std.specs.Prelude.{◌==◌, ◌&&◌, ◌||◌, ◌⊎◌, if◌then◌else◌, nat_lt, unwrap_or}
use Rattle.std.specs.List.{AllByRecursion, flat_map, sum_by}
use Rattle.std.specs.Option.{option_map}
use Rattle.std.proofs.lemmas.Bool.{cases_Bool, eqb-true}
use Rattle.std.proofs.lemmas.Option.{none-some}
use Rattle.std.proofs.lemmas.List.Folds.{list_any-append}
use Rattle.std.proofs.lemmas.List.Sums.{sum_by-append, sum_by-cons}
use Rattle.std.proofs.lemmas.Grind.{flat_map-append}
use Rattle.rec_reader.specs.declared.audits.answer.Audit.{Audit}
use Rattle.rec_reader.specs.declared.audits.answer.AuditFault.TheVariants.{NoEnd}
use Rattle.rec_reader.specs.declared.audits.channel.ChannelProgram.{ChannelProgram}
use Rattle.rec_reader.specs.declared.audits.channel.ChannelEnd.{ChannelEnd}
use Rattle.rec_reader.specs.Packets.{PacketData, BeginsPackets}
use Rattle.rec_reader.specs.ChannelFrames.{channel_frames}
use Rattle.rec_reader.specs.Channels.{Saying, IsNamed, Names, saying_of, ends_of, last_end, last_program}
use Rattle.rec_reader.specs.Channels.Saying.{OfFrames, OfProgram, OfEnd}
use Rattle.rec_reader.specs.Audits.{Closes, HasCounts, IsAudit, IsClosing, WereOffered}
use Rattle.rec_reader.specs.Auditors.{counted}
use Rattle.rec_runs.specs.FilePrograms.{FileProgram, file_version, program_in_file, greatest_behind}
use Rattle.rec_runs.specs.ProgramMoves.{PlacedProgram, ProgramMoves, have_same_insns, last_in_file, moved_after, moved_onto, moved_programs, moves_before}
use Rattle.rec_runs.specs.ProgramMoves.{moves_behind, placed_programs, programs_kept, repeats_last}
use Rattle.rec_runs.specs.RunSayings.{is_said_of}
use Rattle.rec_runs.specs.RunSums.{kept_by_end, kept_in_recording, offered_by_end, offered_in_recording, sum_kept, sum_offered}
use Rattle.rec_runs.proofs.FileProgramsMore.{last_one_more}
use Rattle.rec_runs.proofs.SameInsns.{same_insns}
use Rattle.rec_joined.specs.Moving.{Moving}
use Rattle.rec_joined.specs.MovedRecords.{RecordMoving, record_moving}
use Rattle.rec_joined.specs.MovedPackets.{IsPlaced}
use Rattle.rec_joined.specs.JoinedFrames.{HasOwnId}
use Rattle.rec_joined.specs.JoinedPackets.{told_packets}
use Rattle.joined_theorem.specs.RunMoves.{moves_between, name_channel, names_channel}
use Rattle.joined_theorem.proofs.ChannelSayings.{SayingsPass, channel_passes, end_in, end_of_sayings, ends_after, ends_append, frames_in, pass_both, program_in}
use Rattle.joined_theorem.proofs.ChannelSayings.{program_of_sayings, programs_after, programs_append, sayings_of}
use Rattle.joined_theorem.proofs.Continued.{Begins, GoesOn, GoesOnWith, HasOffered, IsInFile, as_file, begins, end_left_out, end_stays, frames_as_many}
use Rattle.joined_theorem.proofs.Continued.{moved_end, said_moved}
use Rattle.joined_theorem.proofs.MovedSayings.{Skips, packets_tell}
use Rattle.joined_theorem.proofs.SaidOfChannels.{end_fits, ends_of_sayings, frames_of_sayings, kept_of, nothing_said, one_end, placed_in_file, programs_placed}

-- ---- how a recording begins

and_both : (a b : Bool) → (a && b) ≡ true → (a ≡ true) × (b ≡ true)
and_both true b is = (refl, is)
and_both false b is = cc

same_head : (one other : ChannelProgram) (ps qs : List ChannelProgram) → one ∷ ps ≡ other ∷ qs → one ≡ other
same_head one other ps qs is = cc

nothing_first : (one : ChannelProgram) (ps : List ChannelProgram) → ◌≡◌ {A = List ChannelProgram} [] (one ∷ ps) → ⊥
nothing_first one ps is = cc

first_goes_on : (last first : ChannelProgram) (more : List ChannelProgram) (ss : List Saying) → flat_map program_in ss ≡ first ∷ more
    → first.version ≡ 0 → first.insns ≡ last.insns → GoesOnWith last ss
first_goes_on last first more [] is version insns = tt
first_goes_on last first more (OfFrames frames ∷ ss) is version insns = first_goes_on last first more ss is version insns
first_goes_on last first more (OfProgram program ∷ ss) is version insns =
    let same = same_head program first (flat_map program_in ss) more is in
    (ap (λ (p : ChannelProgram). p.version) same ∙ version, ap (λ (p : ChannelProgram). p.insns) same ∙ insns)
first_goes_on last first more (OfEnd end ∷ ss) is version insns = first_goes_on last first more ss is version insns

-- a recording's programs behind the last of the file: whether the first of them is left out, and that they go on
pub record ProgramsGoOn (file : Option ChannelProgram) (moves : ProgramMoves) (programs : List PlacedProgram) (ss : List Saying) : Type 0 where
  pub skips : Bool
  pub skipped : Skips moves.same skips 0 programs
  pub kept : programs_kept moves.same programs ≡ kept_of skips programs
  pub goes_on : (records : RecordMoving) → records.versions ≡ moves.versions → (file ≡ None → records.offered ≡ 0) → Begins records file skips ss

least : (last version : ℕ) → version ≡ file_version (last + 1) → version < 2 ^ 32 → last < version
least last version is fits = omega (arith, is, fits)

goes_on_after : (last : ChannelProgram) (programs : List PlacedProgram) (ss : List Saying)
    → ProgramsGoOn (Some last) (moved_after (as_file last)) programs ss
goes_on_after last programs ss = record {
  skips = false;
  skipped = inl refl;
  kept = refl;
  goes_on = λ records is none fits. least last.version records.versions is fits;
}

programs_go_on : (file : Option ChannelProgram) (programs : List PlacedProgram) (ss : List Saying)
    → map (λ (placed : PlacedProgram). placed.program) programs ≡ flat_map program_in ss
    → ProgramsGoOn file (moves_behind (option_map as_file file) programs) programs ss
programs_go_on None programs ss said = record {
  skips = false;
  skipped = inl refl;
  kept = refl;
  goes_on = λ records is none. none refl;
}
programs_go_on (Some last) [] ss said = goes_on_after last [] ss
programs_go_on (Some last) (first ∷ programs) ss said = here (repeats_last (as_file last) first.program.version first.program.insns) refl
  where
    here : (repeats : Bool) → repeats_last (as_file last) first.program.version first.program.insns ≡ repeats
        → ProgramsGoOn (Some last) (if repeats then moved_onto (as_file last) first.at else moved_after (as_file last)) (first ∷ programs) ss
    here false is = goes_on_after last (first ∷ programs) ss
    here true is =
        let both = and_both (first.program.version == 0) (have_same_insns last.insns first.program.insns) is in
        record {
          skips = true;
          skipped = refl;
          kept = refl;
          goes_on = λ records versions none. (
            versions,
            first_goes_on last first.program (map (λ (placed : PlacedProgram). placed.program) programs) ss (sym said)
                (eqb-true first.program.version 0 both.0) (sym ((same_insns last.insns first.program.insns).0 both.1)),
          );
        }

-- ---- what the file says so far

-- the recordings so far become what passes; it has the last program of the file and all frames; and its end stands if
-- no later recording has the channel
pub record FileState (channel : ℕ) (earlier : List (List PacketData)) (said : List Saying) (later : Bool) : Type 0 where
  pub passes : SayingsPass None None said
  pub last : last_in_file channel earlier ≡ option_map as_file (programs_after None said)
  pub offered : HasOffered (programs_after None said) (sum_offered channel earlier)
  pub frames : length (flat_map frames_in said) ≡ sum_kept channel earlier
  pub fewer : sum_kept channel earlier ≤ sum_offered channel earlier
  pub silent : name_channel channel earlier ≡ false → said ≡ []
  pub endless : later ≡ true → ends_after None said ≡ None
  pub closed : later ≡ false → name_channel channel earlier ≡ true
      → ends_after None said ≡ Some (record { offered = sum_offered channel earlier; kept = sum_kept channel earlier })

pub none_so_far : (channel : ℕ) (later : Bool) → FileState channel [] [] later
none_so_far channel later = record {
  passes = tt;
  last = refl;
  offered = refl;
  frames = refl;
  fewer = omega arith;
  silent = λ none. refl;
  endless = λ is. refl;
  closed = λ is some. absurd (false_true some);
}
  where
    false_true : false ≡ true → ⊥
    false_true is = cc

-- ---- a recording that doesn't have the channel

sum_one_more : (f : List PacketData → ℕ) (earlier : List (List PacketData)) (own : List PacketData)
    → sum_by f (earlier ++ own ∷ []) ≡ sum_by f earlier + f own
sum_one_more f earlier own =
    let both = sum_by-append f earlier (own ∷ []) in
    let one = sum_by-cons f own [] in omega (arith, both, one)

named_one_more : (channel : ℕ) (earlier : List (List PacketData)) (own : List PacketData)
    → name_channel channel (earlier ++ own ∷ []) ≡ (name_channel channel earlier || names_channel channel own)
named_one_more channel earlier own =
    list_any-append (names_channel channel) earlier (own ∷ []) ∙ ap (λ b. name_channel channel earlier || b) (or_none (names_channel channel own))
  where
    or_none : (b : Bool) → (b || false) ≡ b
    or_none true = refl
    or_none false = refl

or_false : (a b : Bool) → b ≡ false → (a || b) ≡ a
or_false true b is = refl
or_false false b is = is

or_true : (a b : Bool) → b ≡ true → (a || b) ≡ true
or_true true b is = refl
or_true false b is = is

pub no_programs : (programs : List PlacedProgram) → ◌≡◌ {A = List ChannelProgram} (map (λ (placed : PlacedProgram). placed.program) programs) [] → programs ≡ []
no_programs [] is = refl
no_programs (one ∷ programs) is = absurd (nothing_first one.program (map (λ (placed : PlacedProgram). placed.program) programs) (sym is))

last_stays : (last : Option FileProgram) → greatest_behind last (moved_programs (moves_behind last []) []) ≡ last
last_stays None = refl
last_stays (Some last) = refl

pub not_named : (channel : ℕ) (earlier : List (List PacketData)) (own : List PacketData) (said : List Saying) (later : Bool)
    → names_channel channel own ≡ false → FileState channel earlier said (names_channel channel own || later)
    → FileState channel (earlier ++ own ∷ []) said later
not_named channel earlier own said later none state =
    let nothing = nothing_said channel own none in
    let no_ends : ends_of channel own ≡ [] = ends_of_sayings channel own ∙ ap (flat_map end_in) nothing in
    let offered : sum_offered channel (earlier ++ own ∷ []) ≡ sum_offered channel earlier =
    sum_one_more (offered_in_recording channel) earlier own ∙ ap (λ l. sum_offered channel earlier + sum_by offered_by_end l) no_ends ∙ omega arith in
    let kept : sum_kept channel (earlier ++ own ∷ []) ≡ sum_kept channel earlier =
    sum_one_more (kept_in_recording channel) earlier own ∙ ap (λ l. sum_kept channel earlier + sum_by kept_by_end l) no_ends ∙ omega arith in
    let named : name_channel channel (earlier ++ own ∷ []) ≡ name_channel channel earlier =
    named_one_more channel earlier own ∙ or_false (name_channel channel earlier) (names_channel channel own) none in
    let as_later : (names_channel channel own || later) ≡ later = ap (λ b. b || later) none in
    record {
      passes = state.passes;
      last = last_one_more channel earlier own
          ∙ ap (λ l. greatest_behind (last_in_file channel earlier) (moved_programs (moves_behind (last_in_file channel earlier) l) l))
          (no_programs (placed_programs channel own) (programs_placed channel own ∙ ap (flat_map program_in) nothing))
          ∙ last_stays (last_in_file channel earlier) ∙ state.last;
      offered = subst (HasOffered (programs_after None said)) (sym offered) state.offered;
      frames = state.frames ∙ sym kept;
      fewer = omega (arith, state.fewer, offered, kept);
      silent = λ is. state.silent (sym named ∙ is);
      endless = λ is. state.endless (as_later ∙ is);
      closed = λ is some. state.closed (as_later ∙ is) (sym named ∙ some)
          ∙ ap (λ n. Some (made n (sum_kept channel earlier))) (sym offered) ∙ ap (λ n. Some (made (sum_offered channel (earlier ++ own ∷ [])) n)) (sym kept);
    }
  where
    made : (offered kept : ℕ) → ChannelEnd
    made offered kept = record { offered = offered; kept = kept }

-- ---- a recording that has it

named_by : (channel : ℕ) (packet : PacketData) (said : Option (ℕ × Saying)) → saying_of packet ≡ said → is_said_of channel said ≡ true → Names packet channel
named_by channel packet None is named = absurd (false_true named)
  where
    false_true : false ≡ true → ⊥
    false_true is = cc
named_by channel packet (Some (other, saying)) is named = (saying, is ∙ ap (λ n. Some (n, saying)) (eqb-true other channel named))

pub is_named : (channel : ℕ) (packets : List PacketData) → names_channel channel packets ≡ true → IsNamed channel packets
is_named channel [] named = absurd (false_true named)
  where
    false_true : false ≡ true → ⊥
    false_true is = cc
is_named channel (p ∷ ps) named = elim (cases_Bool (is_said_of channel (saying_of p))) as (λ _. IsNamed channel (p ∷ ps)) [
  | inl here ↦ record { before = []; packet = p; after = ps; whole = refl; names = named_by channel p (saying_of p) refl here }
  | inr other ↦
      let later = is_named channel ps (sym (ap (λ b. b || names_channel channel ps) other) ∙ named) in
      record { before = p ∷ later.before; packet = later.packet; after = later.after; whole = ap (λ l. p ∷ l) later.whole; names = later.names }
]

-- the end of a channel that closes well
pub record OwnEnd (channel : ℕ) (packets : List PacketData) : Type 0 where
  pub end : ChannelEnd
  pub is : last_end channel packets ≡ Some end
  pub counts : HasCounts (last_program channel packets) (length (channel_frames channel packets)) end

pub own_end : (channel : ℕ) (packets : List PacketData) → Closes packets channel None → OwnEnd channel packets
own_end channel packets closes = here (last_end channel packets) refl closes
  where
    here : (end : Option ChannelEnd) → last_end channel packets ≡ end
        → IsClosing channel end (last_program channel packets) (length (channel_frames channel packets)) None → OwnEnd channel packets
    here None is closing = absurd (none-some (NoEnd channel) closing)
    here (Some end) is closing = record { end = end; is = is; counts = closing }

counted_is : (n : ℕ) (is : Bool) → nat_lt n (2 ^ 64) ≡ is → unwrap_or (if is then Some n else None) (2 ^ 64) < 2 ^ 64
    → unwrap_or (if is then Some n else None) (2 ^ 64) ≡ n
counted_is n true is fits = refl
counted_is n false is fits = absurd (omega (arith, fits))

small_count : (n : ℕ) → unwrap_or (counted n) (2 ^ 64) < 2 ^ 64 → unwrap_or (counted n) (2 ^ 64) ≡ n
small_count n fits = counted_is n (nat_lt n (2 ^ 64)) refl fits

counted_none : (n : ℕ) → n ≡ 0 → unwrap_or (counted n) (2 ^ 64) ≡ 0
counted_none n is = ap (λ m. unwrap_or (counted m) (2 ^ 64)) is

nothing_offered : (file : Option ChannelProgram) (offered : ℕ) → HasOffered file offered → file ≡ None → offered ≡ 0
nothing_offered file offered has is = subst (λ f. HasOffered f offered) is has

no_own : (own : Option ChannelProgram) (offered : ℕ) → WereOffered own offered → own ≡ None → offered ≡ 0
no_own own offered were is = subst (λ p. WereOffered p offered) is were

some_own : (own : Option ChannelProgram) (program : ChannelProgram) (offered : ℕ) → WereOffered own offered → own ≡ Some program → program.first < offered
some_own own program offered were is = subst (λ p. WereOffered p offered) is were

more_offered : (file : Option ChannelProgram) (offered more : ℕ) → HasOffered file offered → more ≡ 0 → HasOffered file (offered + more)
more_offered None offered more has none = omega (arith, has, none)
more_offered (Some program) offered more has none = omega (arith, has, none)

-- behind the recording the file's last program is as the recording's
offered_behind : (counters : ℕ → ℕ) (records : RecordMoving) (offered more : ℕ) (file : Option ChannelProgram) (skips : Bool) (ss : List Saying)
    → HasOffered file offered → WereOffered (programs_after None ss) more → GoesOn counters records offered file skips ss
    → HasOffered (programs_after file (said_moved counters records skips ss)) (offered + more)
offered_behind counters records offered more file skips ss has were goes = here goes.own
  where
    here : ((programs_after None ss ≡ None) × (programs_after file (said_moved counters records skips ss) ≡ file)
        ⊎ ((own : ChannelProgram) × (last : ChannelProgram) × (programs_after None ss ≡ Some own)
        × (programs_after file (said_moved counters records skips ss) ≡ Some last) × IsInFile records offered own last))
        → HasOffered (programs_after file (said_moved counters records skips ss)) (offered + more)
    here (inl none) = subst (λ p. HasOffered p (offered + more)) (sym none.1)
        (more_offered file offered more has (no_own (programs_after None ss) more were none.0))
    here (inr some) =
        let before = some_own (programs_after None ss) some.0 more were some.2 in
        let first = some.4.first in
        subst (λ p. HasOffered p (offered + more)) (sym some.3) (omega (arith, before, first))

pub named : (moving : Moving) (channel id at : ℕ) (own : List PacketData) (bytes rest : List ℕ) (earlier later : List (List PacketData))
    (said : List Saying) (audit : Audit) → HasOwnId moving channel id → BeginsPackets 0 own bytes rest → AllByRecursion (IsPlaced moving) own
    → moving.records channel ≡ record_moving (moves_between channel earlier own later) → IsAudit own audit → names_channel channel own ≡ true
    → FileState channel earlier said (names_channel channel own || name_channel channel later)
    → FileState channel (earlier ++ own ∷ []) (said ++ sayings_of id (told_packets moving at own)) (name_channel channel later)
named moving channel id at own bytes rest earlier later said audit owns begin placed moves audited has state =
    let records = moving.records channel in
    let ss = sayings_of channel own in
    let file = programs_after None said in
    let offered = sum_offered channel earlier in
    let programs = placed_programs channel own in
    let closing = own_end channel own (audited.closed channel (is_named channel own has)) in
    let end = closing.end in
    let go : ProgramsGoOn file (moves_before channel earlier own) programs ss =
    subst (λ last. ProgramsGoOn file (moves_behind last programs) programs ss) (sym state.last)
    (programs_go_on file programs ss (programs_placed channel own)) in
    let moved : records.offered ≡ unwrap_or (counted offered) (2 ^ 64) = ap (λ (r : RecordMoving). r.offered) moves in
    let so : records.offered < 2 ^ 64 → records.offered ≡ offered =
    λ fits. moved ∙ small_count offered (subst (λ n. n < 2 ^ 64) moved fits) in
    let kept : records.kept ≡ unwrap_or (counted (sum_kept channel earlier)) (2 ^ 64) = ap (λ (r : RecordMoving). r.kept) moves in
    let same : records.same ≡ (moves_before channel earlier own).same = ap (λ (r : RecordMoving). r.same) moves in
    let continues : records.continues ≡ name_channel channel later = ap (λ (r : RecordMoving). r.continues) moves in
    let told = packets_tell moving channel id 0 at own bytes rest go.skips owns begin placed
    (subst (λ s. Skips s go.skips 0 programs) (sym same) go.skipped) in
    let pass = channel_passes channel own audited.passed in
    let goes = begins moving.counters records offered file go.skips ss so state.offered
    (go.goes_on records (ap (λ (r : RecordMoving). r.versions) moves)
    (λ none. moved ∙ counted_none offered (nothing_offered file offered state.offered none))) pass told.fits in
    let fs = said_moved moving.counters records go.skips ss in
    let no_end : ends_after None said ≡ None = state.endless (ap (λ b. b || name_channel channel later) has) in
    let end_is : ends_after None ss ≡ Some end = sym (end_of_sayings channel None own) ∙ closing.is in
    let ends : ends_of channel own ≡ end ∷ [] = ends_of_sayings channel own ∙ one_end None end ss pass end_is in
    let last_is : last_program channel own ≡ programs_after None ss = program_of_sayings channel None own in
    let counts = closing.counts in
    let frames_are : length (flat_map frames_in fs) ≡ end.kept =
    frames_as_many moving.counters records go.skips ss ∙ sym (ap length (frames_of_sayings channel own)) ∙ sym counts.kept in
    let more : sum_offered channel (earlier ++ own ∷ []) ≡ offered + end.offered =
    sum_one_more (offered_in_recording channel) earlier own ∙ ap (λ l. offered + sum_by offered_by_end l) ends ∙ omega arith in
    let more_kept : sum_kept channel (earlier ++ own ∷ []) ≡ sum_kept channel earlier + end.kept =
    sum_one_more (kept_in_recording channel) earlier own ∙ ap (λ l. sum_kept channel earlier + sum_by kept_by_end l) ends ∙ omega arith in
    let whole : said ++ sayings_of id (told_packets moving at own) ≡ said ++ fs = ap (λ l. said ++ l) told.says in
    let fewer = counts.kept_of in
    subst (λ l. FileState channel (earlier ++ own ∷ []) l (name_channel channel later)) (sym whole) (record {
      passes = pass_both None None said fs state.passes
          (subst (λ e. SayingsPass e file fs) (sym no_end) goes.passes);
      last = last_one_more channel earlier own
          ∙ ap (λ last. greatest_behind last (moved_programs (moves_before channel earlier own) programs)) state.last
          ∙ ap (λ l. greatest_behind (option_map as_file file)
          (map (λ (placed : PlacedProgram). program_in_file (moves_before channel earlier own).versions placed.program) l)) go.kept
          ∙ ap (λ n. greatest_behind (option_map as_file file) (map (λ (placed : PlacedProgram). program_in_file n placed.program) (kept_of go.skips programs)))
          (sym (ap (λ (r : RecordMoving). r.versions) moves))
          ∙ ap (greatest_behind (option_map as_file file)) (placed_in_file records channel own go.skips)
          ∙ goes.greatest ∙ ap (option_map as_file) (sym (programs_append None said fs));
      offered = subst (λ p. HasOffered p (sum_offered channel (earlier ++ own ∷ []))) (sym (programs_append None said fs))
          (subst (HasOffered (programs_after file fs)) (sym more)
          (offered_behind moving.counters records offered end.offered file go.skips ss state.offered
          (subst (λ p. WereOffered p end.offered) last_is counts.offered) goes));
      frames = ap length (flat_map-append frames_in said fs) ∙ length-append (flat_map frames_in said) (flat_map frames_in fs)
          ∙ ap (λ n. n + length (flat_map frames_in fs)) state.frames ∙ ap (λ n. sum_kept channel earlier + n) frames_are ∙ sym more_kept;
      fewer = omega (arith, state.fewer, fewer, more, more_kept);
      silent = λ none. absurd (true_false (sym (or_true (name_channel channel earlier) (names_channel channel own) has)
          ∙ sym (named_one_more channel earlier own) ∙ none));
      endless = λ is. ends_append None said fs ∙ ap (λ e. ends_after e fs) no_end
          ∙ end_left_out moving.counters records go.skips ss (continues ∙ is);
      closed = λ is some.
          let stays : records.continues ≡ false = continues ∙ is in
          let fits = end_fits records go.skips None end ss stays pass end_is told.fits in
          let all_offered : records.offered + end.offered ≡ sum_offered channel (earlier ++ own ∷ []) =
          ap (λ n. n + end.offered) (so (omega (arith, fits.0))) ∙ sym more in
          let small_kept : records.kept < 2 ^ 64 = omega (arith, fits.1) in
          let all_kept : records.kept + end.kept ≡ sum_kept channel (earlier ++ own ∷ []) =
          ap (λ n. n + end.kept) (kept ∙ small_count (sum_kept channel earlier) (subst (λ n. n < 2 ^ 64) kept small_kept)) ∙ sym more_kept in
          ends_append None said fs ∙ ap (λ e. ends_after e fs) no_end ∙ end_stays moving.counters records go.skips None ss stays
          ∙ ap (option_map (moved_end records)) end_is
          ∙ ap (λ n. Some (made n (records.kept + end.kept))) all_offered
          ∙ ap (λ n. Some (made (sum_offered channel (earlier ++ own ∷ [])) n)) all_kept;
    })
  where
    made : (offered kept : ℕ) → ChannelEnd
    made offered kept = record { offered = offered; kept = kept }

    true_false : true ≡ false → ⊥
    true_false is = cc
