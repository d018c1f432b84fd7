-- What is kept of a channel, packet by packet and recording by recording.
use Rattle.std.proofs.Common.{ℕ, ◌≡◌, ◌+◌, ◌^◌, ◌≤◌, inl, inr, List, [], ◌∷◌, ◌++◌, Bool}
use Rattle.std.proofs.Common.{true, false, cond, Option, None, Some, refl, sym, ap, ◌∙◌, arith}
use Rattle.std.proofs.Common.{append-nil, eq-eqb, lt-ltb, le-ltb}
use Rattle.std.specs.Prelude.{map}
use Rattle.std.specs.List.{sum_by}
use Rattle.std.proofs.lemmas.Bool.{cases_lt}
use Rattle.std.proofs.lemmas.Grind.{flat_map-append}
use Rattle.std.proofs.lemmas.List.Sums.{sum_by_push}
use Rattle.rec_reader.specs.declared.audits.channel.ChannelProgram.{ChannelProgram}
use Rattle.rec_reader.specs.declared.audits.channel.ChannelEnd.{ChannelEnd}
use Rattle.rec_reader.specs.Packets.{PacketData}
use Rattle.rec_reader.specs.Channels.{Saying, saying_of, program_said, end_said, ends_of}
use Rattle.rec_reader.specs.Channels.Saying.{OfFrames, OfProgram, OfEnd}
use Rattle.rec_reader.specs.Auditors.{counted, counted_more}
use Rattle.rec_runs.specs.FilePrograms.{FileProgram, program_in_file, greatest_behind}
use Rattle.rec_runs.specs.ProgramMoves.{PlacedProgram, ProgramMoves, placed_program, placed_said, placed_programs, repeats_last}
use Rattle.rec_runs.specs.ProgramMoves.{moved_after, moved_onto, moves_behind, moved_programs, last_in_file}
use Rattle.rec_runs.specs.RunSayings.{without_frames, is_said_of, tells_of}
use Rattle.rec_runs.specs.RunSums.{offered_by_end, kept_by_end, offered_in_recording, kept_in_recording, sum_offered, sum_kept}
use Rattle.rec_runs.specs.RunStates.{counted_sums, RunState, are_placed, state_of_run, with_program, with_own_program, run_after}
use Rattle.rec_runs.proofs.FileProgramsMore.{last_with, last_one_more, last_with_none, placed_more, same_moves, last_with_more, none_gone_on}

-- ---- a state by its parts

-- that of a channel whose file has this last program, and whose ends so far have these sums, of a recording with these programs and ends
abbrev pub state_by : (last : Option FileProgram) (offered kept : ℕ) → List PlacedProgram → List ChannelEnd → RunState
state_by last offered kept programs ends = record {
  last = last_with last programs;
  moves = moves_behind last programs;
  begun = are_placed programs;
  before = counted_sums offered kept;
  sums = counted_sums (offered + sum_by offered_by_end ends) (kept + sum_by kept_by_end ends);
}

pub state_parts : (channel : ℕ) (earlier : List (List PacketData)) (own : List PacketData)
    → state_of_run channel earlier own
    ≡ state_by (last_in_file channel earlier) (sum_offered channel earlier) (sum_kept channel earlier) (placed_programs channel own) (ends_of channel own)
state_parts channel earlier own =
    ap (λ last. record (state_of_run channel earlier own) { last = last }) (last_one_more channel earlier own)
    ∙ ap (λ (n : ℕ). record (state_by (last_in_file channel earlier) (sum_offered channel earlier) (sum_kept channel earlier)
    (placed_programs channel own) (ends_of channel own)) { sums = counted_sums n (sum_kept channel (earlier ++ own ∷ [])) })
    (sum_by_push (offered_in_recording channel) earlier own)
    ∙ ap (λ (n : ℕ). record (state_by (last_in_file channel earlier) (sum_offered channel earlier) (sum_kept channel earlier)
    (placed_programs channel own) (ends_of channel own)) { sums = counted_sums (sum_offered channel earlier + offered_in_recording channel own) n })
    (sum_by_push (kept_in_recording channel) earlier own)

-- ---- an end more

counted_with : (n more : ℕ) → counted_more (counted n) more ≡ counted (n + more)
counted_with n more =
    elim (cases_lt n (2 ^ 64)) [
      | inl small ↦ ap (λ b. counted_more (cond b (Some n) None) more) (lt-ltb n (2 ^ 64) small)
      | inr large ↦ ap (λ b. counted_more (cond b (Some n) None) more) (le-ltb n (2 ^ 64) large)
          ∙ sym (ap (λ b. cond b (Some (n + more)) None) (le-ltb (n + more) (2 ^ 64) (let w : 2 ^ 64 ≤ n + more = omega arith in w)))
    ]

sum_with : (f : ChannelEnd → ℕ) (n : ℕ) (ends : List ChannelEnd) (end : ChannelEnd)
    → counted (n + sum_by f (ends ++ end ∷ [])) ≡ counted_more (counted (n + sum_by f ends)) (f end)
sum_with f n ends end =
    ap counted (let more = sum_by_push f ends end in let e : n + sum_by f (ends ++ end ∷ []) ≡ (n + sum_by f ends) + f end = omega (arith, more) in e)
    ∙ sym (counted_with (n + sum_by f ends) (f end))

pub end_more : (at : ℕ) (last : Option FileProgram) (offered kept : ℕ) (programs : List PlacedProgram) (ends : List ChannelEnd) (end : ChannelEnd)
    → state_by last offered kept programs (ends ++ end ∷ []) ≡ run_after at (OfEnd end) (state_by last offered kept programs ends)
end_more at last offered kept programs ends end =
    ap (λ o. record (state_by last offered kept programs ends) {
      sums = record { offered = o; kept = counted (kept + sum_by kept_by_end (ends ++ end ∷ [])) };
    }) (sum_with offered_by_end offered ends end)
    ∙ ap (λ k. record (state_by last offered kept programs ends) {
      sums = record { offered = counted_more (counted (offered + sum_by offered_by_end ends)) end.offered; kept = k };
    }) (sum_with kept_by_end kept ends end)

-- ---- a program more

module _ (at : ℕ) (program : ChannelProgram) (offered kept : ℕ) (ends : List ChannelEnd) where
  after_if : (last : FileProgram) → (goes : Bool) → RunState
  after_if last goes = with_own_program (cond goes (Some last.version) None) at program (state_by (Some last) offered kept [] ends)

  moves_if : (last : FileProgram) → (goes : Bool) → ProgramMoves
  moves_if last goes = cond goes (moved_onto last at) (moved_after last)

  parts_if : (last : FileProgram) → (goes : Bool) → RunState
  parts_if last goes = record (state_by (Some last) offered kept [] ends) {
    last = greatest_behind (Some last) (moved_programs (moves_if last goes) (placed_program at program ∷ []));
    moves = moves_if last goes;
    begun = true;
  }

  same_if : (last : FileProgram) → (goes : Bool) → parts_if last goes ≡ after_if last goes
  unfolding after_if parts_if moves_if
  same_if last true = refl
  same_if last false = refl

  pub program_more : (last : Option FileProgram) (programs : List PlacedProgram)
      → state_by last offered kept (programs ++ placed_program at program ∷ []) ends
      ≡ run_after at (OfProgram program) (state_by last offered kept programs ends)
  unfolding after_if parts_if moves_if
  program_more None [] = refl
  program_more (Some last) [] = same_if last (repeats_last last program.version program.insns)
  program_more last (first ∷ programs) =
      let state = state_by last offered kept (first ∷ programs) ends in
      ap (λ (l : Option FileProgram). record (state_by last offered kept (first ∷ (programs ++ placed_program at program ∷ [])) ends) { last = l })
      (last_with_more last first programs (placed_program at program))
      ∙ ap (λ (m : ProgramMoves). record (with_program state (program_in_file state.moves.versions program)) { moves = m })
      (same_moves last first (programs ++ placed_program at program ∷ []) programs)
      ∙ sym (ap (λ (gone_on : Option ℕ). with_own_program gone_on at program state)
      (none_gone_on (last_with last (first ∷ programs)) program.version program.insns))

-- ---- a packet more

module _ (last : Option FileProgram) (offered kept : ℕ) (programs : List PlacedProgram) (ends : List ChannelEnd) where
  -- the state with what is said of the channel at a place
  abbrev pub state_said : (channel at : ℕ) → Option (ℕ × Saying) → RunState
  state_said channel at said =
      state_by last offered kept (programs ++ map (placed_program at) (program_said channel said)) (ends ++ end_said channel said)

  same_ends : (ps : List PlacedProgram) → state_by last offered kept ps (ends ++ []) ≡ state_by last offered kept ps ends
  same_ends ps = ap (state_by last offered kept ps) (append-nil ends)

  same_programs : (es : List ChannelEnd) → state_by last offered kept (programs ++ []) es ≡ state_by last offered kept programs es
  same_programs es = ap (λ ps. state_by last offered kept ps es) (append-nil programs)

  pub told_more : (channel at : ℕ) (said : Option (ℕ × Saying)) (saying : Saying) → without_frames said ≡ Some (channel, saying)
      → state_said channel at said ≡ run_after at saying (state_by last offered kept programs ends)
  told_more channel at None saying e = cc
  told_more channel at (Some (named, OfFrames frames)) saying e = cc
  told_more channel at (Some (named, OfProgram program)) saying e =
      let both : ◌≡◌ {A = ℕ × Saying} (named, OfProgram program) (channel, saying) = cc in
      ap (λ b. state_by last offered kept (programs ++ map (placed_program at) (cond b (program ∷ []) [])) (ends ++ []))
      (eq-eqb named channel (ap (λ (said : ℕ × Saying). said.0) both))
      ∙ same_ends (programs ++ placed_program at program ∷ [])
      ∙ program_more at program offered kept ends last programs
      ∙ ap (λ (s : Saying). run_after at s (state_by last offered kept programs ends)) (ap (λ (said : ℕ × Saying). said.1) both)
  told_more channel at (Some (named, OfEnd end)) saying e =
      let both : ◌≡◌ {A = ℕ × Saying} (named, OfEnd end) (channel, saying) = cc in
      ap (λ b. state_by last offered kept (programs ++ []) (ends ++ cond b (end ∷ []) []))
      (eq-eqb named channel (ap (λ (said : ℕ × Saying). said.0) both))
      ∙ same_programs (ends ++ end ∷ [])
      ∙ end_more at last offered kept programs ends end
      ∙ ap (λ (s : Saying). run_after at s (state_by last offered kept programs ends)) (ap (λ (said : ℕ × Saying). said.1) both)

  pub untold : (channel at : ℕ) (said : Option (ℕ × Saying)) → is_said_of channel (without_frames said) ≡ false
      → state_said channel at said ≡ state_by last offered kept programs ends
  untold channel at None e = same_ends (programs ++ []) ∙ same_programs ends
  untold channel at (Some (named, OfFrames frames)) e = same_ends (programs ++ []) ∙ same_programs ends
  untold channel at (Some (named, OfProgram program)) e =
      ap (λ b. state_by last offered kept (programs ++ map (placed_program at) (cond b (program ∷ []) [])) (ends ++ [])) e
      ∙ same_ends (programs ++ []) ∙ same_programs ends
  untold channel at (Some (named, OfEnd end)) e =
      ap (λ b. state_by last offered kept (programs ++ []) (ends ++ cond b (end ∷ []) [])) e
      ∙ same_ends (programs ++ []) ∙ same_programs ends

-- ---- the state of a run

ends_more : (channel : ℕ) (packets : List PacketData) (packet : PacketData)
    → ends_of channel (packets ++ packet ∷ []) ≡ ends_of channel packets ++ end_said channel (saying_of packet)
ends_more channel packets packet =
    flat_map-append (λ (p : PacketData). end_said channel (saying_of p)) packets (packet ∷ [])
    ∙ ap (λ l. ends_of channel packets ++ l) (append-nil (end_said channel (saying_of packet)))

module _ (channel : ℕ) (earlier : List (List PacketData)) (own : List PacketData) (packet : PacketData) where
  parts_more : state_of_run channel earlier (own ++ packet ∷ [])
      ≡ state_said (last_in_file channel earlier) (sum_offered channel earlier) (sum_kept channel earlier) (placed_programs channel own)
      (ends_of channel own) channel packet.at (saying_of packet)
  parts_more =
      state_parts channel earlier (own ++ packet ∷ [])
      ∙ ap (λ ps. state_by (last_in_file channel earlier) (sum_offered channel earlier) (sum_kept channel earlier) ps
      (ends_of channel (own ++ packet ∷ []))) (placed_more channel own packet)
      ∙ ap (state_by (last_in_file channel earlier) (sum_offered channel earlier) (sum_kept channel earlier)
      (placed_programs channel own ++ placed_said channel packet)) (ends_more channel own packet)

  -- the packet says this of the channel
  pub run_on : (saying : Saying) → without_frames (saying_of packet) ≡ Some (channel, saying)
      → state_of_run channel earlier (own ++ packet ∷ []) ≡ run_after packet.at saying (state_of_run channel earlier own)
  run_on saying e =
      parts_more
      ∙ told_more (last_in_file channel earlier) (sum_offered channel earlier) (sum_kept channel earlier) (placed_programs channel own)
      (ends_of channel own) channel packet.at (saying_of packet) saying e
      ∙ ap (run_after packet.at saying) (sym (state_parts channel earlier own))

  -- it says nothing of the channel
  pub run_stays : tells_of channel packet ≡ false → state_of_run channel earlier (own ++ packet ∷ []) ≡ state_of_run channel earlier own
  run_stays e =
      parts_more
      ∙ untold (last_in_file channel earlier) (sum_offered channel earlier) (sum_kept channel earlier) (placed_programs channel own)
      (ends_of channel own) channel packet.at (saying_of packet) e
      ∙ sym (state_parts channel earlier own)

-- ---- the next recording

-- the state as the next recording begins
abbrev pub next_state : RunState → RunState
next_state state = record {
  last = state.last;
  moves = moves_behind state.last [];
  begun = false;
  before = state.sums;
  sums = state.sums;
}

pub run_next : (channel : ℕ) (earlier : List (List PacketData)) (own : List PacketData)
    → state_of_run channel (earlier ++ own ∷ []) [] ≡ next_state (state_of_run channel earlier own)
run_next channel earlier own =
    let last = last_in_file channel (earlier ++ own ∷ []) in
    let offered = sum_offered channel (earlier ++ own ∷ []) in
    let kept = sum_kept channel (earlier ++ own ∷ []) in
    state_parts channel (earlier ++ own ∷ []) []
    ∙ ap (λ (l : Option FileProgram). record (state_by last offered kept [] []) { last = l }) (last_with_none last)
    ∙ ap (λ (n : ℕ). record (next_state (state_of_run channel earlier own)) { sums = counted_sums n (kept + 0) })
    (let e : offered + 0 ≡ offered = omega arith in e)
    ∙ ap (λ (n : ℕ). record (next_state (state_of_run channel earlier own)) { sums = counted_sums offered n })
    (let e : kept + 0 ≡ kept = omega arith in e)
