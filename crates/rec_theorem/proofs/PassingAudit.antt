-- The pieces of a channel, one after the other, pass the audit: versions and first frames rise, the
-- last program accepts each frame, and the end comes last, with counts that are right.
-- idea: by recursion over the groups of a channel, with what the audit keeps after those before: the last program, the
-- counts, and that no end was seen; packets of other channels change none of these.
use Rattle.std.proofs.Common.{ℕ, ◌+◌, ◌≡◌, ◌≢◌, ◌≤◌, ◌<◌, ◌==◌, true, false, inl, inr, List, [], ◌∷◌, ◌++◌}
use Rattle.std.proofs.Common.{length, map, Option, Some, None, All, refl, sym, ap, subst, ◌∙◌, arith}
use Rattle.std.specs.Prelude.{slice_get, not}
use Rattle.std.specs.List.{flat_map, filter, last_or}
use Rattle.std.proofs.lemmas.Bool.{cases_lt}
use Rattle.std.proofs.lemmas.List.{append_assoc, append-nil}
use Rattle.std.proofs.lemmas.List.Elements.{All-nil, All-cons, All-head, All-tail, All-weaker, All-filter, All-map, filter_passes}
use Rattle.std.proofs.lemmas.Grind.{flat_map-append}
use Rattle.bpf_insn.specs.declared.insn.Insn.{Insn}
use Rattle.bpf_verify.specs.Validity.{Valid}
use Rattle.bpf_machine.specs.Machine.{Runs}
use Rattle.eth_frame.specs.Frame.{FrameData, view}
use Rattle.ch11_packet.specs.Building.{EthernetBody}
use Rattle.ch11_packet.specs.FramesRead.{body_frame}
use Rattle.rec_channel.specs.History.{Version}
use Rattle.rec_channel.specs.Slots.{programs_in}
use Rattle.rec_lane.specs.Offered.{OfferedFrame, MetFrom, AllMet, accepted, is_accepted}
use Rattle.rec_lane.specs.Pieces.{LaneSettings, PieceData, groups, has_group_version, AreGroups, data_piece, group_packets}
use Rattle.rec_lane.specs.Pieces.{group_pieces, end_piece, channel_pieces}
use Rattle.rec_lane.specs.Pieces.PieceData.{OfProgram, OfFrames, OfEnd}
use Rattle.rec_lane.proofs.Contents.{parts_whole, group_whole}
use Rattle.rec_lane.proofs.Groups.{groups_are}
use Rattle.rec_lane.proofs.FramesMet.{some_is}
use Rattle.rec_reader.specs.declared.audits.channel.ChannelProgram.{ChannelProgram}
use Rattle.rec_reader.specs.declared.audits.channel.ChannelEnd.{ChannelEnd}
use Rattle.rec_reader.specs.Audits.{Accepts, FollowsProgram, IsJudgement, WereOffered, HasCounts}
use Rattle.rec_theorem.proofs.JoinedLists.{All_back, All_front, All_parts, All_flat, All_with}
use Rattle.rec_theorem.proofs.Spelled.{said_by}
use Rattle.rec_theorem.proofs.Writable.{IsKnown, kept_of}

-- the pieces pass after this last program of their channel
abbrev pub PassFrom : Option ChannelProgram → List PieceData → Type 0
PassFrom last [] = Unit {0}
PassFrom last (OfProgram channel counter version first program ∷ pieces) =
    FollowsProgram last (record { version = version; first = first; insns = program }) × Valid program
    × PassFrom (Some (record { version = version; first = first; insns = program })) pieces
PassFrom last (OfFrames channel body ∷ pieces) =
    (program : ChannelProgram) × (last ≡ Some program)
    × All (Accepts program.insns) (map (body_frame body.net body.speed) body.frames) × PassFrom last pieces
PassFrom last (OfEnd channel counter offered kept ∷ pieces) = pieces ≡ []

-- the programs and the ends of a piece
abbrev pub programs_by : PieceData → List ChannelProgram
programs_by (OfProgram channel counter version first program) = record { version = version; first = first; insns = program } ∷ []
programs_by other = []

abbrev pub ends_by : PieceData → List ChannelEnd
ends_by (OfEnd channel counter offered kept) = record { offered = offered; kept = kept } ∷ []
ends_by other = []

-- ---- one piece is judged by those before it

-- frames are judged by the last program, which there is
frames_judged : (number : ℕ) (last : Option ChannelProgram) (channel : ℕ) (body : EthernetBody) (program : ChannelProgram) → last ≡ Some program
    → All (Accepts program.insns) (map (body_frame body.net body.speed) body.frames) → IsJudgement number None (said_by (OfFrames channel body)) last None
frames_judged number last channel body program is all = subst (λ o. IsJudgement number None (said_by (OfFrames channel body)) o None) (sym is) all

-- a list with an element is not empty
not_none : {X : Type 0} (xs : List X) (x : X) (ys : List X) → xs ++ x ∷ ys ≡ [] → ⊥
not_none [] x ys e = cc
not_none (z ∷ xs) x ys e = cc

-- pieces that pass are judged well, each by the last program before it; no end stands before it
pub judged_at : (number : ℕ) (last : Option ChannelProgram) (before : List PieceData) (piece : PieceData) (after : List PieceData)
    → PassFrom last (before ++ piece ∷ after)
    → IsJudgement number (last_or None (flat_map ends_by before)) (said_by piece) (last_or last (flat_map programs_by before)) None
judged_at number last [] (OfProgram channel counter version first program) after pass = (pass.0, pass.1)
judged_at number last [] (OfFrames channel body) after pass = frames_judged number last channel body pass.0 pass.1 pass.2
judged_at number last [] (OfEnd channel counter offered kept) after pass = refl
judged_at number last (OfProgram channel counter version first program ∷ before) piece after pass =
    judged_at number (Some (record { version = version; first = first; insns = program })) before piece after pass.2
judged_at number last (OfFrames channel body ∷ before) piece after pass = judged_at number last before piece after pass.3
judged_at number last (OfEnd channel counter offered kept ∷ before) piece after pass = absurd (not_none before piece after pass)

-- ---- the pieces of a group

-- the program that an offered frame met, as a record says it
abbrev pub program_in : OfferedFrame → ChannelProgram
program_in f = record { version = f.version; first = f.number; insns = f.program }

-- the program accepts the frame as it is read
abbrev AcceptsRead : LaneSettings → List Insn → FrameData → Type 0
AcceptsRead s program frame = Accepts program (body_frame s.net s.speed frame)

-- a frame is accepted by a value that is not 0
not_zero : (f : OfferedFrame) → is_accepted f ≡ true → f.value ≢ 0
not_zero f yes_it = λ zero_it. let off : is_accepted f ≡ false = ap (λ v. not (v == 0)) zero_it in let both = sym off ∙ yes_it in cc

-- an offered frame that was accepted is accepted by its program as it is read: the run is the same, since the view is
one_accepts : (s : LaneSettings) (history : List Version) (count : ℕ) (program : List Insn) (x : OfferedFrame)
    → IsKnown history count x × (x.program ≡ program) → is_accepted x ≡ true → AcceptsRead s program x.frame
one_accepts s history count program x known passes = record {
  valid = subst Valid known.1 known.0.valid;
  whole = (refl, known.0.framed.shortest);
  steps = known.0.met.ran.0;
  value = x.value;
  runs = subst (λ p. Runs p (view x.frame) known.0.met.ran.0 x.value) known.1 known.0.met.ran.1;
  accepted = not_zero x passes;
}

-- each accepted frame of a group of one program is accepted by it
group_accepts : (s : LaneSettings) (history : List Version) (count : ℕ) (program : List Insn) (group : List OfferedFrame)
    → All (λ (x : OfferedFrame). IsKnown history count x × (x.program ≡ program)) group → All (AcceptsRead s program) (accepted group)
group_accepts s history count program group known =
    All-map (AcceptsRead s program) (λ (f : OfferedFrame). f.frame) (filter is_accepted group)
    (All_with (λ (x : OfferedFrame). IsKnown history count x × (x.program ≡ program)) (λ (x : OfferedFrame). is_accepted x ≡ true)
    (λ (x : OfferedFrame). AcceptsRead s program x.frame)
    (one_accepts s history count program) (filter is_accepted group)
    (All-filter is_accepted (λ (x : OfferedFrame). IsKnown history count x × (x.program ≡ program)) group known)
    (filter_passes is_accepted group))

-- packets of frames that the last program accepts pass
packets_pass : (s : LaneSettings) (program : ChannelProgram) (ps : List (List FrameData)) (more : List PieceData)
    → All (λ (p : List FrameData). All (AcceptsRead s program.insns) p) ps → PassFrom (Some program) more
    → PassFrom (Some program) (map (data_piece s) ps ++ more)
packets_pass s program [] more all pass = pass
packets_pass s program (p ∷ ps) more all pass = (
  program,
  refl,
  All-map (Accepts program.insns) (body_frame s.net s.speed) p (All-head (λ (q : List FrameData). All (AcceptsRead s program.insns) q) p ps all),
  packets_pass s program ps more (All-tail (λ (q : List FrameData). All (AcceptsRead s program.insns) q) p ps all) pass,
)

-- frames of one version met one program
same_program : (history : List Version) (count : ℕ) (f x : OfferedFrame) → IsKnown history count f → IsKnown history count x → x.version ≡ f.version
    → x.program ≡ f.program
same_program history count f x a b same = some_is x.program f.program (sym b.met.program ∙ (ap (slice_get (programs_in history)) same ∙ a.met.program))

-- ---- groups one after the other

-- later frames are numbered on
met_back : (history : List Version) (number : ℕ) (fs gs : List OfferedFrame) → MetFrom history number (fs ++ gs) → MetFrom history (number + length fs) gs
met_back history number [] gs met = subst (λ n. MetFrom history n gs) (omega arith) met
met_back history number (f ∷ fs) gs met = subst (λ n. MetFrom history n gs) (let e : number + 1 + length fs ≡ number + length (f ∷ fs) = omega arith in
    e) (met_back history (number + 1) fs gs met.2)

-- the program of the first frame may come next
abbrev Goes : Option ChannelProgram → List OfferedFrame → Type 0
Goes last [] = Unit {0}
Goes last (f ∷ fs) = FollowsProgram last (program_in f)

-- versions never fall from one frame to a later one
versions_rise : (history : List Version) (count : ℕ) (f x : OfferedFrame) → IsKnown history count f → IsKnown history count x → f.number ≤ x.number
    → f.version ≤ x.version
versions_rise history count f x a b later =
    let force = a.met.in_force in
    let begun = force.begun in
    b.met.in_force.last f.version force.entry force.stands (omega (arith, begun, later))

-- a number that is at least another one and differs is greater
below : (m n : ℕ) → m ≤ n → n ≢ m → m < n
below m n most differs = elim (cases_lt m n) [
  | inl less ↦ less
  | inr not_less ↦ absurd (differs (omega (arith, most, not_less)))
]

-- after a group comes another version, which is greater, with a later first frame
goes_on : (history : List Version) (count number version : ℕ) (f : OfferedFrame) (fs rest : List OfferedFrame) → f.version ≡ version → IsKnown history count f
    → f.number ≡ number
    → ((x : OfferedFrame) → slice_get rest 0 ≡ Some x → x.version ≢ version) → MetFrom history (number + length (f ∷ fs)) rest
    → All (IsKnown history count) rest → Goes (Some (program_in f)) rest
goes_on history count number version f fs [] is known at ended met all = tt
goes_on history count number version f fs (x ∷ xs) is known at ended met all =
    let next = met.0 in
    let rises : f.version ≤ x.version = versions_rise history count f x known (All-head (IsKnown history count) x xs all) (omega (arith, next, at)) in
    let differs : x.version ≢ f.version = λ same. ended x refl (same ∙ is) in
    (below f.version x.version rises differs, omega (arith, next, at))

-- groups pass one after the other, each with its program first, by induction on the groups
groups_pass : (s : LaneSettings) (history : List Version) (count number : ℕ) (last : Option ChannelProgram) (frames : List OfferedFrame)
    (gs : List (List OfferedFrame)) (more : List PieceData)
    → AreGroups frames gs → MetFrom history number frames → All (IsKnown history count) frames → Goes last frames
    → ((l : Option ChannelProgram) → PassFrom l more) → PassFrom last (flat_map (group_pieces s) gs ++ more)
groups_pass s history count number last frames [] more are met known goes pass = pass last
groups_pass s history count number last frames ([] ∷ gs) more are met known goes pass = absurd (are.1.some refl)
groups_pass s history count number last frames ((f ∷ fs) ∷ gs) more are met known goes pass =
    let rest = are.0 in
    let all = subst (All (IsKnown history count)) are.1.front known in
    let first = All-head (IsKnown history count) f (fs ++ rest) all in
    let begins = subst (MetFrom history number) are.1.front met in
    let group = All_front (IsKnown history count) (f ∷ fs) rest all in
    let later = All_back (IsKnown history count) (f ∷ fs) rest all in
    let version_is : f.version ≡ are.1.version = All-head (λ (x : OfferedFrame). x.version ≡ are.1.version) f fs are.1.same in
    let one = All_with (IsKnown history count) (λ (x : OfferedFrame). x.version ≡ are.1.version) (λ (x : OfferedFrame). IsKnown history count x
    × (x.program ≡ f.program))
    (λ x a b. (a, same_program history count f x first a (b ∙ sym version_is))) (f ∷ fs) group are.1.same in
    let ps = group_packets s (f ∷ fs) in
    let accepts = All_parts (AcceptsRead s f.program) ps (subst (All (AcceptsRead s f.program)) (sym (group_whole s (f ∷ fs)))
    (group_accepts s history count f.program (f ∷ fs) one)) in
    let next = met_back history number (f ∷ fs) rest begins in
    let goes_next = goes_on history count number are.1.version f fs rest version_is first begins.0 are.1.ended next later in
    let tail = groups_pass s history count (number + length (f ∷ fs)) (Some (program_in f)) rest gs more are.2 next later goes_next pass in (
      subst (Goes last) are.1.front goes,
      first.valid,
      subst (PassFrom (Some (program_in f))) (sym (append_assoc (map (data_piece s) ps) (flat_map (group_pieces s) gs) more))
          (packets_pass s (program_in f) ps (flat_map (group_pieces s) gs ++ more) accepts tail),
    )

-- the first program came into force at frame 0
goes_first : (history : List Version) (offered : List OfferedFrame) → AllMet history offered → Goes None offered
goes_first history [] met = tt
goes_first history (f ∷ fs) met = met.0

-- all pieces of a channel pass
pub channel_passes : (s : LaneSettings) (history : List Version) (count : ℕ) (offered : List OfferedFrame) → AllMet history offered
    → All (IsKnown history count) offered → PassFrom None (channel_pieces s offered)
channel_passes s history count offered met known =
    groups_pass s history count 0 None offered (groups offered) (end_piece s offered ∷ []) (groups_are offered) met known (goes_first history offered met)
    (λ last. refl)

-- ---- the end

-- the program of a group
group_program : List OfferedFrame → List ChannelProgram
group_program [] = []
group_program (f ∷ fs) = program_in f ∷ []

-- packets of frames have no end and no program
no_ends_packed : (s : LaneSettings) (ps : List (List FrameData)) → flat_map ends_by (map (data_piece s) ps) ≡ []
no_ends_packed s [] = refl
no_ends_packed s (p ∷ ps) = no_ends_packed s ps

no_programs_packed : (s : LaneSettings) (ps : List (List FrameData)) → flat_map programs_by (map (data_piece s) ps) ≡ []
no_programs_packed s [] = refl
no_programs_packed s (p ∷ ps) = no_programs_packed s ps

-- a group has no end, and its one program
group_ends : (s : LaneSettings) (g : List OfferedFrame) → flat_map ends_by (group_pieces s g) ≡ []
group_ends s [] = no_ends_packed s (group_packets s [])
group_ends s (f ∷ fs) = no_ends_packed s (group_packets s (f ∷ fs))

group_programs : (s : LaneSettings) (g : List OfferedFrame) → flat_map programs_by (group_pieces s g) ≡ group_program g
unfolding group_program
group_programs s [] = no_programs_packed s (group_packets s [])
group_programs s (f ∷ fs) = ap (λ ps. program_in f ∷ ps) (no_programs_packed s (group_packets s (f ∷ fs)))

-- so groups have no end, and the program of each
groups_end : (s : LaneSettings) (gs : List (List OfferedFrame)) → flat_map ends_by (flat_map (group_pieces s) gs) ≡ []
groups_end s [] = refl
groups_end s (g ∷ gs) =
    flat_map-append ends_by (group_pieces s g) (flat_map (group_pieces s) gs)
    ∙ (ap (λ es. es ++ flat_map ends_by (flat_map (group_pieces s) gs)) (group_ends s g) ∙ groups_end s gs)

groups_programs : (s : LaneSettings) (gs : List (List OfferedFrame)) → flat_map programs_by (flat_map (group_pieces s) gs) ≡ flat_map group_program gs
groups_programs s [] = refl
groups_programs s (g ∷ gs) =
    flat_map-append programs_by (group_pieces s g) (flat_map (group_pieces s) gs)
    ∙ (ap (λ ps. ps ++ flat_map programs_by (flat_map (group_pieces s) gs)) (group_programs s g)
    ∙ ap (λ ps. group_program g ++ ps) (groups_programs s gs))

-- the one end of a channel
pub channel_end : (s : LaneSettings) (offered : List OfferedFrame)
    → flat_map ends_by (channel_pieces s offered) ≡ record { offered = length offered; kept = length (accepted offered) } ∷ []
channel_end s offered =
    flat_map-append ends_by (flat_map (group_pieces s) (groups offered)) (end_piece s offered ∷ [])
    ∙ ap (λ es. es ++ flat_map ends_by (end_piece s offered ∷ [])) (groups_end s (groups offered))

-- the programs of a channel are those of its groups
channel_programs : (s : LaneSettings) (offered : List OfferedFrame) → flat_map programs_by (channel_pieces s offered) ≡ flat_map group_program (groups offered)
channel_programs s offered =
    flat_map-append programs_by (flat_map (group_pieces s) (groups offered)) (end_piece s offered ∷ [])
    ∙ (append-nil (flat_map programs_by (flat_map (group_pieces s) (groups offered))) ∙ groups_programs s (groups offered))

-- what holds of each element holds of the last one
last_of : {X : Type 0} (P : X → Type 0) (x : X) (xs : List X) → P x → All P xs → (y : X) × (last_or (Some x) xs ≡ Some y) × P y
last_of P x [] is all = (x, refl, is)
last_of P x (y ∷ ys) is all = last_of P y ys (All-head P y ys all) (All-tail P y ys all)

-- the program came into force before so many frames were offered
abbrev Early : ℕ → ChannelProgram → Type 0
Early count program = program.first < count

-- that of a group did, since the group has a frame
group_early : (history : List Version) (count : ℕ) (g : List OfferedFrame) → All (IsKnown history count) g → All (Early count) (group_program g)
unfolding group_program
group_early history count [] all = All-nil (Early count)
group_early history count (f ∷ fs) all = All-cons (Early count) (program_in f) [] (All-head (IsKnown history count) f fs all).below (All-nil (Early count))

groups_early : (history : List Version) (count : ℕ) (gs : List (List OfferedFrame)) → All (λ (g : List OfferedFrame). All (IsKnown history count) g) gs
    → All (Early count) (flat_map group_program gs)
groups_early history count gs all =
    All_flat (Early count) group_program gs (All-weaker (λ (g : List OfferedFrame). All (IsKnown history count) g)
    (λ (g : List OfferedFrame). All (Early count) (group_program g)) (group_early history count) gs all)

-- as many frames were offered as the last program asks, and none where there is no program
were_offered : (history : List Version) (offered : List OfferedFrame) (gs : List (List OfferedFrame)) → AreGroups offered gs
    → All (λ (g : List OfferedFrame). All (IsKnown history (length offered)) g) gs → WereOffered (last_or None (flat_map group_program gs)) (length offered)
unfolding group_program
were_offered history offered [] are all = ap length are
were_offered history offered ([] ∷ gs) are all = absurd (are.1.some refl)
were_offered history offered ((f ∷ fs) ∷ gs) are all =
    let known = All-head (λ (g : List OfferedFrame). All (IsKnown history (length offered)) g) (f ∷ fs) gs all in
    let last = last_of (Early (length offered)) (program_in f) (flat_map group_program gs) (All-head (IsKnown history (length offered)) f fs known).below
    (groups_early history (length offered) gs (All-tail (λ (g : List OfferedFrame). All (IsKnown history (length offered)) g) (f ∷ fs) gs all)) in
    subst (λ o. WereOffered o (length offered)) (sym last.1) last.2

-- its counts are right
pub channel_counts : (s : LaneSettings) (history : List Version) (offered : List OfferedFrame) → All (IsKnown history (length offered)) offered
    → HasCounts (last_or None (flat_map programs_by (channel_pieces s offered))) (length (accepted offered))
    (record { offered = length offered; kept = length (accepted offered) })
channel_counts s history offered known = record {
  kept = refl;
  kept_of = kept_of offered;
  offered = subst (λ ps. WereOffered (last_or None ps) (length offered)) (sym (channel_programs s offered))
      (were_offered history offered (groups offered) (groups_are offered)
      (All_parts (IsKnown history (length offered)) (groups offered)
      (subst (All (IsKnown history (length offered))) (sym (parts_whole has_group_version offered)) known)));
}
