-- Recordings that are joined are approved where each of them is.
use Rattle.std.proofs.Common.{ℕ, zero, suc, ◌≡◌, ◌≢◌, ◌+◌, ◌<◌, List, [], ◌∷◌, ◌++◌, map, length, Option, None, Some, Bool, true, false}
use Rattle.std.proofs.Common.{inl, inr, cond, Contains}
use Rattle.std.proofs.Common.{refl, sym, subst, ap, ◌∙◌, arith, append-nil, append_assoc, eq-eqb}
use Rattle.std.specs.Prelude.{◌==◌, ◌||◌, if◌then◌else◌}
use Rattle.std.specs.List.{AllByRecursion, filter, flat_map, range_with_len}
use Rattle.std.specs.List.Sorted.{IsStrictlyIncreasing}
use Rattle.std.proofs.lemmas.Bool.{cases_Bool, eqb-true}
use Rattle.std.proofs.lemmas.List.Elements.{Contains-append_cases, Contains-append_left, Contains-push}
use Rattle.std.proofs.lemmas.List.Folds.{list_any-append}
use Rattle.std.proofs.lemmas.List.FromFn.{get_or-range_with_len, length-range_with_len}
use Rattle.std.proofs.lemmas.List.Kept.{IsStrictlyIncreasing-filter}
use Rattle.ch11_packet.specs.declared.class.What.{What}
use Rattle.ch11_packet.specs.declared.class.What.TheVariants.{Frames, Program, End, Other}
use Rattle.ch11_packet.specs.Classes.{data_in}
use Rattle.rec_reader.specs.Packets.{PacketData, BeginsPackets}
use Rattle.rec_reader.specs.ChannelFrames.{channel_frames}
use Rattle.rec_reader.specs.Channels.{Saying, IsNamed, saying_in, saying_of, last_program, capped}
use Rattle.rec_reader.specs.Audits.{AreLines, Closes, IsClosing, WereOffered, line_of, other_count}
use Rattle.rec_runs.specs.ProgramMoves.{placed_programs}
use Rattle.rec_runs.specs.RunSayings.{is_said_of}
use Rattle.rec_runs.specs.RunSums.{sum_kept, sum_offered}
use Rattle.rec_pieces.specs.declared.entry.PieceKind.{PieceKind}
use Rattle.rec_pieces.specs.declared.entry.PieceKind.TheVariants.{Frames as IsFrames}
use Rattle.rec_pieces.specs.Entries.{PacketPlaces, named_by}
use Rattle.rec_pieces.proofs.ChannelsListed.{more as range_more}
use Rattle.rec_joined.specs.declared.joined.Part.{Part}
use Rattle.rec_joined.specs.Moving.{Moving, moving_of}
use Rattle.rec_joined.specs.MovedRecords.{record_moving}
use Rattle.rec_joined.specs.MovedPackets.{IsMovable, IsPlaced}
use Rattle.rec_joined.specs.JoinedFrames.{HasOwnId}
use Rattle.rec_joined.specs.JoinedPackets.{AreParts, IsJoinedPart, joined_told, told_packets}
use Rattle.joined_theorem.specs.RunMoves.{AreAllApproved, GoOnInRuns, IsApprovedAlone, HaveOwnIds, AreMovedInRuns, IsOwnOf}
use Rattle.joined_theorem.specs.RunMoves.{moves_between, name_channel, names_channel, recordings_in_run, with_one_of}
use Rattle.joined_theorem.proofs.ChannelSayings.{SayingsPass, all_pass, end_of_sayings, program_in, program_of_sayings, said_in, sayings_of}
use Rattle.joined_theorem.proofs.Continued.{said_moved}
use Rattle.joined_theorem.proofs.MovedSayings.{Skips, nothing_told, packets_tell, sayings_append}
use Rattle.joined_theorem.proofs.SaidOfChannels.{frames_of_sayings, nothing_said, programs_placed}
use Rattle.joined_theorem.proofs.RunStates.{FileState, is_named, named, no_programs, none_so_far, not_named}

-- ---- recordings one by one

nothing_of : (moving : Moving) (channel id at : ℕ) (own : List PacketData) (bytes rest : List ℕ) → HasOwnId moving channel id
    → BeginsPackets 0 own bytes rest → AllByRecursion (IsPlaced moving) own → names_channel channel own ≡ false
    → sayings_of id (told_packets moving at own) ≡ []
nothing_of moving channel id at own bytes rest owns begins placed none =
    let nothing = nothing_said channel own none in
    let told = packets_tell moving channel id 0 at own bytes rest true owns begins placed
    (subst (λ l. Skips (moving.records channel).same true 0 l) (sym (no_programs (placed_programs channel own)
    (programs_placed channel own ∙ ap (flat_map program_in) nothing))) tt) in
    told.says ∙ ap (said_moved moving.counters (moving.records channel) true) nothing

not_false : (one other : ℕ) → one ≡ other → (one == other) ≡ false → ⊥
not_false one other same is = true_false (sym (eq-eqb one other same) ∙ is)
  where
    true_false : true ≡ false → ⊥
    true_false e = cc

-- one more of a run, or of another one
one_more : {P : Type 0} (there : P → Option PacketPlaces) (id run channel start : ℕ) (part : Part P) (parts : List (Part P)) (packets : List PacketData)
    (more : List (List PacketData)) (earlier : ℕ → List (List PacketData)) (said : List Saying) → IsJoinedPart there start part packets
    → IsOwnOf id run channel part → GoOnInRuns earlier (part ∷ parts) (packets ∷ more) → IsApprovedAlone packets
    → FileState channel (earlier run) said (name_channel channel (recordings_in_run run (part ∷ parts) (packets ∷ more)))
    → FileState channel (with_one_of part.moves.run packets earlier run) (said ++ sayings_of id (told_packets (moving_of part.moves) part.start packets))
    (name_channel channel (recordings_in_run run parts more))
one_more there id run channel start part parts packets more earlier said is owns moves approved state = here (part.moves.run == run) refl
  where
    moving : Moving
    moving = moving_of part.moves

    rest : List (List PacketData)
    rest = recordings_in_run run parts more

    own : List Saying
    own = sayings_of id (told_packets moving part.start packets)

    -- what nothing is added to
    as_before : (all : List (List PacketData)) → own ≡ [] → FileState channel all said (name_channel channel rest)
        → FileState channel all (said ++ own) (name_channel channel rest)
    as_before all nothing so = subst (λ l. FileState channel all l (name_channel channel rest)) (sym (ap (λ l. said ++ l) nothing ∙ append-nil said)) so

    here : (same : Bool) → (part.moves.run == run) ≡ same
        → FileState channel (with_one_of part.moves.run packets earlier run) (said ++ own) (name_channel channel rest)
    here false other =
        let none = owns.none (λ same. not_false part.moves.run run same other) in
        let nothing = nothing_told moving id 0 part.start packets is.bytes is.reads.rest (λ packet named saying movable says. none named)
        is.reads.held is.movable in
        as_before (with_one_of part.moves.run packets earlier run) nothing
        (subst (λ all. FileState channel all said (name_channel channel rest))
        (sym (ap (λ b. if b then earlier run ++ packets ∷ [] else earlier run) other))
        (subst (FileState channel (earlier run) said) (ap (λ b. name_channel channel (if b then packets ∷ rest else rest)) other) state))
    here true same =
        subst (λ all. FileState channel all (said ++ own) (name_channel channel rest))
        (sym (ap (λ b. if b then earlier run ++ packets ∷ [] else earlier run) same)) (kind (names_channel channel packets) refl)
      where
        whose : part.moves.run ≡ run
        whose = eqb-true part.moves.run run same

        now : FileState channel (earlier run) said (names_channel channel packets || name_channel channel rest)
        now = subst (FileState channel (earlier run) said) (ap (λ b. name_channel channel (if b then packets ∷ rest else rest)) same) state

        becomes : names_channel channel packets ≡ true → moving.records channel ≡ record_moving (moves_between channel (earlier run) packets rest)
        becomes has = moves.0 channel has ∙ ap (λ r. record_moving (moves_between channel (earlier r) packets (recordings_in_run r parts more))) whose

        kind : (has : Bool) → names_channel channel packets ≡ has
            → FileState channel (earlier run ++ packets ∷ []) (said ++ own) (name_channel channel rest)
        kind true has =
            named moving channel id part.start packets is.bytes is.reads.rest (earlier run) rest said approved.0 (owns.own whose) is.reads.held is.movable
            (becomes has) approved.1 has now
        kind false none =
            as_before (earlier run ++ packets ∷ [])
            (nothing_of moving channel id part.start packets is.bytes is.reads.rest (owns.own whose) is.reads.held is.movable none)
            (not_named channel (earlier run) packets said (name_channel channel rest) none now)

pub state_of_parts : {P : Type 0} (there : P → Option PacketPlaces) (id run channel start : ℕ) (parts : List (Part P)) (read : List (List PacketData))
    (earlier : ℕ → List (List PacketData)) (said : List Saying) → AreParts there start parts read → AllByRecursion (IsOwnOf id run channel) parts
    → GoOnInRuns earlier parts read → AllByRecursion IsApprovedAlone read
    → FileState channel (earlier run) said (name_channel channel (recordings_in_run run parts read))
    → (all : List (List PacketData)) × FileState channel all (said ++ sayings_of id (joined_told parts read)) false
state_of_parts there id run channel start [] [] earlier said are owns moves approved state =
    (earlier run, subst (λ l. FileState channel (earlier run) l false) (sym (append-nil said)) state)
state_of_parts there id run channel start [] (packets ∷ more) earlier said are owns moves approved state = absurd are
state_of_parts there id run channel start (part ∷ parts) [] earlier said are owns moves approved state = absurd are
state_of_parts there id run channel start (part ∷ parts) (packets ∷ more) earlier said are owns moves approved state =
    let own = sayings_of id (told_packets (moving_of part.moves) part.start packets) in
    let rest = state_of_parts there id run channel part.end parts more (with_one_of part.moves.run packets earlier) (said ++ own) are.1 owns.1 moves.1
    approved.1 (one_more there id run channel start part parts packets more earlier said are.0 owns.0 moves approved.0 state) in (
      rest.0,
      subst (λ l. FileState channel rest.0 l false)
          (append_assoc said own (sayings_of id (joined_told parts more))
          ∙ ap (λ l. said ++ l) (sym (sayings_append id (told_packets (moving_of part.moves) part.start packets) (joined_told parts more)))) rest.1,
    )

-- ---- each ID

none_is_some : {A : Type 0} (x : A) → ◌≡◌ {A = Option A} None (Some x) → ⊥
none_is_some x is = cc

first_same : {A : Type 0} (a b : ℕ) (x y : A) → ◌≡◌ {A = Option (ℕ × A)} (Some (a, x)) (Some (b, y)) → a ≡ b
first_same {A = A} a b x y is = ap first is
  where
    first : Option (ℕ × A) → ℕ
    first None = 0
    first (Some one) = one.0

same_channel : (own : ℕ) (what : What) (bytes : List ℕ) (channel said : ℕ) (kind : PieceKind) (saying : Saying)
    → named_by own what ≡ Some (channel, kind) → saying_in own what bytes ≡ Some (said, saying) → said ≡ channel
same_channel own (Frames count) bytes channel said kind saying names says = here (own == 0) names
  where
    here : (none : Bool) → ◌≡◌ {A = Option (ℕ × PieceKind)} (if none then None else Some (own, IsFrames)) (Some (channel, kind)) → said ≡ channel
    here true is = absurd (none_is_some (channel, kind) is)
    here false is = sym (first_same own said _ saying says) ∙ first_same own channel IsFrames kind is
same_channel own (Program other version first count) bytes channel said kind saying names says =
    sym (first_same other said _ saying says) ∙ first_same other channel _ kind names
same_channel own (End other offered kept) bytes channel said kind saying names says =
    sym (first_same other said _ saying says) ∙ first_same other channel _ kind names
same_channel own Other bytes channel said kind saying names says = absurd (none_is_some (channel, kind) names)

not_zero : (moving : Moving) (packet : PacketData) (said : ℕ) (saying : Saying) → IsMovable moving packet → saying_of packet ≡ Some (said, saying)
    → moving.ids said ≢ 0
not_zero moving packet said saying movable says none =
    let names = movable.named.1 in
    let same = same_channel packet.header.channel packet.what (data_in packet.header packet.body) names.channel said names.kind saying names.named says in
    let some = names.from_one in
    let given : movable.named.0 ≡ 0 = names.given ∙ ap moving.ids (sym same) ∙ none in
    omega (arith, some, given)

pub nothing_of_zero : {P : Type 0} (there : P → Option PacketPlaces) (start : ℕ) (parts : List (Part P)) (read : List (List PacketData))
    → AreParts there start parts read → sayings_of 0 (joined_told parts read) ≡ []
nothing_of_zero there start [] [] are = refl
nothing_of_zero there start [] (packets ∷ more) are = absurd are
nothing_of_zero there start (part ∷ parts) [] are = absurd are
nothing_of_zero there start (part ∷ parts) (packets ∷ more) are =
    sayings_append 0 (told_packets (moving_of part.moves) part.start packets) (joined_told parts more)
    ∙ ap (λ l. l ++ sayings_of 0 (joined_told parts more))
    (nothing_told (moving_of part.moves) 0 0 part.start packets are.0.bytes are.0.reads.rest (not_zero (moving_of part.moves)) are.0.reads.held are.0.movable)
    ∙ nothing_of_zero there part.end parts more are.1

-- ---- the channels at the end

behind_some : (ss ts : List Saying) (saying : Saying) → ss ++ saying ∷ ts ≡ [] → ⊥
behind_some [] ts saying is = cc
behind_some (s ∷ ss) ts saying is = cc

named_says : (channel : ℕ) (packets : List PacketData) → IsNamed channel packets → sayings_of channel packets ≡ [] → ⊥
named_says channel packets is none =
    behind_some (sayings_of channel is.before) (sayings_of channel is.after) is.names.0
    (sym (ap (λ l. sayings_of channel is.before ++ l)
    (ap (λ l. l ++ sayings_of channel is.after) (ap (said_in channel) is.names.1
    ∙ ap (λ b. if b then is.names.0 ∷ [] else []) (eq-eqb channel channel refl))))
    ∙ sym (sayings_append channel is.before (is.packet ∷ is.after)) ∙ ap (sayings_of channel) (sym is.whole) ∙ none)

closes_by : (id channel : ℕ) (packets : List PacketData) (all : List (List PacketData)) → FileState channel all (sayings_of id packets) false
    → name_channel channel all ≡ true → Closes packets id None
closes_by id channel packets all state some =
    let frames : length (channel_frames id packets) ≡ sum_kept channel all = ap length (frames_of_sayings id packets) ∙ state.frames in
    subst (λ e. IsClosing id e (last_program id packets) (length (channel_frames id packets)) None)
    (sym (end_of_sayings id None packets ∙ state.closed refl some))
    (record {
      kept = sym frames;
      kept_of = state.fewer;
      offered = subst (λ p. WereOffered p (sum_offered channel all)) (sym (program_of_sayings id None packets)) state.offered;
    })

closes_named : (id channel : ℕ) (packets : List PacketData) (all : List (List PacketData)) → FileState channel all (sayings_of id packets) false
    → IsNamed id packets → Closes packets id None
closes_named id channel packets all state named = elim (cases_Bool (name_channel channel all)) as (λ _. Closes packets id None) [
  | inl some ↦ closes_by id channel packets all state some
  | inr none ↦ absurd (named_says id packets named (state.silent none))
]

-- ---- the lines

named_test : (channel : ℕ) (packets : List PacketData) → IsNamed channel packets → names_channel channel packets ≡ true
named_test channel packets is =
    ap (names_channel channel) is.whole
    ∙ list_any-append (λ (p : PacketData). is_said_of channel (saying_of p)) is.before (is.packet ∷ is.after)
    ∙ ap (λ b. names_channel channel is.before || (b || names_channel channel is.after))
    (ap (is_said_of channel) is.names.1 ∙ eq-eqb channel channel refl)
    ∙ or_any (names_channel channel is.before)
  where
    or_any : (b : Bool) → (b || true) ≡ true
    or_any true = refl
    or_any false = refl

-- more than each channel that is named
channel_in : Option (ℕ × Saying) → ℕ
channel_in None = 0
channel_in (Some (channel, saying)) = channel

bound : List PacketData → ℕ
bound [] = 0
bound (p ∷ ps) = channel_in (saying_of p) + 1 + bound ps

said_below : (channel : ℕ) (said : Option (ℕ × Saying)) → is_said_of channel said ≡ true → channel_in said ≡ channel
unfolding channel_in
said_below channel None is = cc
said_below channel (Some (other, saying)) is = eqb-true other channel is

named_below : (channel : ℕ) (packets : List PacketData) → names_channel channel packets ≡ true → channel < bound packets
unfolding bound
named_below channel [] is = cc
named_below channel (p ∷ ps) is = elim (cases_Bool (is_said_of channel (saying_of p))) as (λ _. channel < channel_in (saying_of p) + 1 + bound ps) [
  | inl here ↦ let same = said_below channel (saying_of p) here in omega (arith, same)
  | inr other ↦
      let later = named_below channel ps (sym (ap (λ b. b || names_channel channel ps) other) ∙ is) in omega (arith, later)
]

last_or_less : (k n : ℕ) → k < suc n → (k == n) ≡ false → k < n
last_or_less k n less other = omega (arith, less, apart)
  where
    apart : k ≢ n
    apart same = not_false k n same other

one_up : (n : ℕ) → suc n ≡ n + 1
one_up n = omega arith

below_more : (p : ℕ → Bool) (n : ℕ) → filter p (range_with_len 0 (suc n)) ≡ filter p (range_with_len 0 n) ++ cond (p n) (n ∷ []) []
below_more p n = ap (λ m. filter p (range_with_len 0 m)) (one_up n) ∙ range_more p n

at_last : (p : ℕ → Bool) (n k : ℕ) → p k ≡ true → k ≡ n → Contains (filter p (range_with_len 0 n) ++ cond (p n) (n ∷ []) []) k
at_last p n k is same =
    subst (λ b. Contains (filter p (range_with_len 0 n) ++ cond b (n ∷ []) []) k) (sym (ap p (sym same) ∙ is))
    (subst (λ m. Contains (filter p (range_with_len 0 n) ++ m ∷ []) k) same (Contains-push (filter p (range_with_len 0 n)) k))

below_has : (p : ℕ → Bool) (n k : ℕ) → p k ≡ true → k < n → Contains (filter p (range_with_len 0 n)) k
below_has p zero k is less = absurd (omega (arith, less))
below_has p (suc n) k is less = subst (λ l. Contains l k) (sym (below_more p n)) (elim (cases_Bool (k == n)) as (λ _.
    Contains (filter p (range_with_len 0 n) ++ cond (p n) (n ∷ []) []) k) [
      | inl same ↦ at_last p n k is (eqb-true k n same)
      | inr other ↦ Contains-append_left (filter p (range_with_len 0 n)) (cond (p n) (n ∷ []) []) k (below_has p n k is (last_or_less k n less other))
    ])

one_or_none : (p : ℕ → Bool) (n k : ℕ) (is : Bool) → p n ≡ is → Contains (cond is (n ∷ []) []) k → p k ≡ true
one_or_none p n k true is has = one_in has
  where
    one_in : Contains (n ∷ []) k → p k ≡ true
    one_in (zero, less, same) = ap p (sym same) ∙ is
    one_in (suc at, less, same) = absurd (omega (arith, less))
one_or_none p n k false is has = absurd (omega (arith, has.1))

below_are : (p : ℕ → Bool) (n k : ℕ) → Contains (filter p (range_with_len 0 n)) k → p k ≡ true
below_are p zero k has = absurd (omega (arith, has.1))
below_are p (suc n) k has =
    elim (Contains-append_cases (filter p (range_with_len 0 n)) (cond (p n) (n ∷ []) []) k (subst (λ l. Contains l k) (below_more p n) has))
    as (λ _. p k ≡ true) [
      | inl before ↦ below_are p n k before
      | inr last ↦ one_or_none p n k (p n) refl last
    ]

range_rises : (n : ℕ) → IsStrictlyIncreasing (range_with_len 0 n)
range_rises n k within =
    let less : k + 1 < n = subst (λ m. k + 1 < m) (length-range_with_len 0 n) within in
    let one = get_or-range_with_len 0 n k 0 (omega (arith, less)) in
    let next = get_or-range_with_len 0 n (k + 1) 0 less in
    omega (arith, one, next)

lines_are : (packets : List PacketData) → AreLines packets (map (line_of packets) (filter (λ c. names_channel c packets) (range_with_len 0 (bound packets))))
lines_are packets = record {
  channels = filter (λ c. names_channel c packets) (range_with_len 0 (bound packets));
  ascending = IsStrictlyIncreasing-filter (λ c. names_channel c packets) (range_with_len 0 (bound packets)) (range_rises (bound packets));
  all = λ channel. (
    λ has. is_named channel packets (below_are (λ c. names_channel c packets) (bound packets) channel has),
    λ named.
        let is = named_test channel packets named in
        below_has (λ c. names_channel c packets) (bound packets) channel is (named_below channel packets is),
  );
  lines_are = refl;
}

-- ---- the audit

pub approved : {P : Type 0} (there : P → Option PacketPlaces) (parts : List (Part P)) (read : List (List PacketData)) → AreParts there 0 parts read
    → HaveOwnIds parts → AreMovedInRuns parts read → AreAllApproved read → IsApprovedAlone (joined_told parts read)
approved there parts read are own moves all =
    let told = joined_told parts read in (
      record { channels = map (line_of told) (filter (λ c. names_channel c told) (range_with_len 0 (bound told))); other = capped (other_count told) },
      record {
        passed = all_pass told (λ id. passes id (id == 0) refl);
        closed = λ id named. closes id named (id == 0) refl;
        lines = lines_are told;
        other = refl;
      },
    )
  where
    state : (id : ℕ) → 0 < id → (channel : ℕ) × (so_far : List (List PacketData)) × FileState channel so_far (sayings_of id (joined_told parts read)) false
    state id some =
        let whose = own id some in
        let run = whose.0 in
        let channel = whose.1 in
        let at_end = state_of_parts there id run channel 0 parts read (λ r. []) [] are whose.2 moves all
        (none_so_far channel (name_channel channel (recordings_in_run run parts read))) in
        (channel, at_end.0, at_end.1)

    above : (id : ℕ) → (id == 0) ≡ false → 0 < id
    above id other = omega (arith, (let apart : id ≢ 0 = λ same. not_false id 0 same other in apart))

    passes : (id : ℕ) (zero : Bool) → (id == 0) ≡ zero → SayingsPass None None (sayings_of id (joined_told parts read))
    passes id true is =
        subst (SayingsPass None None) (sym (ap (λ i. sayings_of i (joined_told parts read)) (eqb-true id 0 is) ∙ nothing_of_zero there 0 parts read are)) tt
    passes id false is = (state id (above id is)).2.passes

    closes : (id : ℕ) → IsNamed id (joined_told parts read) → (zero : Bool) → (id == 0) ≡ zero → Closes (joined_told parts read) id None
    closes id named true is =
        absurd (named_says id (joined_told parts read) named
        (ap (λ i. sayings_of i (joined_told parts read)) (eqb-true id 0 is) ∙ nothing_of_zero there 0 parts read are))
    closes id named false is =
        let at_end = state id (above id is) in
        closes_named id at_end.0 (joined_told parts read) at_end.1 at_end.2 named
