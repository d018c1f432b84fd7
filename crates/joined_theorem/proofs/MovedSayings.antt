-- What the packets of a recording say in a file of several.
use Rattle.std.proofs.Common.{ℕ, ◌≡◌, ◌≢◌, ◌+◌, ◌<◌, ◌≤◌, ◌^◌, List, [], ◌∷◌, ◌++◌, map, drop, length, Option, None, Some, inl, inr}
use Rattle.std.proofs.Common.{refl, sym, subst, ap, ◌∙◌, arith}
use Rattle.std.proofs.Common.{true, false, append-nil, eq-eqb}
use Rattle.std.specs.Prelude.{Bool, ◌==◌, ◌⊎◌, if◌then◌else◌}
use Rattle.std.specs.List.{AllByRecursion}
use Rattle.std.proofs.lemmas.Bool.{eqb-true, ne_eqb}
use Rattle.std.proofs.lemmas.Grind.{flat_map-append}
use Rattle.ch11_packet.specs.declared.header.TheConstants.{ETHERNET_DATA}
use Rattle.ch11_packet.specs.declared.records.TheConstants.{PROGRAM_HEAD_LEN}
use Rattle.ch11_packet.specs.declared.class.What.{What}
use Rattle.ch11_packet.specs.declared.class.What.TheVariants.{Frames, Program, End, Other}
use Rattle.ch11_packet.specs.Classes.{HasClass, data_in, said_frames}
use Rattle.ch11_packet.specs.FramesRead.{ReadFrameData}
use Rattle.ch11_packet.specs.RecordsRead.{stored_insns}
use Rattle.rec_reader.specs.declared.audits.channel.ChannelProgram.{ChannelProgram}
use Rattle.rec_reader.specs.declared.audits.channel.ChannelEnd.{ChannelEnd}
use Rattle.rec_reader.specs.Packets.{PacketData, SpellsPacket, BeginsPackets}
use Rattle.rec_reader.specs.Channels.{Saying, saying_in, saying_of, program_said, stored_program}
use Rattle.rec_reader.specs.Channels.Saying.{OfFrames, OfProgram, OfEnd}
use Rattle.rec_runs.specs.ProgramMoves.{PlacedProgram, placed_program, placed_programs, placed_said}
use Rattle.rec_joined.specs.Moving.{Moving}
use Rattle.rec_joined.specs.MovedFrames.{moved_frame}
use Rattle.rec_joined.specs.MovedRecords.{FitRecords, is_at, leaves_out, program_numbers}
use Rattle.rec_joined.specs.MovedPackets.{IsMovable, IsPlaced, is_left_out, moved_packet, moved_what, record_with}
use Rattle.rec_joined.specs.JoinedFrames.{HasOwnId}
use Rattle.rec_joined.specs.JoinedPackets.{told_packet, told_packets}
use Rattle.rec_joined.proofs.JoinedFrames.{said_moved as frames_said}
use Rattle.rec_joined.proofs.MovedClasses.{frames_gap, program_made}
use Rattle.rec_joined.proofs.PartsRead.{made_of}
use Rattle.joined_theorem.proofs.ChannelSayings.{said_in, sayings_of}
use Rattle.joined_theorem.proofs.Continued.{FitSayings, moved_end, moved_program, said_moved}

-- ---- one packet

abbrev pub saying_moved : Moving → (channel : ℕ) → Saying → Saying
saying_moved moving channel (OfFrames frames) = OfFrames (map (moved_frame moving.counters) frames)
saying_moved moving channel (OfProgram program) = OfProgram (moved_program (moving.records channel) program)
saying_moved moving channel (OfEnd end) = OfEnd (moved_end (moving.records channel) end)

abbrev pub said_as_moved : Moving → Option (ℕ × Saying) → Option (ℕ × Saying)
said_as_moved moving None = None
said_as_moved moving (Some (channel, saying)) = Some (moving.ids channel, saying_moved moving channel saying)

-- the instructions of a record stay
insns_stay : (count id version first : ℕ) (bytes : List ℕ) → 24 ≤ length bytes
    → stored_insns count (drop PROGRAM_HEAD_LEN (record_with id (program_numbers version first bytes) bytes))
    ≡ stored_insns count (drop PROGRAM_HEAD_LEN bytes)
insns_stay count id version first bytes long = ap (stored_insns count) (grind (arith, long))

saying_again : (moving : Moving) (packet : PacketData) (spelling : List ℕ) (at : ℕ) (what : What) → packet.what ≡ what → SpellsPacket packet spelling
    → IsMovable moving packet
    → saying_in (moved_packet moving at packet).header.channel (moved_what moving what)
    (data_in (moved_packet moving at packet).header (moved_packet moving at packet).body)
    ≡ said_as_moved moving (saying_in packet.header.channel what (data_in packet.header packet.body))
saying_again moving packet spelling at (Frames count) is spelled movable =
    let bytes = data_in packet.header packet.body in
    let has = subst (HasClass packet.header bytes) is spelled.holds.class in
    let made = made_of moving packet spelling at spelled movable in
    let names = movable.named.1 in
    ap (λ k. Some (
      (if k == ETHERNET_DATA then moving.ids packet.header.channel else packet.header.channel),
      OfFrames (said_frames (data_in (moved_packet moving at packet).header (moved_packet moving at packet).body)),
    )) has.0.1
    ∙ ap (λ l. Some (moving.ids packet.header.channel, OfFrames l))
    (ap said_frames made.held_is
    ∙ frames_said moving packet.header bytes count has
    (frames_gap moving packet count (names.channel, names.kind) is names.named movable.counters))
saying_again moving packet spelling at (Program channel version first count) is spelled movable =
    let bytes = data_in packet.header packet.body in
    let has = subst (HasClass packet.header bytes) is spelled.holds.class in
    let records = moving.records channel in
    let made = program_made moving packet.header bytes channel version first count has in
    ap (λ l. Some (moving.ids channel, OfProgram (record { version = records.versions + version; first = records.offered + first; insns = l })))
    (ap (λ l. stored_insns count (drop PROGRAM_HEAD_LEN l)) ((made_of moving packet spelling at spelled movable).held_is ∙ made.made)
    ∙ insns_stay count (moving.ids channel) (records.versions + version) (records.offered + first) bytes made.long)
saying_again moving packet spelling at (End channel offered kept) is spelled movable = refl
saying_again moving packet spelling at Other is spelled movable = refl

-- ---- what is left out

-- the place of a channel's first program, that is left out, or another one that none of these packets has
abbrev pub Skips : (same : Option ℕ) → (skips : Bool) → (own : ℕ) → List PlacedProgram → Type 0
Skips same true own [] = Unit {0}
Skips same true own (first ∷ programs) = same ≡ Some first.at
Skips same false own programs = (same ≡ None) ⊎ ((at : ℕ) × (same ≡ Some at) × (at < own))

skips_on : (same : Option ℕ) (skips : Bool) (own more : ℕ) (programs : List PlacedProgram) → Skips same skips own programs
    → Skips same skips (own + more) programs
skips_on same true own more [] is = tt
skips_on same true own more (first ∷ programs) is = is
skips_on same false own more programs (inl none) = inl none
skips_on same false own more programs (inr at) = inr (at.0, at.1, omega (arith, at.2))

-- a packet of a recording tells what is said of the channel; behind it, this is skipped
pub record TellsPacket (moving : Moving) (channel id own at : ℕ) (packet : PacketData) (skips : Bool) (later : List PlacedProgram) : Type 0 where
  pub next : Bool
  pub skipped : Skips (moving.records channel).same next (own + packet.header.packet_len) later
  pub says : (rest : List Saying) → sayings_of id (told_packet moving at packet) ++ said_moved moving.counters (moving.records channel) next rest
      ≡ said_moved moving.counters (moving.records channel) skips (said_in channel (saying_of packet) ++ rest)
  pub fits : (rest : List Saying) → FitSayings (moving.records channel) next rest
      → FitSayings (moving.records channel) skips (said_in channel (saying_of packet) ++ rest)

own_test : (moving : Moving) (channel id named : ℕ) → HasOwnId moving channel id → (moving.ids named == id) ≡ (named == channel)
own_test moving channel id named own = here (named == channel) refl
  where
    here : (is : Bool) → (named == channel) ≡ is → (moving.ids named == id) ≡ is
    here true same = eq-eqb (moving.ids named) id (ap moving.ids (eqb-true named channel same) ∙ own.given)
    here false other = ne_eqb (moving.ids named) id (λ given. absurd (different (own.only named given)))
      where
        different : named ≡ channel → ⊥
        different same = absurd (true_false (sym (eq-eqb named channel same) ∙ other))
          where
            true_false : true ≡ false → ⊥
            true_false e = cc

-- what is told of it, where the file has it
told_says : (moving : Moving) (channel id named : ℕ) (saying : Saying) (packet : PacketData) (spelling : List ℕ) (at : ℕ) → HasOwnId moving channel id
    → SpellsPacket packet spelling → IsMovable moving packet → saying_of packet ≡ Some (named, saying)
    → sayings_of id (moved_packet moving at packet ∷ []) ≡ if named == channel then saying_moved moving named saying ∷ [] else []
told_says moving channel id named saying packet spelling at own spelled movable said =
    append-nil (said_in id (saying_of (moved_packet moving at packet)))
    ∙ ap (said_in id) (saying_again moving packet spelling at packet.what refl spelled movable ∙ ap (said_as_moved moving) said)
    ∙ ap (λ b. if b then saying_moved moving named saying ∷ [] else []) (own_test moving channel id named own)

told_if : (moving : Moving) (id at : ℕ) (packet : PacketData) (left : Bool) → is_left_out moving packet ≡ left
    → sayings_of id (told_packet moving at packet) ≡ sayings_of id (if left then [] else moved_packet moving at packet ∷ [])
told_if moving id at packet left is = ap (λ b. sayings_of id (if b then [] else moved_packet moving at packet ∷ [])) is

-- a packet that says something of another channel
other_tells : (moving : Moving) (channel id named own at : ℕ) (saying : Saying) (packet : PacketData) (spelling : List ℕ) (skips : Bool)
    (later : List PlacedProgram) → HasOwnId moving channel id → SpellsPacket packet spelling → IsPlaced moving packet
    → saying_of packet ≡ Some (named, saying) → (named == channel) ≡ false → Skips (moving.records channel).same skips own later
    → TellsPacket moving channel id own at packet skips later
other_tells moving channel id named own at saying packet spelling skips later owns spelled placed said other is = record {
  next = skips;
  skipped = skips_on (moving.records channel).same skips own packet.header.packet_len later is;
  says = λ rest. ap (λ l. l ++ said_moved moving.counters (moving.records channel) skips rest) (nothing (is_left_out moving packet) refl)
      ∙ sym (ap (λ l. said_moved moving.counters (moving.records channel) skips (l ++ rest)) none);
  fits = λ rest fit. subst (λ l. FitSayings (moving.records channel) skips (l ++ rest)) (sym none) fit;
}
  where
    none : said_in channel (saying_of packet) ≡ []
    none = ap (said_in channel) said ∙ ap (λ b. if b then saying ∷ [] else []) other

    nothing : (left : Bool) → is_left_out moving packet ≡ left → sayings_of id (told_packet moving at packet) ≡ []
    nothing true left = told_if moving id at packet true left
    nothing false left =
        told_if moving id at packet false left
        ∙ told_says moving channel id named saying packet spelling at owns spelled (placed left) said
        ∙ ap (λ b. if b then saying_moved moving named saying ∷ [] else []) other

-- one that says something of the channel, and is in the file
moved_tells : (moving : Moving) (channel id named at : ℕ) (saying : Saying) (packet : PacketData) (spelling : List ℕ) → HasOwnId moving channel id
    → SpellsPacket packet spelling → IsPlaced moving packet → saying_of packet ≡ Some (named, saying) → (named == channel) ≡ true
    → is_left_out moving packet ≡ false → sayings_of id (told_packet moving at packet) ≡ saying_moved moving channel saying ∷ []
moved_tells moving channel id named at saying packet spelling owns spelled placed said same left =
    told_if moving id at packet false left
    ∙ told_says moving channel id named saying packet spelling at owns spelled (placed left) said
    ∙ ap (λ b. if b then saying_moved moving named saying ∷ [] else []) same
    ∙ ap (λ n. saying_moved moving n saying ∷ []) (eqb-true named channel same)

said_here : (channel named : ℕ) (saying : Saying) (packet : PacketData) → saying_of packet ≡ Some (named, saying) → (named == channel) ≡ true
    → said_in channel (saying_of packet) ≡ saying ∷ []
said_here channel named saying packet said same = ap (said_in channel) said ∙ ap (λ b. if b then saying ∷ [] else []) same

-- ---- each kind of packet

frames_tell : (moving : Moving) (channel id named own at : ℕ) (frames : List ReadFrameData) (packet : PacketData) (spelling : List ℕ) (skips : Bool)
    (later : List PlacedProgram) → HasOwnId moving channel id → SpellsPacket packet spelling → IsPlaced moving packet
    → saying_of packet ≡ Some (named, OfFrames frames) → is_left_out moving packet ≡ false → Skips (moving.records channel).same skips own later
    → TellsPacket moving channel id own at packet skips later
frames_tell moving channel id named own at frames packet spelling skips later owns spelled placed said stays is = here (named == channel) refl
  where
    here : (same : Bool) → (named == channel) ≡ same → TellsPacket moving channel id own at packet skips later
    here false other = other_tells moving channel id named own at (OfFrames frames) packet spelling skips later owns spelled placed said other is
    here true same =
        let says = said_here channel named (OfFrames frames) packet said same in
        record {
          next = skips;
          skipped = skips_on (moving.records channel).same skips own packet.header.packet_len later is;
          says = λ rest.
              ap (λ l. l ++ said_moved moving.counters (moving.records channel) skips rest)
              (moved_tells moving channel id named at (OfFrames frames) packet spelling owns spelled placed said same stays)
              ∙ sym (ap (λ l. said_moved moving.counters (moving.records channel) skips (l ++ rest)) says);
          fits = λ rest fit. subst (λ l. FitSayings (moving.records channel) skips (l ++ rest)) (sym says) fit;
        }

end_tells : (moving : Moving) (channel id named own at : ℕ) (end : ChannelEnd) (packet : PacketData) (spelling : List ℕ) (skips : Bool)
    (later : List PlacedProgram) → HasOwnId moving channel id → SpellsPacket packet spelling → IsPlaced moving packet
    → saying_of packet ≡ Some (named, OfEnd end) → is_left_out moving packet ≡ (moving.records named).continues
    → (is_left_out moving packet ≡ false
    → ((moving.records named).offered + end.offered < 2 ^ 64) × ((moving.records named).kept + end.kept < 2 ^ 64))
    → Skips (moving.records channel).same skips own later → TellsPacket moving channel id own at packet skips later
end_tells moving channel id named own at end packet spelling skips later owns spelled placed said left fit is = here (named == channel) refl
  where
    moved : (continues : Bool) → is_left_out moving packet ≡ continues → (named == channel) ≡ true
        → sayings_of id (told_packet moving at packet)
        ≡ if continues then [] else OfEnd (moved_end (moving.records channel) end) ∷ []
    moved true is same = told_if moving id at packet true is
    moved false is same = moved_tells moving channel id named at (OfEnd end) packet spelling owns spelled placed said same is

    here : (same : Bool) → (named == channel) ≡ same → TellsPacket moving channel id own at packet skips later
    here false other = other_tells moving channel id named own at (OfEnd end) packet spelling skips later owns spelled placed said other is
    here true same =
        let says = said_here channel named (OfEnd end) packet said same in
        let whose = eqb-true named channel same in
        let leaves : is_left_out moving packet ≡ (moving.records channel).continues = left ∙ ap (λ n. (moving.records n).continues) whose in
        record {
          next = skips;
          skipped = skips_on (moving.records channel).same skips own packet.header.packet_len later is;
          says = λ rest.
              ap (λ l. l ++ said_moved moving.counters (moving.records channel) skips rest) (moved (moving.records channel).continues leaves same)
              ∙ sym (ap (λ l. said_moved moving.counters (moving.records channel) skips (l ++ rest)) says);
          fits = λ rest rests. subst (λ l. FitSayings (moving.records channel) skips (l ++ rest)) (sym says)
              ((
                λ stays. subst (λ n. ((moving.records n).offered + end.offered < 2 ^ 64) × ((moving.records n).kept + end.kept < 2 ^ 64)) whose
                    (fit (leaves ∙ stays)),
                rests,
              ));
        }

-- a program of the channel that is left out, or one that isn't
program_left : (moving : Moving) (channel id named own at : ℕ) (program : ChannelProgram) (packet : PacketData) (later : List PlacedProgram)
    → saying_of packet ≡ Some (named, OfProgram program) → (named == channel) ≡ true → is_left_out moving packet ≡ true
    → (moving.records channel).same ≡ Some packet.at → packet.at < own + packet.header.packet_len
    → TellsPacket moving channel id own at packet true later
program_left moving channel id named own at program packet later said same left is before =
    let says = said_here channel named (OfProgram program) packet said same in
    record {
      next = false;
      skipped = inr (packet.at, is, before);
      says = λ rest.
          ap (λ l. l ++ said_moved moving.counters (moving.records channel) false rest) (told_if moving id at packet true left)
          ∙ sym (ap (λ l. said_moved moving.counters (moving.records channel) true (l ++ rest)) says);
      fits = λ rest fit. subst (λ l. FitSayings (moving.records channel) true (l ++ rest)) (sym says) fit;
    }

program_stays : (moving : Moving) (channel id named own at : ℕ) (program : ChannelProgram) (packet : PacketData) (spelling : List ℕ)
    (later : List PlacedProgram) → HasOwnId moving channel id → SpellsPacket packet spelling → IsPlaced moving packet
    → saying_of packet ≡ Some (named, OfProgram program) → (named == channel) ≡ true → is_left_out moving packet ≡ false
    → ((moving.records channel).versions + program.version < 2 ^ 32) × ((moving.records channel).offered + program.first < 2 ^ 64)
    → Skips (moving.records channel).same false own later → TellsPacket moving channel id own at packet false later
program_stays moving channel id named own at program packet spelling later owns spelled placed said same stays fit is =
    let says = said_here channel named (OfProgram program) packet said same in
    record {
      next = false;
      skipped = skips_on (moving.records channel).same false own packet.header.packet_len later is;
      says = λ rest.
          ap (λ l. l ++ said_moved moving.counters (moving.records channel) false rest)
          (moved_tells moving channel id named at (OfProgram program) packet spelling owns spelled placed said same stays)
          ∙ sym (ap (λ l. said_moved moving.counters (moving.records channel) false (l ++ rest)) says);
      fits = λ rest rests. subst (λ l. FitSayings (moving.records channel) false (l ++ rest)) (sym says) (fit.0, fit.1, rests);
    }

left_at : (same : Option ℕ) (at : ℕ) → same ≡ Some at → is_at at same ≡ true
left_at same at is = ap (is_at at) is ∙ eq-eqb at at refl

not_left : (same : Option ℕ) (at : ℕ) (later : List PlacedProgram) → Skips same false at later → is_at at same ≡ false
not_left same at later (inl none) = ap (is_at at) none
not_left same at later (inr one) = ap (is_at at) one.1 ∙ ne_eqb one.0 at (λ is. omega (arith, one.2, is))

program_tells : (moving : Moving) (channel id named own at : ℕ) (program : ChannelProgram) (packet : PacketData) (spelling : List ℕ) (skips : Bool)
    (later : List PlacedProgram) → HasOwnId moving channel id → SpellsPacket packet spelling → IsPlaced moving packet
    → saying_of packet ≡ Some (named, OfProgram program) → is_left_out moving packet ≡ is_at packet.at (moving.records named).same
    → (is_left_out moving packet ≡ false
    → ((moving.records named).versions + program.version < 2 ^ 32) × ((moving.records named).offered + program.first < 2 ^ 64))
    → packet.at ≡ own → 0 < packet.header.packet_len → Skips (moving.records channel).same skips own (placed_said channel packet ++ later)
    → TellsPacket moving channel id own at packet skips later
program_tells moving channel id named own at program packet spelling skips later owns spelled placed said left fit place long is =
    here (named == channel) refl
  where
    others : (named == channel) ≡ false → placed_said channel packet ≡ []
    others other = ap (λ s. map (placed_program packet.at) (program_said channel s)) said
        ∙ ap (λ b. map (placed_program packet.at) (if b then program ∷ [] else [])) other

    ours : (named == channel) ≡ true → placed_said channel packet ≡ placed_program packet.at program ∷ []
    ours same = ap (λ s. map (placed_program packet.at) (program_said channel s)) said
        ∙ ap (λ b. map (placed_program packet.at) (if b then program ∷ [] else [])) same

    mine : (named == channel) ≡ true → is_left_out moving packet ≡ is_at packet.at (moving.records channel).same
    mine same = left ∙ ap (λ n. is_at packet.at (moving.records n).same) (eqb-true named channel same)

    skipped : (skips : Bool) → (named == channel) ≡ true
        → Skips (moving.records channel).same skips own (placed_said channel packet ++ later) → TellsPacket moving channel id own at packet skips later
    skipped true same is =
        let at_first = subst (λ l. Skips (moving.records channel).same true own (l ++ later)) (ours same) is in
        program_left moving channel id named own at program packet later said same
        (mine same ∙ left_at (moving.records channel).same packet.at at_first) at_first (omega (arith, place, long))
    skipped false same is =
        let stays = mine same ∙ not_left (moving.records channel).same packet.at later
        (subst (λ n. Skips (moving.records channel).same false n later) (sym place) is) in
        program_stays moving channel id named own at program packet spelling later owns spelled placed said same stays
        (subst (λ n. ((moving.records n).versions + program.version < 2 ^ 32) × ((moving.records n).offered + program.first < 2 ^ 64))
        (eqb-true named channel same) (fit stays)) is

    here : (same : Bool) → (named == channel) ≡ same → TellsPacket moving channel id own at packet skips later
    here false other = other_tells moving channel id named own at (OfProgram program) packet spelling skips later owns spelled placed said other
        (subst (λ l. Skips (moving.records channel).same skips own (l ++ later)) (others other) is)
    here true same = skipped skips same is

nothing_tells : (moving : Moving) (channel id own at : ℕ) (packet : PacketData) (spelling : List ℕ) (skips : Bool) (later : List PlacedProgram)
    → SpellsPacket packet spelling → IsPlaced moving packet → saying_of packet ≡ None → is_left_out moving packet ≡ false
    → Skips (moving.records channel).same skips own later → TellsPacket moving channel id own at packet skips later
nothing_tells moving channel id own at packet spelling skips later spelled placed said stays is =
    let none = ap (said_in channel) said in
    record {
      next = skips;
      skipped = skips_on (moving.records channel).same skips own packet.header.packet_len later is;
      says = λ rest.
          ap (λ l. l ++ said_moved moving.counters (moving.records channel) skips rest)
          (told_if moving id at packet false stays
          ∙ append-nil (said_in id (saying_of (moved_packet moving at packet)))
          ∙ ap (said_in id) (saying_again moving packet spelling at packet.what refl spelled (placed stays) ∙ ap (said_as_moved moving) said))
          ∙ sym (ap (λ l. said_moved moving.counters (moving.records channel) skips (l ++ rest)) none);
      fits = λ rest fit. subst (λ l. FitSayings (moving.records channel) skips (l ++ rest)) (sym none) fit;
    }

-- ---- packets

said_by : (packet : PacketData) (what : What) → packet.what ≡ what
    → saying_of packet ≡ saying_in packet.header.channel what (data_in packet.header packet.body)
said_by packet what is = ap (λ w. saying_in packet.header.channel w (data_in packet.header packet.body)) is

placed_by : (channel : ℕ) (packet : PacketData) (what : What) → packet.what ≡ what
    → placed_said channel packet
    ≡ map (placed_program packet.at) (program_said channel (saying_in packet.header.channel what (data_in packet.header packet.body)))
placed_by channel packet what is = ap (λ s. map (placed_program packet.at) (program_said channel s)) (said_by packet what is)

has_bytes : (packet : PacketData) (spelling : List ℕ) → SpellsPacket packet spelling → 0 < packet.header.packet_len
has_bytes packet spelling spelled = omega (arith, spelled.is_header.packet_len, spelled.is_header.lengths.holds)

packet_tells : (moving : Moving) (channel id own at : ℕ) (packet : PacketData) (spelling : List ℕ) (what : What) (skips : Bool) (later : List PlacedProgram)
    → HasOwnId moving channel id → SpellsPacket packet spelling → IsPlaced moving packet → packet.at ≡ own → packet.what ≡ what
    → Skips (moving.records channel).same skips own (placed_said channel packet ++ later) → TellsPacket moving channel id own at packet skips later
packet_tells moving channel id own at packet spelling (Frames count) skips later owns spelled placed place is skipped =
    frames_tell moving channel id packet.header.channel own at (said_frames (data_in packet.header packet.body)) packet spelling skips later owns spelled
    placed (said_by packet (Frames count) is) (ap (leaves_out moving.records packet.at) is)
    (subst (λ l. Skips (moving.records channel).same skips own (l ++ later)) (placed_by channel packet (Frames count) is) skipped)
packet_tells moving channel id own at packet spelling (Program named version first count) skips later owns spelled placed place is skipped =
    program_tells moving channel id named own at (stored_program version first count (data_in packet.header packet.body)) packet spelling skips later owns
    spelled placed (said_by packet (Program named version first count) is) (ap (leaves_out moving.records packet.at) is)
    (λ stays. subst (FitRecords moving.records) is (placed stays).numbers) place (has_bytes packet spelling spelled) skipped
packet_tells moving channel id own at packet spelling (End named offered kept) skips later owns spelled placed place is skipped =
    end_tells moving channel id named own at (record { offered = offered; kept = kept }) packet spelling skips later owns spelled placed
    (said_by packet (End named offered kept) is) (ap (leaves_out moving.records packet.at) is)
    (λ stays. subst (FitRecords moving.records) is (placed stays).numbers)
    (subst (λ l. Skips (moving.records channel).same skips own (l ++ later)) (placed_by channel packet (End named offered kept) is) skipped)
packet_tells moving channel id own at packet spelling Other skips later owns spelled placed place is skipped =
    nothing_tells moving channel id own at packet spelling skips later spelled placed (said_by packet Other is)
    (ap (leaves_out moving.records packet.at) is)
    (subst (λ l. Skips (moving.records channel).same skips own (l ++ later)) (placed_by channel packet Other is) skipped)

-- what a recording's packets say of the channel that has this ID, in the file
pub record TellSayings (moving : Moving) (channel id at : ℕ) (packets : List PacketData) (skips : Bool) : Type 0 where
  pub says : sayings_of id (told_packets moving at packets)
      ≡ said_moved moving.counters (moving.records channel) skips (sayings_of channel packets)
  pub fits : FitSayings (moving.records channel) skips (sayings_of channel packets)

pub sayings_append : (id : ℕ) (ps qs : List PacketData) → sayings_of id (ps ++ qs) ≡ sayings_of id ps ++ sayings_of id qs
sayings_append id ps qs = flat_map-append (λ (p : PacketData). said_in id (saying_of p)) ps qs

pub packets_tell : (moving : Moving) (channel id own at : ℕ) (packets : List PacketData) (bytes rest : List ℕ) (skips : Bool)
    → HasOwnId moving channel id → BeginsPackets own packets bytes rest → AllByRecursion (IsPlaced moving) packets
    → Skips (moving.records channel).same skips own (placed_programs channel packets) → TellSayings moving channel id at packets skips
packets_tell moving channel id own at [] bytes rest skips owns begins placed skipped = record { says = refl; fits = tt }
packets_tell moving channel id own at (p ∷ ps) bytes rest skips owns begins placed skipped =
    let first = begins.1 in
    let one = packet_tells moving channel id own at p first.spelling p.what skips (placed_programs channel ps) owns first.spelled placed.0 first.place refl
    skipped in
    let more = packets_tell moving channel id (own + p.header.packet_len) (at + p.header.packet_len) ps begins.0 rest one.next owns begins.2 placed.1
    one.skipped in
    record {
      says = sayings_append id (told_packet moving at p) (told_packets moving (at + p.header.packet_len) ps)
          ∙ ap (λ l. sayings_of id (told_packet moving at p) ++ l) more.says
          ∙ one.says (sayings_of channel ps);
      fits = one.fits (sayings_of channel ps) more.fits;
    }

-- nothing, of an ID that no channel has
nothing_in : (id : ℕ) (left : Bool) (packet : PacketData) → (left ≡ false → said_in id (saying_of packet) ≡ [])
    → sayings_of id (if left then [] else packet ∷ []) ≡ []
nothing_in id true packet none = refl
nothing_in id false packet none = append-nil (said_in id (saying_of packet)) ∙ none refl

not_said : (moving : Moving) (id : ℕ) (packet : PacketData) (said : Option (ℕ × Saying)) → saying_of packet ≡ said
    → ((named : ℕ) (saying : Saying) → saying_of packet ≡ Some (named, saying) → moving.ids named ≢ id) → said_in id (said_as_moved moving said) ≡ []
not_said moving id packet None is none = refl
not_said moving id packet (Some (named, saying)) is none =
    ap (λ b. if b then saying_moved moving named saying ∷ [] else []) (ne_eqb (moving.ids named) id (none named saying is))

pub nothing_told : (moving : Moving) (id own at : ℕ) (packets : List PacketData) (bytes rest : List ℕ)
    → ((packet : PacketData) (named : ℕ) (saying : Saying) → IsMovable moving packet → saying_of packet ≡ Some (named, saying) → moving.ids named ≢ id)
    → BeginsPackets own packets bytes rest → AllByRecursion (IsPlaced moving) packets → sayings_of id (told_packets moving at packets) ≡ []
nothing_told moving id own at [] bytes rest none begins placed = refl
nothing_told moving id own at (p ∷ ps) bytes rest none begins placed =
    let first = begins.1 in
    sayings_append id (told_packet moving at p) (told_packets moving (at + p.header.packet_len) ps)
    ∙ ap (λ l. l ++ sayings_of id (told_packets moving (at + p.header.packet_len) ps))
    (nothing_in id (is_left_out moving p) (moved_packet moving at p) (λ stays.
    ap (said_in id) (saying_again moving p first.spelling at p.what refl first.spelled (placed.0 stays))
    ∙ not_said moving id p (saying_of p) refl (λ named saying. none p named saying (placed.0 stays))))
    ∙ nothing_told moving id (own + p.header.packet_len) (at + p.header.packet_len) ps begins.0 rest none begins.2 placed.1
