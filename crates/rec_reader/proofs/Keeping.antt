-- What is kept of channels, packet by packet.
use Rattle.std.proofs.Common.{◌≡◌, ℕ, ◌+◌, ◌^◌, ◌≤◌, inl, inr, Bool, true, false, cond, ◌==◌, List, [], ◌∷◌, ◌++◌, length}
use Rattle.std.proofs.Common.{Option, None, Some, refl, sym, ap, subst, ◌∙◌, arith, eq-eqb, ne_eqb, lt-ltb, le-ltb}
use Rattle.std.specs.List.{flat_map, last_or}
use Rattle.std.proofs.lemmas.Bool.{cases_lt}
use Rattle.std.proofs.lemmas.List.{append-nil, length-append}
use Rattle.std.proofs.lemmas.List.Concat.{flat_map-append}
use Rattle.ch11_packet.specs.declared.class.What.{What}
use Rattle.ch11_packet.specs.declared.class.What.TheVariants.{Frames, Program, End, Other}
use Rattle.ch11_packet.specs.FramesRead.{ReadFrameData}
use Rattle.rec_reader.specs.declared.audits.channel.ChannelProgram.{ChannelProgram}
use Rattle.rec_reader.specs.declared.audits.channel.ChannelEnd.{ChannelEnd}
use Rattle.rec_reader.specs.declared.audits.channel.ChannelState.{ChannelState}
use Rattle.rec_reader.specs.Packets.{PacketData}
use Rattle.rec_reader.specs.ChannelFrames.{frames_held, packet_frames, channel_frames}
use Rattle.rec_reader.specs.Channels.{Saying, saying_in, saying_of, program_said, end_said, programs_of, ends_of, capped}
use Rattle.rec_reader.specs.Channels.Saying.{OfFrames, OfProgram, OfEnd}
use Rattle.rec_reader.specs.Auditors.{counted, counted_more, state_after, IsStateOf}

-- ---- one packet more

-- the frames that are said of the channel
abbrev pub frames_said : (channel : ℕ) → Option (ℕ × Saying) → List ReadFrameData
frames_said channel (Some (named, OfFrames frames)) = cond (named == channel) frames []
frames_said channel other = []

nothing : {A : Type 0} (b : Bool) → ◌≡◌ {A = List A} (cond b [] []) []
nothing true = refl
nothing false = refl

frames_are : (channel own : ℕ) (what : What) (bytes : List ℕ)
    → cond (own == channel) (frames_held what bytes) [] ≡ frames_said channel (saying_in own what bytes)
frames_are channel own (Frames count) bytes = refl
frames_are channel own (Program named version first count) bytes = nothing (own == channel)
frames_are channel own (End named offered kept) bytes = nothing (own == channel)
frames_are channel own Other bytes = nothing (own == channel)

-- what a channel has after one packet more
pub record Adds (channel : ℕ) (packets : List PacketData) (packet : PacketData) (frames : List ReadFrameData) (programs : List ChannelProgram)
    (ends : List ChannelEnd) : Type 0 where
  pub frames_are : channel_frames channel (packets ++ packet ∷ []) ≡ channel_frames channel packets ++ frames
  pub programs_are : programs_of channel (packets ++ packet ∷ []) ≡ programs_of channel packets ++ programs
  pub ends_are : ends_of channel (packets ++ packet ∷ []) ≡ ends_of channel packets ++ ends

flat_map-one : {X A : Type 0} (f : X → List A) (xs : List X) (x : X) → flat_map f (xs ++ x ∷ []) ≡ flat_map f xs ++ f x
flat_map-one f xs x = flat_map-append f xs (x ∷ []) ∙ ap (λ l. flat_map f xs ++ l) (append-nil (f x))

pub adds : (channel : ℕ) (packets : List PacketData) (packet : PacketData) (said : Option (ℕ × Saying)) → saying_of packet ≡ said
    → Adds channel packets packet (frames_said channel said) (program_said channel said) (end_said channel said)
adds channel packets packet said e = record {
  frames_are = flat_map-one (λ (p : PacketData). cond (p.header.channel == channel) (packet_frames p) []) packets packet
      ∙ ap (λ l. channel_frames channel packets ++ l) (frames_are channel packet.header.channel packet.what _ ∙ ap (frames_said channel) e);
  programs_are = flat_map-one (λ (p : PacketData). program_said channel (saying_of p)) packets packet
      ∙ ap (λ s. programs_of channel packets ++ program_said channel s) e;
  ends_are = flat_map-one (λ (p : PacketData). end_said channel (saying_of p)) packets packet ∙ ap (λ s. ends_of channel packets ++ end_said channel s) e;
}

pub here : {A : Type 0} (channel : ℕ) (said : List A) → cond (channel == channel) said [] ≡ said
here channel said = ap (λ b. cond b said []) (eq-eqb channel channel refl)

pub elsewhere : {A : Type 0} (named channel : ℕ) (said : List A) → (named ≡ channel → ⊥) → cond (named == channel) said [] ≡ []
elsewhere named channel said apart = ap (λ b. cond b said []) (ne_eqb named channel apart)

-- nothing of a channel that the packet doesn't name
pub adds_elsewhere : (named channel : ℕ) (packets : List PacketData) (packet : PacketData) (saying : Saying) → saying_of packet ≡ Some (named, saying)
    → (named ≡ channel → ⊥) → Adds channel packets packet [] [] []
adds_elsewhere named channel packets packet (OfFrames frames) e apart =
    subst (λ l. Adds channel packets packet l [] []) (elsewhere named channel frames apart) (adds channel packets packet (Some (named, OfFrames frames)) e)
adds_elsewhere named channel packets packet (OfProgram program) e apart =
    subst (λ l. Adds channel packets packet [] l []) (elsewhere named channel (program ∷ []) apart)
    (adds channel packets packet (Some (named, OfProgram program)) e)
adds_elsewhere named channel packets packet (OfEnd end) e apart =
    subst (λ l. Adds channel packets packet [] [] l) (elsewhere named channel (end ∷ []) apart) (adds channel packets packet (Some (named, OfEnd end)) e)

adds_frames : (channel : ℕ) (packets : List PacketData) (packet : PacketData) (frames : List ReadFrameData)
    → saying_of packet ≡ Some (channel, OfFrames frames) → Adds channel packets packet frames [] []
adds_frames channel packets packet frames e =
    subst (λ l. Adds channel packets packet l [] []) (here channel frames) (adds channel packets packet (Some (channel, OfFrames frames)) e)

adds_program : (channel : ℕ) (packets : List PacketData) (packet : PacketData) (program : ChannelProgram)
    → saying_of packet ≡ Some (channel, OfProgram program) → Adds channel packets packet [] (program ∷ []) []
adds_program channel packets packet program e =
    subst (λ l. Adds channel packets packet [] l []) (here channel (program ∷ [])) (adds channel packets packet (Some (channel, OfProgram program)) e)

adds_end : (channel : ℕ) (packets : List PacketData) (packet : PacketData) (end : ChannelEnd) → saying_of packet ≡ Some (channel, OfEnd end)
    → Adds channel packets packet [] [] (end ∷ [])
adds_end channel packets packet end e =
    subst (λ l. Adds channel packets packet [] [] l) (here channel (end ∷ [])) (adds channel packets packet (Some (channel, OfEnd end)) e)

-- ---- what is kept of one channel

pub last_of_more : {A : Type 0} (xs : List A) (o : Option A) (x : A) → last_or o (xs ++ x ∷ []) ≡ Some x
last_of_more [] o x = refl
last_of_more (y ∷ ys) o x = last_of_more ys (Some y) x

no_more : {A : Type 0} (xs ys : List A) → ys ≡ xs ++ [] → ys ≡ xs
no_more xs ys e = e ∙ append-nil xs

one_longer : {A : Type 0} (xs ys : List A) (x : A) → ys ≡ xs ++ x ∷ [] → length ys ≡ length xs + 1
one_longer xs ys x e = ap length e ∙ length-append xs (x ∷ [])

counted_on : (n more : ℕ) → counted_more (counted n) more ≡ counted (n + more)
counted_on n more =
    elim (cases_lt n (2 ^ 64)) [
      | inl small ↦ ap (λ b. counted_more (cond b (Some n) None) more) (lt-ltb n (2 ^ 64) small)
      | inr large ↦ ap (λ b. counted_more (cond b (Some n) None) more) (le-ltb n (2 ^ 64) large)
          ∙ sym (ap (λ b. cond b (Some (n + more)) None) (le-ltb (n + more) (2 ^ 64) (let w : 2 ^ 64 ≤ n + more = omega arith in w)))
    ]

-- nothing more is said of the channel
pub stays : (channel : ℕ) (packets : List PacketData) (packet : PacketData) (state : ChannelState) → Adds channel packets packet [] [] []
    → IsStateOf channel packets state → IsStateOf channel (packets ++ packet ∷ []) state
stays channel packets packet state adds is =
    let fs = no_more _ _ adds.frames_are in
    let ps = no_more _ _ adds.programs_are in
    let es = no_more _ _ adds.ends_are in
    record {
      programs = is.programs ∙ sym (ap (λ l. capped (length l)) ps);
      last = is.last ∙ sym (ap (last_or None) ps);
      frames = is.frames ∙ sym (ap (λ l. counted (length l)) fs);
      end = is.end ∙ sym (ap (last_or None) es);
    }

-- the packet says this of the channel
pub kept_on : (channel : ℕ) (packets : List PacketData) (packet : PacketData) (saying : Saying) (state : ChannelState)
    → saying_of packet ≡ Some (channel, saying) → IsStateOf channel packets state
    → IsStateOf channel (packets ++ packet ∷ []) (state_after state saying)
kept_on channel packets packet (OfFrames frames) state e is =
    let a = adds_frames channel packets packet frames e in
    let ps = no_more _ _ a.programs_are in
    let es = no_more _ _ a.ends_are in
    let before = channel_frames channel packets in
    record {
      programs = is.programs ∙ sym (ap (λ l. capped (length l)) ps);
      last = is.last ∙ sym (ap (last_or None) ps);
      frames = ap (λ n. counted_more n (length frames)) is.frames ∙ counted_on (length before) (length frames)
          ∙ sym (ap counted (ap length a.frames_are ∙ length-append before frames));
      end = is.end ∙ sym (ap (last_or None) es);
    }
kept_on channel packets packet (OfProgram program) state e is =
    let a = adds_program channel packets packet program e in
    let fs = no_more _ _ a.frames_are in
    let es = no_more _ _ a.ends_are in
    let before = programs_of channel packets in
    let longer = one_longer before _ program a.programs_are in
    let was = is.programs in
    let many : capped (state.programs + 1) ≡ capped (length (programs_of channel (packets ++ packet ∷ []))) = omega (arith, longer, was) in
    record {
      programs = many;
      last = sym (ap (last_or None) a.programs_are ∙ last_of_more before None program);
      frames = is.frames ∙ sym (ap (λ l. counted (length l)) fs);
      end = is.end ∙ sym (ap (last_or None) es);
    }
kept_on channel packets packet (OfEnd end) state e is =
    let a = adds_end channel packets packet end e in
    let fs = no_more _ _ a.frames_are in
    let ps = no_more _ _ a.programs_are in
    record {
      programs = is.programs ∙ sym (ap (λ l. capped (length l)) ps);
      last = is.last ∙ sym (ap (last_or None) ps);
      frames = is.frames ∙ sym (ap (λ l. counted (length l)) fs);
      end = sym (ap (last_or None) a.ends_are ∙ last_of_more (ends_of channel packets) None end);
    }
