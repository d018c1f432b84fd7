-- The packets of a recording pass the audit one by one, and each channel is right at the end.
use Rattle.std.proofs.Common.{ℕ, ◌≡◌, ◌==◌, inl, inr, List, [], ◌∷◌, ◌++◌, length, Option, Some, None, All, get_or, eq-eqb, refl, sym, ap, subst, ◌∙◌}
use Rattle.std.specs.Prelude.{if◌then◌else◌}
use Rattle.std.specs.List.{flat_map, filter, last_or}
use Rattle.std.proofs.lemmas.List.{append_assoc, append-nil, length-map}
use Rattle.std.proofs.lemmas.List.Elements.{All-nil, All-cons, All-head, All-tail, filter-append}
use Rattle.ch11_packet.specs.FramesRead.{body_frame}
use Rattle.rec_lane.specs.Offered.{OfferedFrame, accepted}
use Rattle.rec_lane.specs.Pieces.{PieceData, channel_of, channel_pieces, ArePieces}
use Rattle.rec_lane.specs.Pieces.PieceData.{OfProgram, OfFrames, OfEnd}
use Rattle.rec_lane.proofs.FramesMet.{some_is}
use Rattle.rec_writer.specs.Recording.{RecordedChannel, AreOfChannels, is_of}
use Rattle.rec_reader.specs.declared.audits.answer.AuditFault.{AuditFault}
use Rattle.rec_reader.specs.declared.audits.channel.ChannelProgram.{ChannelProgram}
use Rattle.rec_reader.specs.declared.audits.channel.ChannelEnd.{ChannelEnd}
use Rattle.rec_reader.specs.Packets.{PacketData}
use Rattle.rec_reader.specs.ChannelFrames.{channel_frames}
use Rattle.rec_reader.specs.Channels.{Saying, saying_of, IsNamed, program_said, end_said, programs_of, ends_of, last_program, last_end, capped}
use Rattle.rec_reader.specs.Audits.{IsJudgement, JudgesSaying, Judges, EachPasses, HasCounts, IsClosing, Closes}
use Rattle.rec_reader.proofs.OneAudit.{in_middle, stops_or_passes}
use Rattle.rec_reader.proofs.Walking.{none_pass, passes_one_more}
use Rattle.rec_theorem.specs.Recordable.{IsRecordable, AreRecordable}
use Rattle.rec_theorem.specs.Found.{IsApproved}
use Rattle.rec_theorem.proofs.JoinedLists.{All_with, nothing_if}
use Rattle.rec_theorem.proofs.Spelled.{said_by, Reflects, frames_read}
use Rattle.rec_theorem.proofs.PacketReadings.{AllReflect, flat_filter, frames_reflected}
use Rattle.rec_theorem.proofs.Recorded.{found_among, channel_read}
use Rattle.rec_theorem.proofs.Writable.{IsKnown, all_known}
use Rattle.rec_theorem.proofs.PassingAudit.{PassFrom, programs_by, ends_by, judged_at, channel_passes, channel_end, channel_counts}

-- ---- what packets say is what their pieces say

-- the programs that a piece's saying tells of a channel: the piece's own, if it is of the channel
program_told : (channel : ℕ) (piece : PieceData) → program_said channel (Some (channel_of piece, said_by piece))
    ≡ (if is_of channel piece then programs_by piece else [])
program_told channel (OfProgram named counter version first program) = refl
program_told channel (OfFrames named body) = nothing_if (named == channel)
program_told channel (OfEnd named counter offered kept) = nothing_if (named == channel)

-- and the ends
end_told : (channel : ℕ) (piece : PieceData) → end_said channel (Some (channel_of piece, said_by piece)) ≡ (if is_of channel piece then ends_by piece else [])
end_told channel (OfProgram named counter version first program) = nothing_if (named == channel)
end_told channel (OfFrames named body) = nothing_if (named == channel)
end_told channel (OfEnd named counter offered kept) = refl

-- so what is told of a channel by packets is told by its pieces, packet by packet
told_reflected : {X : Type 0} (channel : ℕ) (said : Option (ℕ × Saying) → List X) (told : PieceData → List X)
    → ((p : PieceData) → said (Some (channel_of p, said_by p)) ≡ (if is_of channel p then told p else []))
    → (packets : List PacketData) (pieces : List PieceData) → AllReflect packets pieces
    → flat_map (λ (q : PacketData). said (saying_of q)) packets ≡ flat_map told (filter (is_of channel) pieces)
told_reflected channel said told same [] [] all = refl
told_reflected channel said told same [] (p ∷ ps) all = absurd all
told_reflected channel said told same (q ∷ qs) [] all = absurd all
told_reflected channel said told same (q ∷ qs) (p ∷ ps) all =
    ap (λ s. said s ++ flat_map (λ (x : PacketData). said (saying_of x)) qs) all.0.says
    ∙ (ap (λ xs. xs ++ flat_map (λ (x : PacketData). said (saying_of x)) qs) (same p)
    ∙ (ap (λ xs. (if is_of channel p then told p else []) ++ xs) (told_reflected channel said told same qs ps all.1)
    ∙ sym (flat_filter (is_of channel) told p ps)))

programs_reflected : (channel : ℕ) (packets : List PacketData) (pieces : List PieceData) → AllReflect packets pieces
    → programs_of channel packets ≡ flat_map programs_by (filter (is_of channel) pieces)
programs_reflected channel packets pieces all = told_reflected channel (program_said channel) programs_by (program_told channel) packets pieces all

ends_reflected : (channel : ℕ) (packets : List PacketData) (pieces : List PieceData) → AllReflect packets pieces
    → ends_of channel packets ≡ flat_map ends_by (filter (is_of channel) pieces)
ends_reflected channel packets pieces all = told_reflected channel (end_said channel) ends_by (end_told channel) packets pieces all

-- ---- one packet after those before it

-- the pieces of the piece's channel pass
abbrev ChannelPasses : List PieceData → PieceData → Type 0
ChannelPasses pieces piece = PassFrom None (filter (is_of (channel_of piece)) pieces)

-- the pieces of a piece's own channel are split where the piece stands
own_split : (earlier : List PieceData) (piece : PieceData) (later : List PieceData)
    → filter (is_of (channel_of piece)) (earlier ++ piece ∷ later)
    ≡ filter (is_of (channel_of piece)) earlier ++ piece ∷ filter (is_of (channel_of piece)) later
own_split earlier piece later =
    let channel = channel_of piece in
    filter-append (is_of channel) earlier (piece ∷ later)
    ∙ ap (λ b. filter (is_of channel) earlier ++ (if b then piece ∷ filter (is_of channel) later else filter (is_of channel) later))
    (eq-eqb channel channel refl)

-- a packet passes: what its channel said before it is what the earlier pieces of the channel say
one_judged : (before : List PacketData) (packet : PacketData) (earlier : List PieceData) (piece : PieceData) (later : List PieceData)
    → AllReflect before earlier → Reflects packet piece → ChannelPasses (earlier ++ piece ∷ later) piece → Judges before packet None
one_judged before packet earlier piece later all reflects pass =
    let channel = channel_of piece in
    let number = capped (length before) in
    let b = filter (is_of channel) earlier in
    let judged = judged_at number None b piece (filter (is_of channel) later) (subst (PassFrom None) (own_split earlier piece later) pass) in
    let ended = subst (λ es. IsJudgement number (last_or None es) (said_by piece) (last_or None (flat_map programs_by b)) None)
    (sym (ends_reflected channel before earlier all)) judged in
    let full = subst (λ ps. IsJudgement number (last_end channel before) (said_by piece) (last_or None ps) None)
    (sym (programs_reflected channel before earlier all)) ended in
    subst (λ s. JudgesSaying before s None) (sym reflects.says) full

-- one more packet and its piece
reflect_more : (before : List PacketData) (earlier : List PieceData) (packet : PacketData) (piece : PieceData) → AllReflect before earlier
    → Reflects packet piece → AllReflect (before ++ packet ∷ []) (earlier ++ piece ∷ [])
reflect_more [] [] packet piece all is = (is, tt)
reflect_more [] (p ∷ ps) packet piece all is = absurd all
reflect_more (q ∷ qs) [] packet piece all is = absurd all
reflect_more (q ∷ qs) (p ∷ ps) packet piece all is = (all.0, reflect_more qs ps packet piece all.1 is)

-- packet after packet passes: those before it reflect the earlier pieces
passes_from : (before qs : List PacketData) (earlier ps : List PieceData) → AllReflect before earlier → EachPasses before → AllReflect qs ps
    → All (ChannelPasses (earlier ++ ps)) (earlier ++ ps) → EachPasses (before ++ qs)
passes_from before [] earlier [] all passed more pass = subst EachPasses (sym (append-nil before)) passed
passes_from before [] earlier (p ∷ ps) all passed more pass = absurd more
passes_from before (q ∷ qs) earlier [] all passed more pass = absurd more
passes_from before (q ∷ qs) earlier (p ∷ ps) all passed more pass =
    let judged = one_judged before q earlier p ps all more.0 (in_middle (ChannelPasses (earlier ++ p ∷ ps)) earlier p ps pass) in
    subst EachPasses (append_assoc before (q ∷ []) qs)
    (passes_from (before ++ q ∷ []) qs (earlier ++ p ∷ []) ps (reflect_more before earlier q p all more.0) (passes_one_more before q passed judged) more.1
    (subst (λ xs. All (ChannelPasses xs) xs) (sym (append_assoc earlier (p ∷ []) ps)) pass))

-- ---- a channel at the end

-- what holds of a channel, of which a packet says something, holds of the channel of each piece
named_all : (P : ℕ → Type 0) (packets : List PacketData) (pieces : List PieceData) → AllReflect packets pieces
    → All (λ (p : PieceData). P (channel_of p)) pieces → All (λ (q : PacketData). (channel : ℕ) (saying : Saying) → saying_of q ≡ Some (channel, saying)
    → P channel) packets
named_all P [] [] all holds = All-nil (λ (q : PacketData). (channel : ℕ) (saying : Saying) → saying_of q ≡ Some (channel, saying) → P channel)
named_all P [] (p ∷ ps) all holds = absurd all
named_all P (q ∷ qs) [] all holds = absurd all
named_all P (q ∷ qs) (p ∷ ps) all holds =
    All-cons (λ (x : PacketData). (channel : ℕ) (saying : Saying) → saying_of x ≡ Some (channel, saying) → P channel) q qs
    (λ channel saying says. subst P (let same : Some (channel_of p, said_by p) ≡ Some (channel, saying) = sym all.0.says ∙ says in
    ap (λ (x : ℕ × Saying). x.0) (some_is (channel_of p, said_by p) (channel, saying) same)) (All-head (λ (x : PieceData). P (channel_of x)) p ps holds))
    (named_all P qs ps all.1 (All-tail (λ (x : PieceData). P (channel_of x)) p ps holds))

-- the channel's end is there, and its counts are right
closes_channel : (packets : List PacketData) (pieces : List PieceData) (c : RecordedChannel) → AllReflect packets pieces → IsRecordable c
    → ArePieces c.settings c.frames c.times c.history (filter (is_of c.settings.channel) pieces) → Closes packets c.settings.channel None
closes_channel packets pieces c all is are =
    let channel = c.settings.channel in
    let offered = are.0 in
    let mine = filter (is_of channel) pieces in
    let long : length c.frames ≡ length offered = ap length (sym are.2) ∙ length-map offered (λ (f : OfferedFrame). f.frame) in
    let known = subst (λ n. All (IsKnown c.history n) offered) long (all_known c offered is are.1 are.2) in
    let end : ChannelEnd = record { offered = length offered; kept = length (accepted offered) } in
    let ends : ends_of channel packets ≡ end ∷ [] = ends_reflected channel packets pieces all
    ∙ (ap (flat_map ends_by) (sym are.3) ∙ channel_end c.settings offered) in
    let programs : programs_of channel packets ≡ flat_map programs_by (channel_pieces c.settings offered) =
    programs_reflected channel packets pieces all ∙ ap (flat_map programs_by) (sym are.3) in
    let frames : length (channel_frames channel packets) ≡ length (accepted offered) =
    ap length (frames_reflected channel packets pieces all ∙ (ap (flat_map frames_read) (sym are.3) ∙ channel_read c.settings offered))
    ∙ length-map (accepted offered) (body_frame c.settings.net c.settings.speed) in
    let counts = channel_counts c.settings c.history offered known in
    let by_frames = subst (λ n. HasCounts (last_or None (flat_map programs_by (channel_pieces c.settings offered))) n end) (sym frames) counts in
    let by_programs = subst (λ ps. HasCounts (last_or None ps) (length (channel_frames channel packets)) end) (sym programs) by_frames in
    subst (λ es. IsClosing channel (last_or None es) (last_program channel packets) (length (channel_frames channel packets)) None) (sym ends) by_programs

module _ (channels : List RecordedChannel) (packets : List PacketData) (pieces : List PieceData) (all : AllReflect packets pieces)
    (are : AreRecordable channels) (of : AreOfChannels channels pieces) where
  -- what holds of each channel's ID holds of that of each piece
  each_piece : (P : ℕ → Type 0) → ((c : RecordedChannel) → IsRecordable c
      → ArePieces c.settings c.frames c.times c.history (filter (is_of c.settings.channel) pieces)
      → P c.settings.channel) → All (λ (p : PieceData). P (channel_of p)) pieces
  each_piece P holds = λ k d within.
      let piece = get_or pieces k d in
      let each = All_with IsRecordable (λ (c : RecordedChannel). ArePieces c.settings c.frames c.times c.history (filter (is_of c.settings.channel) pieces))
      (λ (c : RecordedChannel). P c.settings.channel) holds channels are of.each in
      let c = found_among (λ (x : RecordedChannel). P x.settings.channel) (λ (x : RecordedChannel). x.settings.channel ≡ channel_of piece) channels each
      (of.named k d within) in
      subst P c.2 c.1

  -- the pieces of a recorded channel pass among themselves
  channel_pass : (c : RecordedChannel) → IsRecordable c → ArePieces c.settings c.frames c.times c.history (filter (is_of c.settings.channel) pieces)
      → PassFrom None (filter (is_of c.settings.channel) pieces)
  channel_pass c is pieces_are = subst (PassFrom None) pieces_are.3
      (channel_passes c.settings c.history (length c.frames) pieces_are.0 pieces_are.1 (all_known c pieces_are.0 is pieces_are.1 pieces_are.2))

  -- so each packet passes
  each_passes : EachPasses packets
  each_passes = passes_from [] packets [] pieces tt none_pass all (each_piece (λ channel. PassFrom None (filter (is_of channel) pieces)) channel_pass)

  -- and each channel that a packet names is right at the end: it is that of some piece, and so a recorded one
  named_closes : (channel : ℕ) → IsNamed channel packets → Closes packets channel None
  named_closes channel named =
      let every = named_all (λ n. Closes packets n None) packets pieces all
      (each_piece (λ n. Closes packets n None) (λ c is pieces_are. closes_channel packets pieces c all is pieces_are)) in
      in_middle (λ (q : PacketData). (n : ℕ) (saying : Saying) → saying_of q ≡ Some (n, saying) → Closes packets n None) named.before named.packet named.after
      (subst (All (λ (q : PacketData). (n : ℕ) (saying : Saying) → saying_of q ≡ Some (n, saying) → Closes packets n None)) named.whole every)
      channel named.names.0 named.names.1

  -- what has right counts has no wrong ones
  not_both : (channel : ℕ) (end : Option ChannelEnd) (last : Option ChannelProgram) (frames : ℕ) (fault : AuditFault) → IsClosing channel end last frames None
      → IsClosing channel end last frames (Some fault) → ⊥
  not_both channel None last frames fault a b = cc
  not_both channel (Some end) last frames fault a b = b.1 a

  -- so the audit answers no fault, unless memory ran out
  pub approved : IsApproved packets
  approved fault (inl memory) = memory
  approved fault (inr (inl stops)) = absurd (stops_or_passes packets fault stops each_passes)
  approved fault (inr (inr ends)) = absurd (not_both ends.channel _ _ _ fault (named_closes ends.channel ends.named) ends.closed)
