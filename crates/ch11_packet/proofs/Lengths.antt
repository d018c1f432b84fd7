-- How long a whole packet and the three kinds of data are.
use Rattle.std.proofs.Common.{ℕ, ◌+◌, ◌-◌, ◌*◌, ◌≡◌, ◌≤◌, ◌↔◌, List, [], ◌∷◌, ◌++◌, length, refl, sym, ap, subst, ◌∙◌, arith, length-append}
use Rattle.std.proofs.lemmas.List.{length-replicate}
use Rattle.bpf_insn.specs.declared.insn.Insn.{Insn}
use Rattle.eth_frame.specs.Frame.{FrameData}
use Rattle.ch11_packet.specs.declared.header.TheConstants.{HEADER_LEN}
use Rattle.ch11_packet.specs.declared.records.TheConstants.{PROGRAM_HEAD_LEN, INSN_LEN}
use Rattle.ch11_packet.specs.declared.records.encode.TheConstants.{END_RECORD_LEN}
use Rattle.ch11_packet.specs.Header.{HeaderData, header_bytes}
use Rattle.std.specs.Int.{w32, to_le_bytes}
use Rattle.ch11_packet.specs.Sums.{body_sum}
use Rattle.ch11_packet.specs.Profiles.{Profile}
use Rattle.ch11_packet.specs.Profiles.Profile.{WithoutSum, WithSum}
use Rattle.ch11_packet.specs.PacketLen.{packet_len, written_len}
use Rattle.ch11_packet.specs.Packet.{packet_filler, packet_trailer, packet_bytes}
use Rattle.ch11_packet.specs.Frames.{data_bytes, data_len}
use Rattle.ch11_packet.specs.Building.{OpenBody, Fits}
use Rattle.ch11_packet.specs.Records.{EndData, program_bytes, end_bytes}
use Rattle.ch11_packet.proofs.Bodies.{length-frames, data_len-push}
use Rattle.ch11_packet.proofs.RecordBytes.{length-insns}

-- a body is filled up to the packet's length, and the sum has four bytes
filled : (body : List ℕ) → HEADER_LEN + length body + length (packet_filler (length body)) ≡ packet_len (length body)
filled body = omega (arith, length-replicate {A = ℕ} (packet_len (length body) - (HEADER_LEN + length body)) 0)

pub length-trailer : (profile : Profile) (body : List ℕ) → HEADER_LEN + length body + length (packet_trailer profile body) ≡ written_len profile (length body)
length-trailer WithoutSum body = filled body
length-trailer WithSum body =
    let sum : length (to_le_bytes w32 (body_sum body)) ≡ 4 = refl in
    omega (arith, filled body, sum, length-append (packet_filler (length body)) (to_le_bytes w32 (body_sum body)))

pub length-packet : (profile : Profile) (header : HeaderData) (body : List ℕ) → length (packet_bytes profile header body) ≡ written_len profile (length body)
unfolding header_bytes
length-packet profile header body =
    let head : length (header_bytes header) ≡ HEADER_LEN = refl in
    let whole = length-append (header_bytes header) (body ++ packet_trailer profile body) in
    let rest = length-append body (packet_trailer profile body) in
    omega (arith, head, whole, rest, length-trailer profile body)

pub length-data : (net speed : ℕ) (frames : List FrameData) → length (data_bytes net speed frames) ≡ data_len frames
unfolding data_bytes
length-data net speed frames = omega (arith, length-frames net speed frames)

pub length-program : (channel version first : ℕ) (insns : List Insn)
    → length (program_bytes channel version first insns) ≡ PROGRAM_HEAD_LEN + INSN_LEN * length insns
unfolding program_bytes
length-program channel version first insns = omega (arith, length-insns insns)

pub length-end : (end : EndData) → length (end_bytes end) ≡ END_RECORD_LEN
unfolding end_bytes
length-end end = refl

pub length-packet_of_frames : (profile : Profile) (header : HeaderData) (net speed : ℕ) (frames : List FrameData)
    → length (packet_bytes profile header (data_bytes net speed frames)) ≡ written_len profile (data_len frames)
length-packet_of_frames profile header net speed frames = length-packet profile header (data_bytes net speed frames)
    ∙ ap (written_len profile) (length-data net speed frames)

-- a frame fits where the packet with it does
pub fits_by_packet : (header : HeaderData) (body : OpenBody) (frame : FrameData)
    → Fits body (length frame.bytes) ↔ (length (packet_bytes WithoutSum header (data_bytes body.net body.speed (body.frames ++ frame ∷ []))) ≤ body.limit)
fits_by_packet header body frame =
    let whole = length-packet_of_frames WithoutSum header body.net body.speed (body.frames ++ frame ∷ []) ∙ ap packet_len (data_len-push body.frames frame) in
    (λ fits. subst (λ n. n ≤ body.limit) (sym whole) fits, λ fits. subst (λ n. n ≤ body.limit) whole fits)
