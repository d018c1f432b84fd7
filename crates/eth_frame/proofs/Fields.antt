-- The fields of a record's head, both ways.
use Rattle.std.proofs.Common.{◌≡◌, ℕ, zero, suc, ◌^◌, ◌<◌, ◌≤◌, Bool, true, false, ltb, length, None, refl, arith, lit≤}
use Rattle.std.proofs.lemmas.Nat.{from_le_bytes-to_le_bytes_2}
use Rattle.std.proofs.lemmas.Bool.{le-ltb}
use Rattle.eth_frame.specs.declared.frame.TheConstants.{MIN_FRAME_LEN, MAX_FRAME_LEN}
use Rattle.eth_frame.specs.declared.feed.head.TheConstants.{MAX_MARKS}
use Rattle.eth_frame.proofs.Bytes.{six_again}
use Rattle.eth_frame.specs.Frame.{FrameData, IsFrame}
use Rattle.eth_frame.specs.FeedRecord.{marks_byte, head_bytes, feed_record_head, counter_field, marks_field}
use Rattle.eth_frame.specs.FeedRecord.{length_field, has_crc_error, has_frame_error, head_fault}

-- ---- what a head says is what was put into it

pub counter_field-head_bytes : (counter : ℕ) (crc_error frame_error : Bool) (len : ℕ) → counter < 2 ^ 48
    → counter_field (head_bytes counter crc_error frame_error len) ≡ counter
counter_field-head_bytes counter crc_error frame_error len lt = six_again counter lt

pub length_field-head_bytes : (counter : ℕ) (crc_error frame_error : Bool) (len : ℕ) → len < 2 ^ 16
    → length_field (head_bytes counter crc_error frame_error len) ≡ len
length_field-head_bytes counter crc_error frame_error len lt = from_le_bytes-to_le_bytes_2 len lt

pub marks_byte-crc_error : (crc_error frame_error : Bool) → has_crc_error (marks_byte crc_error frame_error) ≡ crc_error
marks_byte-crc_error false false = refl
marks_byte-crc_error false true = refl
marks_byte-crc_error true false = refl
marks_byte-crc_error true true = refl

pub marks_byte-frame_error : (crc_error frame_error : Bool) → has_frame_error (marks_byte crc_error frame_error) ≡ frame_error
marks_byte-frame_error false false = refl
marks_byte-frame_error false true = refl
marks_byte-frame_error true false = refl
marks_byte-frame_error true true = refl

pub marks_byte-small : (crc_error frame_error : Bool) → marks_byte crc_error frame_error ≤ MAX_MARKS
marks_byte-small false false = lit≤ tt
marks_byte-small false true = lit≤ tt
marks_byte-small true false = lit≤ tt
marks_byte-small true true = lit≤ tt

pub head_fault-record_head : (frame : FrameData) → IsFrame frame → head_fault (feed_record_head frame) ≡ None
head_fault-record_head frame is =
    let len = length_field-head_bytes frame.counter frame.crc_error frame.frame_error (length frame.bytes) (omega arith) in
    let a : ltb (length_field (feed_record_head frame)) MIN_FRAME_LEN ≡ false = le-ltb _ _ (omega arith) in
    let b : ltb MAX_FRAME_LEN (length_field (feed_record_head frame)) ≡ false = le-ltb _ _ (omega arith) in
    let c : ltb MAX_MARKS (marks_field (feed_record_head frame)) ≡ false = le-ltb _ _ (marks_byte-small frame.crc_error frame.frame_error) in
    rw (a, b, c) refl

-- ---- a valid head is what is put into it

pub marks_byte-of : (marks : ℕ) → marks ≤ 3 → marks_byte (has_crc_error marks) (has_frame_error marks) ≡ marks
marks_byte-of zero le = refl
marks_byte-of (suc zero) le = refl
marks_byte-of (suc (suc zero)) le = refl
marks_byte-of (suc (suc (suc zero))) le = refl
marks_byte-of (suc (suc (suc (suc n)))) le = absurd (omega arith)
