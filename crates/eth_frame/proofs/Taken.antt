-- What was taken of a reader's bytes, from what each of its reads consumed.
use Rattle.std.proofs.Common.{◌≡◌, ℕ, ◌+◌, ◌<◌, ◌≤◌, ◌⊎◌, inl, inr, List, [], ◌++◌, length, take, drop, Option, None, Some, Ok, Err}
use Rattle.std.proofs.Common.{IfSome, IsSomeAnd, refl, sym, ap, ◌∙◌, append_assoc, arith, drop_at, length-take-le}
use Rattle.std.proofs.lemmas.Bool.{lt-ltb, le-ltb}
use Rattle.std.proofs.lemmas.List.{length-append, append-nil, take_at}
use Rattle.std.specs.Io.KnownBytes.{Consumes, IsAtEnd}
use Rattle.eth_frame.specs.declared.frame.FrameHead.{FrameHead}
use Rattle.eth_frame.specs.declared.feed.head.TheConstants.{HEAD_LEN}
use Rattle.eth_frame.specs.declared.source.Next.TheVariants as next
use Rattle.eth_frame.specs.declared.source.SourceFault.{SourceFault}
use Rattle.eth_frame.specs.declared.source.SourceFault.TheVariants.{Truncated, Device}
use Rattle.eth_frame.specs.declared.source.SourceEnding.TheVariants.{Fault}
use Rattle.eth_frame.specs.Frame.{FrameData}
use Rattle.eth_frame.specs.Heads.{HasFrameHead}
use Rattle.eth_frame.specs.FeedRecord.{counter_field, marks_field, length_field, has_crc_error, has_frame_error, head_fault, record_at}
use Rattle.eth_frame.specs.FeedTaking.{TakesRecord}
use Rattle.eth_frame.proofs.Records.{record_at-nil, record_at-short, record_at-split, body_after, frame_after, from_parts}

-- no byte was left
pub TakesRecord-end : (a b : Option (List ℕ)) (n : ℕ) (places : List ℕ) (held : Option FrameData) → n ≡ 0 → Consumes a b (take n places) → IsAtEnd b
    → IfSome a (λ bytes. TakesRecord bytes (Ok next.End) held b)
TakesRecord-end None b n places held none took end = tt
TakesRecord-end (Some x) None n places held none took end = absurd took
TakesRecord-end (Some x) (Some y) n places held none took end =
    let empty : x ≡ [] = took ∙ ap (λ k. take k places ++ y) none ∙ end in
    (ap record_at empty ∙ record_at-nil, ap (λ (l : List ℕ). Some l) end)

-- less than a head was left
pub TakesRecord-short : (a b c : Option (List ℕ)) (n : ℕ) (places : List ℕ) (held : Option FrameData) → 0 < n → n < HEAD_LEN → n ≤ length places
    → Consumes a b (take n places) → IsAtEnd b → IfSome a (λ bytes. TakesRecord bytes (Err Truncated) held c)
TakesRecord-short None b c n places held some short within took end = tt
TakesRecord-short (Some x) None c n places held some short within took end = absurd took
TakesRecord-short (Some x) (Some y) c n places held some short within took end =
    let whole : x ≡ take n places = took ∙ ap (λ l. take n places ++ l) end ∙ append-nil (take n places) in
    let len = length-take-le n places within in
    inl (ap record_at whole ∙ record_at-short (take n places) (omega arith) (omega arith))

-- a head that no record has
pub TakesRecord-head : (a b c : Option (List ℕ)) (head : List ℕ) (fault : SourceFault) (held : Option FrameData) → length head ≡ HEAD_LEN
    → Some fault ≡ head_fault head → Consumes a b head → IfSome a (λ bytes. TakesRecord bytes (Err fault) held c)
TakesRecord-head None b c head fault held len wrong took = tt
TakesRecord-head (Some x) None c head fault held len wrong took = absurd took
TakesRecord-head (Some x) (Some y) c head fault held len wrong took =
    inl (ap record_at took ∙ record_at-split head y len ∙ ap (λ o. body_after o head y) (sym wrong))

-- a valid head, without all of its frame's bytes
pub TakesRecord-cut : (a b c : Option (List ℕ)) (head : List ℕ) (fault : SourceFault) (held : Option FrameData) → length head ≡ HEAD_LEN
    → None ≡ head_fault head → Consumes a b head
    → (fault ≡ Device) ⊎ ((fault ≡ Truncated) × IfSome b (λ bytes. length bytes < length_field head)) → IfSome a (λ bytes. TakesRecord bytes (Err fault) held c)
TakesRecord-cut None b c head fault held len well took cut = tt
TakesRecord-cut (Some x) None c head fault held len well took cut = absurd took
TakesRecord-cut (Some x) (Some y) c head fault held len well took (inl device) = inr device
TakesRecord-cut (Some x) (Some y) c head fault held len well took (inr cut) =
    let read : record_at x ≡ body_after None head y = ap record_at took ∙ record_at-split head y len ∙ ap (λ o. body_after o head y) (sym well) in
    inl (read ∙ rw (lt-ltb _ _ cut.1) refl ∙ ap (λ (f : SourceFault). Err (Fault f)) (sym cut.0))

-- a frame that has the fields of this head
pub record IsOfHead (head : List ℕ) (frame : FrameData) : Type 0 where
  pub counter : frame.counter ≡ counter_field head
  pub crc_error : frame.crc_error ≡ has_crc_error (marks_field head)
  pub frame_error : frame.frame_error ≡ has_frame_error (marks_field head)
  pub len : length frame.bytes ≡ length_field head

-- a whole record
pub TakesRecord-frame : (a b c : Option (List ℕ)) (head : List ℕ) (frame : FrameData) → length head ≡ HEAD_LEN → None ≡ head_fault head → Consumes a b head
    → Consumes b c frame.bytes → IsOfHead head frame
    → IfSome a (λ bytes. TakesRecord bytes (Ok next.Frame) (Some frame) c)
TakesRecord-frame None b c head frame len well first second same = tt
TakesRecord-frame (Some x) None c head frame len well first second same = absurd first
TakesRecord-frame (Some x) (Some y) None head frame len well first second same = absurd second
TakesRecord-frame (Some x) (Some y) (Some z) head frame len well first second same =
    let whole : length_field head ≤ length y = omega (arith, same.len, ap length second, length-append frame.bytes z) in
    let bytes-are : take (length_field head) y ≡ frame.bytes = ap (take (length_field head)) second ∙ take_at frame.bytes z (length_field head) same.len in
    let made : frame_after head y ≡ frame = from_parts frame _ _ _ _ same.counter same.crc_error same.frame_error bytes-are in
    let read : record_at x ≡ body_after None head y = ap record_at first ∙ record_at-split head y len ∙ ap (λ o. body_after o head y) (sym well) in
    let both : x ≡ (head ++ frame.bytes) ++ z = first ∙ ap (λ l. head ++ l) second ∙ sym (append_assoc head frame.bytes z) in
    let size : length (head ++ frame.bytes) ≡ HEAD_LEN + length frame.bytes = omega (arith, len, length-append head frame.bytes) in (
      read ∙ rw (le-ltb _ _ whole) refl ∙ ap (λ (f : FrameData). Ok f) made,
      ap (λ (l : List ℕ). Some l) (sym (ap (drop (HEAD_LEN + length frame.bytes)) both ∙ drop_at (head ++ frame.bytes) z (HEAD_LEN + length frame.bytes) size)),
    )

-- the head that the bytes say
pub record SaysHead (bytes : List ℕ) (h : FrameHead) : Type 0 where
  pub counter : h.counter ≡ counter_field bytes
  pub crc_error : h.crc_error ≡ has_crc_error (marks_field bytes)
  pub frame_error : h.frame_error ≡ has_frame_error (marks_field bytes)
  pub len : h.len ≡ length_field bytes

-- a whole record, whose frame is held
pub TakesRecord-held : (a b c : Option (List ℕ)) (bytes : List ℕ) (h : FrameHead) (held : Option FrameData) → length bytes ≡ HEAD_LEN → None ≡ head_fault bytes
    → SaysHead bytes h → Consumes a b bytes
    → IsSomeAnd held (λ frame. HasFrameHead h frame × Consumes b c frame.bytes) → IfSome a (λ all. TakesRecord all (Ok next.Frame) held c)
TakesRecord-held a b c bytes h None len well says first second = absurd second
TakesRecord-held a b c bytes h (Some frame) len well says first second =
    let of_head : IsOfHead bytes frame = record {
      counter = second.0.counter ∙ says.counter;
      crc_error = second.0.crc_error ∙ says.crc_error;
      frame_error = second.0.frame_error ∙ says.frame_error;
      len = second.0.len ∙ says.len;
    } in
    TakesRecord-frame a b c bytes frame len well first second.1 of_head
