-- A record that lies whole in what a reader's buffer shows.
use Rattle.std.proofs.Common.{◌≡◌, ℕ, ◌+◌, ◌≤◌, List, [], ◌++◌, length, take, drop, Option, None, Some, Ok, IfSome, refl, sym, ap, subst, ◌∙◌}
use Rattle.std.proofs.Common.{append_assoc, arith, length-take-le, length-drop}
use Rattle.std.proofs.Math.Seq.{take-add}
use Rattle.std.proofs.BufReadLemmas.{Consumes_shown}
use Rattle.std.specs.Io.{StartsWith}
use Rattle.std.specs.Io.KnownBytes.{Keeps, Consumes}
use Rattle.std.specs.Io.BufRead.{DropsConsumable}
use Rattle.std.specs.List.{slice_range}
use Rattle.eth_frame.specs.declared.frame.FrameHead.{FrameHead}
use Rattle.eth_frame.specs.declared.feed.head.TheConstants.{HEAD_LEN}
use Rattle.eth_frame.specs.declared.source.Next.TheVariants as next
use Rattle.eth_frame.specs.Frame.{FrameData}
use Rattle.eth_frame.specs.Heads.{headed_frame}
use Rattle.eth_frame.specs.FeedRecord.{head_fault, record_at}
use Rattle.eth_frame.specs.FeedTaking.{TakesRecord}
use Rattle.eth_frame.proofs.Records.{record_at-nil}
use Rattle.eth_frame.proofs.Taken.{SaysHead, TakesRecord-held}

-- the first bytes are a record, whatever follows them
pub TakesRecord-whole : (bytes front : List ℕ) (h : FrameHead) (held : Option FrameData) → front ≡ take HEAD_LEN bytes → HEAD_LEN + h.len ≤ length bytes
    → None ≡ head_fault front → SaysHead front h → held ≡ Some (headed_frame h (slice_range bytes HEAD_LEN (HEAD_LEN + h.len)))
    → (rest : List ℕ) → TakesRecord (take (HEAD_LEN + h.len) bytes ++ rest) (Ok next.Frame) held (Some rest)
TakesRecord-whole bytes front h held at within well says is rest =
    let body = take h.len (drop HEAD_LEN bytes) in
    let span : slice_range bytes HEAD_LEN (HEAD_LEN + h.len) ≡ body = ap (λ n. take n (drop HEAD_LEN bytes)) (omega arith) in
    let holds : held ≡ Some (headed_frame h body) = is ∙ ap (λ l. Some (headed_frame h l)) span in
    let long : length body ≡ h.len = length-take-le h.len (drop HEAD_LEN bytes) (omega (arith, length-drop HEAD_LEN bytes)) in
    let seam : take (HEAD_LEN + h.len) bytes ++ rest ≡ front ++ (body ++ rest) =
    ap (λ l. l ++ rest) (take-add HEAD_LEN h.len bytes) ∙ append_assoc (take HEAD_LEN bytes) body rest ∙ ap (λ l. l ++ (body ++ rest)) (sym at) in
    rw holds (TakesRecord-held (Some (take (HEAD_LEN + h.len) bytes ++ rest)) (Some (body ++ rest)) (Some rest) front h (Some (headed_frame h body))
    (ap length at ∙ length-take-le HEAD_LEN bytes (omega arith)) well says seam
    (record { counter = refl; crc_error = refl; frame_error = refl; len = long }, refl))

-- nothing is shown: no byte is left
pub TakesRecord-none : (a b : Option (List ℕ)) (shown : List ℕ) (held : Option FrameData) → length shown ≡ 0 → IfSome a (λ xs. length shown ≡ 0 → xs ≡ [])
    → Keeps a b → IfSome a (λ bytes. TakesRecord bytes (Ok next.End) held b)
TakesRecord-none None b shown held none end kept = tt
TakesRecord-none (Some x) None shown held none end kept = absurd kept
TakesRecord-none (Some x) (Some y) shown held none end kept =
    let empty : x ≡ [] = end none in
    (ap record_at empty ∙ record_at-nil, ap (λ (l : List ℕ). Some l) (kept ∙ empty))

-- the first bytes of what is shown are consumed, and are a record
pub TakesRecord-shown : (a b c : Option (List ℕ)) (buffered : Option ℕ) (shown : List ℕ) (n : ℕ) (held : Option FrameData) → n ≤ length shown
    → IfSome a (λ xs. StartsWith xs shown) → IfSome a (λ xs. length shown ≡ 0 → xs ≡ []) → Keeps a b
    → IfSome a (λ _. IfSome buffered (λ k. length shown ≤ k)) → DropsConsumable b c buffered n
    → ((rest : List ℕ) → TakesRecord (take n shown ++ rest) (Ok next.Frame) held (Some rest))
    → IfSome a (λ bytes. TakesRecord bytes (Ok next.Frame) held c)
TakesRecord-shown a b c buffered shown n held within front end kept fits drops whole =
    taken a c (Consumes_shown a b c buffered shown n within front end kept fits drops).0
  where
    taken : (o p : Option (List ℕ)) → Consumes o p (take n shown) → IfSome o (λ bytes. TakesRecord bytes (Ok next.Frame) held p)
    taken None p took = tt
    taken (Some x) None took = absurd took
    taken (Some x) (Some z) took = subst (λ l. TakesRecord l (Ok next.Frame) held (Some z)) (sym took) (whole z)
