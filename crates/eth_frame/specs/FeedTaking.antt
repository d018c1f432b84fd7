-- What taking one record from the front of a feed's bytes gives and leaves.
use Rattle.std.specs.Prelude.{ℕ, ◌≡◌, ◌+◌, ◌⊎◌, List, [], length, drop, Option, Some, Result, Ok}
use Rattle.std.specs.Prelude.{Err, IsSomeAnd}
use Rattle.eth_frame.specs.Frame.{FrameData}
use Rattle.eth_frame.specs.FeedRecord.{record_at, time_at}
use Rattle.eth_frame.specs.declared.feed.head.TheConstants.{HEAD_LEN}
use Rattle.eth_frame.specs.declared.source.Next.{Next}
use Rattle.eth_frame.specs.declared.source.Next.TheVariants as next
use Rattle.eth_frame.specs.declared.source.SourceFault.{SourceFault}
use Rattle.eth_frame.specs.declared.source.SourceFault.TheVariants.{Device}
use Rattle.eth_frame.specs.declared.source.SourceEnding.TheVariants.{End, Fault}

-- the record at the front is the held frame's, or that of this time mark, and the bytes after it
-- are left; or none stands there, and this is the ending; or the device failed
abbrev pub TakesRecord : List ℕ → Result Next SourceFault → Option FrameData → Option (List ℕ)
    → Type 0
TakesRecord bytes (Ok next.Frame) held after =
    IsSomeAnd held (λ frame.
    (record_at bytes ≡ Ok frame) × (after ≡ Some (drop (HEAD_LEN + length frame.bytes) bytes)))
TakesRecord bytes (Ok (next.Time counter)) held after =
    (time_at bytes ≡ Some counter) × (after ≡ Some (drop HEAD_LEN bytes))
TakesRecord bytes (Ok next.End) held after = (record_at bytes ≡ Err End) × (after ≡ Some [])
TakesRecord bytes (Err fault) held after = (record_at bytes ≡ Err (Fault fault)) ⊎ (fault ≡ Device)
