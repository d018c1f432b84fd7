-- Where the channels of a merge stand, in a heap whose first stand is the least.
use Rattle.std.specs.Prelude.{ℕ, ◌≡◌, ◌<◌, List, ◌∷◌, map, All, Contains, Some, slice_get, nat_eq}
use Rattle.std.specs.Prelude.{IsPermutation}
use Rattle.std.specs.List.{IsDistinct}
use Rattle.std.specs.BinaryHeap.{IsHeap}
use Rattle.std.specs.declared.cmp.Ordering.{Ordering}
use Rattle.std.specs.declared.cmp.Reverse.{Reverse}
use Rattle.ch11_merge.specs.declared.source.Head.{Head}
use Rattle.ch11_merge.specs.declared.channels.MergedChannel.{MergedChannel}
use Rattle.ch11_merge.specs.declared.waiting.Waiting.{Waiting}
use Rattle.ch11_merge.specs.contracts.waiting.WaitingOrd.TheImpl.{ghosts}

-- the order of the heap, whose greatest is its first
abbrev pub reverse_order : Reverse Waiting → Reverse Waiting → Ordering
reverse_order a b = ghosts.cmp b.0 a.0

abbrev pub index_of : Reverse Waiting → ℕ
index_of stand = stand.0.at

-- the stand is that of the channel with its index
pub record IsStand {S : Type 0} (stands : S → Head) (channels : List (MergedChannel S))
    (stand : Reverse Waiting) : Type 0 where
  pub of : MergedChannel S
  pub there : slice_get channels stand.0.at ≡ Some of
  pub head_is : stand.0.head ≡ stands of.source
  pub channel_is : stand.0.channel ≡ of.channel

-- these are the stands of the first k channels, each once, in a heap
pub record AreStands {S : Type 0} (stands : S → Head) (channels : List (MergedChannel S)) (k : ℕ)
    (heap : List (Reverse Waiting)) : Type 0 where
  pub ordered : IsHeap reverse_order heap
  pub right : All (IsStand stands channels) heap
  pub below : All (λ stand. stand.0.at < k) heap
  pub each : (at : ℕ) → at < k → Contains (map index_of heap) at
  pub apart : IsDistinct nat_eq (map index_of heap)

-- the channel with this index has the heap's first stand
pub record IsFirstOf (heap : List (Reverse Waiting)) (at : ℕ) : Type 0 where
  pub first : Reverse Waiting
  pub there : slice_get heap 0 ≡ Some first
  pub is : first.0.at ≡ at

-- the channel of the first stand stands here now
pub record StandsAgain (head : Head) (old new : List (Reverse Waiting)) : Type 0 where
  pub first : Reverse Waiting
  pub next : Reverse Waiting
  pub others : List (Reverse Waiting)
  pub there : slice_get old 0 ≡ Some first
  pub taken : IsPermutation old (first ∷ others)
  pub head_is : next.0.head ≡ head
  pub channel_is : next.0.channel ≡ first.0.channel
  pub at_is : next.0.at ≡ first.0.at
  pub given : IsPermutation (next ∷ others) new
  pub ordered : IsHeap reverse_order old → IsHeap reverse_order new
