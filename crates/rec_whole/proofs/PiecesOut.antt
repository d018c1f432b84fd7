-- The packets of a whole file: what holds of all pieces of its channels holds of each piece that goes out.
use Rattle.std.proofs.Common.{ℕ, ◌≡◌, ◌++◌, inl, inr, List, [], ◌∷◌, Some, sym, subst}
use Rattle.std.specs.Prelude.{false, slice_get}
use Rattle.std.specs.List.{AllByRecursion}
use Rattle.ch11_packet.specs.Header.{IsHeader}
use Rattle.ch11_merge.specs.declared.source.Head.{Head}
use Rattle.ch11_merge.specs.declared.source.Head.TheVariants.{At, Uncounted, End}
use Rattle.ch11_merge.specs.Merging.{FilePiece, ChannelLeft, channel_with, head_of, head_of_piece, is_due, part_before, part_from}
use Rattle.ch11_merge.specs.Merging.{TakesPart, PieceIsNext}
use Rattle.ch11_packet.proofs.ChangedLists.{set_cases}
use Rattle.ch11_file.specs.declared.setup.FileSetup.{FileSetup}
use Rattle.ch11_file.specs.FileBlocks.{BlockContent, FileBlock, block_header}
use Rattle.ch11_file.specs.FileBlocks.BlockContent.{SetupBlock, TimeBlock, PieceBlock, NodeBlock, RootBlock}
use Rattle.ch11_file.specs.WholeFile.{FileFacts, FileState, MergeState, BlockGoesNext, GoOut, IsWholeFile, block_channel, counter_at, file_start}

-- what holds of a piece holds of its part that goes out, and of what stays
pub record IsOfParts (P : ℕ → FilePiece → Type 0) : Type 0 where
  pub before : (channel tick : ℕ) (piece : FilePiece) → is_due tick (head_of_piece piece) ≡ false → P channel piece
      → P channel (part_before tick piece)
  pub behind : (channel tick : ℕ) (piece : FilePiece) → P channel piece → AllByRecursion (P channel) (part_from tick piece)

-- it holds of all pieces that are left
abbrev pub AllLeftHave : (P : ℕ → FilePiece → Type 0) → List ChannelLeft → Type 0
AllLeftHave P left = (at : ℕ) (c : ChannelLeft) → slice_get left at ≡ Some c → AllByRecursion (P c.channel) c.pieces

-- a packet has the counter of its piece, if that has one
abbrev pub HasHead : Head → (counter : ℕ) → Type 0
HasHead (At own) counter = counter ≡ own
HasHead Uncounted counter = Unit {0}
HasHead End counter = Unit {0}

abbrev pub ContentHas : (P : ℕ → FilePiece → Type 0) → BlockContent → (counter : ℕ) → Type 0
ContentHas P (SetupBlock text) counter = Unit {0}
ContentHas P (TimeBlock is_external time) counter = Unit {0}
ContentHas P (PieceBlock channel piece) counter = P channel piece × HasHead (head_of_piece piece) counter
ContentHas P (NodeBlock entries) counter = Unit {0}
ContentHas P (RootBlock nodes last) counter = Unit {0}

-- what is known of a packet of a file
pub record IsOut (setup : FileSetup) (P : ℕ → FilePiece → Type 0) (b : FileBlock) : Type 0 where
  pub header : IsHeader (block_header b)
  pub channel : b.channel ≡ block_channel setup b.content
  pub content : ContentHas P b.content b.counter

-- ---- one piece

pub all_append : {X : Type 0} (P : X → Type 0) (xs ys : List X) → AllByRecursion P xs → AllByRecursion P ys → AllByRecursion P (xs ++ ys)
all_append P [] ys a b = b
all_append P (x ∷ xs) ys a b = (a.0, all_append P xs ys a.1 b)

taken_has : (P : ℕ → FilePiece → Type 0) → IsOfParts P → (channel tick : ℕ) (old : List FilePiece) (taken : FilePiece) (new : List FilePiece)
    → TakesPart tick old taken new → is_due tick (head_of old) ≡ false → AllByRecursion (P channel) old
    → P channel taken × AllByRecursion (P channel) new
taken_has P parts channel tick [] taken new t early all = absurd t
taken_has P parts channel tick (p ∷ ps) taken new t early all = (
  subst (P channel) (sym t.0) (parts.before channel tick p early all.0),
  subst (AllByRecursion (P channel)) (sym t.1) (all_append (P channel) (part_from tick p) ps (parts.behind channel tick p all.0) all.1),
)

-- the piece that goes out has it, and those that are left
next_has : (P : ℕ → FilePiece → Type 0) → IsOfParts P → (tick : ℕ) (old : List ChannelLeft) (channel : ℕ) (piece : FilePiece) (new : List ChannelLeft)
    → PieceIsNext tick old channel piece new → AllLeftHave P old → P channel piece × AllLeftHave P new
next_has P parts tick old channel piece new next all =
    let there = all next.at next.of next.is_next.there in
    let had = taken_has P parts next.of.channel tick next.of.pieces piece next.rest next.takes next.early there in
    let left = channel_with channel next.rest in (
      subst (λ c. P c piece) next.named had.0,
      subst (AllLeftHave P) (sym next.others) (λ at c is. elim (set_cases old next.at left at c is) as (λ _. AllByRecursion (P c.channel) c.pieces) [
        | inl here ↦ subst (λ (d : ChannelLeft). AllByRecursion (P d.channel) d.pieces) (sym here.1)
            (subst (λ n. AllByRecursion (P n) next.rest) next.named had.1)
        | inr away ↦ all at c away.1
      ]),
    )

head_counter : (greatest counter : ℕ) (head : Head) → counter ≡ counter_at greatest head → HasHead head counter
head_counter greatest counter (At own) is = is
head_counter greatest counter Uncounted is = tt
head_counter greatest counter End is = tt

-- ---- all packets

all_out : (P : ℕ → FilePiece → Type 0) → IsOfParts P → (facts : FileFacts) (old new : FileState) (blocks : List FileBlock) → GoOut facts old blocks new
    → AllLeftHave P old.merge.left → AllByRecursion (IsOut facts.setup P) blocks
all_out P parts facts old new [] go all = tt
all_out P parts facts old new (b ∷ blocks) go all =
    let had = step b.content go.1.goes in (
      record { header = go.1.header; channel = go.1.channel; content = had.0 },
      all_out P parts facts go.0 new blocks go.2 had.1,
    )
  where
    step : (content : BlockContent) → BlockGoesNext facts old content b go.0 → ContentHas P content b.counter × AllLeftHave P go.0.merge.left
    step (SetupBlock text) n = (tt, subst (λ (s : MergeState). AllLeftHave P s.left) (sym n.goes.new_is) all)
    step (TimeBlock e time) n = (tt, subst (λ (s : MergeState). AllLeftHave P s.left) (sym n.goes.new_is) all)
    step (PieceBlock c piece) n =
        let had = next_has P parts old.merge.tick old.merge.left c piece n.goes.left n.goes.is_next all in (
          (had.0, head_counter old.index.greatest b.counter (head_of_piece piece) n.goes.counter_is),
          subst (λ (s : MergeState). AllLeftHave P s.left) (sym n.goes.new_is) had.1,
        )
    step (NodeBlock entries) n = (tt, subst (λ (s : FileState). AllLeftHave P s.merge.left) (sym n.new_is) all)
    step (RootBlock nodes last) n = (tt, subst (λ (s : FileState). AllLeftHave P s.merge.left) (sym n.new_is) all)

pub file_out : (P : ℕ → FilePiece → Type 0) → IsOfParts P → (facts : FileFacts) (blocks : List FileBlock) → IsWholeFile facts blocks
    → AllLeftHave P facts.channels → AllByRecursion (IsOut facts.setup P) blocks
file_out P parts facts blocks (end, begins, over) all = all_out P parts facts (file_start facts begins.first) end blocks begins.go all
