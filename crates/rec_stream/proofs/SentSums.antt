-- What is known of packets that went out, with one more: their bytes, their greatest counter, and their counts.
use Rattle.std.proofs.Common.{ℕ, ◌+◌, ◌≡◌, List, [], ◌∷◌, ◌++◌, refl, ap, ◌∙◌, arith, append-nil, if◌then◌else◌}
use Rattle.std.specs.Prelude.{◌==◌, max}
use Rattle.std.proofs.lemmas.List.Sums.{sum_by-append}
use Rattle.std.proofs.lemmas.Grind.{flat_map-append}
use Rattle.ch11_merge.specs.Merging.FilePiece.{OfFrames, OfRecord}
use Rattle.ch11_file.specs.FileBlocks.{BlockContent, FileBlock, block_packet, blocks_of, data_type, file_bytes, kind_of}
use Rattle.ch11_file.specs.FileBlocks.BlockContent.{SetupBlock, TimeBlock, PieceBlock, NodeBlock, RootBlock}
use Rattle.rec_reader.specs.Channels.{capped}
use Rattle.rec_stream.specs.declared.counts.StreamCounts.{StreamCounts}
use Rattle.rec_stream.specs.Streams.{late_behind, late_of}
use Rattle.rec_stream.specs.LatePieces.{late_one}
use Rattle.rec_stream.specs.SentStates.{stream_counts_behind}
use Rattle.rec_stream.specs.Sending.{greatest_of}

pub bytes_more : (blocks : List FileBlock) (b : FileBlock) → file_bytes (blocks ++ b ∷ []) ≡ file_bytes blocks ++ block_packet b
bytes_more blocks b = flat_map-append block_packet blocks (b ∷ []) ∙ ap (λ l. file_bytes blocks ++ l) (append-nil (block_packet b))

pub greatest_more : (greatest : ℕ) (blocks : List FileBlock) (b : FileBlock)
    → greatest_of greatest (blocks ++ b ∷ []) ≡ max (greatest_of greatest blocks) b.counter
greatest_more greatest [] b = refl
greatest_more greatest (a ∷ blocks) b = greatest_more (max greatest a.counter) blocks b

pub late_more : (greatest : ℕ) (blocks : List FileBlock) (b : FileBlock)
    → late_behind greatest (blocks ++ b ∷ []) ≡ late_behind greatest blocks + late_of (greatest_of greatest blocks) b.content b.counter
late_more greatest [] b = omega arith
late_more greatest (a ∷ blocks) b =
    let rest = late_more (max greatest a.counter) blocks b in
    omega (arith, rest)

pub of_more : (type : ℕ) (blocks : List FileBlock) (b : FileBlock)
    → blocks_of type (blocks ++ b ∷ []) ≡ blocks_of type blocks + (if data_type (kind_of b.content) == type then 1 else 0)
of_more type blocks b = sum_by-append (λ (a : FileBlock). if data_type (kind_of a.content) == type then 1 else 0) blocks (b ∷ []) ∙ omega arith

-- ---- counts

one_more : (a n : ℕ) → a ≡ capped n → capped (a + 1) ≡ capped (n + 1)
one_more a n is = omega (arith, is)

some_more : (a n m : ℕ) → a ≡ capped n → capped (a + m) ≡ capped (n + m)
some_more a n m is = omega (arith, is)

none_more : (a n : ℕ) → a ≡ capped n → a ≡ capped (n + 0)
none_more a n is = omega (arith, is)

pub packets_count : (greatest : ℕ) (c : StreamCounts) (content : BlockContent) (counter n : ℕ) → c.packets ≡ capped n
    → (stream_counts_behind greatest c (kind_of content) counter).packets ≡ capped (n + (if data_type (kind_of content) == 104 then 1 else 0))
packets_count greatest c (SetupBlock text) counter n is = none_more c.packets n is
packets_count greatest c (TimeBlock e time) counter n is = none_more c.packets n is
packets_count greatest c (PieceBlock channel (OfFrames place frames)) counter n is = one_more c.packets n is
packets_count greatest c (PieceBlock channel (OfRecord place own body)) counter n is = none_more c.packets n is
packets_count greatest c (NodeBlock entries) counter n is = none_more c.packets n is
packets_count greatest c (RootBlock nodes last) counter n is = none_more c.packets n is

pub records_count : (greatest : ℕ) (c : StreamCounts) (content : BlockContent) (counter n : ℕ) → c.records ≡ capped n
    → (stream_counts_behind greatest c (kind_of content) counter).records ≡ capped (n + (if data_type (kind_of content) == 0 then 1 else 0))
records_count greatest c (SetupBlock text) counter n is = none_more c.records n is
records_count greatest c (TimeBlock e time) counter n is = none_more c.records n is
records_count greatest c (PieceBlock channel (OfFrames place frames)) counter n is = none_more c.records n is
records_count greatest c (PieceBlock channel (OfRecord place own body)) counter n is = one_more c.records n is
records_count greatest c (NodeBlock entries) counter n is = none_more c.records n is
records_count greatest c (RootBlock nodes last) counter n is = none_more c.records n is

pub times_count : (greatest : ℕ) (c : StreamCounts) (content : BlockContent) (counter n : ℕ) → c.times ≡ capped n
    → (stream_counts_behind greatest c (kind_of content) counter).times ≡ capped (n + (if data_type (kind_of content) == 17 then 1 else 0))
times_count greatest c (SetupBlock text) counter n is = none_more c.times n is
times_count greatest c (TimeBlock e time) counter n is = one_more c.times n is
times_count greatest c (PieceBlock channel (OfFrames place frames)) counter n is = none_more c.times n is
times_count greatest c (PieceBlock channel (OfRecord place own body)) counter n is = none_more c.times n is
times_count greatest c (NodeBlock entries) counter n is = none_more c.times n is
times_count greatest c (RootBlock nodes last) counter n is = none_more c.times n is

pub late_count : (greatest : ℕ) (c : StreamCounts) (content : BlockContent) (counter n : ℕ) → c.late ≡ capped n
    → (stream_counts_behind greatest c (kind_of content) counter).late ≡ capped (n + late_of greatest content counter)
late_count greatest c (SetupBlock text) counter n is = none_more c.late n is
late_count greatest c (TimeBlock e time) counter n is = none_more c.late n is
late_count greatest c (PieceBlock channel (OfFrames place frames)) counter n is = some_more c.late n (late_one greatest counter) is
late_count greatest c (PieceBlock channel (OfRecord place own body)) counter n is = some_more c.late n (late_one greatest counter) is
late_count greatest c (NodeBlock entries) counter n is = none_more c.late n is
late_count greatest c (RootBlock nodes last) counter n is = none_more c.late n is
