-- What a reader that takes the bodies of a file's packets apart finds in them.
use Rattle.std.specs.Prelude.{◌≡◌, drop}
use Rattle.ch11_clock.specs.TimeRead.{SaysCivilTime}
use Rattle.ch11_index.specs.IndexBodies.{HoldsNode, HoldsRoot}
use Rattle.ch11_file.specs.FileBlocks.{BlockContent, block_body}
use Rattle.ch11_file.specs.FileBlocks.BlockContent.{SetupBlock, TimeBlock, PieceBlock, NodeBlock}
use Rattle.ch11_file.specs.FileBlocks.BlockContent.{RootBlock}

-- the text of a setup record behind its word, a time with its source, and the entries of a node and
-- of a root
abbrev pub SaysContent : BlockContent → Type 0
SaysContent (SetupBlock text) = drop 4 (block_body (SetupBlock text)) ≡ text
SaysContent (TimeBlock is_external time) =
    SaysCivilTime (block_body (TimeBlock is_external time)) is_external time
SaysContent (PieceBlock channel piece) = Unit {0}
SaysContent (NodeBlock entries) = HoldsNode (block_body (NodeBlock entries)) entries
SaysContent (RootBlock nodes last) = HoldsRoot (block_body (RootBlock nodes last)) nodes last
