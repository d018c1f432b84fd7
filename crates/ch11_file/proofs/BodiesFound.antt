-- The bodies of a whole file's packets are read back: its numbers have their widths, where the file isn't too long.
use Rattle.std.proofs.Common.{ℕ, ◌+◌, ◌≡◌, ◌<◌, List, [], ◌∷◌, ◌++◌, length, Option, None, Some, refl, sym, subst, ap, arith}
use Rattle.std.specs.Prelude.{◌^◌, IfSome, unwrap_or}
use Rattle.std.specs.Int.{w32, to_le_bytes}
use Rattle.std.specs.List.{AllByRecursion, flat_map}
use Rattle.std.proofs.lemmas.List.{length-append}
use Rattle.ch11_packet.specs.Header.{IsHeader}
use Rattle.ch11_packet.specs.Profiles.Profile.{WithSum}
use Rattle.ch11_packet.proofs.Lengths.{length-packet}
use Rattle.ch11_index.specs.declared.entry.NodeEntry.{NodeEntry}
use Rattle.ch11_index.specs.declared.entry.RootEntry.{RootEntry}
use Rattle.ch11_index.specs.IndexBytes.{node_entry_bytes, root_entry_bytes, node_bytes, root_bytes}
use Rattle.ch11_index.specs.IndexBodies.{IsNodeEntry, IsRootEntry}
use Rattle.ch11_index.specs.FileIndex.{IndexState, after_packet, after_node, after_root, here_of, empty_index}
use Rattle.ch11_index.proofs.BodiesRead.{node_read, root_read, all_with}
use Rattle.ch11_clock.proofs.TimesRead.{time_read}
use Rattle.ch11_file.specs.FileBlocks.{BlockContent, FileBlock, block_body, block_header, block_len, block_packet, file_bytes, named_of}
use Rattle.ch11_file.specs.FileBlocks.BlockContent.{SetupBlock, TimeBlock, PieceBlock, NodeBlock, RootBlock}
use Rattle.ch11_file.specs.WholeFile.{FileFacts, FileState, BlockGoesNext, GoOut, IsWholeFile, NodeGoesNext, RootGoesNext}
use Rattle.ch11_file.specs.BodiesSaid.{SaysContent}
use Rattle.ch11_file.proofs.IndexLengths.{rows_len}

-- ---- what the index knows

-- the numbers of all that is named have their widths, and so has what comes next
record IndexFits (s : IndexState) : Type 0 where
  pub packets : AllByRecursion IsNodeEntry s.packets
  pub nodes : AllByRecursion IsRootEntry s.nodes
  pub root : IfSome s.root IsRootEntry
  pub greatest : s.greatest < 2 ^ 48

nothing_named : (most : ℕ) → IndexFits (empty_index most)
nothing_named most = record { packets = tt; nodes = tt; root = tt; greatest = omega arith }

here_fits : (s : IndexState) → IndexFits s → s.place < 2 ^ 64 → IsRootEntry (here_of s)
here_fits s fit place = record { counter_in = let greatest = fit.greatest in omega (arith, greatest); at_in = place }

last_fits : (root : Option RootEntry) (here : RootEntry) → IfSome root IsRootEntry → IsRootEntry here → IsRootEntry (unwrap_or root here)
last_fits None here fit is = is
last_fits (Some before) here fit is = fit

header_in : (b : FileBlock) → IsHeader (block_header b) → (b.counter < 2 ^ 48) × (b.channel < 2 ^ 16)
unfolding block_header
header_in b header = (header.counter, header.channel)

packet_fits : (s : IndexState) (b : FileBlock) → IndexFits s → s.place < 2 ^ 64 → IsHeader (block_header b) → IndexFits (after_packet s (named_of b))
packet_fits s b fit place header =
    let ranges = header_in b header in
    let greatest = fit.greatest in
    let counter = ranges.0 in record {
      packets = all_with IsNodeEntry s.packets _ fit.packets (record { counter_in = omega (arith, counter); channel_in = ranges.1; at_in = place });
      nodes = fit.nodes;
      root = fit.root;
      greatest = omega (arith, greatest, counter);
    }

node_fits_on : (s : IndexState) (len : ℕ) → IndexFits s → s.place < 2 ^ 64 → IndexFits (after_node s len)
node_fits_on s len fit place = record {
  packets = tt;
  nodes = all_with IsRootEntry s.nodes (here_of s) fit.nodes (here_fits s fit place);
  root = fit.root;
  greatest = fit.greatest;
}

root_fits_on : (s : IndexState) (len : ℕ) → IndexFits s → s.place < 2 ^ 64 → IndexFits (after_root s len)
root_fits_on s len fit place = record { packets = fit.packets; nodes = tt; root = here_fits s fit place; greatest = fit.greatest }

-- ---- a packet

body_len : (b : FileBlock) → IsHeader (block_header b) → length (block_body b.content) < 2 ^ 32
unfolding block_header
body_len b header = let holds = header.lengths.holds in let len = header.packet_len in omega (arith, holds, len)

few_entries : (entries : List NodeEntry) → length (node_bytes entries) < 2 ^ 32 → length entries < 2 ^ 31
few_entries entries len =
    let rows = rows_len node_entry_bytes 20 (λ x. refl) entries in
    let whole = length-append (to_le_bytes w32 (2 ^ 31 + length entries)) (flat_map node_entry_bytes entries) in
    omega (arith, len, rows, whole)

few_nodes : (nodes : List RootEntry) (last : RootEntry) → length (root_bytes nodes last) < 2 ^ 32 → length nodes + 1 < 2 ^ 31
few_nodes nodes last len =
    let rows = rows_len root_entry_bytes 16 (λ x. refl) nodes in
    let behind = length-append (flat_map root_entry_bytes nodes) (root_entry_bytes last) in
    let whole = length-append (to_le_bytes w32 (length nodes + 1)) (flat_map root_entry_bytes nodes ++ root_entry_bytes last) in
    omega (arith, len, rows, behind, whole)

-- a packet says what it holds, and what is named behind it fits
record IsSaid (content : BlockContent) (len : ℕ) (old new : IndexState) : Type 0 where
  pub says : SaysContent content
  pub fits : IndexFits new
  pub place_is : new.place ≡ old.place + len

module _ (facts : FileFacts) (old new : FileState) where
  named_said : (b : FileBlock) (content : BlockContent) → IndexFits old.index → old.index.place < 2 ^ 64 → IsHeader (block_header b)
      → new.index ≡ after_packet old.index (named_of b) → SaysContent content → IsSaid content (block_len b) old.index new.index
  named_said b content fit place header is says = record {
    says = says;
    fits = subst IndexFits (sym is) (packet_fits old.index b fit place header);
    place_is = ap (λ (i : IndexState). i.place) is;
  }

  node_said : (b : FileBlock) (entries : List NodeEntry) → IndexFits old.index → old.index.place < 2 ^ 64 → length (node_bytes entries) < 2 ^ 32
      → NodeGoesNext old entries b new → IsSaid (NodeBlock entries) (block_len b) old.index new.index
  node_said b entries fit place len goes = record {
    says = node_read entries (few_entries entries len) (subst (AllByRecursion IsNodeEntry) (sym goes.entries_are) fit.packets);
    fits = subst IndexFits (sym (ap (λ (s : FileState). s.index) goes.new_is)) (node_fits_on old.index (block_len b) fit place);
    place_is = ap (λ (s : FileState). s.index.place) goes.new_is;
  }

  root_said : (b : FileBlock) (nodes : List RootEntry) (last : RootEntry) → IndexFits old.index → old.index.place < 2 ^ 64
      → length (root_bytes nodes last) < 2 ^ 32 → RootGoesNext old nodes last b new → IsSaid (RootBlock nodes last) (block_len b) old.index new.index
  root_said b nodes last fit place len goes = record {
    says = root_read nodes last (few_nodes nodes last len) (subst (AllByRecursion IsRootEntry) (sym goes.nodes_are) fit.nodes)
        (subst IsRootEntry (sym goes.last_is) (last_fits old.index.root (here_of old.index) fit.root (here_fits old.index fit place)));
    fits = subst IndexFits (sym (ap (λ (s : FileState). s.index) goes.new_is)) (root_fits_on old.index (block_len b) fit place);
    place_is = ap (λ (s : FileState). s.index.place) goes.new_is;
  }

  content_said : (b : FileBlock) (content : BlockContent) → IndexFits old.index → old.index.place < 2 ^ 64 → IsHeader (block_header b)
      → length (block_body content) < 2 ^ 32 → BlockGoesNext facts old content b new → IsSaid content (block_len b) old.index new.index
  content_said b (SetupBlock text) fit place header len goes = named_said b (SetupBlock text) fit place header goes.index_is refl
  content_said b (TimeBlock is_external time) fit place header len goes =
      named_said b (TimeBlock is_external time) fit place header goes.index_is (time_read is_external time goes.goes.tells.valid)
  content_said b (PieceBlock c piece) fit place header len goes = named_said b (PieceBlock c piece) fit place header goes.index_is tt
  content_said b (NodeBlock entries) fit place header len goes = node_said b entries fit place len goes
  content_said b (RootBlock nodes last) fit place header len goes = root_said b nodes last fit place len goes

-- ---- all packets

packet_len_is : (b : FileBlock) → length (block_packet b) ≡ block_len b
unfolding block_packet block_len
packet_len_is b = length-packet WithSum (block_header b) (block_body b.content)

all_said : (facts : FileFacts) (old end : FileState) (blocks : List FileBlock) → GoOut facts old blocks end → IndexFits old.index
    → old.index.place + length (file_bytes blocks) < 2 ^ 64 → AllByRecursion (λ (b : FileBlock). SaysContent b.content) blocks
all_said facts old end [] go fit room = tt
all_said facts old end (b ∷ blocks) go fit room =
    let len = packet_len_is b in
    let whole = length-append (block_packet b) (file_bytes blocks) in
    let said = content_said facts old go.0 b b.content fit (omega (arith, room)) go.1.header (body_len b go.1.header) go.1.goes in
    let place = said.place_is in (
      said.says,
      all_said facts go.0 end blocks go.2 said.fits (omega (arith, room, len, whole, place)),
    )

pub bodies_said : (facts : FileFacts) (blocks : List FileBlock) → IsWholeFile facts blocks → length (file_bytes blocks) < 2 ^ 64
    → AllByRecursion (λ (b : FileBlock). SaysContent b.content) blocks
bodies_said facts blocks (end, begins, over) few =
    all_said facts _ end blocks begins.go (nothing_named facts.most) (omega (arith, few))
