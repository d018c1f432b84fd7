-- Packets that hold something go out: those that the index names, nodes, and roots.
use Rattle.std.proofs.Common.{ℕ, ◌+◌, ◌≡◌, ◌≤◌, ◌<◌, List, length, take, Option, None, refl, sym, subst, ap, ◌∙◌}
use Rattle.std.specs.Prelude.{◌^◌, ◌%◌, slice_index, slice_set}
use Rattle.std.specs.Io.KnownBytes.{Appends}
use Rattle.ch11_packet.specs.Header.{IsHeader}
use Rattle.ch11_packet.specs.PacketLen.{written_len}
use Rattle.ch11_packet.specs.Profiles.Profile.{WithSum}
use Rattle.ch11_index.specs.declared.index.IndexPacket.{IndexPacket}
use Rattle.ch11_index.specs.declared.index.IndexPacket.TheVariants.{Node, Root}
use Rattle.ch11_index.specs.FileIndex.{IndexState, after_packet, after_node, after_root, after_index_packet, index_body, last_entry, due}
use Rattle.ch11_file.specs.declared.kind.BlockKind.{BlockKind}
use Rattle.ch11_file.specs.declared.kind.BlockKind.TheVariants.{Setup, Index}
use Rattle.ch11_file.specs.declared.limits.TheConstants.{MAX_SETUP_LEN}
use Rattle.ch11_file.specs.declared.setup.FileSetup.{FileSetup}
use Rattle.ch11_file.specs.FileBlocks.{FileBlock, BlockContent, block_header, block_packet, block_len, block_body, kind_of, named_of}
use Rattle.ch11_file.specs.FileBlocks.BlockContent.{SetupBlock, TimeBlock, PieceBlock, NodeBlock, RootBlock}
use Rattle.ch11_file.specs.WholeFile.{FileFacts, FileState, MergeState, BlockGoesNext, ContentGoesNext, IndexIsDue, block_channel, file_state}
use Rattle.ch11_file.specs.FileEnds.{HoldsFront}
use Rattle.ch11_file.specs.Sending.{SentState, HasSent, IsContent, WritesWhole, WritesPart, HasValidHeader, bytes_with, named_with, sent_state, counts_behind}
use Rattle.ch11_file.proofs.GoingOut.{sent_more, part_more}

-- ---- a packet and what its code says of it

abbrev pub block_of : (channel sequence counter : ℕ) → BlockContent → FileBlock
block_of channel sequence counter content = record { channel = channel; sequence = sequence; counter = counter; content = content }

-- the packet that holds this, with the next number of its channel
abbrev pub block_sent : SentState → FileSetup → BlockContent → (counter : ℕ) → FileBlock
block_sent sent setup content counter =
    block_of (block_channel setup content) (slice_index sent.numbers (block_channel setup content)) counter content

record IsOfBlock (sent : SentState) (setup : FileSetup) (content : BlockContent) (kind : BlockKind) (channel counter : ℕ) (body : List ℕ) : Type 0 where
  pub header : IsHeader (block_header (block_sent sent setup content counter))
  pub bytes : bytes_with sent kind channel counter body ≡ block_packet (block_sent sent setup content counter)
  pub len : written_len WithSum (length body) ≡ block_len (block_sent sent setup content counter)
  pub fits : block_channel setup content < 2 ^ 16

of_block : (sent : SentState) (setup : FileSetup) (content : BlockContent) (counter : ℕ)
    → HasValidHeader sent (kind_of content) (block_channel setup content) counter (block_body content)
    → IsOfBlock sent setup content (kind_of content) (block_channel setup content) counter (block_body content)
unfolding block_header block_packet block_len
of_block sent setup content counter header = record { header = header; bytes = refl; len = refl; fits = header.channel }

is_of_block : (sent : SentState) (setup : FileSetup) (content : BlockContent) (kind : BlockKind) (channel counter : ℕ) (body : List ℕ)
    → IsContent setup content kind channel body → HasValidHeader sent kind channel counter body → IsOfBlock sent setup content kind channel counter body
is_of_block sent setup content kind channel counter body is header =
    let h1 = subst (λ (k : BlockKind). HasValidHeader sent k channel counter body) is.kind_is header in
    let h2 = subst (λ (n : ℕ). HasValidHeader sent (kind_of content) n counter body) is.channel_is h1 in
    let h3 = subst (λ (l : List ℕ). HasValidHeader sent (kind_of content) (block_channel setup content) counter l) is.body_is h2 in
    let o1 = of_block sent setup content counter h3 in
    let o2 = subst (λ (l : List ℕ). IsOfBlock sent setup content (kind_of content) (block_channel setup content) counter l) (sym is.body_is) o1 in
    let o3 = subst (λ (n : ℕ). IsOfBlock sent setup content (kind_of content) n counter body) (sym is.channel_is) o2 in
    subst (λ (k : BlockKind). IsOfBlock sent setup content k channel counter body) (sym is.kind_is) o3

-- a setup record isn't too long
abbrev pub SetupFits : BlockKind → (len : ℕ) → Type 0
SetupFits kind len = kind ≡ Setup → len ≤ MAX_SETUP_LEN

setup_fits : (sent : SentState) (setup : FileSetup) (content : BlockContent) (kind : BlockKind) (channel counter : ℕ) (body : List ℕ)
    → IsContent setup content kind channel body → IsOfBlock sent setup content kind channel counter body
    → SetupFits kind (written_len WithSum (length body)) → SetupFits (kind_of content) (block_len (block_sent sent setup content counter))
setup_fits sent setup content kind channel counter body is of fits = λ e. subst (λ n. n ≤ MAX_SETUP_LEN) of.len (fits (is.kind_is ∙ e))

no_setup : (kind : BlockKind) (len : ℕ) → kind ≡ Index → SetupFits kind len
no_setup kind len is e = absurd (differ (sym is ∙ e))
  where
    differ : Index ≡ Setup → ⊥
    differ same = cc

-- ---- it goes out whole

record IsNoted (mid new : SentState) (kind : BlockKind) (len place : ℕ) : Type 0 where
  pub numbers : new.numbers ≡ mid.numbers
  pub counts : new.counts ≡ counts_behind mid.counts kind len
  pub place_is : new.index.place ≡ place + len

whole_out : (facts : FileFacts) (before held now : Option (List ℕ)) (old mid new : SentState) (merge next : MergeState) (kind : BlockKind)
    (channel counter : ℕ) (body : List ℕ) (len : ℕ) (content : BlockContent) → HasSent facts before held old merge
    → IsContent facts.setup content kind channel body → WritesWhole old kind channel counter body held now len mid
    → SetupFits kind (written_len WithSum (length body)) → IsNoted mid new kind len old.index.place
    → BlockGoesNext facts (file_state old.index merge) content (block_sent old facts.setup content counter) (file_state new.index next)
    → HasSent facts before now new next
whole_out facts before held now old mid new merge next kind channel counter body len content sent is wrote fits noted goes =
    let b = block_sent old facts.setup content counter in
    let of = is_of_block old facts.setup content kind channel counter body is wrote.header in
    let len_is : len ≡ block_len b = wrote.len_is ∙ of.len in
    let same : channel ≡ block_channel facts.setup content = is.channel_is in
    let numbers_are : mid.numbers ≡ slice_set old.numbers channel ((slice_index old.numbers channel + 1) % 256) =
    ap (λ (s : SentState). s.numbers) wrote.new_is in
    let counts_are : mid.counts ≡ old.counts = ap (λ (s : SentState). s.counts) wrote.new_is in
    sent_more facts before held now old new merge next b sent
    (record {
      channel = refl;
      header = of.header;
      setup_fits = setup_fits old facts.setup content kind channel counter body is of fits;
      goes = goes;
    })
    (record {
      sequence = refl;
      fits = of.fits;
      numbers = noted.numbers ∙ numbers_are ∙ ap (λ c. slice_set old.numbers c ((slice_index old.numbers c + 1) % 256)) same;
      place = noted.place_is ∙ ap (λ n. old.index.place + n) len_is;
      counts = noted.counts ∙ ap (λ c. counts_behind c kind len) counts_are ∙ ap (λ k. counts_behind old.counts k len) is.kind_is
          ∙ ap (λ n. counts_behind old.counts (kind_of content) n) len_is;
    })
    (subst (Appends held now) of.bytes wrote.grows)

part_out : (facts : FileFacts) (before held now : Option (List ℕ)) (old : SentState) (new : FileState) (merge : MergeState) (kind : BlockKind)
    (channel counter : ℕ) (body : List ℕ) (content : BlockContent) → HasSent facts before held old merge
    → IsContent facts.setup content kind channel body → WritesPart old kind channel counter body held now
    → SetupFits kind (written_len WithSum (length body))
    → BlockGoesNext facts (file_state old.index merge) content (block_sent old facts.setup content counter) new
    → HoldsFront facts before now
part_out facts before held now old new merge kind channel counter body content sent is wrote fits goes =
    let b = block_sent old facts.setup content counter in
    let of = is_of_block old facts.setup content kind channel counter body is wrote.header in
    part_more facts before held now old new merge b wrote.len sent
    (record {
      channel = refl;
      header = of.header;
      setup_fits = setup_fits old facts.setup content kind channel counter body is of fits;
      goes = goes;
    })
    refl of.fits
    (subst (λ l. Appends held now (take wrote.len l)) of.bytes wrote.grows)

-- ---- a packet that the index names

named_goes : (facts : FileFacts) (old new : FileState) (content : BlockContent) (channel sequence counter : ℕ) → due old.index ≡ None
    → ContentGoesNext facts old.index.greatest old.merge content counter new.merge
    → new.index ≡ after_packet old.index (named_of (block_of channel sequence counter content))
    → BlockGoesNext facts old content (block_of channel sequence counter content) new
named_goes facts old new (SetupBlock text) channel sequence counter none goes is = record { none_due = none; goes = goes; index_is = is }
named_goes facts old new (TimeBlock is_external time) channel sequence counter none goes is = record { none_due = none; goes = goes; index_is = is }
named_goes facts old new (PieceBlock c piece) channel sequence counter none goes is = record { none_due = none; goes = goes; index_is = is }
named_goes facts old new (NodeBlock entries) channel sequence counter none goes is = absurd goes
named_goes facts old new (RootBlock nodes last) channel sequence counter none goes is = absurd goes

pub put_whole : (facts : FileFacts) (before held now : Option (List ℕ)) (old mid new : SentState) (merge next : MergeState) (kind : BlockKind)
    (channel counter : ℕ) (body : List ℕ) (len : ℕ) (content : BlockContent) → HasSent facts before held old merge
    → IsContent facts.setup content kind channel body → due old.index ≡ None
    → ContentGoesNext facts old.index.greatest merge content counter next → WritesWhole old kind channel counter body held now len mid
    → SetupFits kind (written_len WithSum (length body))
    → new ≡ sent_state mid.numbers (after_packet mid.index (named_with kind channel counter len)) (counts_behind mid.counts kind len)
    → HasSent facts before now new next
put_whole facts before held now old mid new merge next kind channel counter body len content sent is none goes wrote fits noted =
    let b = block_sent old facts.setup content counter in
    let of = is_of_block old facts.setup content kind channel counter body is wrote.header in
    let index_was : mid.index ≡ old.index = ap (λ (s : SentState). s.index) wrote.new_is in
    let index_is : new.index ≡ after_packet old.index (named_with kind channel counter len) =
    ap (λ (s : SentState). s.index) noted ∙ ap (λ i. after_packet i (named_with kind channel counter len)) index_was in
    let packet_is : named_with kind channel counter len ≡ named_of b =
    ap (λ k. named_with k channel counter len) is.kind_is ∙ ap (λ n. named_with (kind_of content) n counter len) is.channel_is
    ∙ ap (λ n. named_with (kind_of content) (block_channel facts.setup content) counter n) (wrote.len_is ∙ of.len) in
    whole_out facts before held now old mid new merge next kind channel counter body len content sent is wrote fits
    (record {
      numbers = ap (λ (s : SentState). s.numbers) noted;
      counts = ap (λ (s : SentState). s.counts) noted;
      place_is = ap (λ (i : IndexState). i.place) index_is;
    })
    (named_goes facts (file_state old.index merge) (file_state new.index next) content (block_channel facts.setup content)
    (slice_index old.numbers (block_channel facts.setup content)) counter none goes (index_is ∙ ap (after_packet old.index) packet_is))

pub put_part : (facts : FileFacts) (before held now : Option (List ℕ)) (old : SentState) (merge next : MergeState) (kind : BlockKind)
    (channel counter : ℕ) (body : List ℕ) (content : BlockContent) → HasSent facts before held old merge
    → IsContent facts.setup content kind channel body → due old.index ≡ None
    → ContentGoesNext facts old.index.greatest merge content counter next → WritesPart old kind channel counter body held now
    → SetupFits kind (written_len WithSum (length body)) → HoldsFront facts before now
put_part facts before held now old merge next kind channel counter body content sent is none goes wrote fits =
    let b = block_sent old facts.setup content counter in
    part_out facts before held now old (file_state (after_packet old.index (named_of b)) next) merge kind channel counter body content sent is wrote fits
    (named_goes facts (file_state old.index merge) (file_state (after_packet old.index (named_of b)) next) content (block_channel facts.setup content)
    (slice_index old.numbers (block_channel facts.setup content)) counter none goes refl)

-- ---- packets of the index

-- what a packet of the index holds that goes out now
abbrev index_block : IndexState → IndexPacket → BlockContent
index_block s Node = NodeBlock s.packets
index_block s Root = RootBlock s.nodes (last_entry s)

index_content : (setup : FileSetup) (s : IndexState) (packet : IndexPacket) (kind : BlockKind) (channel : ℕ) (body : List ℕ) → kind ≡ Index
    → channel ≡ 0 → body ≡ index_body s packet → IsContent setup (index_block s packet) kind channel body
index_content setup s Node kind channel body k c b = record { kind_is = k; channel_is = c; body_is = b }
index_content setup s Root kind channel body k c b = record { kind_is = k; channel_is = c; body_is = b }

index_goes : (facts : FileFacts) (s : IndexState) (merge : MergeState) (packet : IndexPacket) (channel sequence counter len : ℕ)
    → IndexIsDue packet s merge → counter ≡ s.greatest
    → len ≡ block_len (block_of channel sequence counter (index_block s packet))
    → BlockGoesNext facts (file_state s merge) (index_block s packet) (block_of channel sequence counter (index_block s packet))
    (file_state (after_index_packet s packet len) merge)
index_goes facts s merge Node channel sequence counter len due_is g l =
    record { is_due = due_is; entries_are = refl; counter_is = g; new_is = ap (λ n. file_state (after_node s n) merge) l }
index_goes facts s merge Root channel sequence counter len due_is g l =
    record { is_due = due_is; nodes_are = refl; last_is = refl; counter_is = g; new_is = ap (λ n. file_state (after_root s n) merge) l }

place_behind : (s : IndexState) (packet : IndexPacket) (len : ℕ) → (after_index_packet s packet len).place ≡ s.place + len
place_behind s Node len = refl
place_behind s Root len = refl

pub index_whole : (facts : FileFacts) (before held now : Option (List ℕ)) (old mid new : SentState) (merge : MergeState) (packet : IndexPacket)
    (kind : BlockKind) (channel counter : ℕ) (body : List ℕ) (len : ℕ) → HasSent facts before held old merge
    → IndexIsDue packet old.index merge → kind ≡ Index → channel ≡ 0 → counter ≡ old.index.greatest → body ≡ index_body old.index packet
    → WritesWhole old kind channel counter body held now len mid
    → new ≡ sent_state mid.numbers (after_index_packet mid.index packet len) (counts_behind mid.counts Index len)
    → HasSent facts before now new merge
index_whole facts before held now old mid new merge packet kind channel counter body len sent due_is k c g b wrote noted =
    let content = index_block old.index packet in
    let is = index_content facts.setup old.index packet kind channel body k c b in
    let of = is_of_block old facts.setup content kind channel counter body is wrote.header in
    let index_was : mid.index ≡ old.index = ap (λ (s : SentState). s.index) wrote.new_is in
    let index_is : new.index ≡ after_index_packet old.index packet len =
    ap (λ (s : SentState). s.index) noted ∙ ap (λ i. after_index_packet i packet len) index_was in
    whole_out facts before held now old mid new merge merge kind channel counter body len content sent is wrote (no_setup kind _ k)
    (record {
      numbers = ap (λ (s : SentState). s.numbers) noted;
      counts = ap (λ (s : SentState). s.counts) noted ∙ ap (λ k2. counts_behind mid.counts k2 len) (sym k);
      place_is = ap (λ (i : IndexState). i.place) index_is ∙ place_behind old.index packet len;
    })
    (subst (λ i. BlockGoesNext facts (file_state old.index merge) content (block_sent old facts.setup content counter) (file_state i merge)) (sym index_is)
    (index_goes facts old.index merge packet _ _ counter len due_is g (wrote.len_is ∙ of.len)))

pub index_part : (facts : FileFacts) (before held now : Option (List ℕ)) (old : SentState) (merge : MergeState) (packet : IndexPacket)
    (kind : BlockKind) (channel counter : ℕ) (body : List ℕ) → HasSent facts before held old merge → IndexIsDue packet old.index merge
    → kind ≡ Index → channel ≡ 0 → counter ≡ old.index.greatest → body ≡ index_body old.index packet
    → WritesPart old kind channel counter body held now → HoldsFront facts before now
index_part facts before held now old merge packet kind channel counter body sent due_is k c g b wrote =
    let content = index_block old.index packet in
    part_out facts before held now old
    (file_state (after_index_packet old.index packet (block_len (block_sent old facts.setup content counter))) merge) merge kind channel
    counter body content sent (index_content facts.setup old.index packet kind channel body k c b) wrote (no_setup kind _ k)
    (index_goes facts old.index merge packet _ _ counter _ due_is g refl)
