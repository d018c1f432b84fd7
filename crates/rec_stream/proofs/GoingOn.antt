-- A packet more of a stream goes out.
use Rattle.std.proofs.Common.{ℕ, ◌+◌, ◌≡◌, ◌≤◌, ◌<◌, List, [], ◌∷◌, ◌++◌, length, take, Option, refl, sym, subst, ap, ◌∙◌, arith, append_assoc}
use Rattle.std.specs.Prelude.{◌%◌, ◌^◌, max, slice_index, slice_set}
use Rattle.std.specs.Io.KnownBytes.{Appends}
use Rattle.std.proofs.KnownBytes.{Appends-trans}
use Rattle.std.proofs.lemmas.List.{take_all}
use Rattle.std.proofs.Math.Seq.{take-append-add}
use Rattle.ch11_packet.specs.Header.{IsHeader}
use Rattle.ch11_packet.specs.Packet.{packet_bytes}
use Rattle.ch11_packet.specs.PacketLen.{written_len}
use Rattle.ch11_packet.specs.Profiles.Profile.{WithSum}
use Rattle.ch11_file.specs.declared.kind.BlockKind.{BlockKind}
use Rattle.ch11_file.specs.declared.kind.BlockKind.TheVariants.{Setup}
use Rattle.ch11_file.specs.declared.limits.TheConstants.{MAX_SETUP_LEN}
use Rattle.ch11_file.specs.declared.setup.FileSetup.{FileSetup}
use Rattle.ch11_file.specs.FileBlocks.{BlockContent, FileBlock, block_body, block_header, block_len, block_packet, file_bytes, head_with, kind_of}
use Rattle.ch11_file.specs.FileBlocks.BlockContent.{SetupBlock, TimeBlock, PieceBlock, NodeBlock, RootBlock}
use Rattle.ch11_file.specs.Sending.{IsContent}
use Rattle.ch11_file.specs.WholeFile.{AreNumbered}
use Rattle.rec_reader.specs.Channels.{capped}
use Rattle.ch11_file.proofs.BlocksPut.{block_of}
use Rattle.ch11_file.proofs.GoingOut.{next_more, numbered_more}
use Rattle.rec_stream.specs.StreamBlocks.{StreamFacts, StreamState, StreamContentGoes, StreamGoesNext, StreamGoesOut}
use Rattle.rec_stream.specs.declared.counts.StreamCounts.{StreamCounts}
use Rattle.rec_stream.specs.Streams.{late_behind, late_of}
use Rattle.ch11_file.specs.declared.end.FileFault.{FileFault}
use Rattle.ch11_file.specs.declared.end.FileFault.TheVariants.{Memory as LacksMemory, Output as OutputFails, Long}
use Rattle.rec_stream.specs.StreamEnds.{StreamPast, GoingFails, HoldsStreamFront, stream_end_of}
use Rattle.rec_stream.specs.SentStates.{StreamSent, stream_counts_behind, stream_sent}
use Rattle.rec_stream.specs.Sending.{HasGone, StreamHasSent, StreamWritesPart, StreamWritesWhole}
use Rattle.rec_stream.proofs.SentSums.{bytes_more, greatest_more, late_count, late_more, of_more, packets_count, records_count, times_count}

-- ---- one packet more

pub go_more : (facts : StreamFacts) (old mid new : StreamState) (blocks : List FileBlock) (b : FileBlock) → StreamGoesOut facts old blocks mid
    → StreamGoesNext facts mid b new → StreamGoesOut facts old (blocks ++ b ∷ []) new
go_more facts old mid new [] b go next = (new, subst (λ (s : StreamState). StreamGoesNext facts s b new) go next, refl)
go_more facts old mid new (a ∷ blocks) b go next = (go.0, go.1, go_more facts go.0 mid new blocks b go.2 next)

goes_greatest : (facts : StreamFacts) (old new : StreamState) (content : BlockContent) (counter : ℕ) → StreamContentGoes facts old content counter new
    → new.greatest ≡ max old.greatest counter
goes_greatest facts old new (SetupBlock text) counter goes = ap (λ (s : StreamState). s.greatest) goes.new_is
goes_greatest facts old new (TimeBlock e time) counter goes = ap (λ (s : StreamState). s.greatest) goes.new_is
goes_greatest facts old new (PieceBlock channel piece) counter goes = ap (λ (s : StreamState). s.greatest) goes.new_is
goes_greatest facts old new (NodeBlock entries) counter goes = absurd goes
goes_greatest facts old new (RootBlock nodes last) counter goes = absurd goes

-- ---- what was sent

-- what a packet more changes
record IsSentMore (old new : StreamSent) (b : FileBlock) : Type 0 where
  pub sequence : b.sequence ≡ slice_index old.numbers b.channel
  pub fits : b.channel < 2 ^ 16
  pub numbers : new.numbers ≡ slice_set old.numbers b.channel ((slice_index old.numbers b.channel + 1) % 256)
  pub greatest : new.greatest ≡ max old.greatest b.counter
  pub counts : new.counts ≡ stream_counts_behind old.greatest old.counts (kind_of b.content) b.counter

sent_more : (before held now : Option (List ℕ)) (old new : StreamSent) (blocks : List FileBlock) (b : FileBlock) → StreamHasSent before held old blocks
    → IsSentMore old new b → Appends held now (block_packet b) → StreamHasSent before now new (blocks ++ b ∷ [])
sent_more before held now old new blocks b sent more grows =
    let counts = stream_counts_behind old.greatest old.counts (kind_of b.content) b.counter in
    record {
      numbered = numbered_more [] blocks b sent.numbered (more.sequence ∙ sent.next.each b.channel more.fits);
      grows = subst (Appends before now) (sym (bytes_more blocks b))
          (Appends-trans before held now (file_bytes blocks) (block_packet b) sent.grows grows);
      next = next_more old.numbers new.numbers blocks b sent.next more.fits more.numbers;
      greatest = more.greatest ∙ ap (λ n. max n b.counter) sent.greatest ∙ sym (greatest_more 0 blocks b);
      packets = ap (λ (c : StreamCounts). c.packets) more.counts ∙ packets_count old.greatest old.counts b.content b.counter _ sent.packets
          ∙ ap capped (sym (of_more 104 blocks b));
      records = ap (λ (c : StreamCounts). c.records) more.counts ∙ records_count old.greatest old.counts b.content b.counter _ sent.records
          ∙ ap capped (sym (of_more 0 blocks b));
      times = ap (λ (c : StreamCounts). c.times) more.counts ∙ times_count old.greatest old.counts b.content b.counter _ sent.times
          ∙ ap capped (sym (of_more 17 blocks b));
      late = ap (λ (c : StreamCounts). c.late) more.counts ∙ late_count old.greatest old.counts b.content b.counter _ sent.late
          ∙ ap (λ g. capped (late_behind 0 blocks + late_of g b.content b.counter)) sent.greatest
          ∙ ap capped (sym (late_more 0 blocks b));
    }

gone_more : (past : StreamPast) (held now : Option (List ℕ)) (old new : StreamSent) (state next : StreamState) (b : FileBlock)
    → HasGone past held old state → StreamGoesNext past.facts state b next → IsSentMore old new b → Appends held now (block_packet b)
    → HasGone past now new next
gone_more past held now old new state next b gone goes more grows = record {
  blocks = gone.blocks ++ b ∷ [];
  go = go_more past.facts past.start state next gone.blocks b gone.go goes;
  has_sent = subst (StreamHasSent past.before now new) (append_assoc past.ahead gone.blocks (b ∷ []))
      (sent_more past.before held now old new (past.ahead ++ gone.blocks) b gone.has_sent more grows);
  greatest = goes_greatest past.facts state next b.content b.counter goes.goes ∙ ap (λ n. max n b.counter) gone.greatest ∙ sym more.greatest;
}

-- a part of a packet went out
part_more : (past : StreamPast) (held now : Option (List ℕ)) (old : StreamSent) (state next : StreamState) (b : FileBlock) (n : ℕ)
    → HasGone past held old state → StreamGoesNext past.facts state b next → b.sequence ≡ slice_index old.numbers b.channel → b.channel < 2 ^ 16
    → Appends held now (take n (block_packet b)) → HoldsStreamFront past now
part_more past held now old state next b n gone goes sequence fits grows =
    let blocks = past.ahead ++ gone.blocks in
    let whole = append_assoc past.ahead gone.blocks (b ∷ []) in
    record {
      blocks = gone.blocks ++ b ∷ [];
      now = next;
      go = go_more past.facts past.start state next gone.blocks b gone.go goes;
      numbered = subst (AreNumbered []) whole
          (numbered_more [] blocks b gone.has_sent.numbered (sequence ∙ gone.has_sent.next.each b.channel fits));
      len = length (file_bytes blocks) + n;
      grows = subst (λ l. Appends past.before now (take (length (file_bytes blocks) + n) (file_bytes l))) whole
          (subst (Appends past.before now)
          (sym (ap (take (length (file_bytes blocks) + n)) (bytes_more blocks b) ∙ take-append-add (file_bytes blocks) (block_packet b) n))
          (Appends-trans past.before held now (file_bytes blocks) (take n (block_packet b)) gone.has_sent.grows grows));
    }

-- all that went out is such a part
pub front_of : (past : StreamPast) (held : Option (List ℕ)) (sent : StreamSent) (state : StreamState) → HasGone past held sent state
    → HoldsStreamFront past held
front_of past held sent state gone =
    let bytes = file_bytes (past.ahead ++ gone.blocks) in
    record {
      blocks = gone.blocks;
      now = state;
      go = gone.go;
      numbered = gone.has_sent.numbered;
      len = length bytes;
      grows = subst (Appends past.before held) (sym (take_all _ bytes (omega arith))) gone.has_sent.grows;
    }

-- ---- a packet and what its code says of it

record IsBlockOf (content : BlockContent) (kind : BlockKind) (channel sequence counter : ℕ) (body : List ℕ) : Type 0 where
  pub header : IsHeader (head_with channel sequence counter kind body) → IsHeader (block_header (block_of channel sequence counter content))
  pub bytes : packet_bytes WithSum (head_with channel sequence counter kind body) body ≡ block_packet (block_of channel sequence counter content)
  pub len : written_len WithSum (length body) ≡ block_len (block_of channel sequence counter content)

its_block : (content : BlockContent) (channel sequence counter : ℕ)
    → IsBlockOf content (kind_of content) channel sequence counter (block_body content)
unfolding block_header block_packet block_len
its_block content channel sequence counter = record { header = λ h. h; bytes = refl; len = refl }

block_is : (setup : FileSetup) (content : BlockContent) (kind : BlockKind) (channel sequence counter : ℕ) (body : List ℕ)
    → IsContent setup content kind channel body → IsBlockOf content kind channel sequence counter body
block_is setup content kind channel sequence counter body is =
    subst (λ (k : BlockKind). IsBlockOf content k channel sequence counter body) (sym is.kind_is)
    (subst (λ (l : List ℕ). IsBlockOf content (kind_of content) channel sequence counter l) (sym is.body_is)
    (its_block content channel sequence counter))

goes_next : (facts : StreamFacts) (old new : StreamState) (content : BlockContent) (kind : BlockKind) (channel sequence counter : ℕ) (body : List ℕ)
    → IsContent facts.setup content kind channel body → IsHeader (head_with channel sequence counter kind body)
    → (kind ≡ Setup → written_len WithSum (length body) ≤ MAX_SETUP_LEN) → StreamContentGoes facts old content counter new
    → StreamGoesNext facts old (block_of channel sequence counter content) new
goes_next facts old new content kind channel sequence counter body is header fits goes =
    let of = block_is facts.setup content kind channel sequence counter body is in
    record {
      channel = is.channel_is;
      header = of.header header;
      setup_fits = λ e. subst (λ n. n ≤ MAX_SETUP_LEN) of.len (fits (is.kind_is ∙ e));
      goes = goes;
    }

pub put_whole : (past : StreamPast) (held now : Option (List ℕ)) (old mid new : StreamSent) (state next : StreamState) (kind : BlockKind)
    (channel counter : ℕ) (body : List ℕ) (content : BlockContent) → HasGone past held old state
    → IsContent past.facts.setup content kind channel body → StreamContentGoes past.facts state content counter next
    → StreamWritesWhole old kind channel counter body held now mid → (kind ≡ Setup → written_len WithSum (length body) ≤ MAX_SETUP_LEN)
    → new ≡ stream_sent mid.numbers (max mid.greatest counter) (stream_counts_behind mid.greatest mid.counts kind counter) → HasGone past now new next
put_whole past held now old mid new state next kind channel counter body content gone is goes wrote fits noted =
    let sequence = slice_index old.numbers channel in
    let b = block_of channel sequence counter content in
    let of = block_is past.facts.setup content kind channel sequence counter body is in
    let numbers_are : mid.numbers ≡ slice_set old.numbers channel ((sequence + 1) % 256) = ap (λ (s : StreamSent). s.numbers) wrote.new_is in
    let greatest_is : mid.greatest ≡ old.greatest = ap (λ (s : StreamSent). s.greatest) wrote.new_is in
    let counts_are : mid.counts ≡ old.counts = ap (λ (s : StreamSent). s.counts) wrote.new_is in
    gone_more past held now old new state next b gone
    (goes_next past.facts state next content kind channel sequence counter body is wrote.header fits goes)
    (record {
      sequence = refl;
      fits = wrote.header.channel;
      numbers = ap (λ (s : StreamSent). s.numbers) noted ∙ numbers_are;
      greatest = ap (λ (s : StreamSent). s.greatest) noted ∙ ap (λ n. max n counter) greatest_is;
      counts = ap (λ (s : StreamSent). s.counts) noted ∙ ap (λ n. stream_counts_behind n mid.counts kind counter) greatest_is
          ∙ ap (λ c. stream_counts_behind old.greatest c kind counter) counts_are ∙ ap (λ k. stream_counts_behind old.greatest old.counts k counter) is.kind_is;
    })
    (subst (Appends held now) of.bytes wrote.grows)

pub put_part : (past : StreamPast) (held now : Option (List ℕ)) (old : StreamSent) (state next : StreamState) (kind : BlockKind)
    (channel counter : ℕ) (body : List ℕ) (content : BlockContent) → HasGone past held old state
    → IsContent past.facts.setup content kind channel body → StreamContentGoes past.facts state content counter next
    → StreamWritesPart old kind channel counter body held now → (kind ≡ Setup → written_len WithSum (length body) ≤ MAX_SETUP_LEN)
    → HoldsStreamFront past now
put_part past held now old state next kind channel counter body content gone is goes wrote fits =
    let sequence = slice_index old.numbers channel in
    let of = block_is past.facts.setup content kind channel sequence counter body is in
    part_more past held now old state next (block_of channel sequence counter content) wrote.len gone
    (goes_next past.facts state next content kind channel sequence counter body is wrote.header fits goes) refl wrote.header.channel
    (subst (λ l. Appends held now (take wrote.len l)) of.bytes wrote.grows)

-- what a fault of the output comes to
pub fault_fails : (past : StreamPast) (held : Option (List ℕ)) (fault : FileFault) → HoldsStreamFront past held → GoingFails past held (stream_end_of fault)
fault_fails past held LacksMemory front = front
fault_fails past held OutputFails front = front
fault_fails past held Long front = front
