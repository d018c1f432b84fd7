-- A packet more of a file goes out.
use Rattle.std.proofs.Common.{ℕ, ◌+◌, ◌≡◌, ◌≢◌, ◌<◌, inl, inr, List, [], ◌∷◌, ◌++◌, length, take, Option, refl, sym, subst, ap, ◌∙◌, arith}
use Rattle.std.proofs.Common.{append_assoc, append-nil, if◌then◌else◌}
use Rattle.std.specs.Prelude.{◌%◌, ◌^◌, ◌==◌, slice_index, slice_set, true, false}
use Rattle.std.specs.Io.KnownBytes.{Appends}
use Rattle.std.proofs.KnownBytes.{Appends-trans}
use Rattle.std.proofs.lemmas.List.{length-append, length-set, get_or-set_same, get_or-set_other, take_all}
use Rattle.std.proofs.lemmas.List.Sums.{sum_by-append}
use Rattle.std.proofs.lemmas.Bool.{cases_Bool, eq-eqb, eqb-true, true≢false}
use Rattle.std.proofs.lemmas.Grind.{flat_map-append}
use Rattle.std.proofs.Math.Seq.{take-append-add}
use Rattle.ch11_packet.specs.Profiles.Profile.{WithSum}
use Rattle.ch11_packet.proofs.Lengths.{length-packet}
use Rattle.ch11_file.specs.declared.counts.FileCounts.{FileCounts}
use Rattle.ch11_file.specs.declared.kind.BlockKind.{BlockKind}
use Rattle.ch11_file.specs.declared.kind.BlockKind.TheVariants.{Setup, Time, Frames, Record, Index}
use Rattle.ch11_file.specs.FileBlocks.{FileBlock, block_header, block_packet, block_len, block_body, data_type, file_bytes, kind_of, blocks_on, blocks_of}
use Rattle.ch11_file.specs.WholeFile.{FileFacts, FileState, MergeState, GoesNext, GoOut, AreNumbered, BeginsFile, file_state}
use Rattle.ch11_file.specs.FileEnds.{HoldsFront, counts_of}
use Rattle.ch11_file.specs.Sending.{SentState, AreNextNumbers, HasSent, counts_behind}

-- ---- one packet more

pub go_out_more : (facts : FileFacts) (old mid new : FileState) (blocks : List FileBlock) (b : FileBlock) → GoOut facts old blocks mid
    → GoesNext facts mid b new → GoOut facts old (blocks ++ b ∷ []) new
go_out_more facts old mid new [] b go next = (new, subst (λ (s : FileState). GoesNext facts s b new) go next, refl)
go_out_more facts old mid new (a ∷ blocks) b go next = (go.0, go.1, go_out_more facts go.0 mid new blocks b go.2 next)

pub numbered_more : (ahead blocks : List FileBlock) (b : FileBlock) → AreNumbered ahead blocks
    → b.sequence ≡ blocks_on b.channel (ahead ++ blocks) % 256 → AreNumbered ahead (blocks ++ b ∷ [])
numbered_more ahead [] b are is = (subst (λ (l : List FileBlock). b.sequence ≡ blocks_on b.channel l % 256) (append-nil ahead) is, tt)
numbered_more ahead (a ∷ blocks) b are is = (
  are.0,
  numbered_more (ahead ++ a ∷ []) blocks b are.1
      (subst (λ (l : List FileBlock). b.sequence ≡ blocks_on b.channel l % 256) (sym (append_assoc ahead (a ∷ []) blocks)) is),
)

pub begins_more : (facts : FileFacts) (blocks : List FileBlock) (mid new : FileState) (b : FileBlock) → BeginsFile facts blocks mid
    → GoesNext facts mid b new → b.sequence ≡ blocks_on b.channel blocks % 256 → BeginsFile facts (blocks ++ b ∷ []) new
begins_more facts blocks mid new b begins next is = record {
  moment = begins.moment;
  first = begins.first;
  is_first = begins.is_first;
  go = go_out_more facts _ mid new blocks b begins.go next;
  numbered = numbered_more [] blocks b begins.numbered is;
}

-- ---- bytes

pub length-block : (b : FileBlock) → length (block_packet b) ≡ block_len b
unfolding block_packet block_len
length-block b = length-packet WithSum (block_header b) (block_body b.content)

bytes_more : (blocks : List FileBlock) (b : FileBlock) → file_bytes (blocks ++ b ∷ []) ≡ file_bytes blocks ++ block_packet b
bytes_more blocks b = flat_map-append block_packet blocks (b ∷ []) ∙ ap (λ l. file_bytes blocks ++ l) (append-nil (block_packet b))

length_more : (blocks : List FileBlock) (b : FileBlock) → length (file_bytes (blocks ++ b ∷ [])) ≡ length (file_bytes blocks) + block_len b
length_more blocks b = ap length (bytes_more blocks b) ∙ length-append (file_bytes blocks) (block_packet b)
    ∙ ap (λ n. length (file_bytes blocks) + n) (length-block b)

-- ---- sequence numbers

on_more : (channel : ℕ) (blocks : List FileBlock) (b : FileBlock)
    → blocks_on channel (blocks ++ b ∷ []) ≡ blocks_on channel blocks + (if b.channel == channel then 1 else 0)
on_more channel blocks b = sum_by-append (λ (a : FileBlock). if a.channel == channel then 1 else 0) blocks (b ∷ []) ∙ omega arith

on_same : (channel : ℕ) (blocks : List FileBlock) (b : FileBlock) → b.channel ≡ channel
    → blocks_on channel (blocks ++ b ∷ []) % 256 ≡ (blocks_on channel blocks % 256 + 1) % 256
on_same channel blocks b same =
    let here : (b.channel == channel) ≡ true = eq-eqb b.channel channel same in
    let count = on_more channel blocks b ∙ ap (λ t. blocks_on channel blocks + (if t then 1 else 0)) here in
    ap (λ n. n % 256) count ∙ omega arith

on_other : (channel : ℕ) (blocks : List FileBlock) (b : FileBlock) (off : (b.channel == channel) ≡ false)
    → blocks_on channel (blocks ++ b ∷ []) % 256 ≡ blocks_on channel blocks % 256
on_other channel blocks b off =
    let count = on_more channel blocks b ∙ ap (λ t. blocks_on channel blocks + (if t then 1 else 0)) off in
    ap (λ n. n % 256) (count ∙ omega arith)

pub next_more : (numbers new : List ℕ) (blocks : List FileBlock) (b : FileBlock) → AreNextNumbers numbers blocks → b.channel < 2 ^ 16
    → new ≡ slice_set numbers b.channel ((slice_index numbers b.channel + 1) % 256) → AreNextNumbers new (blocks ++ b ∷ [])
next_more numbers new blocks b next fits is =
    let number = (slice_index numbers b.channel + 1) % 256 in
    let len = next.len in
    let within : b.channel < length numbers = omega (arith, len, fits) in
    record {
      len = ap length is ∙ length-set numbers b.channel number ∙ next.len;
      each = λ channel lt. ap (λ l. slice_index l channel) is ∙ elim (cases_Bool (b.channel == channel))
          as (λ _. slice_index (slice_set numbers b.channel number) channel ≡ blocks_on channel (blocks ++ b ∷ []) % 256) [
            | inl same ↦
                let e : b.channel ≡ channel = eqb-true b.channel channel same in
                ap (slice_index (slice_set numbers b.channel number)) (sym e) ∙ get_or-set_same numbers b.channel number 0 within
                ∙ ap (λ n. (n + 1) % 256) (next.each b.channel fits) ∙ ap (λ c. (blocks_on c blocks % 256 + 1) % 256) e ∙ sym (on_same channel blocks b e)
            | inr off ↦
                let ne : channel ≢ b.channel = λ e. absurd (true≢false (sym (eq-eqb b.channel channel (sym e)) ∙ off)) in
                get_or-set_other numbers b.channel channel number 0 ne ∙ next.each channel lt ∙ sym (on_other channel blocks b off)
          ];
    }

-- ---- counts

of_more : (type : ℕ) (blocks : List FileBlock) (b : FileBlock)
    → blocks_of type (blocks ++ b ∷ []) ≡ blocks_of type blocks + (if data_type (kind_of b.content) == type then 1 else 0)
of_more type blocks b = sum_by-append (λ (a : FileBlock). if data_type (kind_of a.content) == type then 1 else 0) blocks (b ∷ []) ∙ omega arith

counts_by_kind : (c : FileCounts) (kind : BlockKind) (len t p r i y : ℕ) → t ≡ c.times + (if data_type kind == 17 then 1 else 0)
    → p ≡ c.packets + (if data_type kind == 104 then 1 else 0) → r ≡ c.records + (if data_type kind == 0 then 1 else 0)
    → i ≡ c.index + (if data_type kind == 3 then 1 else 0) → y ≡ c.bytes + len
    → counts_behind c kind len ≡ record { times = t; packets = p; records = r; index = i; bytes = y }
counts_by_kind c Setup len t p r i y a b d e f =
    let a0 : t ≡ c.times = a ∙ omega arith in let b0 : p ≡ c.packets = b ∙ omega arith in let d0 : r ≡ c.records = d ∙ omega arith in
    let e0 : i ≡ c.index = e ∙ omega arith in rw (a0, b0, d0, e0, f) refl
counts_by_kind c Time len t p r i y a b d e f =
    let b0 : p ≡ c.packets = b ∙ omega arith in let d0 : r ≡ c.records = d ∙ omega arith in
    let e0 : i ≡ c.index = e ∙ omega arith in rw (a, b0, d0, e0, f) refl
counts_by_kind c Frames len t p r i y a b d e f =
    let a0 : t ≡ c.times = a ∙ omega arith in let d0 : r ≡ c.records = d ∙ omega arith in
    let e0 : i ≡ c.index = e ∙ omega arith in rw (a0, b, d0, e0, f) refl
counts_by_kind c Record len t p r i y a b d e f =
    let a0 : t ≡ c.times = a ∙ omega arith in let b0 : p ≡ c.packets = b ∙ omega arith in
    let e0 : i ≡ c.index = e ∙ omega arith in rw (a0, b0, d, e0, f) refl
counts_by_kind c Index len t p r i y a b d e f =
    let a0 : t ≡ c.times = a ∙ omega arith in let b0 : p ≡ c.packets = b ∙ omega arith in let d0 : r ≡ c.records = d ∙ omega arith in
    rw (a0, b0, d0, e, f) refl

counts_more : (blocks : List FileBlock) (b : FileBlock) → counts_behind (counts_of blocks) (kind_of b.content) (block_len b) ≡ counts_of (blocks ++ b ∷ [])
counts_more blocks b = counts_by_kind (counts_of blocks) (kind_of b.content) (block_len b) _ _ _ _ _ (of_more 17 blocks b) (of_more 104 blocks b)
    (of_more 0 blocks b) (of_more 3 blocks b) (length_more blocks b)

-- ---- what was sent

-- what a packet more changes
pub record IsSentMore (old new : SentState) (b : FileBlock) : Type 0 where
  pub sequence : b.sequence ≡ slice_index old.numbers b.channel
  pub fits : b.channel < 2 ^ 16
  pub numbers : new.numbers ≡ slice_set old.numbers b.channel ((slice_index old.numbers b.channel + 1) % 256)
  pub place : new.index.place ≡ old.index.place + block_len b
  pub counts : new.counts ≡ counts_behind old.counts (kind_of b.content) (block_len b)

pub sent_more : (facts : FileFacts) (before held now : Option (List ℕ)) (old new : SentState) (merge next : MergeState) (b : FileBlock)
    → HasSent facts before held old merge → GoesNext facts (file_state old.index merge) b (file_state new.index next) → IsSentMore old new b
    → Appends held now (block_packet b) → HasSent facts before now new next
sent_more facts before held now old new merge next b sent goes more grows =
    let blocks = sent.blocks in
    record {
      blocks = blocks ++ b ∷ [];
      begins = begins_more facts blocks (file_state old.index merge) (file_state new.index next) b sent.begins goes
          (more.sequence ∙ sent.next.each b.channel more.fits);
      grows = subst (Appends before now) (sym (bytes_more blocks b))
          (Appends-trans before held now (file_bytes blocks) (block_packet b) sent.grows grows);
      next = next_more old.numbers new.numbers blocks b sent.next more.fits more.numbers;
      place = more.place ∙ ap (λ n. n + block_len b) sent.place ∙ sym (length_more blocks b);
      counts_are = more.counts ∙ ap (λ c. counts_behind c (kind_of b.content) (block_len b)) sent.counts_are ∙ counts_more blocks b;
    }

-- a part of a packet went out
pub part_more : (facts : FileFacts) (before held now : Option (List ℕ)) (old : SentState) (new : FileState) (merge : MergeState) (b : FileBlock) (n : ℕ)
    → HasSent facts before held old merge → GoesNext facts (file_state old.index merge) b new → b.sequence ≡ slice_index old.numbers b.channel
    → b.channel < 2 ^ 16 → Appends held now (take n (block_packet b)) → HoldsFront facts before now
part_more facts before held now old new merge b n sent goes sequence fits grows =
    let blocks = sent.blocks in
    record {
      blocks = blocks ++ b ∷ [];
      now = new;
      begins = begins_more facts blocks (file_state old.index merge) new b sent.begins goes (sequence ∙ sent.next.each b.channel fits);
      len = length (file_bytes blocks) + n;
      grows = subst (Appends before now) (sym (ap (take (length (file_bytes blocks) + n)) (bytes_more blocks b)
          ∙ take-append-add (file_bytes blocks) (block_packet b) n))
          (Appends-trans before held now (file_bytes blocks) (take n (block_packet b)) sent.grows grows);
    }

-- all that was sent begins a file
pub front_sent : (facts : FileFacts) (before held : Option (List ℕ)) (sent : SentState) (merge : MergeState) → HasSent facts before held sent merge
    → HoldsFront facts before held
front_sent facts before held sent merge has = record {
  blocks = has.blocks;
  now = file_state sent.index merge;
  begins = has.begins;
  len = length (file_bytes has.blocks);
  grows = subst (Appends before held) (sym (take_all _ (file_bytes has.blocks) (omega arith))) has.grows;
}
