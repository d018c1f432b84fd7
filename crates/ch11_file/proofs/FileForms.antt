-- The form of a whole file's packets, and their sequence numbers.
use Rattle.std.proofs.Common.{ℕ, ◌+◌, ◌≡◌, ◌≤◌, List, [], ◌∷◌, ◌++◌, refl, sym, subst, ap, ◌∙◌, arith, append_assoc, append-nil}
use Rattle.std.specs.Prelude.{◌%◌, ◌==◌, if◌then◌else◌}
use Rattle.std.specs.List.{AllByRecursion}
use Rattle.std.proofs.lemmas.Bool.{eq-eqb}
use Rattle.std.proofs.lemmas.List.Sums.{sum_by-append}
use Rattle.ch11_packet.specs.Header.{IsHeader}
use Rattle.ch11_packet.specs.Packet.{packet_trailer}
use Rattle.ch11_packet.specs.Profiles.Profile.{WithSum}
use Rattle.ch11_packet.proofs.Lengths.{length-packet}
use Rattle.ch11_packet.proofs.Summed.{written_sum}
use Rattle.ch11_file.specs.declared.kind.BlockKind.TheVariants.{Setup}
use Rattle.ch11_file.specs.declared.limits.TheConstants.{MAX_SETUP_LEN}
use Rattle.ch11_file.specs.FileBlocks.{FileBlock, block_packet, block_header, block_body, block_len, blocks_on, kind_of}
use Rattle.ch11_file.specs.WholeFile.{FileFacts, FileState, AreNumbered, GoOut, IsWholeFile}
use Rattle.ch11_file.specs.FilesRead.{BeginAtZero, IsValidPacket, RiseByOne}

-- ---- form

well_formed : (b : FileBlock) → IsHeader (block_header b) → IsValidPacket b
unfolding block_packet block_header
well_formed b header = record {
  header = header;
  len = length-packet WithSum (block_header b) (block_body b.content);
  body = block_body b.content ++ packet_trailer WithSum (block_body b.content);
  whole = refl;
  sum = written_sum (block_body b.content);
}

all_formed : (facts : FileFacts) (old new : FileState) (blocks : List FileBlock) → GoOut facts old blocks new → AllByRecursion IsValidPacket blocks
all_formed facts old new [] go = tt
all_formed facts old new (b ∷ blocks) go = (well_formed b go.1.header, all_formed facts go.0 new blocks go.2)

pub file_formed : (facts : FileFacts) (blocks : List FileBlock) → IsWholeFile facts blocks → AllByRecursion IsValidPacket blocks
file_formed facts blocks (end, begins, over) = all_formed facts _ end blocks begins.go

setups_fit : (facts : FileFacts) (old new : FileState) (blocks : List FileBlock) → GoOut facts old blocks new
    → AllByRecursion (λ (b : FileBlock). kind_of b.content ≡ Setup → block_len b ≤ MAX_SETUP_LEN) blocks
setups_fit facts old new [] go = tt
setups_fit facts old new (b ∷ blocks) go = (go.1.setup_fits, setups_fit facts go.0 new blocks go.2)

pub setup_short : (facts : FileFacts) (blocks : List FileBlock) → IsWholeFile facts blocks
    → AllByRecursion (λ (b : FileBlock). kind_of b.content ≡ Setup → block_len b ≤ MAX_SETUP_LEN) blocks
setup_short facts blocks (end, begins, over) = setups_fit facts _ end blocks begins.go

-- ---- sequence numbers

number_at : (ahead blocks behind : List FileBlock) (b : FileBlock) → AreNumbered ahead (blocks ++ b ∷ behind)
    → b.sequence ≡ blocks_on b.channel (ahead ++ blocks) % 256
number_at ahead [] behind b are = are.0 ∙ ap (λ (l : List FileBlock). blocks_on b.channel l % 256) (sym (append-nil ahead))
number_at ahead (a ∷ blocks) behind b are = number_at (ahead ++ a ∷ []) blocks behind b are.1
    ∙ ap (λ (l : List FileBlock). blocks_on b.channel l % 256) (append_assoc ahead (a ∷ []) blocks)

pub begin_at_zero : (facts : FileFacts) (blocks : List FileBlock) → IsWholeFile facts blocks → BeginAtZero blocks
begin_at_zero facts blocks (end, begins, over) ahead behind b whole none =
    number_at [] ahead behind b (subst (AreNumbered []) whole begins.numbered) ∙ ap (λ n. n % 256) none

on_append : (channel : ℕ) (xs ys : List FileBlock) → blocks_on channel (xs ++ ys) ≡ blocks_on channel xs + blocks_on channel ys
on_append channel xs ys = sum_by-append (λ (a : FileBlock). if a.channel == channel then 1 else 0) xs ys

on_first : (channel : ℕ) (a : FileBlock) (ys : List FileBlock) → a.channel ≡ channel → blocks_on channel (a ∷ ys) ≡ 1 + blocks_on channel ys
on_first channel a ys same =
    let one : blocks_on channel (a ∷ []) ≡ 1 = ap (λ t. 0 + (if t then 1 else 0)) (eq-eqb a.channel channel same) in
    on_append channel (a ∷ []) ys ∙ ap (λ n. n + blocks_on channel ys) one

pub rise_by_one : (facts : FileFacts) (blocks : List FileBlock) → IsWholeFile facts blocks → RiseByOne blocks
rise_by_one facts blocks (end, begins, over) ahead between behind a b whole same none =
    let numbered = subst (AreNumbered []) whole begins.numbered in
    let first = number_at [] ahead (between ++ b ∷ behind) a numbered ∙ ap (λ c. blocks_on c ahead % 256) same in
    let split : ahead ++ a ∷ (between ++ b ∷ behind) ≡ (ahead ++ a ∷ between) ++ b ∷ behind = sym (append_assoc ahead (a ∷ between) (b ∷ behind)) in
    let second = number_at [] (ahead ++ a ∷ between) behind b (subst (AreNumbered []) split numbered) in
    let count : blocks_on b.channel (ahead ++ a ∷ between) ≡ blocks_on b.channel ahead + 1 =
    on_append b.channel ahead (a ∷ between) ∙ ap (λ n. blocks_on b.channel ahead + n) (on_first b.channel a between same
    ∙ ap (λ n. 1 + n) none) in
    second ∙ ap (λ n. n % 256) count ∙ omega (arith, first)
