-- Two passes that saw the same.
use Rattle.std.proofs.Common.{ℕ, ◌≡◌, ◌∙◌, ap, Option, None, Some}
use Rattle.std.specs.Prelude.{IfSome}
use Rattle.std.proofs.lemmas.Option.{none-some, same_Some}
use Rattle.cli_chapter11.specs.declared.passes.Seen.{Seen}

abbrev made : (times packets records index bytes sum : ℕ) → Seen
made times packets records index bytes sum = record {
  counts = record { times = times; packets = packets; records = records; index = index; bytes = bytes };
  sum = record { sum = sum };
}

pub same_seen : (a b : Seen) → a.counts.times ≡ b.counts.times → a.counts.packets ≡ b.counts.packets → a.counts.records ≡ b.counts.records
    → a.counts.index ≡ b.counts.index → a.counts.bytes ≡ b.counts.bytes → a.sum.sum ≡ b.sum.sum → a ≡ b
same_seen a b times packets records index bytes sum =
    ap (λ n. made n a.counts.packets a.counts.records a.counts.index a.counts.bytes a.sum.sum) times
    ∙ ap (λ n. made b.counts.times n a.counts.records a.counts.index a.counts.bytes a.sum.sum) packets
    ∙ ap (λ n. made b.counts.times b.counts.packets n a.counts.index a.counts.bytes a.sum.sum) records
    ∙ ap (λ n. made b.counts.times b.counts.packets b.counts.records n a.counts.bytes a.sum.sum) index
    ∙ ap (λ n. made b.counts.times b.counts.packets b.counts.records b.counts.index n a.sum.sum) bytes
    ∙ ap (λ n. made b.counts.times b.counts.packets b.counts.records b.counts.index b.counts.bytes n) sum

-- what a pass says that it sees is what it saw
pub as_said : (sees : Option Seen) (saw said : Seen) → IfSome sees (λ seen. saw ≡ seen) → sees ≡ Some said → saw ≡ said
as_said None saw said is says = absurd (none-some said says)
as_said (Some seen) saw said is says = is ∙ same_Some seen said says
