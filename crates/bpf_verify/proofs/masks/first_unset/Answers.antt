use Rattle.std.proofs.Common.{◌<◌, refl, arith}
use Rattle.std.proofs.lemmas.Bool.{both_ways}
use Rattle.bpf_verify.proofs.WellFormed.{read_below}
use Rattle.bpf_verify.proofs.UnsetReads.{none_more, reads_at}
use Rattle.bpf_verify.proofs.masks.first_unset.Goals as goal
use Rattle.bpf_verify.proofs.masks.first_unset.Goals.{else-reads_scratch-via-then-reads_scratch+else-is_clear, else-reads_scratch-via-else-reads_scratch}

pub is_clear-requires : goal.is_clear-requires
is_clear-requires c =
    let i = c.fetch-form.result.1 in
    let reads = reads_at c.args.insns.now c.reads.at c.fetch-form.result.0 i c.fetch-form.ensures
    ((c.reads_scratch.ensures.decides i i.k).1 (c.if-reads_scratch.true, refl)) in
    read_below c.args.insns.now c.reads.at i.k c.requires.well_formed reads

pub returns-then-is_clear-clause-reads : goal.returns-then-is_clear-clause-reads
returns-then-is_clear-clause-reads c =
    let i = c.fetch-form.result.1 in
    reads_at c.args.insns.now c.reads.at c.fetch-form.result.0 i c.fetch-form.ensures
    ((c.reads_scratch.ensures.decides i i.k).1 (c.if-reads_scratch.true, refl))

pub returns-then-is_clear-clause-unset : goal.returns-then-is_clear-clause-unset
returns-then-is_clear-clause-unset c =
    let i = c.fetch-form.result.1 in
    let reads = reads_at c.args.insns.now c.reads.at c.fetch-form.result.0 i c.fetch-form.ensures
    ((c.reads_scratch.ensures.decides i i.k).1 (c.if-reads_scratch.true, refl)) in
    let below = read_below c.args.insns.now c.reads.at i.k c.requires.well_formed reads in
    (c.requires.masks c.reads.at i.k c.reads-test.true below).0 (c.is_clear.ensures.0 c.if-is_clear.true)

pub reads-preserved : goal.reads-preserved
reads-preserved c =
    let i = c.fetch-form.result.1 in
    let f = c.fetch-form.result.0 in
    none_more c.args.insns.now c.reads.at f i c.args.masks.now c.requires.well_formed c.requires.masks c.fetch-form.ensures c.reads.invariant (λ reads clear.
    elim c.else-reads_scratch.branch as (λ _. ⊥) [
      | else-reads_scratch-via-then-reads_scratch+else-is_clear w ↦ both_ways _ w.if-is_clear.false (w.is_clear.ensures.1 clear)
      | else-reads_scratch-via-else-reads_scratch w ↦ both_ways _ w.if-reads_scratch.false ((c.reads_scratch.ensures.decides i i.k).0 reads).0
    ])

pub returns-clause-none : goal.returns-clause-none
returns-clause-none c = λ at path word inside unset. c.reads.invariant at path word
    (let before : at < c.reads.at = omega (arith, inside, c.reads-test.false) in before) unset
