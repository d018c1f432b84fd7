use Rattle.std.proofs.Common.{inl, inr, ◌∙◌, sym}
use Rattle.std.proofs.lemmas.Bool.{both_ways}
use Rattle.ch11_packet.specs.Views.{header_data}
use Rattle.ch11_packet.proofs.Classing.{Passes, held_found, fault_found, sum_fault}
use Rattle.ch11_packet.proofs.class.classify.Goals as goal
use Rattle.ch11_packet.proofs.class.classify.Goals.{else-not-is_other-via-then-not-is_other+then-has_checksum+else-not-has_sum}
use Rattle.ch11_packet.proofs.class.classify.Goals.{else-not-is_other-via-then-not-is_other+else-has_checksum}
use Rattle.ch11_packet.proofs.class.classify.Goals.{else-not-is_other-via-else-not-is_other}

pub returns-then-not-has_sum-clause-fault : goal.returns-then-not-has_sum-clause-fault
returns-then-not-has_sum-clause-fault c =
    sum_fault (header_data c.args.header.now) c.args.body.now c.class_of-class.result c.class_of-class.ensures
    (λ other. both_ways _ c.if-not-is_other.true (c.is_other.ensures.1 other))
    (c.has_checksum.ensures.0 c.if-has_checksum.true)
    (λ sum. both_ways _ c.if-not-has_sum.true (c.has_sum.ensures.1 sum))

pub returns-clause-found : goal.returns-clause-found
returns-clause-found c = λ what holds.
    c.ok_or.ensures.value ∙ held_found (header_data c.args.header.now) c.args.body.now c.class_of-class.result c.class_of-class.ensures what holds

passes : (c : goal.After-ok_or) → Passes (header_data c.args.header.now) c.args.body.now c.class_of-class.result
passes c = elim c.else-not-is_other.branch as (λ _. Passes (header_data c.args.header.now) c.args.body.now c.class_of-class.result) [
  | else-not-is_other-via-then-not-is_other+then-has_checksum+else-not-has_sum w ↦ inr (λ _. w.has_sum.ensures.0 w.if-not-has_sum.false)
  | else-not-is_other-via-then-not-is_other+else-has_checksum w ↦ inr (λ has. absurd (both_ways _ w.if-has_checksum.false (w.has_checksum.ensures.1 has)))
  | else-not-is_other-via-else-not-is_other w ↦ inl (c.is_other.ensures.0 w.if-not-is_other.false)
]

pub returns-clause-fault : goal.returns-clause-fault
returns-clause-fault c = λ fault.
    let same = c.ok_or.ensures.value in
    let told = fault_found (header_data c.args.header.now) c.args.body.now c.class_of-class.result c.class_of-class.ensures (passes c) fault in
    (λ e. told.0 (sym same ∙ e), λ wrong. same ∙ told.1 wrong)
