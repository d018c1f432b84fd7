use Rattle.std.proofs.Common.{rules, ◌≡◌, ◌∙◌, ap, None}
use Rattle.eth_frame.specs.Source.{source_ending_of}
use Rattle.cli_record_streams.proofs.ClosingTimes.{first_last}
use Rattle.cli_record_streams.proofs.closing.ClosingSourceFrameSource.next.Goals.{in_default-checked_sub-via-in-Some+else-is_none}
use Rattle.cli_record_streams.proofs.closing.ClosingSourceFrameSource.next.Goals.{in_default-checked_sub-via-in_default-checked_sub}
use Rattle.cli_record_streams.proofs.closing.ClosingSourceFrameSource.next.Goals as goal

pub returns-in_default-checked_sub-clause-frame : goal.returns-in_default-checked_sub-clause-frame
returns-in_default-checked_sub-clause-frame g c framed =
    let none : c.of-ending.result ≡ None = c.of-ending.ensures.ending ∙ ap source_ending_of framed in
    let zero : c.in-Open.further ≡ 0 = elim c.in_default-checked_sub.branch [
      | in_default-checked_sub-via-in-Some+else-is_none w ↦ search (rules, none)
      | in_default-checked_sub-via-in_default-checked_sub w ↦ search rules
    ] in
    rw c.in-Open.is (first_last _ _ _ c.in-Open.further c.of-ending.result zero none (c.next-answer.ensures.frame framed))
