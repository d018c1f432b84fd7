use Rattle.std.proofs.Common.{rules, sym, ◌∙◌}
use Rattle.std.proofs.lemmas.List.{nil_from_length}
use Rattle.std.proofs.lemmas.Bool.{eqb-true}
use Rattle.rec_run.proofs.Following.{follows_here, none_left, ends_here}
use Rattle.rec_run.proofs.control.agreement.follow.Goals as goal

pub entries-preserved-in-Some-checked_add : goal.entries-preserved-in-Some-checked_add
entries-preserved-in-Some-checked_add c = λ rest.
    c.entries.invariant (follows_here c.args.channel c.entries.version c.in-Some-checked_add.next _ _ _ _ c.in-Some.entry.now _ _ (search rules)
    c.if-entry-channel.true (search rules) c.rest_of-versions.ensures c.rest_of-marks.ensures (c.is_next.ensures c.if-not-is_next.false) rest)

pub returns-else-is_empty : goal.returns-else-is_empty
returns-else-is_empty c = λ so. c.entries.invariant (ends_here c.args.channel c.entries.version _ _ (nil_from_length _ c.in_default.ensures.cases)
    (none_left _ _ (eqb-true _ 0 (sym c.is_empty-else-is_empty.ensures ∙ so))))
