use Rattle.std.proofs.Common.{rules, Some, ap, sym, ◌∙◌}
use Rattle.std.specs.BinaryHeap.{heap_items}
use Rattle.std.proofs.lemmas.Option.{slice_get-get_or}
use Rattle.ch11_merge.proofs.Stands.{all_at_end, none_at_all, first_stand}
use Rattle.ch11_merge.proofs.channels.first_of.Goals as goal

pub returns-in-End-clause-none : goal.returns-in-End-clause-none
returns-in-End-clause-none g c = all_at_end g.S.PieceSource.stands c.args.channels.now (heap_items c.args.waiting.now) c.in-Some.field-0.now
    c.requires (c.in-Some.ensures.greatest c.requires.ordered) c.in-End.is

pub returns-in_default : goal.returns-in_default
returns-in_default g c =
    let heap = heap_items c.args.waiting.now in
    let first = c.in-Some.field-0.now in
    let f = first_stand g.S.PieceSource.stands c.args.channels.now heap first c.requires (c.in-Some.ensures.greatest c.requires.ordered)
    (slice_get-get_or heap 0 first (search rules) ∙ ap Some (sym c.in-Some.ensures.lookup)) c.in_default.not-End in
    record { none = tt; least = f.least; within = f.within; first = f.first }

pub returns-in-None-clause-none : goal.returns-in-None-clause-none
returns-in-None-clause-none g c = none_at_all g.S.PieceSource.stands c.args.channels.now (heap_items c.args.waiting.now) c.requires (search rules)
