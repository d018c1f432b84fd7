use Rattle.std.proofs.Common.{◌∙◌, ◌+◌, ap, arith, drop}
use Rattle.cli_chapter11.specs.Joining.{name_by_table, said_first}
use Rattle.cli_chapter11.proofs.JoinedRecordings.{names_end, names_next}
use Rattle.cli_chapter11.proofs.joining.name_in.Goals as goal

pub returns-in-Some : goal.returns-in-Some
returns-in-Some c =
    let rest = name_by_table (drop (c.recordings.place + 1) c.args.recordings.now) (drop (c.recordings.place + 1) c.args.all.now) c.args.channel.now in
    c.recordings.invariant
    ∙ names_next c.args.recordings.now c.args.all.now c.args.channel.now c.recordings.place c.index-recordings-place.result c.index-all-place.result
    (omega (arith, c.recordings-test.true, c.min-place-end.ensures)) (omega (arith, c.recordings-test.true, c.min-place-end.ensures))
    c.index-recordings-place.is c.index-all-place.is
    ∙ ap (λ l. said_first l rest) c.in-Some.ensures

pub recordings-preserved : goal.recordings-preserved
recordings-preserved c =
    let rest = name_by_table (drop (c.recordings.place + 1) c.args.recordings.now) (drop (c.recordings.place + 1) c.args.all.now) c.args.channel.now in
    c.recordings.invariant
    ∙ names_next c.args.recordings.now c.args.all.now c.args.channel.now c.recordings.place c.index-recordings-place.result c.index-all-place.result
    (omega (arith, c.recordings-test.true, c.min-place-end.ensures)) (omega (arith, c.recordings-test.true, c.min-place-end.ensures))
    c.index-recordings-place.is c.index-all-place.is
    ∙ ap (λ l. said_first l rest) c.in_default.ensures

pub returns : goal.returns
returns c =
    c.recordings.invariant
    ∙ names_end c.args.recordings.now c.args.all.now c.args.channel.now c.recordings.place (omega (arith, c.recordings-test.false, c.min-place-end.ensures))
