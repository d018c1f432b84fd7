use Rattle.std.proofs.Common.{ap, sym, ◌∙◌, subst}
use Rattle.std.specs.Option.{unwrap_or}
use Rattle.ch11_merge.specs.Placing.{SayLeft}
use Rattle.ch11_file.specs.WholeFile.{facts_of}
use Rattle.ch11_file.specs.FileEnds.{HoldsFile}
use Rattle.rec_pieces.specs.AllSources.{source_left}
use Rattle.rec_whole.specs.Ends.{end_of_file}
use Rattle.rec_whole.specs.WholeRecordings.{EndsEarly, channels_of_packets, facts_with}
use Rattle.rec_whole.proofs.WholeFiles.{ends_early, said_of_packets}
use Rattle.rec_whole.proofs.whole.write_with_setup.Goals as goal

pub returns-in-Ok : goal.returns-in-Ok
returns-in-Ok g c = λ places packets is read had. (
    subst (λ least. HoldsFile (facts_of c.args.setup.now c.args.clock.now least c.args.most (channels_of_packets packets))
    (g.W.Write.contents c.args.out.now) (g.W.Write.contents c.write_file.new.out) c.in-Ok.counts)
    (c.least_counter-least.ensures ∙ ap (λ least. unwrap_or least 0) had.least)
    (c.in-Ok.ensures (channels_of_packets packets)
    (said_of_packets (g.P.PacketsAt.there c.args.packets.now) places packets c.args.listing.now
    (SayLeft source_left c.in_ok-sources.sources) is read had c.in_ok-sources.ensures)))

pub returns : goal.returns
returns g c = λ places packets is read had. (
    subst (EndsEarly (facts_with packets c.args.clock.now c.args.most c.args.setup.now)
    (g.W.Write.contents c.args.out.now) (g.W.Write.contents c.write_file.new.out))
    (sym c.from.ensures)
    (subst (λ least. EndsEarly (facts_of c.args.setup.now c.args.clock.now least c.args.most (channels_of_packets packets))
    (g.W.Write.contents c.args.out.now) (g.W.Write.contents c.write_file.new.out) (end_of_file c.in-Err.end))
    (c.least_counter-least.ensures ∙ ap (λ least. unwrap_or least 0) had.least)
    (ends_early _ _ _ _ (c.in-Err.ensures (channels_of_packets packets)
    (said_of_packets (g.P.PacketsAt.there c.args.packets.now) places packets c.args.listing.now
    (SayLeft source_left c.in_ok-sources.sources) is read had c.in_ok-sources.ensures)))))
