use Rattle.std.proofs.Common.{◌∷◌, [], ◌++◌, sym, subst, inr}
use Rattle.rec_reader.specs.Audits.{AreLines}
use Rattle.rec_reader.proofs.AuditorEnd.{ClosesThese, one_more_closed, turn_whole, turn_next, turn_end, turn_found, ends_with, all_closed}
use Rattle.rec_reader.proofs.AuditorStanding.{keeps_these}
use Rattle.rec_reader.proofs.RecordingPackets.{passed_on}
use Rattle.rec_reader.proofs.audits.auditor.Auditor.end.Goals as goal

pub returns-in_err-close-clause-audits : goal.returns-in_err-close-clause-audits
returns-in_err-close-clause-audits c = λ packets stands.
    let channels = c.args.self.channels in
    let is = c.channels.invariant in
    let channel = c.in-Some-2.channel.now in
    let state = c.in-Some-2.state.now in
    let given = c.into_iter-channel-iterator.ensures.into_iter_gives in
    let keeps = keeps_these c.args.self packets c.in_default.is stands in
    let whole = turn_whole channels.entries is.0 c.channels.channel-iterator c.next.new.self (channel, state) is.1 c.in-Some-2.ensures.steps in
    let there = turn_found channels is.0 c.next.new.self channel state given.6 whole in
    passed_on packets c.from_residual.result c.in_err-close.field-0.0 c.from_residual.ensures.1
    (inr (inr (ends_with channels is.0 c.next.new.self c.channels.lines.items channel state c.in_err-close.field-0.0 given.5 whole there is.2
    c.in_err-close.ensures.closed packets keeps.passed keeps.channels)))

pub channels-preserved : goal.channels-preserved
channels-preserved c =
    let channels = c.args.self.channels in
    let is = c.channels.invariant in
    let channel = c.in-Some-2.channel.now in
    let state = c.in-Some-2.state.now in
    let whole = turn_whole channels.entries is.0 c.channels.channel-iterator c.next.new.self (channel, state) is.1 c.in-Some-2.ensures.steps in
    let there = turn_found channels is.0 c.next.new.self channel state c.into_iter-channel-iterator.ensures.into_iter_gives.6 whole in (
      is.0 ++ (channel, state) ∷ [],
      turn_next channels.entries is.0 c.next.new.self (channel, state) whole,
      subst (λ lines. ClosesThese channels (is.0 ++ (channel, state) ∷ []) lines) (sym c.in_ok-push.ensures.items)
          (one_more_closed channels is.0 c.channels.lines.items channel state c.in_ok-close.field-0 there
          (λ frames counted. (c.in_ok-close.ensures.closed frames counted, c.in_ok-close.ensures.line frames counted)) is.2),
    )

pub returns-clause-audits : goal.returns-clause-audits
returns-clause-audits c = λ packets stands.
    let channels = c.args.self.channels in
    let is = c.channels.invariant in
    let keeps = keeps_these c.args.self packets c.in_default.is stands in
    let whole = turn_end channels.entries is.0 c.channels.channel-iterator is.1 c.in-None.ensures.steps.0 in
    let both = all_closed channels is.0 c.channels.lines.items c.into_iter-channel-iterator.ensures.into_iter_gives.5 whole is.2 packets keeps.channels in
    record { passed = keeps.passed; closed = both.0; lines = subst (AreLines packets) (sym c.new.ensures) both.1; other = keeps.other }
