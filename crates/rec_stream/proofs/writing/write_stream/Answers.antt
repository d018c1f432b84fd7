use Rattle.std.proofs.Common.{sym, subst, ◌∙◌}
use Rattle.ch11_channels.specs.FreeIds.{IsLeastFree}
use Rattle.rec_whole.specs.NamedChannels.{AreNamed}
use Rattle.rec_stream.specs.StreamChannels.{IsStreamSetup, is_said, said_ids}
use Rattle.rec_stream.proofs.SaidChannels.{few_channels}
use Rattle.rec_stream.proofs.StreamWrites.{by_setup}
use Rattle.rec_stream.proofs.writing.write_stream.Goals as goal

pub write_packets-requires : goal.write_packets-requires
write_packets-requires g c =
    let names = c.args.names.now.channels.now in
    let are : AreNamed names (said_ids names) c.file_setup-setup.result.channels.now =
    subst (AreNamed names (said_ids names)) (sym (c.file_setup-setup.ensures.channels ∙ c.as_slice.ensures.value))
    (subst (λ ids. AreNamed names ids c.in_ok-channels.channels.items) (c.deref.ensures.value ∙ c.in_ok-ids.ensures) c.in_ok-channels.ensures) in
    record { number = few_channels names c.file_setup-setup.result.channels.now c.in-Some.time_channel c.in-Some.ensures are }

pub returns-clause-writes : goal.returns-clause-writes
returns-clause-writes g c = λ recording has.
    let names = c.args.names.now.channels.now in
    let setup = c.file_setup-setup.result in
    let are : AreNamed names (said_ids names) setup.channels.now =
    subst (AreNamed names (said_ids names)) (sym (c.file_setup-setup.ensures.channels ∙ c.as_slice.ensures.value))
    (subst (λ ids. AreNamed names ids c.in_ok-channels.channels.items) (c.deref.ensures.value ∙ c.in_ok-ids.ensures) c.in_ok-channels.ensures) in
    let is : IsStreamSetup c.args.names.now setup = record {
      said = c.file_setup-setup.ensures.names;
      unindexed = c.file_setup-setup.ensures.indexed;
      time_channel = subst (IsLeastFree (is_said names)) (sym c.file_setup-setup.ensures.time_channel) c.in-Some.ensures;
      channels = are;
    } in
    by_setup c.args.names.now c.args.clock.now recording (g.W.Write.contents c.args.out.now) (g.W.Write.contents c.write_packets.new.out) setup
    c.write_packets.result is (c.write_packets.ensures recording has)
