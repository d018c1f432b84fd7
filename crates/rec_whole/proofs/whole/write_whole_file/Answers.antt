use Rattle.std.proofs.Common.{◌≡◌, ◌<◌, ◌^◌, None, length, sym, subst, ◌∙◌}
use Rattle.rec_pieces.specs.Listings.{other_of}
use Rattle.rec_pieces.specs.PieceListings.{is_named, listed_channels, named_channels}
use Rattle.ch11_channels.specs.FreeIds.{IsLeastFree}
use Rattle.rec_whole.specs.NamedChannels.{AreNamed}
use Rattle.rec_whole.specs.WholeRecordings.{IsSetupOf}
use Rattle.rec_whole.proofs.FreeChannels.{few_named, free_of_packets, named_of_packets}
use Rattle.rec_whole.proofs.WholeFiles.{whole_of}
use Rattle.rec_whole.proofs.whole.write_whole_file.Goals as goal

pub write_with_setup-requires-clause-number : goal.write_with_setup-requires-clause-number
write_with_setup-requires-clause-number g c =
    subst (λ channels. length channels < 2 ^ 16) (sym c.file_setup-setup.ensures.channels)
    (few_named c.args.listing.now c.in-Some-time_channel.time_channel c.args.names.now.channels.now c.as_slice.result.now
    c.in-Some-time_channel.ensures
    (subst (AreNamed c.args.names.now.channels.now (listed_channels c.args.listing.now)) (sym c.as_slice.ensures.value)
    (subst (λ ids. AreNamed c.args.names.now.channels.now ids c.in_ok-channels.channels.items) (c.deref.ensures.value ∙ c.in_ok-ids.ensures)
    c.in_ok-channels.ensures)))

pub returns : goal.returns
returns g c = λ places packets is read had. (
    let names = c.args.names.now in
    let none : other_of packets ≡ None = search in
    let setup = c.file_setup-setup.result in
    let free = free_of_packets packets c.args.listing.now c.in-Some-time_channel.time_channel had c.in-Some-time_channel.ensures in
    let are = named_of_packets packets c.args.listing.now names.channels.now c.as_slice.result.now had
    (subst (AreNamed names.channels.now (listed_channels c.args.listing.now)) (sym c.as_slice.ensures.value)
    (subst (λ ids. AreNamed names.channels.now ids c.in_ok-channels.channels.items) (c.deref.ensures.value ∙ c.in_ok-ids.ensures)
    c.in_ok-channels.ensures)) in
    let is_setup : IsSetupOf packets names setup = record {
      said = c.file_setup-setup.ensures.names;
      indexed = c.file_setup-setup.ensures.indexed;
      time_channel = subst (IsLeastFree (is_named packets)) (sym c.file_setup-setup.ensures.time_channel) free;
      channels = subst (AreNamed names.channels.now (named_channels packets)) (sym c.file_setup-setup.ensures.channels) are;
    } in
    whole_of packets names c.args.clock.now c.args.most (g.W.Write.contents c.args.out.now)
    (g.W.Write.contents c.write_with_setup.new.out) setup none is_setup c.write_with_setup.result
    (c.write_with_setup.ensures places packets is read had))
