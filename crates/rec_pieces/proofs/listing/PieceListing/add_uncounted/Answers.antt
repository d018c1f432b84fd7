use Rattle.std.proofs.Common.{None, refl, sym, ap, ◌∙◌}
use Rattle.ch11_packet.specs.Classes.{data_in}
use Rattle.rec_reader.specs.Packets.{PacketData}
use Rattle.rec_pieces.specs.declared.entry.PieceKind.TheVariants.{Uncounted}
use Rattle.rec_pieces.specs.Listings.{counters_in, least_of, lesser}
use Rattle.rec_pieces.proofs.Listed.{lesser_none, lists_named, on_ok}
use Rattle.rec_pieces.proofs.listing.PieceListing.add_uncounted.Goals as goal

pub returns : goal.returns
returns c = on_ok c.add_entry.result (λ adds. λ packets packet at names had.
    let old = c.args.self.now in
    lists_named packets packet old c.add_entry.new.channels old.least c.args.channel Uncounted _ names
    (ap (λ n. record { at = n; kind = Uncounted }) (sym at))
    (sym (lesser_none old.least)
    ∙ ap (λ named. lesser old.least (least_of (counters_in named packet.header.counter (data_in packet.header packet.body)))) (sym names))
    adds had)
    c.add_entry.ensures
