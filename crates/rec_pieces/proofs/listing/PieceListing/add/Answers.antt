use Rattle.std.proofs.Common.{sym, refl, ap, ◌∙◌}
use Rattle.rec_reader.specs.Views.{packet_data}
use Rattle.rec_pieces.specs.Listings.{lesser}
use Rattle.rec_pieces.proofs.Listed.{lists_other, lists_named, on_ok}
use Rattle.rec_pieces.proofs.listing.PieceListing.add.Goals as goal

pub returns-in_default : goal.returns-in_default
returns-in_default c = λ packets had.
    lists_other packets (packet_data c.args.packet.now) c.args.self.now c.first-self.result (sym c.names.ensures ∙ c.in_default.is) c.first-self.ensures had

pub returns : goal.returns
returns c = on_ok c.add_entry.result (λ adds. λ packets had.
    lists_named packets (packet_data c.args.packet.now) c.args.self.now c.add_entry.new.channels c.lesser-self.result c.in-Some.channel c.in-Some.kind _
    (sym c.names.ensures ∙ c.in-Some.is) refl (c.lesser-self.ensures ∙ ap (lesser c.args.self.now.least) c.least_counter.ensures.is) adds had)
    c.add_entry.ensures
