use Rattle.std.proofs.Common.{◌∙◌, ap, sym, subst}
use Rattle.rec_reader.specs.Packets.{PacketData}
use Rattle.rec_joined.specs.Moving.{moving_of}
use Rattle.rec_joined.specs.MovedPackets.{IsUncountedAs, is_left_out}
use Rattle.rec_joined.proofs.ListedSoFar.{lists_none, lists_one}
use Rattle.rec_joined.proofs.listing.list_packet.Goals as goal

pub returns-then-leaves_out-clause-lists : goal.returns-then-leaves_out-clause-lists
returns-then-leaves_out-clause-lists c =
    let moving = moving_of c.args.moves.now in
    lists_none moving c.args.at c.args.owned.now c.args.listing.now
    (ap (is_left_out moving) (sym c.packet-packet.ensures.same) ∙ sym c.leaves_out.ensures ∙ c.if-leaves_out.true)

pub returns-clause-lists : goal.returns-clause-lists
returns-clause-lists c =
    let moving = moving_of c.args.moves.now in
    lists_one moving c.args.at c.args.owned.now c.in-Ok.moved c.uncounted.result c.args.listing.now c.add_listed.new.listing
    (ap (is_left_out moving) (sym c.packet-packet.ensures.same) ∙ sym c.leaves_out.ensures ∙ c.if-leaves_out.false)
    c.in-Ok.ensures.moved c.in-Ok.ensures.movable
    (subst (λ (p : PacketData). IsUncountedAs moving p.what c.uncounted.result) c.packet-packet.ensures.same c.uncounted.ensures)
    c.in_ok-add_listed.ensures
