use Rattle.std.proofs.Common.{◌≡◌, ◌+◌, ◌∙◌, length, ap, sym, subst, true≢false}
use Rattle.std.proofs.Props.{props}
use Rattle.std.proofs.Math.Logic.{∥∥₁_elim}
use Rattle.ch11_packet.specs.declared.header.TheConstants.{HEADER_LEN}
use Rattle.ch11_packet.specs.Classes.{Holds, data_in}
use Rattle.ch11_packet.specs.Header.{HeaderData}
use Rattle.ch11_packet.specs.Views.{header_data}
use Rattle.ch11_packet.proofs.Classing.{one_held}
use Rattle.rec_reader.specs.Packets.{PacketData}
use Rattle.rec_reader.specs.Views.{packet_data}
use Rattle.rec_joined.specs.Moving.{moving_of}
use Rattle.rec_joined.specs.MovedPackets.{IsMovable, IsNamedAs, moved_data, moved_header, moved_packet, moved_what}
use Rattle.rec_joined.proofs.MovedClasses.{has_counters, made, ok_or_fault, same_packet}
use Rattle.rec_joined.proofs.packet.moved_packet.Goals as goal

pub classify-requires : goal.classify-requires
classify-requires c =
    let p = c.packet-packet.result in
    let moving = moving_of c.args.moves.now in
    let names : IsNamedAs moving (packet_data p) c.in-Some-id.id = record {
      channel = c.in-Some.channel;
      kind = c.in-Some.kind;
      named = sym c.names.ensures ∙ c.in-Some.is;
      given = c.in-Some-id.ensures.some;
      from_one = c.in-Some-id.ensures.named;
      fits = c.in-Some-id.ensures.fits;
    } in
    ap (λ l. HEADER_LEN + length l) c.as_slice.ensures.value ∙ ∥∥₁_elim p.holds (hlevel props) (λ holds.
    (made moving (packet_data p) c.in-Some-id.id (header_data c.moved_header-header.result) c.in_ok-body.body.items names p.header.in_range p.long
    c.in_ok-body.ensures.fit c.in_ok-body.ensures.numbers c.moved_header-header.ensures c.in_ok-body.ensures.body holds).long)

pub of-requires-clause-long : goal.of-requires-clause-long
of-requires-clause-long c =
    let p = c.packet-packet.result in
    let moving = moving_of c.args.moves.now in
    let names : IsNamedAs moving (packet_data p) c.in-Some-id.id = record {
      channel = c.in-Some.channel;
      kind = c.in-Some.kind;
      named = sym c.names.ensures ∙ c.in-Some.is;
      given = c.in-Some-id.ensures.some;
      from_one = c.in-Some-id.ensures.named;
      fits = c.in-Some-id.ensures.fits;
    } in
    ∥∥₁_elim p.holds (hlevel props) (λ holds.
    (made moving (packet_data p) c.in-Some-id.id (header_data c.moved_header-header.result) c.in_ok-body.body.items names p.header.in_range p.long
    c.in_ok-body.ensures.fit c.in_ok-body.ensures.numbers c.moved_header-header.ensures c.in_ok-body.ensures.body holds).long)

pub unreachable-requires : goal.unreachable-requires
unreachable-requires c =
    let p = c.packet-packet.result in
    let moving = moving_of c.args.moves.now in
    let names : IsNamedAs moving (packet_data p) c.in-Some-id.id = record {
      channel = c.in-Some.channel;
      kind = c.in-Some.kind;
      named = sym c.names.ensures ∙ c.in-Some.is;
      given = c.in-Some-id.ensures.some;
      from_one = c.in-Some-id.ensures.named;
      fits = c.in-Some-id.ensures.fits;
    } in
    ∥∥₁_elim p.holds (hlevel props) (λ holds.
    let is = (made moving (packet_data p) c.in-Some-id.id (header_data c.moved_header-header.result) c.in_ok-body.body.items names p.header.in_range p.long
    c.in_ok-body.ensures.fit c.in_ok-body.ensures.numbers c.moved_header-header.ensures c.in_ok-body.ensures.body holds) in
    ok_or_fault c.classify.result (moved_what moving p.what) c.in-Err.field-0
    (c.classify.ensures.found (moved_what moving p.what)
    (subst (λ l. Holds (header_data c.moved_header-header.result) l (moved_what moving p.what)) (sym c.as_slice.ensures.value) is.holds))
    c.in-Err.is)

pub returns-clause-moved : goal.returns-clause-moved
returns-clause-moved c =
    let p = c.packet-packet.result in
    let moving = moving_of c.args.moves.now in
    let names : IsNamedAs moving (packet_data p) c.in-Some-id.id = record {
      channel = c.in-Some.channel;
      kind = c.in-Some.kind;
      named = sym c.names.ensures ∙ c.in-Some.is;
      given = c.in-Some-id.ensures.some;
      from_one = c.in-Some-id.ensures.named;
      fits = c.in-Some-id.ensures.fits;
    } in
    c.of.ensures.parts ∙ ∥∥₁_elim p.holds (hlevel props) (λ holds.
    let is = (made moving (packet_data p) c.in-Some-id.id (header_data c.moved_header-header.result) c.in_ok-body.body.items names p.header.in_range p.long
    c.in_ok-body.ensures.fit c.in_ok-body.ensures.numbers c.moved_header-header.ensures c.in_ok-body.ensures.body holds) in
    same_packet c.args.at (header_data c.moved_header-header.result) _ c.in_ok-body.body.items _ c.in-Ok.what _ is.header_is c.in_ok-body.ensures.body
    (one_held (header_data c.moved_header-header.result) c.in_ok-body.body.items c.in-Ok.what (moved_what moving p.what)
    (subst (λ l. Holds (header_data c.moved_header-header.result) l c.in-Ok.what) c.as_slice.ensures.value c.in-Ok.ensures.holds) is.holds))
    ∙ ap (moved_packet moving c.args.at) c.packet-packet.ensures.same

pub returns-clause-movable : goal.returns-clause-movable
returns-clause-movable c =
    let p = c.packet-packet.result in
    let moving = moving_of c.args.moves.now in
    let names : IsNamedAs moving (packet_data p) c.in-Some-id.id = record {
      channel = c.in-Some.channel;
      kind = c.in-Some.kind;
      named = sym c.names.ensures ∙ c.in-Some.is;
      given = c.in-Some-id.ensures.some;
      from_one = c.in-Some-id.ensures.named;
      fits = c.in-Some-id.ensures.fits;
    } in
    subst (IsMovable moving) c.packet-packet.ensures.same (record {
      named = (c.in-Some-id.id, names);
      counters = has_counters moving (packet_data p) (c.in-Some.channel, c.in-Some.kind) names.named
          (c.if-lacks_counter.ensures.has (λ is. true≢false (sym is))) c.in_ok-body.ensures.fit;
      numbers = c.in_ok-body.ensures.numbers;
    })

pub returns-clause-there : goal.returns-clause-there
returns-clause-there c = λ there is_there. (
    let p = c.packet-packet.result in
    let moving = moving_of c.args.moves.now in
    let names : IsNamedAs moving (packet_data p) c.in-Some-id.id = record {
      channel = c.in-Some.channel;
      kind = c.in-Some.kind;
      named = sym c.names.ensures ∙ c.in-Some.is;
      given = c.in-Some-id.ensures.some;
      from_one = c.in-Some-id.ensures.named;
      fits = c.in-Some-id.ensures.fits;
    } in
    let header = header_data p.header in
    record {
      header = ap (moved_header moving) (is_there.header ∙ ap (λ (x : PacketData). x.header) (sym c.packet-packet.ensures.same))
          ∙ ∥∥₁_elim p.holds (hlevel props) (λ holds.
          let is = (made moving (packet_data p) c.in-Some-id.id (header_data c.moved_header-header.result) c.in_ok-body.body.items names
          p.header.in_range p.long
          c.in_ok-body.ensures.fit c.in_ok-body.ensures.numbers c.moved_header-header.ensures c.in_ok-body.ensures.body holds) in
          sym is.header_is) ∙ ap (λ (x : PacketData). x.header) (sym c.of.ensures.parts);
      held = ∥∥₁_elim p.holds (hlevel props) (λ holds.
          let is = (made moving (packet_data p) c.in-Some-id.id (header_data c.moved_header-header.result) c.in_ok-body.body.items names
          p.header.in_range p.long
          c.in_ok-body.ensures.fit c.in_ok-body.ensures.numbers c.moved_header-header.ensures c.in_ok-body.ensures.body holds) in
          let same : there.held ≡ data_in header p.body.now =
          is_there.held ∙ ap (λ (x : PacketData). data_in x.header x.body) (sym c.packet-packet.ensures.same) in
          let kind : there.header.kind ≡ header.kind =
          ap (λ (h : HeaderData). h.kind) is_there.header ∙ ap (λ (x : PacketData). x.header.kind) (sym c.packet-packet.ensures.same) in
          ap (λ k. moved_data moving k there.held) kind ∙ ap (moved_data moving header.kind) same ∙ sym is.held_is)
          ∙ ap (λ (x : PacketData). data_in x.header x.body) (sym c.of.ensures.parts);
    })
