use Rattle.std.proofs.Common.{length, sym, ap, subst, arith}
use Rattle.std.specs.Vec.{vec_capacity}
use Rattle.eth_frame.specs.Views.{frame_data}
use Rattle.ch11_packet.specs.Building.{OpenBody, open_of, Fits}
use Rattle.ch11_packet.proofs.Bodies.{IsOpen-push, room_for, count_fits}
use Rattle.ch11_packet.proofs.frames.builder.DataBuilder.push.Goals as goal

pub append_frame-requires-clause-room : goal.append_frame-requires-clause-room
append_frame-requires-clause-room c =
    let b = c.self.inside.body in
    let len = length c.args.frame.now.bytes.now in
    let room = room_for b.count b.net b.speed b.limit (vec_capacity b.bytes) b.bytes.items len c.self.invariant
    (subst (λ (v : OpenBody). Fits v len) (sym c.self.view_is) c.requires) in
    let same = b.bytes.ok in
    omega (arith, room, same)

pub overflow_add-self : goal.overflow_add-self
overflow_add-self c =
    let b = c.self.inside.body in
    let few = count_fits b.count b.net b.speed b.limit (vec_capacity b.bytes) b.bytes.items c.self.invariant in
    omega (arith, few)

pub invariant_of-self : goal.invariant_of-self
invariant_of-self c =
    let b = c.self.inside.body in
    let frame = frame_data c.args.frame.now in
    (IsOpen-push b.count b.net b.speed b.limit (vec_capacity b.bytes) (vec_capacity c.append_frame.new.body)
    b.bytes.items c.append_frame.new.body.items frame c.self.invariant c.args.frame.now.in_range
    (subst (λ (v : OpenBody). Fits v (length frame.bytes)) (sym c.self.view_is) c.requires) c.append_frame.ensures.items
    c.append_frame.ensures.capacity).is_open

pub returns : goal.returns
returns c =
    let b = c.self.inside.body in
    let frame = frame_data c.args.frame.now in
    let now =
    IsOpen-push b.count b.net b.speed b.limit (vec_capacity b.bytes) (vec_capacity c.append_frame.new.body)
    b.bytes.items c.append_frame.new.body.items frame c.self.invariant c.args.frame.now.in_range
    (subst (λ (v : OpenBody). Fits v (length frame.bytes)) (sym c.self.view_is) c.requires) c.append_frame.ensures.items c.append_frame.ensures.capacity in
    record { added = rw (← c.self.view_is) (ap (λ l. open_of l b.net b.speed b.limit) now.frames) }
