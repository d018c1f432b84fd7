use Rattle.std.proofs.Common.{rules, ◌/◌, ◌%◌, sym, ap, ◌∙◌, refl}
use Rattle.std.specs.Prelude.{slice_set}
use Rattle.std.specs.Vec.{vec_capacity}
use Rattle.ch11_packet.specs.Sums.{body_sum}
use Rattle.ch11_packet.specs.Building.{OpenBody, body_of}
use Rattle.ch11_packet.proofs.Bodies.{IsSealed-IsOpen, some_frames, length-IsOpen}
use Rattle.ch11_packet.proofs.frames.builder.DataBuilder.seal.Goals as goal

pub new-requires : goal.new-requires
new-requires c =
    let b = c.self.inside.body in
    let some = some_frames b.count b.bytes.items (λ e. c.requires (ap (λ (v : OpenBody). v.frames) (sym c.self.view_is) ∙ e)) in
    let summed = c.body_sum-sum.ensures.sum ∙ ap body_sum c.as_slice.ensures.value in
    (IsSealed-IsOpen b.count b.net b.speed b.limit (vec_capacity b.bytes) _ b.bytes.items _ c.self.invariant some (rw c.to_le_bytes.ensures (search rules))
    summed).is_sealed

pub returns-clause-sealed : goal.returns-clause-sealed
returns-clause-sealed c =
    let b = c.self.inside.body in
    let some = some_frames b.count b.bytes.items (λ e. c.requires (ap (λ (v : OpenBody). v.frames) (sym c.self.view_is) ∙ e)) in
    let bytes = slice_set (slice_set b.bytes.items 0 (b.count % 256)) 1 (b.count / 256 % 256) in
    let sealed = IsSealed-IsOpen b.count b.net b.speed b.limit (vec_capacity b.bytes) (body_sum bytes) b.bytes.items bytes c.self.invariant some refl refl in
    let made = rw c.to_le_bytes.ensures at c.new.ensures in
    made ∙ ap (λ l. body_of l b.net b.speed b.limit) sealed.frames ∙ ap (λ (v : OpenBody). body_of v.frames v.net v.speed v.limit) c.self.view_is

pub returns-clause-within : goal.returns-clause-within
returns-clause-within c =
    let b = c.self.inside.body in
    let size = length-IsOpen b.count b.net b.speed b.limit (vec_capacity b.bytes) b.bytes.items c.self.invariant in
    rw (← c.self.view_is, ← size) c.self.invariant.fits
