use Rattle.std.proofs.Common.{◌≡◌, ◌+◌, ◌-◌, ◌++◌, length, take, ap, subst, ◌∙◌, arith, take_all, replicate}
use Rattle.std.specs.Io.KnownBytes.{Consumes}
use Rattle.std.specs.Vec.{vec_len}
use Rattle.rec_reader.proofs.StreamFill.{lent_to_end, grown_front, length-room}
use Rattle.rec_reader.proofs.stream.read_step.Goals as goal

pub returns-clause-taken : goal.returns-clause-taken
returns-clause-taken g c =
    let part = c.fill.new.places in
    let start = c.len-start.result in
    let lent = c.deref_mut.result.now in
    let grown = c.resize.new.self in
    let val = c.deref_mut.ensures.value in
    let vlen = c.deref_mut.ensures.len in
    let rlen = c.in_ok-resize.ensures.len in
    let kept = c.in_ok-reserve_exact.ensures.items in
    let room : length part ≡ length lent - start = c.fill.auto.places ∙ length-room start lent in
    let long : length lent ≡ start + c.args.step = vlen ∙ rlen in
    let len : length part ≡ c.args.step = omega (arith, room, long) in
    let whole = take_all c.in_ok-filled.filled part (omega (arith, len, c.if-filled-step.false)) in
    let ended = lent_to_end grown.len start lent part grown.items (omega (arith, vlen)) (omega (arith, long)) room in
    let items = val ∙ c.in_ok-resize.ensures.items ∙ ap (λ l. take (start + c.args.step) l
    ++ replicate (start + c.args.step - vec_len c.reserve_exact.new.self) 0) kept in
    let front = ap (take start) items ∙ grown_front start c.args.step c.args.body.now.items _ (omega (arith, c.len-start.ensures, c.args.body.now.ok)) in
    (part, len, ended ∙ ap (λ l. l ++ part) front, subst (Consumes _ _) whole c.in_ok-filled.ensures.taken)
