use Rattle.std.proofs.Common.{rules, ◌≡◌, ◌%◌, ◌^◌, length, sym, ap, ◌∙◌, arith}
use Rattle.std.proofs.lemmas.Bool.{eqb-true, eqb-false}
use Rattle.std.proofs.lemmas.List.{nil_from_length}
use Rattle.ch11_packet.specs.declared.frames.decode.BodyFault.TheVariants.{Short, LeftOver}
use Rattle.ch11_packet.proofs.ReadBodies.{no_fault, one_body, fault_answered, no_fault_answered, Passed-next, read_format}
use Rattle.ch11_packet.proofs.ReadBodies.{frames_end, more_follows, AreFrames-Passed, SpellsBody-AreFrames}
use Rattle.ch11_packet.proofs.frames.decode.decode_frames.Goals as goal

pub frames-preserved : goal.frames-preserved
frames-preserved c = search (rules, Passed-next)

pub returns-in_default-split_frame-clause-read : goal.returns-in_default-split_frame-clause-read
returns-in_default-split_frame-clause-read c = λ frames spells.
    let is_format = read_format c.args.body.now _ c.in-len4-up.len_at_least c.from_le_bytes-word.ensures c.if-word-ne0.false in
    let fault = frames_end c.args.body.now c.frames.rest.now _ c.frames.counter is_format c.from_le_bytes-word.ensures c.frames.invariant c.frames-test.true
    c.in_default-split_frame.ensures.cut in
    no_fault frames c.args.body.now Short spells fault

pub returns-in_default-split_frame-clause-fault : goal.returns-in_default-split_frame-clause-fault
returns-in_default-split_frame-clause-fault c =
    let is_format = read_format c.args.body.now _ c.in-len4-up.len_at_least c.from_le_bytes-word.ensures c.if-word-ne0.false in
    let fault = frames_end c.args.body.now c.frames.rest.now _ c.frames.counter is_format c.from_le_bytes-word.ensures c.frames.invariant c.frames-test.true
    c.in_default-split_frame.ensures.cut in
    fault_answered _ c.args.body.now Short fault

pub returns-then-not-is_empty-clause-read : goal.returns-then-not-is_empty-clause-read
returns-then-not-is_empty-clause-read c = λ frames spells.
    let is_format = read_format c.args.body.now _ c.in-len4-up.len_at_least c.from_le_bytes-word.ensures c.if-word-ne0.false in
    let all : c.frames.counter ≡ c.from_le_bytes-word.result % 2 ^ 16 = omega arith in
    let fault = more_follows c.args.body.now c.frames.rest.now _ c.frames.counter is_format c.from_le_bytes-word.ensures c.frames.invariant all
    (λ none. eqb-false _ 0 (sym c.is_empty.ensures ∙ c.if-not-is_empty.true) (ap length none)) in
    no_fault frames c.args.body.now LeftOver spells fault

pub returns-then-not-is_empty-clause-fault : goal.returns-then-not-is_empty-clause-fault
returns-then-not-is_empty-clause-fault c =
    let is_format = read_format c.args.body.now _ c.in-len4-up.len_at_least c.from_le_bytes-word.ensures c.if-word-ne0.false in
    let all : c.frames.counter ≡ c.from_le_bytes-word.result % 2 ^ 16 = omega arith in
    fault_answered _ c.args.body.now LeftOver (more_follows c.args.body.now c.frames.rest.now _ c.frames.counter is_format c.from_le_bytes-word.ensures
    c.frames.invariant all
    (λ none. eqb-false _ 0 (sym c.is_empty.ensures ∙ c.if-not-is_empty.true) (ap length none)))

pub invariant_of-result : goal.invariant_of-result
invariant_of-result c =
    let all : c.frames.counter ≡ c.from_le_bytes-word.result % 2 ^ 16 = omega arith in
    ∣ AreFrames-Passed _ c.frames.counter _ c.frames.rest.now c.frames.invariant all
    (nil_from_length _ (eqb-true _ 0 (sym c.is_empty.ensures ∙ c.if-not-is_empty.false))) ∣₁

pub returns-clause-spelled : goal.returns-clause-spelled
returns-clause-spelled c =
    let is_format = read_format c.args.body.now _ c.in-len4-up.len_at_least c.from_le_bytes-word.ensures c.if-word-ne0.false in
    let all : c.frames.counter ≡ c.from_le_bytes-word.result % 2 ^ 16 = omega arith in
    let are = AreFrames-Passed _ c.frames.counter _ c.frames.rest.now c.frames.invariant all
    (nil_from_length _ (eqb-true _ 0 (sym c.is_empty.ensures ∙ c.if-not-is_empty.false))) in
    SpellsBody-AreFrames c.args.body.now _ (λ i. omega (arith, c.type_inv.body i)) is_format c.from_le_bytes-word.ensures are

pub returns-clause-read : goal.returns-clause-read
returns-clause-read c = λ frames spells.
    one_body _ frames c.args.body.now (returns-clause-spelled c) spells

pub returns-clause-fault : goal.returns-clause-fault
returns-clause-fault c = no_fault_answered _ _ _ c.args.body.now (returns-clause-spelled c)
