use Rattle.std.proofs.Common.{List, ◌∷◌, [], ◌++◌, ◌∙◌, ap, sym, subst, arith}
use Rattle.ch11_packet.specs.FramesRead.{ReadFrameData}
use Rattle.ch11_packet.specs.Views.{read_frame_data}
use Rattle.ch11_merge.specs.Short.{FitPacket}
use Rattle.ch11_file.specs.CopiedFrames.{copied_frame}
use Rattle.ch11_file.proofs.OpenPieces.{adds_copy, few_held}
use Rattle.ch11_file.proofs.builder.PieceBuilder.push.Goals as goal

pub overflow_add-self : goal.overflow_add-self
overflow_add-self c =
    let few = few_held 0 c.self.inside.count c.self.inside.bytes.items c.self.invariant in
    omega arith

pub invariant_of-self-2 : goal.invariant_of-self-2
invariant_of-self-2 c =
    let b = c.self.inside in
    let frame = read_frame_data c.args.frame.now in
    (adds_copy b.count b.bytes.items c.append_frame.new.body.items frame c.self.invariant c.args.frame.now.in_range
    (subst (λ (fs : List ReadFrameData). FitPacket (fs ++ frame ∷ [])) (sym c.self.view_is) c.requires)
    (c.append_frame.ensures.items ∙ ap (λ l. l ++ copied_frame frame) c.reserve.ensures.items)).holds

pub returns-clause-added : goal.returns-clause-added
returns-clause-added c =
    let b = c.self.inside in
    let frame = read_frame_data c.args.frame.now in
    (adds_copy b.count b.bytes.items c.append_frame.new.body.items frame c.self.invariant c.args.frame.now.in_range
    (subst (λ (fs : List ReadFrameData). FitPacket (fs ++ frame ∷ [])) (sym c.self.view_is) c.requires)
    (c.append_frame.ensures.items ∙ ap (λ l. l ++ copied_frame frame) c.reserve.ensures.items)).frames
    ∙ ap (λ (fs : List ReadFrameData). fs ++ frame ∷ []) c.self.view_is
