use Rattle.std.proofs.Common.{◌≡◌, ◌∙◌, ◌-◌, ◌++◌, take, drop, length, ap, sym, subst, arith, append_assoc}
use Rattle.std.proofs.lemmas.List.{length-drop, take_all}
use Rattle.ch11_packet.specs.Classes.{said_frames}
use Rattle.ch11_packet.specs.FramesRead.{AreFrames, first_reads}
use Rattle.ch11_packet.proofs.ReadBodies.{frames_held, word_held}
use Rattle.rec_joined.specs.Moving.{moving_of}
use Rattle.rec_joined.specs.MovedFrames.{HaveCounters, moved_bytes}
use Rattle.rec_joined.proofs.MovedClasses.{count_held}
use Rattle.rec_joined.proofs.Concluded.{on_ok}
use Rattle.rec_joined.proofs.bodies.add_body.Goals as goal

pub split_at-requires : goal.split_at-requires
split_at-requires c = word_held c.args.count c.args.held.now c.requires

pub add_moved-requires : goal.add_moved-requires
add_moved-requires c =
    subst (λ l. ∥ AreFrames c.args.count l ∥₁)
    (take_all (length c.args.held.now - 4) (drop 4 c.args.held.now) (omega (arith, length-drop 4 c.args.held.now)) ∙ sym c.split_at.ensures.back)
    (frames_held c.args.count c.args.held.now c.requires)

pub returns-clause-bytes : goal.returns-clause-bytes
returns-clause-bytes c =
    let counters = (moving_of c.args.moves.now).counters in
    let held = c.args.held.now in
    on_ok c.add_moved.result _ _ (λ bytes.
    bytes
    ∙ ap (λ l. l ++ moved_bytes counters c.args.count c.split_at.result.1.now)
    (c.in_ok-extend_from_slice.ensures.items ∙ ap (λ l. c.args.out.now.items ++ l) c.split_at.ensures.front)
    ∙ append_assoc c.args.out.now.items (take 4 held) (moved_bytes counters c.args.count c.split_at.result.1.now)
    ∙ ap (λ l. c.args.out.now.items ++ (take 4 held ++ moved_bytes counters c.args.count l)) c.split_at.ensures.back
    ∙ ap (λ n. c.args.out.now.items ++ (take 4 held ++ moved_bytes counters n (drop 4 held))) (count_held c.args.count held c.requires))
    c.add_moved.ensures.bytes

pub returns-clause-fit : goal.returns-clause-fit
returns-clause-fit c =
    let held = c.args.held.now in
    let same : first_reads c.args.count c.split_at.result.1.now ≡ said_frames held =
    ap (first_reads c.args.count) c.split_at.ensures.back ∙ ap (λ n. first_reads n (drop 4 held)) (count_held c.args.count held c.requires) in
    on_ok c.add_moved.result _ _ (subst (HaveCounters (moving_of c.args.moves.now).counters) same) c.add_moved.ensures.fit

pub returns-clause-gap : goal.returns-clause-gap
returns-clause-gap c = λ is all. (
    let held = c.args.held.now in
    let same : first_reads c.args.count c.split_at.result.1.now ≡ said_frames held =
    ap (first_reads c.args.count) c.split_at.ensures.back ∙ ap (λ n. first_reads n (drop 4 held)) (count_held c.args.count held c.requires) in
    c.add_moved.ensures.gap is (subst (HaveCounters (moving_of c.args.moves.now).counters) (sym same) all))
