use Rattle.std.proofs.Common.{◌≡◌, ◌<◌, [], ◌∷◌, ◌++◌, length, refl, sym, ◌∙◌, ap, arith, append_assoc, length-append}
use Rattle.std.proofs.lemmas.Result.{err_from_is_err_and}
use Rattle.bpf_insn.specs.Views.{stretch_data, pieces_in}
use Rattle.bpf_insn.specs.Listing.{pieces_from, insns_of}
use Rattle.bpf_insn.proofs.Listings.{after, after_piece, done_more, reads_an_insn}
use Rattle.bpf_insn.proofs.parse.parse_listing.Goals as goal

pub returns-in_err-push-clause-memory : goal.returns-in_err-push-clause-memory
returns-in_err-push-clause-memory c =
    let failed = err_from_is_err_and c.from_residual-in_err-push.result c.from_residual-in_err-push.ensures.1 in
    rw failed.1 (λ _.
    let piece = stretch_data c.in-Some-next_piece.piece in
    let left = pieces_in c.in-Some-next_piece.after in
    let done = c.pieces.invariant.done in
    let all : (done.0 ++ piece ∷ []) ++ left ≡ pieces_in c.in-Some.rest =
    append_assoc done.0 (piece ∷ []) left ∙ (ap (λ ps. done.0 ++ ps) (sym c.in-Some-next_piece.ensures.pieces) ∙ done.1) in
    let more = done_more done.0 piece c.pieces.program.items c.in_ok-insn.insn done.2 c.in_ok-insn.ensures in
    let some : 0 < length (done.0 ++ piece ∷ []) = rw length-append (omega arith) in
    let begins : pieces_from 0 c.args.text.now ≡ pieces_in c.of.result = rw (c.of.ensures.at, c.of.ensures.bytes) refl in
    let whole : pieces_from 0 c.args.text.now ≡ stretch_data c.in-Some.first ∷ ((done.0 ++ piece ∷ []) ++ left) =
    begins ∙ (c.in-Some.ensures.pieces ∙ ap (λ ps. stretch_data c.in-Some.first ∷ ps) (sym all)) in
    rw whole (reads_an_insn (stretch_data c.in-Some.first) (done.0 ++ piece ∷ []) left c.in_ok-said.said (c.pieces.program.items ++ c.in_ok-insn.insn ∷ [])
    c.in_ok-said.ensures more some))

pub pieces-preserved : goal.pieces-preserved
pieces-preserved c =
    let piece = stretch_data c.in-Some-next_piece.piece in
    let left = pieces_in c.in-Some-next_piece.after in
    let done = c.pieces.invariant.done in
    let before = c.pieces.program.items in
    let insn = c.in_ok-insn.insn in
    record {
      whole = rw c.in_ok-push.ensures.items (after_piece before piece left insn c.in_ok-insn.ensures
          ∙ (ap (λ ps. after before (insns_of ps)) (sym c.in-Some-next_piece.ensures.pieces) ∙ c.pieces.invariant.whole));
      done = (
        done.0 ++ piece ∷ [],
        append_assoc done.0 (piece ∷ []) left ∙ (ap (λ ps. done.0 ++ ps) (sym c.in-Some-next_piece.ensures.pieces) ∙ done.1),
        rw c.in_ok-push.ensures.items (done_more done.0 piece before insn done.2 c.in_ok-insn.ensures),
      );
    }
