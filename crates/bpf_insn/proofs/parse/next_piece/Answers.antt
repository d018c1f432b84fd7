use Rattle.std.proofs.Common.{◌∙◌, ◌≡◌, [], take, drop, refl, sym, arith}
use Rattle.std.proofs.lemmas.List.{nil_from_length, length-drop}
use Rattle.std.proofs.lemmas.Bool.{eqb-true, eqb-false}
use Rattle.bpf_insn.specs.Views.{stretch_data}
use Rattle.bpf_insn.specs.Listing.{is_padding, is_separator}
use Rattle.bpf_insn.specs.Parts.{without_end}
use Rattle.bpf_insn.proofs.ListingCuts.{NoFront, no_front, front_is_position}
use Rattle.bpf_insn.proofs.ListingPieces.{in_gap, skip_gap, next_piece_is, piece_long}
use Rattle.bpf_insn.proofs.parse.next_piece.Goals as goal

pub returns-then-is_empty-clause-pieces : goal.returns-then-is_empty-clause-pieces
returns-then-is_empty-clause-pieces c =
    let none : c.split_at.result.1.bytes.now ≡ [] = nil_from_length _ (eqb-true _ _ (sym c.is_empty.ensures ∙ c.if-is_empty.true)) in
    skip_gap c.args.text.at c.args.text.bytes.now ∙ rw (← c.len_in.ensures.length, ← c.split_at.ensures.rest, none) refl

pub returns-clause-pieces : goal.returns-clause-pieces
returns-clause-pieces c =
    let without_ends : c.split_at-3.result.0.bytes.now ≡ without_end is_padding (take c.len_in-2.result c.split_at.result.1.bytes.now) =
    c.split_at-3.ensures.front ∙ rw (c.end_padding_len.ensures.length, c.split_at-2.ensures.front) refl in
    next_piece_is c.args.text.at c.len_in.result c.len_in-2.result c.args.text.bytes.now (stretch_data c.split_at.result.1)
    (stretch_data c.split_at-3.result.0) (stretch_data c.split_at-2.result.1)
    c.len_in.ensures.length c.split_at.ensures.rest_at c.split_at.ensures.rest
    (eqb-false _ _ (sym c.is_empty.ensures ∙ c.if-is_empty.false))
    (c.len_in-2.ensures.length ∙ front_is_position is_separator c.split_at.result.1.bytes.now) (c.split_at-3.ensures.front_at ∙ c.split_at-2.ensures.front_at)
    without_ends
    c.split_at-2.ensures.rest_at c.split_at-2.ensures.rest

pub returns-clause-shorter : goal.returns-clause-shorter
returns-clause-shorter c =
    let front : NoFront in_gap c.split_at.result.1.bytes.now = rw (c.split_at.ensures.rest, c.len_in.ensures.length) (no_front in_gap c.args.text.bytes.now) in
    let some = piece_long _ _ front (eqb-false _ _ (sym c.is_empty.ensures ∙ c.if-is_empty.false)) (c.len_in-2.ensures.length
    ∙ front_is_position is_separator c.split_at.result.1.bytes.now) in
    let within = rw c.split_at.ensures.rest at c.len_in-2.ensures.within in
    rw (c.split_at-2.ensures.rest, c.split_at.ensures.rest) (omega (
      arith,
      some,
      within,
      length-drop c.len_in-2.result (drop c.len_in.result c.args.text.bytes.now),
      length-drop c.len_in.result c.args.text.bytes.now,
    ))
