use Rattle.std.proofs.Common.{◌∙◌, ◌≡◌, [], refl, sym}
use Rattle.std.proofs.lemmas.List.{nil_from_length}
use Rattle.std.proofs.lemmas.Bool.{eqb-true, eqb-false}
use Rattle.bpf_insn.specs.Views.{stretch_data}
use Rattle.bpf_insn.specs.Listing.{is_listing_blank}
use Rattle.bpf_insn.proofs.ListingCuts.{front_is_position}
use Rattle.bpf_insn.proofs.ListingWords.{next_word_is, skip_blanks}
use Rattle.bpf_insn.proofs.parse.next_word.Goals as goal

pub returns-then-is_empty : goal.returns-then-is_empty
returns-then-is_empty c =
    let none : c.split_at.result.1.bytes.now ≡ [] = nil_from_length _ (eqb-true _ _ (sym c.is_empty.ensures ∙ c.if-is_empty.true)) in
    skip_blanks c.args.piece.at c.args.piece.bytes.now ∙ rw (← c.len_in.ensures.length, ← c.split_at.ensures.rest, none) refl

pub returns : goal.returns
returns c =
    next_word_is c.args.piece.at c.len_in.result c.len_in-2.result c.args.piece.bytes.now (stretch_data c.split_at.result.1)
    (stretch_data c.split_at-2.result.0) (stretch_data c.split_at-2.result.1)
    c.len_in.ensures.length c.split_at.ensures.rest_at c.split_at.ensures.rest
    (eqb-false _ _ (sym c.is_empty.ensures ∙ c.if-is_empty.false))
    (c.len_in-2.ensures.length ∙ front_is_position is_listing_blank c.split_at.result.1.bytes.now) c.split_at-2.ensures.front_at c.split_at-2.ensures.front
    c.split_at-2.ensures.rest_at
    c.split_at-2.ensures.rest
