use Rattle.std.proofs.Common.{rules, ◌/◌, ◌%◌, sym, ap, ◌∙◌, refl}
use Rattle.std.specs.Prelude.{slice_set}
use Rattle.ch11_merge.specs.Merging.FilePiece.{OfFrames}
use Rattle.ch11_file.proofs.OpenPieces.{seals, some_held}
use Rattle.ch11_file.proofs.builder.PieceBuilder.seal.Goals as goal

pub new-body-requires : goal.new-body-requires
new-body-requires c =
    let b = c.self.inside in
    let some = some_held b.count b.bytes.items (λ e. c.requires (sym c.self.view_is ∙ e)) in
    (seals b.count b.bytes.items _ c.self.invariant some (rw c.to_le_bytes.ensures (search rules))).is_sealed

pub returns : goal.returns
returns c =
    let b = c.self.inside in
    let some = some_held b.count b.bytes.items (λ e. c.requires (sym c.self.view_is ∙ e)) in
    let bytes = slice_set (slice_set b.bytes.items 0 (b.count % 256)) 1 (b.count / 256 % 256) in
    let sealed = seals b.count b.bytes.items bytes c.self.invariant some refl in
    let made = rw c.to_le_bytes.ensures at c.new-body.ensures in
    ap (OfFrames c.args.place) (made ∙ sealed.frames ∙ c.self.view_is)
