use Rattle.std.proofs.Common.{refl, sym, true≢false, arith}
use Rattle.ch11_packet.specs.Views.{read_frame_data}
use Rattle.rec_reader.proofs.Extracting.{counts_record, counts_passed, on_ok}
use Rattle.rec_reader.proofs.extract.extract_frame.Goals as goal

pub returns-in-Some-clause-counts : goal.returns-in-Some-clause-counts
returns-in-Some-clause-counts g c =
    let whole = c.in-Some.ensures.whole.0 refl in
    on_ok c.write_feed.result (counts_record c.args.extracted.now _ (read_frame_data c.args.read.now) whole.0 whole.1
    (omega (arith, c.saturating_add-extracted.ensures)) refl)

pub returns-in-None-clause-counts : goal.returns-in-None-clause-counts
returns-in-None-clause-counts g c =
    counts_passed c.args.extracted.now _ (read_frame_data c.args.read.now) (λ content long. true≢false (sym (c.in-None.ensures.whole.1 (content, long))))
    (omega (arith, c.saturating_add-extracted-in-None.ensures)) refl
