use Rattle.std.proofs.Common.{refl, arith}
use Rattle.rec_reader.specs.Reading.{class_kind}
use Rattle.rec_reader.proofs.Splitting.{cut_packet, bad_packet, first_packet, split_is, is_told}
use Rattle.rec_reader.proofs.Chains.{shorter}
use Rattle.rec_reader.proofs.read.read_packet.Goals as goal

pub returns-in_default-clause-fault : goal.returns-in_default-clause-fault
returns-in_default-clause-fault c =
    cut_packet _ _ _ c.in_ok-header.ensures.header (omega (arith, c.in_default.ensures.cases))

pub returns-in_err-what-clause-fault : goal.returns-in_err-what-clause-fault
returns-in_err-what-clause-fault c =
    let split = c.in-Some.ensures.cases in
    let fault = c.in_err-what.field-0.0 in
    is_told c.args.bytes.now c.from_residual-in_err-what.result (class_kind fault) c.from_residual-in_err-what.ensures.1
    (bad_packet _ _ _ _ _ fault c.in_ok-header.ensures.header (split_is _ _ _ _ split.1 split.2)
    (omega (arith, split.3, c.in_ok-header.header.in_range.lengths.holds))
    ((c.in_err-what.ensures.fault fault).0 refl))

pub returns-clause-packet : goal.returns-clause-packet
returns-clause-packet c =
    let split = c.in-Some.ensures.cases in
    first_packet c.args.at _ _ _ _ _ _ c.in_ok-header.ensures.header (split_is _ _ _ _ split.1 split.2)
    (omega (arith, split.3, c.in_ok-header.header.in_range.lengths.holds))
    c.in_ok-what.ensures.holds

pub returns-clause-shorter : goal.returns-clause-shorter
returns-clause-shorter c = shorter c.args.at _ c.args.bytes.now c.in-Some.more.now (returns-clause-packet c)
