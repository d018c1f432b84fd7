use Rattle.std.proofs.Common.{refl, arith}
use Rattle.rec_reader.specs.Reading.{header_kind}
use Rattle.rec_reader.proofs.Splitting.{bad_header, is_told}
use Rattle.rec_reader.proofs.read.split_header.Goals as goal

pub returns-in_err-header-clause-fault : goal.returns-in_err-header-clause-fault
returns-in_err-header-clause-fault c =
    let fault = c.in_err-header.field-0.0 in
    let split = c.in-Some.ensures.cases in
    is_told c.args.bytes.now c.from_residual.result (header_kind fault) c.from_residual.ensures.1
    (bad_header c.args.bytes.now c.in-Some.head.now fault split.0 (omega (arith, split.2)) ((c.in_err-header.ensures.fault fault).0 refl))
