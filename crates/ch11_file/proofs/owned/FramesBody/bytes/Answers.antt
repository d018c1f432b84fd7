use Rattle.std.proofs.Common.{arith}
use Rattle.ch11_file.proofs.OpenPieces.{sealed_bytes}
use Rattle.ch11_file.proofs.owned.FramesBody.bytes.Goals as goal

pub returns-clause-bytes : goal.returns-clause-bytes
returns-clause-bytes c =
    let same = c.as_slice.ensures.value in
    let known = sealed_bytes _ _ _ c.self.invariant c.self.view_is in
    grind arith
