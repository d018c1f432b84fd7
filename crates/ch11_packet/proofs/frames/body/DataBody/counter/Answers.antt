use Rattle.std.proofs.Common.{ℕ, List, length, ap, ◌∙◌, sym, arith}
use Rattle.std.specs.Prelude.{Some}
use Rattle.eth_frame.specs.Bytes.{u48_at}
use Rattle.ch11_packet.proofs.Bodies.{body_first, sealed_long}
use Rattle.ch11_packet.proofs.frames.body.DataBody.counter.Goals as goal

pub returns-clause-first : goal.returns-clause-first
returns-clause-first c =
    body_first _ _ _ _ _ _ _ _ c.self.invariant c.self.view_is
    ∙ ap (λ (l : List ℕ). Some (u48_at l 4)) (sym c.as_slice.ensures.value) ∙ ap (λ n. Some n) (sym c.counter_of.ensures.value)

pub unreachable-requires : goal.unreachable-requires
unreachable-requires c =
    absurd (omega (arith, c.in_default.len_below, sealed_long _ _ _ _ _ _ _ c.self.invariant, ap (λ (l : List ℕ). length l) c.as_slice.ensures.value))
