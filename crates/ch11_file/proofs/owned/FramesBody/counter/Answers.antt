use Rattle.std.proofs.Common.{ℕ, List, length, ap, ◌∙◌, sym, arith}
use Rattle.eth_frame.specs.Bytes.{u48_at}
use Rattle.ch11_merge.specs.declared.source.Head.TheVariants.{At}
use Rattle.ch11_file.proofs.OpenPieces.{sealed_first, sealed_long}
use Rattle.ch11_file.proofs.owned.FramesBody.counter.Goals as goal

pub returns-clause-first : goal.returns-clause-first
returns-clause-first c = λ place.
    sealed_first place _ _ _ c.self.invariant c.self.view_is
    ∙ ap (λ (l : List ℕ). At (u48_at l 4)) (sym c.as_slice.ensures.value) ∙ ap (λ n. At n) (sym c.counter_of.ensures.value)

pub unreachable-requires : goal.unreachable-requires
unreachable-requires c =
    absurd (omega (arith, c.in_default.len_below, sealed_long _ _ c.self.invariant, ap (λ (l : List ℕ). length l) c.as_slice.ensures.value))
