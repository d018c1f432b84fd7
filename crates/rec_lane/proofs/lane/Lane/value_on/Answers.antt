use Rattle.std.proofs.Common.{IsSome, subst, sym}
use Rattle.rec_lane.specs.Lanes.{LaneState}
use Rattle.rec_lane.proofs.Offering.{runs_as}
use Rattle.rec_lane.proofs.lane.Lane.value_on.Goals as goal

pub returns : goal.returns
returns c = rw (← c.self.view_is) (runs_as _ c.self.inside.prepared c.view.result.now _ _
    (subst (λ (lane : LaneState). IsSome lane.current) (sym c.self.view_is) c.requires) c.self.invariant.prepared_is c.view.ensures.view c.value.ensures.runs)
