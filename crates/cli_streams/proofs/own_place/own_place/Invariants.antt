use Rattle.std.proofs.Common.{ℕ, ◌≡◌, ◌≤◌, ◌<◌, get_or}
use Rattle.cli_streams.specs.OwnPlaces.{start_by}
use Rattle.cli_streams.proofs.own_place.own_place.Given as goal

abbrev pub invariant-ends : goal.invariant-ends
invariant-ends l = record {
  begins : l.start ≡ start_by l.ends l.place;
  before : l.start ≤ l.at;
  earlier : (earlier : ℕ) → earlier < l.place → get_or l.ends earlier 0 ≤ l.at;
}
