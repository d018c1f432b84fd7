use Rattle.std.proofs.Common.{◌≡◌, drop, map}
use Rattle.rec_words.specs.ReservedNames.{begins_as_one}
use Rattle.rec_words.proofs.setup_file.reserved.begins_as_one.Given as goal

-- the name begins as none of those so far
abbrev pub invariant-beginnings : goal.invariant-beginnings
invariant-beginnings l =
    begins_as_one l.name (map (λ k. k.now) l.beginnings) ≡ begins_as_one l.name (map (λ k. k.now) (drop l.beginning-index l.beginnings))
