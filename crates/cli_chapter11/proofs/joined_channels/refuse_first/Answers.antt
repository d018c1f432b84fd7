use Rattle.std.proofs.Common.{ℕ, ◌≡◌, ◌<◌, ◌+◌, ◌∙◌, List, Option, None, Some, ap, sym, arith, get_or, map, length, refl}
use Rattle.std.specs.Option.{option_map}
use Rattle.std.proofs.lemmas.List.{get_or-map}
use Rattle.cli_streams.specs.declared.ending.CommandEnding.{CommandEnding}
use Rattle.cli_chapter11.specs.declared.joined_channels.ListedRecording.{ListedRecording}
use Rattle.cli_chapter11.specs.JoinedChannels.{ListedRefusal, ending_listed, listed_refusal}
use Rattle.cli_chapter11.proofs.joined_channels.refuse_first.Goals as goal

refusal_there : (all : List ListedRecording) (place : ℕ) (none : ListedRecording) (refusal : Option ListedRefusal) → place < length all
    → listed_refusal (get_or all place none) ≡ refusal → get_or (map listed_refusal all) place None ≡ refusal
refusal_there all place none refusal within is = get_or-map listed_refusal all place none None within ∙ is

one_more : (refusals : List (Option ListedRefusal)) (place : ℕ) → ((earlier : ℕ) → earlier < place → get_or refusals earlier None ≡ None)
    → get_or refusals place None ≡ None → (earlier : ℕ) → earlier < place + 1 → get_or refusals earlier None ≡ None
one_more refusals place before here = λ earlier below. grind (arith, before earlier, here)

-- a recording without an ending has no refusal, and an ending is that of one
none_refused : (place : ℕ) (refusal : Option ListedRefusal) → None ≡ option_map (λ r. ending_listed r place) refusal → refusal ≡ None
none_refused place None is = refl
none_refused place (Some refusal) is = absurd (apart is)
  where
    apart : ◌≡◌ {A = Option CommandEnding} None (Some (ending_listed refusal place)) → ⊥
    apart is = cc

some_refused : (place : ℕ) (ending : CommandEnding) (refusal : Option ListedRefusal) → Some ending ≡ option_map (λ r. ending_listed r place) refusal
    → (one : ListedRefusal) × (refusal ≡ Some one) × (ending ≡ ending_listed one place)
some_refused place ending None is = absurd (apart is)
  where
    apart : ◌≡◌ {A = Option CommandEnding} (Some ending) None → ⊥
    apart is = cc
some_refused place ending (Some one) is = (one, refl, same is)
  where
    same : Some ending ≡ Some (ending_listed one place) → ending ≡ ending_listed one place
    same is = cc

pub recordings-preserved : goal.recordings-preserved
recordings-preserved c =
    one_more (map listed_refusal c.args.all.now) c.recordings.place c.recordings.invariant
    (refusal_there c.args.all.now c.recordings.place c.index-all-place.result None c.recordings-test.true
    (ap listed_refusal (sym c.index-all-place.is)
    ∙ none_refused c.recordings.place (listed_refusal c.index-all-place.result) c.in_default.ensures))

pub returns-in-Some : goal.returns-in-Some
returns-in-Some c =
    let place = c.recordings.place in
    let found = some_refused place c.in-Some.ending (listed_refusal c.index-all-place.result) c.in-Some.ensures in (
      place,
      found.0,
      record {
        there = refusal_there c.args.all.now place c.index-all-place.result _ c.recordings-test.true
            (ap listed_refusal (sym c.index-all-place.is) ∙ found.1);
        first = c.recordings.invariant;
      },
      found.2,
    )
