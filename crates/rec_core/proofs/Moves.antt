-- A channel's takes and installs, in the order of the marks, and its close.
-- idea: marks rise, so takes and installs can be put into one order: before each take come the installs whose mark it has
-- reached; by recursion over the frames that order leads from the opening channel to the one with all of them.
use Rattle.std.proofs.Common.{ℕ, suc, zero, ◌+◌, ◌-◌, ◌≡◌, ◌≤◌, ◌<◌, inl, inr, List, [], ◌∷◌, ◌++◌, length, map, Option, None, Some}
use Rattle.std.proofs.Common.{get_or, refl, sym, ◌∙◌, ap, arith, subst, All, take, drop, true, false}
use Rattle.std.specs.Prelude.{AllPairs, slice_get}
use Rattle.std.proofs.lemmas.Bool.{cases_lt}
use Rattle.std.proofs.lemmas.List.{append-nil, append_assoc, length-append, length-take, length-drop, take-append-drop, take-map, drop-map}
use Rattle.std.proofs.lemmas.List.Elements.{All-cons, All-nil, All-push, All-head, All-tail, All-take, All-drop}
use Rattle.std.proofs.lemmas.Option.{same_Some, slice_get-get_or}
use Rattle.bpf_insn.specs.declared.insn.Insn.{Insn}
use Rattle.rec_channel.specs.declared.limits.TheConstants.{MAX_VERSIONS}
use Rattle.rec_channel.specs.History.{Version, IsHistory}
use Rattle.rec_channel.specs.Slots.{programs_in}
use Rattle.rec_lane.specs.Offered.{OfferedFrame, Met, MetFrom, AllMet, AreUntimed, frames_of, times_of, accepted, noted_with, with_time}
use Rattle.rec_writer.specs.Recording.{RecordedChannel}
use Rattle.rec_core.specs.declared.reply.Reply.TheVariants.{Took, Timed, Installed, Closed as HasClosed}
use Rattle.rec_core.specs.Openings.{SpecData, IsFilter}
use Rattle.rec_core.specs.World.{ChannelState, MeetsLast, opening_channel}
use Rattle.rec_core.specs.World.EventData.{OfTake, OfTime, OfInstall, OfClose}
use Rattle.rec_core.specs.Ties.{takes_of, moves_from, moves_of, close_of}
use Rattle.rec_lane.proofs.Noting.{noted_push}
use Rattle.ch11_packet.proofs.ChangedLists.{all_there}
use Rattle.rec_core.proofs.ListPlaces.{there_map}
use Rattle.rec_core.proofs.ChannelServing.{begins_there}
use Rattle.rec_core.proofs.WorldRuns.{Makes, makes_none, makes_one, makes_both}

-- a channel that isn't closed, of which nothing was sent
abbrev pub open_channel : SpecData → List OfferedFrame → List Version → ChannelState
open_channel spec offered history = record {
  settings = spec.settings;
  max = spec.max;
  offered = offered;
  history = history;
  closed = false;
  sent = 0;
  written = 0;
}

-- ---- the last version

behind : {X : Type 0} (xs ys : List X) (k : ℕ) (x : X) → slice_get (xs ++ ys) k ≡ Some x → length xs ≤ k → slice_get ys (k - length xs) ≡ Some x
behind {X} [] ys k x is upto = let e : k ≡ k - 0 = omega arith in subst (λ n. slice_get ys n ≡ Some x) e is
behind (z ∷ zs) ys zero x is upto = absurd (omega (arith, upto))
behind (z ∷ zs) ys (suc k) x is upto =
    let e : k - length zs ≡ suc k - length (z ∷ zs) = omega arith in
    subst (λ n. slice_get ys n ≡ Some x) e (behind zs ys k x is (omega (arith, upto)))

-- no time mark came after the frame
abbrev IsUntimed : OfferedFrame → Type 0
IsUntimed f = f.times ≡ []

-- where the versions up to some have begun by a frame and the later ones haven't, the frame met the
-- last of those
meets_last : (spec : SpecData) (done : List OfferedFrame) (past vs : List Version) (f : OfferedFrame) → 0 < length past
    → All (λ (v : Version). v.mark ≤ length done) past → All (λ (v : Version). length done < v.mark) vs → f.number ≡ length done → Met (past ++ vs) f
    → IsUntimed f
    → MeetsLast (open_channel spec done past) f
meets_last spec done past vs f some begun later number met untimed =
    let d : Version = record { program = []; mark = 0 } in
    let n = length past - 1 in
    let low : n < length past = omega (arith, some) in
    let there = begins_there past (past ++ vs) n (get_or past n d) (vs, refl) (slice_get-get_or past n d low) in
    let upto : n ≤ f.version = met.in_force.last n (get_or past n d) there (let e = begun n d low in omega (arith, e, number)) in
    let within : f.version < length past = elim (cases_lt f.version (length past)) as (λ _. f.version < length past) [
      | inl before ↦ before
      | inr after ↦ absurd (
          let at = behind past vs f.version met.in_force.entry met.in_force.stands after in
          let e = all_there (λ (v : Version). length done < v.mark) vs (f.version - length past) met.in_force.entry later at in
          let b = met.in_force.begun in
          omega (arith, e, b, number))
    ] in
    let entry : Version = get_or past f.version d in
    let stands = slice_get-get_or past f.version d within in
    let same : slice_get (programs_in (past ++ vs)) f.version ≡ Some entry.program =
    there_map (λ (v : Version). v.program) (past ++ vs) f.version entry (begins_there past (past ++ vs) f.version entry (vs, refl) stands) in
    record {
      number_is = number;
      last = omega (arith, upto, within);
      program_is = there_map (λ (v : Version). v.program) past f.version entry stands ∙ (sym same ∙ met.program);
      ran = met.ran;
      untimed = untimed;
    }

-- ---- takes

-- the frame with these time marks, or before any
abbrev with_times : OfferedFrame → List ℕ → OfferedFrame
with_times f ts = record f { times = ts }

bare_met : (history : List Version) (f : OfferedFrame) → Met history f → Met history (with_times f [])
bare_met history f met = record { in_force = met.in_force; program = met.program; ran = met.ran }

noted_one : (span : Option ℕ) (done : List OfferedFrame) (f : OfferedFrame) (t : ℕ) (ts : List ℕ) → (span ≡ None → t ∷ ts ≡ [])
    → noted_with span (done ++ f ∷ []) t ≡ done ++ with_time f t ∷ []
noted_one None done f t ts none = absurd (let bad = none refl in cc)
noted_one (Some span) done f t ts none = noted_push done f t

-- the time marks behind a frame
marks : (ring : ℕ) (spec : SpecData) (past : List Version) (done : List OfferedFrame) (f : OfferedFrame) (ts : List ℕ) → (spec.settings.span ≡ None → ts ≡ [])
    → Makes ring (map (λ (counter : ℕ). OfTime spec.settings.channel counter) ts) (open_channel spec (done ++ f ∷ []) past)
    (open_channel spec (done ++ with_times f (f.times ++ ts) ∷ []) past)
marks ring spec past done f [] none =
    subst (λ ks. Makes ring [] (open_channel spec (done ++ f ∷ []) past) (open_channel spec (done ++ with_times f ks ∷ []) past)) (sym (append-nil f.times))
    (makes_none ring (open_channel spec (done ++ f ∷ []) past))
marks ring spec past done f (t ∷ ts) none =
    let id = spec.settings.channel in
    let first = open_channel spec (done ++ f ∷ []) past in
    let next = open_channel spec (done ++ with_time f t ∷ []) past in
    let one : Makes ring (OfTime id t ∷ []) first next =
    makes_one ring first next (OfTime id t) Timed refl
    (refl, sym (ap (λ fs. open_channel spec fs past) (noted_one spec.settings.span done f t ts none)), refl) in
    let rest = marks ring spec past done (with_time f t) ts (λ e. absurd (let bad = none e in cc)) in
    subst (λ ks. Makes ring (OfTime id t ∷ map (λ (counter : ℕ). OfTime id counter) ts) first (open_channel spec (done ++ with_times f ks ∷ []) past))
    (append_assoc f.times (t ∷ []) ts)
    (makes_both ring first next (open_channel spec (done ++ with_times f ((f.times ++ t ∷ []) ++ ts) ∷ []) past) (OfTime id t ∷ [])
    (map (λ (counter : ℕ). OfTime id counter) ts) one rest)

takes : (ring : ℕ) (spec : SpecData) (past vs : List Version) (fs done : List OfferedFrame) → length done + length fs ≤ spec.max → 0 < length past
    → All (λ (v : Version). v.mark ≤ length done) past → All (λ (v : Version). length done + length fs ≤ v.mark) vs → MetFrom (past ++ vs) (length done) fs
    → (spec.settings.span ≡ None → All IsUntimed fs)
    → Makes ring (takes_of spec.settings.channel (frames_of fs) (times_of fs)) (open_channel spec done past) (open_channel spec (done ++ fs) past)
takes ring spec past vs [] done within some begun later met untimed =
    subst (λ fs. Makes ring [] (open_channel spec done past) (open_channel spec fs past)) (sym (append-nil done))
    (makes_none ring (open_channel spec done past))
takes ring spec past vs (f ∷ fs) done within some begun later met untimed =
    let id = spec.settings.channel in
    let bare = with_times f [] in
    let longer = length-append done (f ∷ []) in
    let meets = meets_last spec done past vs bare some begun (λ k d low. let e = later k d low in omega (arith, e)) met.0
    (bare_met (past ++ vs) f met.1) refl in
    let one : Makes ring (OfTake id f.frame ∷ []) (open_channel spec done past) (open_channel spec (done ++ bare ∷ []) past) =
    makes_one ring (open_channel spec done past) (open_channel spec (done ++ bare ∷ []) past) (OfTake id f.frame) (Took f.number f.version f.value) refl
    (bare, refl, omega (arith, within), meets, refl, refl, refl, refl, refl, refl) in
    let timed : Makes ring (map (λ (counter : ℕ). OfTime id counter) f.times) (open_channel spec (done ++ bare ∷ []) past)
    (open_channel spec (done ++ f ∷ []) past) =
    marks ring spec past done bare f.times (λ e. All-head IsUntimed f fs (untimed e)) in
    let next : length done + 1 ≡ length (done ++ f ∷ []) = omega (arith, longer) in
    let rest = takes ring spec past vs fs (done ++ f ∷ []) (omega (arith, within, longer)) some
    (λ k d low. let e = begun k d low in omega (arith, e, longer)) (λ k d low. let e = later k d low in omega (arith, e, longer))
    (subst (λ n. MetFrom (past ++ vs) n fs) next met.2) (λ e. All-tail IsUntimed f fs (untimed e)) in
    subst (λ gs. Makes ring (takes_of id (frames_of (f ∷ fs)) (times_of (f ∷ fs))) (open_channel spec done past) (open_channel spec gs past))
    (append_assoc done (f ∷ []) fs)
    (makes_both ring (open_channel spec done past) (open_channel spec (done ++ bare ∷ []) past) (open_channel spec ((done ++ f ∷ []) ++ fs) past)
    (OfTake id f.frame ∷ []) (map (λ (counter : ℕ). OfTime id counter) f.times ++ takes_of id (frames_of fs) (times_of fs)) one
    (makes_both ring (open_channel spec (done ++ bare ∷ []) past) (open_channel spec (done ++ f ∷ []) past)
    (open_channel spec ((done ++ f ∷ []) ++ fs) past)
    (map (λ (counter : ℕ). OfTime id counter) f.times) (takes_of id (frames_of fs) (times_of fs)) timed rest))

met_front : (history : List Version) (number n : ℕ) (fs : List OfferedFrame) → MetFrom history number fs → MetFrom history number (take n fs)
met_front history number zero fs met = tt
met_front history number (suc n) [] met = tt
met_front history number (suc n) (f ∷ fs) met = (met.0, met.1, met_front history (number + 1) n fs met.2)

met_back : (history : List Version) (number n : ℕ) (fs : List OfferedFrame) → MetFrom history number fs → MetFrom history (number + n) (drop n fs)
met_back history number zero fs met = subst (λ k. MetFrom history k fs) (omega arith) met
met_back history number (suc n) [] met = tt
met_back history number (suc n) (f ∷ fs) met = subst (λ k. MetFrom history k (drop n fs)) (omega arith) (met_back history (number + 1) n fs met.2)

-- ---- versions

-- marks that never fall, from one number to another
abbrev Rise : ℕ → ℕ → List Version → Type 0
Rise low high [] = Unit {0}
Rise low high (v ∷ vs) = (low ≤ v.mark) × (v.mark ≤ high) × Rise v.mark high vs

rise_of : (low high : ℕ) (vs : List Version) → All (λ (v : Version). low ≤ v.mark) vs → AllPairs (λ (v w : Version). v.mark ≤ w.mark) vs
    → All (λ (v : Version). v.mark ≤ high) vs → Rise low high vs
rise_of low high [] from pairs upto = tt
rise_of low high (v ∷ vs) from pairs upto = (
  from 0 v (omega arith),
  upto 0 v (omega arith),
  rise_of v.mark high vs
      (λ k d within. pairs 0 (suc k) d (omega arith) (omega (arith, within)))
      (λ i j d before within. pairs (suc i) (suc j) d (omega (arith, before)) (omega (arith, within)))
      (λ k d within. upto (suc k) d (omega (arith, within))),
)

-- they are from the lower number on
rise_from : (least low high : ℕ) (vs : List Version) → least ≤ low → Rise low high vs → All (λ (v : Version). least ≤ v.mark) vs
rise_from least low high [] upto rise = All-nil (λ (v : Version). least ≤ v.mark)
rise_from least low high (v ∷ vs) upto rise =
    let e : least ≤ v.mark = let u = rise.0 in omega (arith, upto, u) in
    All-cons (λ (w : Version). least ≤ w.mark) v vs e (rise_from least v.mark high vs e rise.2)

-- the version that is installed after so many frames is the one with that mark
same_version : (v : Version) (program : List Insn) (mark : ℕ) → program ≡ v.program → mark ≡ v.mark
    → (let made : Version = record { program = program; mark = mark } in made) ≡ v
same_version v program mark e m =
    ap (λ p. let made : Version = record { program = p; mark = mark } in made) e
    ∙ ap (λ n. let made : Version = record { program = v.program; mark = n } in made) m

abbrev IsVersion : Version → Type 0
IsVersion v = IsFilter v.program

moving : (ring : ℕ) (spec : SpecData) (vs past : List Version) (fs done : List OfferedFrame) (number : ℕ)
    → number ≡ length done → length done + length fs ≤ spec.max → length past + length vs ≤ MAX_VERSIONS → 0 < length past
    → All (λ (v : Version). v.mark ≤ number) past → Rise number (length done + length fs) vs → All IsVersion vs → MetFrom (past ++ vs) number fs
    → (spec.settings.span ≡ None → All IsUntimed fs)
    → Makes ring (moves_from spec.settings.channel number (frames_of fs) (times_of fs) vs) (open_channel spec done past)
    (open_channel spec (done ++ fs) (past ++ vs))
moving ring spec [] past fs done number now within few some begun rise filters met untimed =
    subst (λ h. Makes ring (takes_of spec.settings.channel (frames_of fs) (times_of fs)) (open_channel spec done past) (open_channel spec (done ++ fs) h))
    (sym (append-nil past))
    (takes ring spec past [] fs done within some (λ k d low. let e = begun k d low in omega (arith, e, now))
    (All-nil (λ (v : Version). length done + length fs ≤ v.mark)) (subst (λ n. MetFrom (past ++ []) n fs) now met) untimed)
moving ring spec (v ∷ vs) past fs done number now within few some begun rise filters met untimed =
    let n = v.mark - number in
    let front = take n fs in
    let back = drop n fs in
    let id = spec.settings.channel in
    let low = rise.0 in
    let high = rise.1 in
    let front_len : length front ≡ n = let e = length-take n fs in omega (arith, e, low, high, now) in
    let back_len : length back ≡ length fs - n = length-drop n fs in
    let done_len : length (done ++ front) ≡ v.mark = let e = length-append done front in omega (arith, e, front_len, low, now) in
    let past_len = length-append past (v ∷ []) in
    let upto : length done + length front ≤ v.mark = omega (arith, front_len, low, now) in
    let whole : (done ++ front) ++ back ≡ done ++ fs = append_assoc done front back ∙ ap (λ gs. done ++ gs) (take-append-drop n fs) in
    let first = takes ring spec past (v ∷ vs) front done (omega (arith, front_len, within, high, now, low)) some
    (λ k d under. let e = begun k d under in omega (arith, e, now))
    (All-cons (λ (w : Version). length done + length front ≤ w.mark) v vs upto
    (rise_from (length done + length front) v.mark (length done + length fs) vs upto rise.2))
    (subst (λ m. MetFrom (past ++ v ∷ vs) m front) now (met_front (past ++ v ∷ vs) number n fs met)) (λ e. All-take IsUntimed n fs (untimed e)) in
    let one : Makes ring (OfInstall id v.program ∷ []) (open_channel spec (done ++ front) past) (open_channel spec (done ++ front) (past ++ v ∷ [])) =
    makes_one ring (open_channel spec (done ++ front) past) (open_channel spec (done ++ front) (past ++ v ∷ [])) (OfInstall id v.program)
    (Installed (length past) (length (done ++ front))) refl (
      omega (arith, few),
      All-head IsVersion v vs filters,
      refl,
      refl,
      ap (λ w. open_channel spec (done ++ front) (past ++ w ∷ [])) (sym (same_version v v.program (length (done ++ front)) refl done_len)),
      refl,
    ) in
    let at : number + n ≡ v.mark = omega (arith, low) in
    let rest = moving ring spec vs (past ++ v ∷ []) back (done ++ front) v.mark (sym done_len)
    (omega (arith, done_len, back_len, within, low, high, now)) (omega (arith, past_len, few)) (omega (arith, past_len))
    (All-push (λ (w : Version). w.mark ≤ v.mark) past v (λ k d under. let e = begun k d under in omega (arith, e, low)) (omega arith))
    (subst (λ top. Rise v.mark top vs) (omega (arith, done_len, back_len, low, high, now)) rise.2) (All-tail IsVersion v vs filters)
    (subst (λ h. MetFrom h v.mark back) (sym (append_assoc past (v ∷ []) vs))
    (subst (λ m. MetFrom (past ++ v ∷ vs) m back) at (met_back (past ++ v ∷ vs) number n fs met))) (λ e. All-drop IsUntimed n fs (untimed e)) in
    let both = makes_both ring (open_channel spec (done ++ front) past) (open_channel spec (done ++ front) (past ++ v ∷ []))
    (open_channel spec ((done ++ front) ++ back) ((past ++ v ∷ []) ++ vs)) (OfInstall id v.program ∷ [])
    (moves_from id v.mark (frames_of back) (times_of back) vs) one rest in
    let all = makes_both ring (open_channel spec done past) (open_channel spec (done ++ front) past)
    (open_channel spec ((done ++ front) ++ back) ((past ++ v ∷ []) ++ vs))
    (takes_of id (frames_of front) (times_of front)) (OfInstall id v.program ∷ moves_from id v.mark (frames_of back) (times_of back) vs) first both in
    let events : takes_of id (frames_of front) (times_of front) ++ OfInstall id v.program ∷ moves_from id v.mark (frames_of back) (times_of back) vs
    ≡ moves_from id number (frames_of fs) (times_of fs) (v ∷ vs) =
    ap (λ gs. takes_of id gs (times_of front) ++ OfInstall id v.program ∷ moves_from id v.mark (frames_of back) (times_of back) vs)
    (sym (take-map (λ (f : OfferedFrame). f.frame) n fs))
    ∙ ap (λ ts. takes_of id (take n (frames_of fs)) ts ++ OfInstall id v.program ∷ moves_from id v.mark (frames_of back) (times_of back) vs)
    (sym (take-map (λ (f : OfferedFrame). f.times) n fs))
    ∙ ap (λ gs. takes_of id (take n (frames_of fs)) (take n (times_of fs)) ++ OfInstall id v.program ∷ moves_from id v.mark gs (times_of back) vs)
    (sym (drop-map (λ (f : OfferedFrame). f.frame) n fs))
    ∙ ap (λ ts. takes_of id (take n (frames_of fs)) (take n (times_of fs)) ++ OfInstall id v.program ∷ moves_from id v.mark (drop n (frames_of fs)) ts vs)
    (sym (drop-map (λ (f : OfferedFrame). f.times) n fs)) in
    let moves = moves_from id number (frames_of fs) (times_of fs) (v ∷ vs) in
    subst (λ gs. Makes ring moves (open_channel spec done past) (open_channel spec gs (past ++ v ∷ vs))) whole
    (subst (λ h. Makes ring moves (open_channel spec done past) (open_channel spec ((done ++ front) ++ back) h))
    (append_assoc past (v ∷ []) vs)
    (subst (λ es. Makes ring es (open_channel spec done past) (open_channel spec ((done ++ front) ++ back) ((past ++ v ∷ []) ++ vs))) events all))

each_untimed : (offered : List OfferedFrame) → AreUntimed (times_of offered) → All IsUntimed offered
each_untimed [] all = All-nil IsUntimed
each_untimed (f ∷ fs) all =
    let P : List ℕ → Type 0 = λ ts. ts ≡ [] in
    All-cons IsUntimed f fs (All-head P f.times (times_of fs) all) (each_untimed fs (All-tail P f.times (times_of fs) all))

-- ---- a channel

-- what was recorded of one channel, with the value at each frame
pub record Lane : Type 0 where
  pub spec : SpecData
  pub offered : List OfferedFrame
  pub history : List Version

pub record IsLane (lane : Lane) : Type 0 where
  pub program_is : slice_get (programs_in lane.history) 0 ≡ Some lane.spec.program
  pub past : IsHistory (length lane.offered) lane.history
  pub within : length lane.offered ≤ lane.spec.max
  pub few : length lane.history ≤ MAX_VERSIONS
  pub met : AllMet lane.history lane.offered
  pub untimed : lane.spec.settings.span ≡ None → AreUntimed (times_of lane.offered)

abbrev pub recorded_lane : Lane → RecordedChannel
recorded_lane lane =
    record { settings = lane.spec.settings; frames = frames_of lane.offered; times = times_of lane.offered; history = lane.history }

abbrev pub moved_lane : Lane → ChannelState
moved_lane lane = open_channel lane.spec lane.offered lane.history

moved : (ring : ℕ) (spec : SpecData) (offered : List OfferedFrame) (history : List Version)
    → slice_get (programs_in history) 0 ≡ Some spec.program → IsHistory (length offered) history → length offered ≤ spec.max → length history ≤ MAX_VERSIONS
    → AllMet history offered → (spec.settings.span ≡ None → All IsUntimed offered)
    → Makes ring (moves_from spec.settings.channel 0 (frames_of offered) (times_of offered) (drop 1 history)) (opening_channel spec)
    (open_channel spec offered history)
moved ring spec offered [] program h within few met untimed = absurd (let e = h.some in omega (arith, e))
moved ring spec offered (v ∷ vs) program h within few met untimed =
    let zeroth : v.mark ≡ 0 = h.first v refl in
    let first = same_version v spec.program 0 (sym (same_Some v.program spec.program program)) (sym zeroth) in
    subst (λ w. Makes ring (moves_from spec.settings.channel 0 (frames_of offered) (times_of offered) vs) (open_channel spec [] (w ∷ []))
    (open_channel spec offered (v ∷ vs)))
    (sym first)
    (moving ring spec vs (v ∷ []) offered [] 0 refl (omega (arith, within)) (omega (arith, few)) (omega arith)
    (All-cons (λ (w : Version). w.mark ≤ 0) v [] (omega (arith, zeroth)) (All-nil (λ (w : Version). w.mark ≤ 0)))
    (rise_of 0 (0 + length offered) vs (λ k d before. omega arith)
    (λ i j d before inside. h.rise (suc i) (suc j) d (omega (arith, before)) (omega (arith, inside)))
    (λ k d inside. let e = h.past (suc k) d (omega (arith, inside)) in omega (arith, e)))
    (λ k d inside. record { valid = h.valid (suc k) d (omega (arith, inside)); in_range = h.in_range (suc k) d (omega (arith, inside)) })
    met untimed)

-- the takes and installs make of the opening channel the one with these frames and this history
pub lane_moved : (ring : ℕ) (lane : Lane) → IsLane lane → Makes ring (moves_of (recorded_lane lane)) (opening_channel lane.spec) (moved_lane lane)
lane_moved ring lane is =
    moved ring lane.spec lane.offered lane.history is.program_is is.past is.within is.few is.met (λ e. each_untimed lane.offered (is.untimed e))

-- a channel that is closed, of which so many pieces were sent and written
abbrev pub closed_lane : Lane → ℕ → ChannelState
closed_lane lane n = record {
  settings = lane.spec.settings;
  max = lane.spec.max;
  offered = lane.offered;
  history = lane.history;
  closed = true;
  sent = n;
  written = n;
}

pub lane_closed : (ring : ℕ) (lane : Lane) → Makes ring (close_of (recorded_lane lane) ∷ []) (moved_lane lane) (closed_lane lane 0)
lane_closed ring lane =
    makes_one ring (moved_lane lane) (closed_lane lane 0) (OfClose lane.spec.settings.channel)
    (HasClosed (length lane.offered) (length (accepted lane.offered))) refl (refl, refl, refl, refl, refl)
