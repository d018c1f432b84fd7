-- Each piece of a channel that can be recorded has numbers that fit its packet.
-- idea: each number of a packet is a count of frames, versions or bytes, which the channel's ranges bound, or comes from a
-- frame, which has its own.
use Rattle.std.proofs.Common.{ℕ, ◌+◌, ◌^◌, ◌≡◌, ◌≤◌, ◌<◌, Bool, true, false, List, [], ◌∷◌, length, map, Some, All, refl, sym, ap, subst, ◌∙◌, arith}
use Rattle.std.specs.Prelude.{slice_get, if◌then◌else◌}
use Rattle.std.specs.List.{flat_map, filter}
use Rattle.std.proofs.lemmas.List.{length-map}
use Rattle.std.proofs.lemmas.List.Elements.{All-nil, All-cons, All-head, All-tail, All-append, All-weaker, All-filter, All-map}
use Rattle.std.proofs.lemmas.Option.{slice_get_within}
use Rattle.bpf_insn.specs.Bytes.{AreInRange}
use Rattle.bpf_verify.specs.Validity.{Valid}
use Rattle.eth_frame.specs.Frame.{FrameData, IsFrame}
use Rattle.ch11_packet.proofs.Bodies.{few_frames}
use Rattle.rec_channel.specs.History.{Version, IsHistory}
use Rattle.rec_lane.specs.Offered.{OfferedFrame, Met, MetFrom, AllMet, frames_of, accepted, is_accepted}
use Rattle.rec_lane.specs.Pieces.{LaneSettings, has_group_version, groups, program_piece, data_piece}
use Rattle.rec_lane.specs.Pieces.{group_packets, group_pieces, last_counter_from, end_piece, channel_pieces}
use Rattle.rec_lane.proofs.Contents.{parts_whole, group_whole}
use Rattle.rec_lane.proofs.LongestParts.{Packs, group_packs}
use Rattle.ch11_packet.proofs.ChangedLists.{all_there}
use Rattle.rec_core.proofs.ListPlaces.{map_there}
use Rattle.rec_writer.specs.Recording.{RecordedChannel}
use Rattle.rec_run.specs.Jobs.{AreLaneSettings}
use Rattle.rec_theorem.specs.Recordable.{IsRecordable}
use Rattle.rec_theorem.proofs.Spelled.{IsWritable}
use Rattle.rec_theorem.proofs.JoinedLists.{All_parts, All_flat}

-- ---- what is known of each offered frame

-- the offered frame is a frame, its number and its version are small, and its program is valid and
-- in range
pub record IsKnown (history : List Version) (count : ℕ) (f : OfferedFrame) : Type 0 where
  pub framed : IsFrame f.frame
  pub below : f.number < count
  pub version_below : f.version < length history
  pub valid : Valid f.program
  pub in_range : AreInRange f.program
  pub met : Met history f

-- the program of a version in force is one of the history
program_of : (history : List Version) (f : OfferedFrame) → Met history f → (v : Version) × (slice_get history f.version ≡ Some v) × (v.program ≡ f.program)
program_of history f met = map_there (λ (v : Version). v.program) history f.version f.program met.program

-- the version in force is one of the history, and so its program is valid and in range
one_known : (history : List Version) (count offered : ℕ) (f : OfferedFrame) → IsHistory offered history → Met history f → IsFrame f.frame → f.number < count
    → IsKnown history count f
one_known history count offered f h met framed below =
    let v = program_of history f met in
    record {
      framed = framed;
      below = below;
      version_below = slice_get_within history f.version v.0 v.1;
      valid = subst Valid v.2 (all_there (λ (w : Version). Valid w.program) history f.version v.0 h.valid v.1);
      in_range = subst AreInRange v.2 (all_there (λ (w : Version). AreInRange w.program) history f.version v.0 h.in_range v.1);
      met = met;
    }

-- so of frames that are numbered on
all_known_from : (history : List Version) (offered number : ℕ) (fs : List OfferedFrame) → IsHistory offered history → MetFrom history number fs
    → All IsFrame (frames_of fs) → All (IsKnown history (number + length fs)) fs
all_known_from history offered number [] h met framed = All-nil (IsKnown history (number + 0))
all_known_from history offered number (f ∷ fs) h met framed =
    let is = met.0 in
    let long : number + 1 + length fs ≡ number + length (f ∷ fs) = omega arith in
    All-cons (IsKnown history (number + length (f ∷ fs))) f fs
    (one_known history (number + length (f ∷ fs)) offered f h met.1 (All-head IsFrame f.frame (frames_of fs) framed) (omega (arith, is)))
    (subst (λ n. All (IsKnown history n) fs) long (all_known_from history offered (number + 1) fs h met.2 (All-tail IsFrame f.frame (frames_of fs) framed)))

-- each frame that was offered to a channel that can be recorded
pub all_known : (c : RecordedChannel) (offered : List OfferedFrame) → IsRecordable c → AllMet c.history offered → frames_of offered ≡ c.frames
    → All (IsKnown c.history (length c.frames)) offered
all_known c offered is met same =
    let long : length offered ≡ length c.frames = sym (length-map offered (λ (f : OfferedFrame). f.frame)) ∙ ap length same in
    subst (λ n. All (IsKnown c.history n) offered) (let e : 0 + length offered ≡ length c.frames = omega (arith, long) in e)
    (all_known_from c.history (length c.frames) 0 offered is.history met (subst (All IsFrame) (sym same) is.framed))

-- ---- packets of frames

-- a list that is not empty has an element
pub some_long : {X : Type 0} (xs : List X) → (xs ≡ [] → ⊥) → 0 < length xs
some_long [] some = absurd (some refl)
some_long (x ∷ xs) some = omega arith

-- a packet of such frames is writable: at 30 bytes and more for each frame they are few
writable_packet : (s : LaneSettings) (frames : List FrameData) → AreLaneSettings s → Packs s.limit frames → All IsFrame frames
    → IsWritable (data_piece s frames)
writable_packet s frames is packs framed =
    let fits = packs.0 in
    let most = is.most in
    let few = few_frames frames framed in (
      record {
        in_range = framed;
        net_fits = is.net_fits;
        speed_fits = is.speed_fits;
        some = packs.1;
        few = omega (arith, fits, most, few);
        fits = omega (arith, fits, most);
      },
      is.channel_fits,
    )

writable_packets : (s : LaneSettings) (ps : List (List FrameData)) → AreLaneSettings s → All (Packs s.limit) ps
    → All (λ (p : List FrameData). All IsFrame p) ps → All IsWritable (map (data_piece s) ps)
writable_packets s [] is packs framed = All-nil IsWritable
writable_packets s (p ∷ ps) is packs framed =
    All-cons IsWritable (data_piece s p) (map (data_piece s) ps)
    (writable_packet s p is (All-head (Packs s.limit) p ps packs) (All-head (λ (q : List FrameData). All IsFrame q) p ps framed))
    (writable_packets s ps is (All-tail (Packs s.limit) p ps packs) (All-tail (λ (q : List FrameData). All IsFrame q) p ps framed))

-- accepted frames are frames
pub accepted_framed : (history : List Version) (count : ℕ) (group : List OfferedFrame) → All (IsKnown history count) group → All IsFrame (accepted group)
accepted_framed history count group known =
    All-map IsFrame (λ (f : OfferedFrame). f.frame) (filter is_accepted group)
    (All-filter is_accepted (λ (f : OfferedFrame). IsFrame f.frame) group
    (All-weaker (IsKnown history count) (λ (f : OfferedFrame). IsFrame f.frame) (λ f is. is.framed) group known))

-- ---- the pieces of a group, and of a channel

module _ (s : LaneSettings) (history : List Version) (count : ℕ) (is : AreLaneSettings s) (few : count < 2 ^ 64) (versions : length history ≤ 1024) where
  -- a group's program is writable: it has at most 4,096 instructions
  writable_program : (group : List OfferedFrame) → All (IsKnown history count) group → All IsWritable (program_piece s group)
  writable_program [] known = All-nil IsWritable
  writable_program (f ∷ fs) known =
      let first = All-head (IsKnown history count) f fs known in
      let below = first.below in
      let version_below = first.version_below in
      let fits = first.valid.fits in
      All-cons IsWritable _ [] (
        record {
          named = is.named;
          channel_fits = is.channel_fits;
          version_fits = omega (arith, version_below, versions);
          first_fits = omega (arith, below, few);
          few = omega (arith, fits);
          insns_fit = first.in_range;
        },
        first.framed.counter,
      ) (All-nil IsWritable)

  -- so are all pieces of a group
  writable_group : (group : List OfferedFrame) → All (IsKnown history count) group → All IsWritable (group_pieces s group)
  writable_group group known =
      let framed = accepted_framed history count group known in
      let ps = group_packets s group in
      All-append IsWritable (program_piece s group) (map (data_piece s) ps)
      (writable_program group known)
      (writable_packets s ps is
      (group_packs s group is.least framed)
      (All_parts IsFrame ps (subst (All IsFrame) (sym (group_whole s group)) framed)))

  -- the last counter is one of a frame, or 0
  last_counter_fits : (counter : ℕ) (offered : List OfferedFrame) → counter < 2 ^ 48 → All (IsKnown history count) offered
      → last_counter_from counter offered < 2 ^ 48
  last_counter_fits counter [] fits known = fits
  last_counter_fits counter (f ∷ fs) fits known =
      last_counter_fits f.frame.counter fs (All-head (IsKnown history count) f fs known).framed.counter (All-tail (IsKnown history count) f fs known)

  -- the end is writable
  writable_end : (offered : List OfferedFrame) → length offered ≤ count → length (accepted offered) ≤ length offered → All (IsKnown history count) offered
      → IsWritable (end_piece s offered)
  writable_end offered long kept known = (
    record {
      named = is.named;
      channel_fits = is.channel_fits;
      offered_fits = omega (arith, long, few);
      kept_fits = omega (arith, long, kept, few);
    },
    last_counter_fits 0 offered (omega arith) known,
  )

  -- and so are all pieces
  writable_pieces : (offered : List OfferedFrame) → length offered ≤ count → length (accepted offered) ≤ length offered → All (IsKnown history count) offered
      → All IsWritable (channel_pieces s offered)
  writable_pieces offered long kept known =
      All-append IsWritable (flat_map (group_pieces s) (groups offered)) (end_piece s offered ∷ [])
      (All_flat IsWritable (group_pieces s) (groups offered)
      (All-weaker (λ (g : List OfferedFrame). All (IsKnown history count) g) (λ (g : List OfferedFrame). All IsWritable (group_pieces s g)) writable_group
      (groups offered)
      (All_parts (IsKnown history count) (groups offered) (subst (All (IsKnown history count)) (sym (parts_whole has_group_version offered)) known))))
      (All-cons IsWritable (end_piece s offered) [] (writable_end offered long kept known) (All-nil IsWritable))

-- no more frames are accepted than are offered
pub kept_of : (offered : List OfferedFrame) → length (accepted offered) ≤ length offered
kept_of [] = omega arith
kept_of (f ∷ fs) =
    let others = kept_of fs in
    elim (is_accepted f) as (λ (b : Bool). length (frames_of (filter is_accepted fs)) ≤ length fs
    → length (frames_of (if b then f ∷ filter is_accepted fs else filter is_accepted fs)) ≤ length (f ∷ fs)) [
      | true ↦ (λ e. omega (arith, e))
      | false ↦ (λ e. omega (arith, e))
    ] others

-- the pieces of a channel that can be recorded are writable
pub all_writable : (c : RecordedChannel) (offered : List OfferedFrame) → IsRecordable c → AllMet c.history offered → frames_of offered ≡ c.frames
    → All IsWritable (channel_pieces c.settings offered)
all_writable c offered is met same =
    let long : length offered ≡ length c.frames = sym (length-map offered (λ (f : OfferedFrame). f.frame)) ∙ ap length same in
    writable_pieces c.settings c.history (length c.frames) is.settings is.few_frames is.few_versions offered (omega (arith, long)) (kept_of offered)
    (all_known c offered is met same)
