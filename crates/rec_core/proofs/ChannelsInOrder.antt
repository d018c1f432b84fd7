-- A frame more and a version more: what frames met, and the program that runs at them.
use Rattle.std.proofs.Common.{ℕ, ◌+◌, ◌≡◌, ◌≤◌, ◌<◌, inl, inr, List, [], ◌∷◌, ◌++◌, length, Option, None, Some, get_or, refl, sym, ◌∙◌, ap, subst, arith, All}
use Rattle.std.specs.Prelude.{if◌then◌else◌, ◌==◌, slice_get}
use Rattle.std.proofs.lemmas.Bool.{cases_Bool, eqb-true}
use Rattle.std.proofs.lemmas.List.{length-append}
use Rattle.std.proofs.lemmas.List.Elements.{All-append, All-cons, All-nil}
use Rattle.std.proofs.lemmas.List.Quantifiers.{all_pairs_push}
use Rattle.std.proofs.lemmas.Option.{same_Some, slice_get_within, slice_get-get_or}
use Rattle.bpf_insn.specs.declared.insn.Insn.{Insn}
use Rattle.bpf_insn.specs.Bytes.{AreInRange}
use Rattle.bpf_verify.specs.Validity.{Valid}
use Rattle.rec_channel.specs.declared.limits.TheConstants.{MAX_VERSIONS}
use Rattle.rec_channel.specs.History.{Version, IsHistory, InForce}
use Rattle.rec_channel.specs.Slots.{programs_in}
use Rattle.rec_lane.specs.Offered.{OfferedFrame, MetFrom, AllMet}
use Rattle.rec_lane.specs.Parts.{last_from}
use Rattle.rec_lane.specs.Pieces.{has_group_version, last_group}
use Rattle.rec_lane.specs.Lanes.{VersionProgram, version_of, running, MarkedFrom}
use Rattle.rec_core.specs.Openings.{SpecData, IsFilter}
use Rattle.rec_core.specs.World.{ChannelState, MeetsLast, IsInOrder, frame_taken, time_taken, program_installed, opening_channel}
use Rattle.rec_lane.proofs.Noting.{with_met, with_length}

-- ---- the program that runs

-- the version's program is that of the history
abbrev pub IsOfHistory : List Version → Option VersionProgram → Type 0
IsOfHistory history None = Unit {0}
IsOfHistory history (Some v) = slice_get (programs_in history) v.version ≡ Some v.program

group_more : (history : List Version) (group : List OfferedFrame) (f : OfferedFrame) → IsOfHistory history (version_of group)
    → slice_get (programs_in history) f.version ≡ Some f.program → IsOfHistory history (version_of (group ++ f ∷ []))
group_more history [] f m is = is
group_more history (g ∷ gs) f m is = m

last_of : (history : List Version) (number : ℕ) (group fs : List OfferedFrame) → IsOfHistory history (version_of group) → MetFrom history number fs
    → IsOfHistory history (version_of (last_from has_group_version group fs))
last_of history number group [] m met = m
last_of history number group (f ∷ fs) m met = elim (cases_Bool (has_group_version group f))
    as (λ _. IsOfHistory history (version_of (last_from has_group_version group (f ∷ fs)))) [
      | inl on ↦ rw on (last_of history (number + 1) (group ++ f ∷ []) fs (group_more history group f m met.1.program) met.2)
      | inr off ↦ rw off (last_of history (number + 1) (f ∷ []) fs met.1.program met.2)
    ]

-- the last group of frames that met what they say has the history's program
pub last_is_of_history : (history : List Version) (offered : List OfferedFrame) → AllMet history offered → IsOfHistory history (version_of (last_group offered))
last_is_of_history history offered met = last_of history 0 [] offered tt met

-- so the program that runs is that of the version
pub running_is : (history : List Version) (current : Option VersionProgram) (version : ℕ) (program : List Insn) → IsOfHistory history current
    → slice_get (programs_in history) version ≡ Some program → running current version program ≡ program
running_is history None version program m is = refl
running_is history (Some v) version program m is = elim (cases_Bool (v.version == version))
    as (λ _. (if v.version == version then v.program else program) ≡ program) [
      | inl same ↦ rw same (same_Some v.program program (sym m ∙ (ap (slice_get (programs_in history)) (eqb-true v.version version same) ∙ is)))
      | inr other ↦ rw other refl
    ]

-- ---- a frame more

pub last_in_force : (history : List Version) (offered version : ℕ) → IsHistory offered history → version + 1 ≡ length history → InForce history offered version
last_in_force history offered version h last =
    let v : Version = record { program = []; mark = 0 } in
    let within : version < length history = omega (arith, last) in
    record {
      entry = get_or history version v;
      stands = slice_get-get_or history version v within;
      begun = h.past version v within;
      last = λ other w is begun. let e = slice_get_within history other w is in omega (arith, e, last);
    }

from_append : (history : List Version) (number : ℕ) (fs gs : List OfferedFrame) → MetFrom history number fs → MetFrom history (number + length fs) gs
    → MetFrom history number (fs ++ gs)
from_append history number [] gs m n = subst (λ k. MetFrom history k gs) (omega arith) n
from_append history number (f ∷ fs) gs m n = (m.0, m.1, from_append history (number + 1) fs gs m.2 (subst (λ k. MetFrom history k gs) (omega arith) n))

history_later : (history : List Version) (count more : ℕ) → count ≤ more → IsHistory count history → IsHistory more history
history_later history count more upto h = record {
  some = h.some;
  valid = h.valid;
  in_range = h.in_range;
  first = h.first;
  rise = h.rise;
  past = λ k d within. let e = h.past k d within in omega (arith, e, upto);
}

pub in_order_taken : (c : ChannelState) (f : OfferedFrame) → length c.offered < c.max → MeetsLast c f → IsInOrder c → IsInOrder (frame_taken c f)
in_order_taken c f room meets o =
    let longer = length-append c.offered (f ∷ []) in
    let number : f.number ≡ 0 + length c.offered = let e = meets.number_is in omega (arith, e) in
    record {
      history = history_later c.history (length c.offered) (length (c.offered ++ f ∷ [])) (omega (arith, longer)) o.history;
      met = from_append c.history 0 c.offered (f ∷ []) o.met (
        number,
        record {
          in_force = subst (λ n. InForce c.history n f.version) (sym meets.number_is)
              (last_in_force c.history (length c.offered) f.version o.history meets.last);
          program = meets.program_is;
          ran = meets.ran;
        },
        tt,
      );
      within = omega (arith, longer, room);
      few = o.few;
    }

-- ---- a time mark more

pub in_order_timed : (c : ChannelState) (counter : ℕ) → IsInOrder c → IsInOrder (time_taken c counter)
in_order_timed c counter o =
    let count = with_length c.settings.span c.offered counter in
    record {
      history = subst (λ n. IsHistory n c.history) (sym count) o.history;
      met = with_met c.settings.span c.history c.offered counter o.met;
      within = (let w = o.within in omega (arith, count, w));
      few = o.few;
    }

-- ---- a version more

-- later versions leave what frames met
abbrev pub LaterLeave : Type 0
LaterLeave = (history more : List Version) (offered : List OfferedFrame) → MarkedFrom (length offered) more → AllMet history offered
    → AllMet (history ++ more) offered

all_one : {X : Type 0} (P : X → Type 0) (x : X) → P x → All P (x ∷ [])
all_one P x h = All-cons P x [] h (All-nil P)

first_of_more : (history : List Version) (v w : Version) → 0 < length history → slice_get (history ++ v ∷ []) 0 ≡ Some w → slice_get history 0 ≡ Some w
first_of_more [] v w some is = absurd (omega (arith, some))
first_of_more (x ∷ xs) v w some is = is

history_more : (history : List Version) (count : ℕ) (v : Version) → IsHistory count history → IsFilter v.program → v.mark ≡ count
    → IsHistory count (history ++ v ∷ [])
history_more history count v h filter now = record {
  some = let e = length-append history (v ∷ []) in omega (arith, e);
  valid = All-append (λ (w : Version). Valid w.program) history (v ∷ []) h.valid (all_one (λ (w : Version). Valid w.program) v filter.valid);
  in_range = All-append (λ (w : Version). AreInRange w.program) history (v ∷ []) h.in_range (all_one (λ (w : Version). AreInRange w.program) v filter.in_range);
  first = λ w is. h.first w (first_of_more history v w h.some is);
  rise = all_pairs_push (λ (x y : Version). x.mark ≤ y.mark) history v h.rise (λ k d within. let e = h.past k d within in omega (arith, e, now));
  past = All-append (λ (w : Version). w.mark ≤ count) history (v ∷ []) h.past (all_one (λ (w : Version). w.mark ≤ count) v (omega (arith, now)));
}

pub in_order_installed : LaterLeave → (c : ChannelState) (program : List Insn) → length c.history < MAX_VERSIONS → IsFilter program → IsInOrder c
    → IsInOrder (program_installed c program)
in_order_installed leave c program room filter o =
    let v : Version = record { program = program; mark = length c.offered } in
    record {
      history = history_more c.history (length c.offered) v o.history filter refl;
      met = leave c.history (v ∷ []) c.offered (all_one (λ (w : Version). length c.offered ≤ w.mark) v (omega arith)) o.met;
      within = o.within;
      few = let e = length-append c.history (v ∷ []) in omega (arith, e, room);
    }

-- ---- no frame yet

pub in_order_opening : (spec : SpecData) → IsFilter spec.program → IsInOrder (opening_channel spec)
in_order_opening spec filter =
    let v : Version = record { program = spec.program; mark = 0 } in
    record {
      history = record {
        some = omega arith;
        valid = all_one (λ (w : Version). Valid w.program) v filter.valid;
        in_range = all_one (λ (w : Version). AreInRange w.program) v filter.in_range;
        first = λ w is. ap (λ (x : Version). x.mark) (sym (same_Some v w is));
        rise = λ i j d before within. absurd (omega (arith, before, within));
        past = all_one (λ (w : Version). w.mark ≤ 0) v (omega arith);
      };
      met = tt;
      within = omega arith;
      few = omega arith;
    }
