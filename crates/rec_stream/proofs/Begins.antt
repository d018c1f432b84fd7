-- The front of a stream: its first setup record and its first time packet.
use Rattle.std.proofs.Common.{ℕ, ◌≡◌, List, [], Option, Some, ℤ, refl, sym, subst, ap, arith, append-nil}
use Rattle.ch11_clock.specs.declared.origin.Origin.{Origin}
use Rattle.ch11_clock.specs.declared.civil.CivilTime.{CivilTime}
use Rattle.ch11_clock.specs.CivilTime.{IsTimeOf}
use Rattle.ch11_file.specs.declared.setup.FileSetup.{FileSetup}
use Rattle.ch11_file.specs.declared.times.FileTimes.{FileTimes}
use Rattle.ch11_file.specs.FileEnds.{HasNoDate}
use Rattle.ch11_file.specs.FileTimes.{HasNoTime, IsFirstTime}
use Rattle.ch11_file.specs.WholeFile.{setup_text}
use Rattle.rec_stream.specs.StreamPieces.{StreamPiece}
use Rattle.rec_stream.specs.StreamBlocks.{StreamFacts, StreamState, StreamSetupGoes, SetupIsDue, StreamTimeIsNext, stream_begun, behind_setup, behind_time}
use Rattle.rec_stream.specs.StreamEnds.{StreamPast, HasNoOrigin, HasNoYear}
use Rattle.rec_stream.specs.SentStates.{StreamSent}
use Rattle.rec_stream.specs.Courses.{course_of}
use Rattle.rec_stream.specs.Sending.{HasCome, HasGone, StreamHasSent, IsFreshStream, IsWalking}

-- nothing went out behind the packets ahead
pub fresh_gone : (past : StreamPast) (least : ℕ) (left : List StreamPiece) (held : Option (List ℕ)) (sent : StreamSent)
    → IsFreshStream past least left held sent → HasGone past held sent (stream_begun least left)
fresh_gone past least left held sent fresh = record {
  blocks = [];
  go = sym fresh.begun;
  has_sent = subst (StreamHasSent past.before held sent) (sym (append-nil past.ahead)) fresh.has_sent;
  greatest = sym fresh.greatest;
}

pub no_origin : (past : StreamPast) (least : ℕ) (left : List StreamPiece) (held : Option (List ℕ)) (sent : StreamSent) (rules : List Origin)
    → IsFreshStream past least left held sent → past.facts.rules ≡ rules → HasNoTime least rules → HasNoOrigin past held
no_origin past least left held sent rules fresh same none = record {
  none = subst (λ (s : StreamState). HasNoTime s.least past.facts.rules) (sym fresh.begun)
      (subst (HasNoTime least) (sym same) none);
  numbered = fresh.has_sent.numbered;
  grows = fresh.has_sent.grows;
}

-- a time packet that goes out next has no date
pub no_year : (past : StreamPast) (held : Option (List ℕ)) (sent : StreamSent) (state : StreamState) (moment : ℤ) (tick : ℕ)
    → HasGone past held sent state → StreamTimeIsNext past.facts.rules state state.time state.left moment tick → HasNoDate moment
    → HasNoYear past held
no_year past held sent state moment tick gone next none = record {
  blocks = gone.blocks;
  now = state;
  go = gone.go;
  numbered = gone.has_sent.numbered;
  grows = gone.has_sent.grows;
  moment = moment;
  tick = tick;
  is_next = next;
  no_date = none;
}

pub first_by : (facts : StreamFacts) (least : ℕ) (rules : List Origin) (moment : ℤ) (tick : ℕ) → facts.rules ≡ rules
    → IsFirstTime least rules moment tick → IsFirstTime least facts.rules moment tick
first_by facts least rules moment tick same first = subst (λ (r : List Origin). IsFirstTime least r moment tick) (sym same) first

pub first_setup : (facts : StreamFacts) (setup : FileSetup) (rules : List Origin) (least : ℕ) (left : List StreamPiece) (time : CivilTime)
    (moment : ℤ) (tick : ℕ) → facts.setup ≡ setup → facts.rules ≡ rules → IsFirstTime least rules moment tick → IsTimeOf time moment
    → StreamSetupGoes facts (stream_begun least left) (setup_text setup time) tick (behind_setup (stream_begun least left) tick)
first_setup facts setup rules least left time moment tick setup_is rules_are first tells =
    let is_first = first_by facts least rules moment tick rules_are first in
    record {
      moment = moment;
      ahead_of = is_first;
      due = tt;
      time = time;
      first = moment;
      tick = tick;
      is_first = is_first;
      tells = tells;
      text_is = ap (λ (s : FileSetup). setup_text s time) (sym setup_is);
      new_is = refl;
    }

pub no_setup_yet : (tick : ℕ) → ¬ SetupIsDue (Some tick) tick
no_setup_yet tick due = absurd (omega (arith, due))

pub begun_course : (past : StreamPast) (held : Option (List ℕ)) (sent : StreamSent) (rules : List Origin) (least : ℕ) (left : List StreamPiece)
    (time : CivilTime) (moment : ℤ) (tick : ℕ) (times : FileTimes) → past.facts.rules ≡ rules
    → IsFirstTime least rules moment tick → IsTimeOf time moment → IsWalking rules least tick times
    → HasGone past held sent (behind_time (behind_setup (stream_begun least left) tick) tick) → HasCome past held sent (course_of time times tick) left
begun_course past held sent rules least left time moment tick times rules_are first tells walking gone = record {
  now = behind_time (behind_setup (stream_begun least left) tick) tick;
  has_gone = gone;
  is_course = record {
    time = tick;
    time_is = refl;
    walking = subst (λ (r : List Origin). IsWalking r least tick times) (sym rules_are) walking;
    setup = refl;
    first = moment;
    tick = tick;
    is_first = first_by past.facts least rules moment tick rules_are first;
    tells = tells;
  };
  left_is = refl;
}
