-- A time packet goes out ahead of a piece, and then the piece.
use Rattle.std.proofs.Common.{ℕ, ◌+◌, ◌≡◌, ◌≢◌, ◌≤◌, ◌<◌, suc, List, [], ◌∷◌, ◌++◌, length, Option, Some, ℤ, refl, sym, subst, ap, ◌∙◌, arith, append_assoc}
use Rattle.std.specs.Prelude.{Bool, true, false, max, nat_lt, if◌then◌else◌}
use Rattle.std.specs.Prelude.{Result, Ok, Err, MatchResult, OnOk}
use Rattle.std.proofs.lemmas.List.{map-append}
use Rattle.std.proofs.lemmas.Bool.Decides.{nat_tests}
use Rattle.ch11_packet.specs.FramesRead.{ReadFrameData}
use Rattle.ch11_merge.specs.declared.source.Head.{Head}
use Rattle.ch11_merge.specs.declared.source.Head.TheVariants.{At, Uncounted, End}
use Rattle.ch11_merge.specs.Merging.{FilePiece, TakesPart, frames_from, head_of, head_of_piece, is_due, part_before, part_from, piece_of}
use Rattle.ch11_merge.specs.Merging.FilePiece.{OfFrames, OfRecord}
use Rattle.ch11_file.specs.declared.setup.FileSetup.{FileSetup}
use Rattle.ch11_file.specs.declared.times.FileTimes.{FileTimes}
use Rattle.ch11_file.specs.FileTimes.{IsNextTick, tick_of}
use Rattle.ch11_file.specs.WholeFile.{setup_text}
use Rattle.rec_stream.specs.declared.origin.PieceOrigin.{PieceOrigin as Comes}
use Rattle.rec_stream.specs.declared.limits.TheConstants.{SETUP_TICKS}
use Rattle.rec_stream.specs.StreamPieces.{StreamPiece, head_counter, pieces_on, stream_counter}
use Rattle.rec_stream.specs.StreamBlocks.{StreamFacts, StreamState, IsLastDue, StreamPieceGoes, StreamSetupGoes, SetupIsDue, StreamTimeIsNext}
use Rattle.rec_stream.specs.StreamBlocks.{behind_piece, behind_setup, behind_time}
use Rattle.rec_stream.specs.declared.end.StreamEnd.{StreamEnd}
use Rattle.rec_stream.specs.WholePieces.{IsOnePart}
use Rattle.rec_stream.specs.StreamEnds.{StreamPast, GoingFails}
use Rattle.rec_stream.specs.SentStates.{StreamSent}
use Rattle.rec_stream.specs.Courses.{Course, course_of}
use Rattle.rec_stream.specs.Sending.{HasCome, HasGone, IsCourse, IsReady, IsWalking, origin_piece, origin_pieces, pieces_size}
use Rattle.rec_stream.proofs.DueTimes.{none_is}

-- ---- a piece's counter behind a time packet that was due

counter_stays : (greatest tick : ℕ) (is_end : Bool) (head : Head) → tick ≤ head_counter greatest is_end head
    → head_counter (max greatest tick) is_end head ≡ head_counter greatest is_end head
counter_stays greatest tick true (At counter) due = omega (arith, due)
counter_stays greatest tick true Uncounted due = omega (arith, due)
counter_stays greatest tick true End due = omega (arith, due)
counter_stays greatest tick false (At counter) due = refl
counter_stays greatest tick false Uncounted due = omega (arith, due)
counter_stays greatest tick false End due = omega (arith, due)

-- ---- a time packet that is due

-- what is known where the last time packet that is due was found
pub record IsFound (past : StreamPast) (state : StreamState) (piece : StreamPiece) (others : List StreamPiece) (time counter : ℕ) (moment : ℤ)
    (tick : ℕ) : Type 0 where
  pub time_is : state.time ≡ Some time
  pub left_is : state.left ≡ piece ∷ others
  pub counter_is : counter ≡ stream_counter state.greatest piece
  pub due : IsLastDue past.facts.rules state.least time counter moment tick

-- it goes out next
pub found_next : (past : StreamPast) (state : StreamState) (piece : StreamPiece) (others : List StreamPiece) (time counter : ℕ) (moment : ℤ)
    (tick : ℕ) → IsFound past state piece others time counter moment tick
    → StreamTimeIsNext past.facts.rules state state.time state.left moment tick
found_next past state piece others time counter moment tick found =
    subst (λ (o : Option ℕ). StreamTimeIsNext past.facts.rules state o state.left moment tick) (sym found.time_is)
    (subst (λ (l : List StreamPiece). StreamTimeIsNext past.facts.rules state (Some time) l moment tick) (sym found.left_is)
    (subst (λ n. IsLastDue past.facts.rules state.least time n moment tick) found.counter_is found.due))

-- also behind a setup record
pub found_behind : (past : StreamPast) (state : StreamState) (piece : StreamPiece) (others : List StreamPiece) (time counter : ℕ) (moment : ℤ)
    (tick : ℕ) → IsFound past state piece others time counter moment tick
    → IsFound past (behind_setup state tick) piece others time counter moment tick
found_behind past state piece others time counter moment tick found = record {
  time_is = found.time_is;
  left_is = found.left_is;
  counter_is = found.counter_is
      ∙ sym (counter_stays state.greatest tick piece.is_end (head_of_piece piece.piece) (subst (λ n. tick ≤ n) found.counter_is found.due.due));
  due = found.due;
}

pub found_setup : (past : StreamPast) (state : StreamState) (course : Course) (setup : FileSetup) (piece : StreamPiece) (others : List StreamPiece)
    (time counter : ℕ) (moment : ℤ) (tick : ℕ) → past.facts.setup ≡ setup → IsCourse past.facts course state
    → IsFound past state piece others time counter moment tick → SetupIsDue (Some course.setup) tick
    → StreamSetupGoes past.facts state (setup_text setup course.time) tick (behind_setup state tick)
found_setup past state course setup piece others time counter moment tick same is found due = record {
  moment = moment;
  ahead_of = found_next past state piece others time counter moment tick found;
  due = subst (λ (o : Option ℕ). SetupIsDue o tick) (sym is.setup) due;
  time = course.time;
  first = is.first;
  tick = is.tick;
  is_first = is.is_first;
  tells = is.tells;
  text_is = ap (λ (s : FileSetup). setup_text s course.time) (sym same);
  new_is = refl;
}

pub ready_behind : (past : StreamPast) (held : Option (List ℕ)) (sent : StreamSent) (state : StreamState) (old : Course) (times : FileTimes)
    (setup : ℕ) (piece : StreamPiece) (others : List StreamPiece) (time counter : ℕ) (moment : ℤ) (tick : ℕ)
    → IsFound past state piece others time counter moment tick → IsCourse past.facts old state → state.setup ≡ Some setup
    → IsWalking past.facts.rules state.least tick times → counter < tick_of times.next
    → HasGone past held sent (behind_time state tick)
    → IsReady past held sent (course_of old.time times setup) piece others counter
ready_behind past held sent state old times setup piece others time counter moment tick found is setup_is walking early gone = record {
  now = behind_time state tick;
  has_gone = gone;
  is_course = record {
    time = tick;
    time_is = refl;
    walking = walking;
    setup = setup_is;
    first = is.first;
    tick = is.tick;
    is_first = is.is_first;
    tells = is.tells;
  };
  left_is = found.left_is;
  counter_is = found.counter_is
      ∙ sym (counter_stays state.greatest tick piece.is_end (head_of_piece piece.piece) (subst (λ n. tick ≤ n) found.counter_is found.due.due))
      ∙ ap (λ n. stream_counter n piece) gone.greatest;
  early = early;
}

-- where none is due
pub ready_at_once : (past : StreamPast) (held : Option (List ℕ)) (sent : StreamSent) (old : Course) (times : FileTimes) (piece : StreamPiece)
    (others : List StreamPiece) (counter : ℕ) → times ≡ old.times → HasCome past held sent old (piece ∷ others)
    → counter ≡ stream_counter sent.greatest piece → counter < tick_of times.next
    → IsReady past held sent (course_of old.time times old.setup) piece others counter
ready_at_once past held sent old times piece others counter same come counted early = record {
  now = come.now;
  has_gone = come.has_gone;
  is_course = subst (λ (t : FileTimes). IsCourse past.facts (course_of old.time t old.setup) come.now) (sym same) come.is_course;
  left_is = come.left_is;
  counter_is = counted;
  early = early;
}

-- ---- the piece

pub ready_goes : (past : StreamPast) (held : Option (List ℕ)) (sent : StreamSent) (course : Course) (piece : StreamPiece) (others : List StreamPiece)
    (counter tick : ℕ) (taken : FilePiece) (ready : IsReady past held sent course piece others counter) → tick ≡ tick_of course.times.next
    → taken ≡ part_before tick piece.piece
    → StreamPieceGoes past.facts ready.now piece.channel taken counter
    (behind_piece ready.now counter (pieces_on piece (part_from tick piece.piece) ++ others))
ready_goes past held sent course piece others counter tick taken ready same is =
    let course_is = ready.is_course in
    record {
      first = piece;
      others = others;
      left_is = ready.left_is;
      time = course_is.time;
      time_is = course_is.time_is;
      counter_is = ready.counter_is ∙ ap (λ n. stream_counter n piece) (sym ready.has_gone.greatest);
      none_due = none_is past.facts.rules ready.now.least course_is.time counter course.times course_is.walking ready.early;
      next = tick;
      follows = subst (λ n. IsNextTick ready.now.least past.facts.rules course_is.time n) (sym same) course_is.walking.follows;
      channel_is = refl;
      piece_is = is;
      new_is = refl;
    }

pub come_behind : (past : StreamPast) (held now : Option (List ℕ)) (sent new : StreamSent) (course : Course) (piece : StreamPiece)
    (others left : List StreamPiece) (counter : ℕ) (ready : IsReady past held sent course piece others counter)
    → HasGone past now new (behind_piece ready.now counter left) → HasCome past now new course left
come_behind past held now sent new course piece others left counter ready gone = record {
  now = behind_piece ready.now counter left;
  has_gone = gone;
  is_course = record {
    time = ready.is_course.time;
    time_is = ready.is_course.time_is;
    walking = ready.is_course.walking;
    setup = ready.is_course.setup;
    first = ready.is_course.first;
    tick = ready.is_course.tick;
    is_first = ready.is_course.is_first;
    tells = ready.is_course.tells;
  };
  left_is = refl;
}

-- ---- what is left of a packet of frames

pub left_on : (origin : Comes) (part pieces new : List FilePiece) (others : List StreamPiece) → new ≡ part ++ pieces
    → origin_pieces origin part ++ (origin_pieces origin pieces ++ others) ≡ origin_pieces origin new ++ others
left_on origin part pieces new others is =
    sym (append_assoc (origin_pieces origin part) (origin_pieces origin pieces) others)
    ∙ ap (λ l. l ++ others) (sym (map-append (origin_piece origin) part pieces)) ∙ ap (λ l. origin_pieces origin l ++ others) (sym is)

rest_fewer : (t : Bool) (f : ReadFrameData) (fs rest : List ReadFrameData) → length rest ≤ length fs
    → length (if t then rest else f ∷ fs) ≤ suc (length fs)
rest_fewer true f fs rest less = omega (arith, less)
rest_fewer false f fs rest less = omega arith

fewer_frames : (tick : ℕ) (frames : List ReadFrameData) → length (frames_from tick frames) ≤ length frames
fewer_frames tick [] = omega arith
fewer_frames tick (f ∷ fs) = rest_fewer (nat_lt f.counter tick) f fs (frames_from tick fs) (fewer_frames tick fs)

size_of_rest : (place : ℕ) (frames : List ReadFrameData) → pieces_size (piece_of place frames) ≤ suc (length frames)
size_of_rest place [] = omega arith
size_of_rest place (f ∷ fs) = omega arith

size-append : (a b : List FilePiece) → pieces_size (a ++ b) ≡ pieces_size a + pieces_size b
size-append [] b = omega arith
size-append (p ∷ ps) b = let rest = size-append ps b in omega (arith, rest)

part_smaller : (tick : ℕ) (piece : FilePiece) (pieces : List FilePiece) → is_due tick (head_of (piece ∷ pieces)) ≡ false
    → pieces_size (part_from tick piece) < pieces_size (piece ∷ [])
part_smaller tick (OfRecord place counter body) pieces early = omega arith
part_smaller tick (OfFrames place []) pieces early = omega arith
part_smaller tick (OfFrames place (f ∷ fs)) pieces early =
    let lt : nat_lt f.counter tick ≡ true = grind (arith, nat_tests, early) in
    let same : part_from tick (OfFrames place (f ∷ fs)) ≡ piece_of place (frames_from tick fs) =
    ap (λ t. piece_of place (if t then frames_from tick fs else f ∷ fs)) lt in
    let size : pieces_size (part_from tick (OfFrames place (f ∷ fs))) ≡ pieces_size (piece_of place (frames_from tick fs)) = ap pieces_size same in
    omega (arith, size, size_of_rest place (frames_from tick fs), fewer_frames tick fs)

pub takes_smaller : (tick : ℕ) (old new : List FilePiece) (taken : FilePiece) → is_due tick (head_of old) ≡ false → TakesPart tick old taken new
    → pieces_size new < pieces_size old
takes_smaller tick [] new taken early takes = absurd takes
takes_smaller tick (p ∷ ps) new taken early takes =
    let size : pieces_size new ≡ pieces_size (part_from tick p) + pieces_size ps = ap pieces_size takes.1 ∙ size-append (part_from tick p) ps in
    let smaller = part_smaller tick p ps early in
    omega (arith, size, smaller)

-- ---- a piece goes out

-- a piece goes out up to a tick, and this stays on the way
pub piece_out : (result : Result (Unit {0}) StreamEnd) (past : StreamPast) (held now : Option (List ℕ)) (sent new : StreamSent) (course : Course)
    (piece : StreamPiece) (others left : List StreamPiece) (counter tick : ℕ) (taken : FilePiece)
    (ready : IsReady past held sent course piece others counter) → tick ≡ tick_of course.times.next → taken ≡ part_before tick piece.piece
    → pieces_on piece (part_from tick piece.piece) ++ others ≡ left
    → ((old next : StreamState) → HasGone past held sent old → StreamPieceGoes past.facts old piece.channel taken counter next
    → MatchResult result (λ _. HasGone past now new next) (GoingFails past now))
    → MatchResult result (λ _. HasCome past now new course left) (GoingFails past now)
piece_out (Ok u) past held now sent new course piece others left counter tick taken ready same is left_is puts =
    subst (HasCome past now new course) left_is
    (come_behind past held now sent new course piece others (pieces_on piece (part_from tick piece.piece) ++ others) counter ready
    (puts ready.now (behind_piece ready.now counter (pieces_on piece (part_from tick piece.piece) ++ others)) ready.has_gone
    (ready_goes past held sent course piece others counter tick taken ready same is)))
piece_out (Err end) past held now sent new course piece others left counter tick taken ready same is left_is puts =
    puts ready.now (behind_piece ready.now counter (pieces_on piece (part_from tick piece.piece) ++ others)) ready.has_gone
    (ready_goes past held sent course piece others counter tick taken ready same is)

-- a record, whole
pub record_out : (result : Result (Unit {0}) StreamEnd) (past : StreamPast) (held now : Option (List ℕ)) (sent new : StreamSent) (course : Course)
    (origin : Comes) (piece : FilePiece) (others : List StreamPiece) (counter : ℕ) → IsOnePart piece
    → (ready : IsReady past held sent course (origin_piece origin piece) others counter)
    → ((old next : StreamState) → HasGone past held sent old → StreamPieceGoes past.facts old origin.channel piece counter next
    → MatchResult result (λ _. HasGone past now new next) (GoingFails past now))
    → MatchResult result (λ _. HasCome past now new course others) (GoingFails past now)
record_out result past held now sent new course origin piece others counter whole ready puts =
    let tick = tick_of course.times.next in
    piece_out result past held now sent new course (origin_piece origin piece) others others counter tick piece ready refl (sym (whole tick).0)
    (ap (λ l. pieces_on (origin_piece origin piece) l ++ others) (whole tick).1) puts

-- the next piece of a packet of frames
pub next_out : (result : Result (Unit {0}) StreamEnd) (past : StreamPast) (held now : Option (List ℕ)) (sent new : StreamSent) (course : Course)
    (origin : Comes) (old frames : List FilePiece) (others : List StreamPiece) (counter tick : ℕ) (taken : FilePiece)
    → ((piece : FilePiece) (pieces : List FilePiece) → old ≡ piece ∷ pieces
    → IsReady past held sent course (origin_piece origin piece) (origin_pieces origin pieces ++ others) counter)
    → tick ≡ max (tick_of course.times.next) (counter + 1) → TakesPart tick old taken frames
    → ((before next : StreamState) → HasGone past held sent before → StreamPieceGoes past.facts before origin.channel taken counter next
    → MatchResult result (λ _. HasGone past now new next) (GoingFails past now))
    → MatchResult result (λ _. HasCome past now new course (origin_pieces origin frames ++ others)) (GoingFails past now)
next_out result past held now sent new course origin [] frames others counter tick taken ready same takes puts = absurd takes
next_out result past held now sent new course origin (p ∷ ps) frames others counter tick taken ready same takes puts =
    let here = ready p ps refl in
    let early = here.early in
    piece_out result past held now sent new course (origin_piece origin p) (origin_pieces origin ps ++ others)
    (origin_pieces origin frames ++ others) counter tick taken here (omega (arith, same, early)) takes.0
    (left_on origin (part_from tick p) ps frames others takes.1) puts

-- a frame lies before a tick that lies behind its counter
pub early_by : (greatest tick : ℕ) (is_end : Bool) (head : Head) → head_counter greatest is_end head < tick → is_due tick head ≡ false
early_by greatest tick true (At counter) less = let after : counter < tick = omega (arith, less) in grind (arith, nat_tests, after)
early_by greatest tick false (At counter) less = grind (arith, nat_tests, less)
early_by greatest tick is_end Uncounted less = refl
early_by greatest tick is_end End less = refl

pub always_ok : {T E A : Type 0} (result : Result T E) → A → OnOk result A
always_ok (Ok value) a = a
always_ok (Err end) a = tt

pub some_case : {A : Type 0} (pieces : List FilePiece) → pieces ≢ [] → ((piece : FilePiece) (others : List FilePiece) → pieces ≡ piece ∷ others → A) → A
some_case [] some f = absurd (some refl)
some_case (p ∷ ps) some f = f p ps refl

-- ---- a time packet that is due goes out

pub course_behind_setup : (facts : StreamFacts) (course : Course) (state : StreamState) (tick : ℕ) → IsCourse facts course state
    → IsCourse facts (course_of course.time course.times tick) (behind_setup state tick)
course_behind_setup facts course state tick is = record {
  time = is.time;
  time_is = is.time_is;
  walking = is.walking;
  setup = refl;
  first = is.first;
  tick = is.tick;
  is_first = is.is_first;
  tells = is.tells;
}

pub due_out : (result : Result (Unit {0}) StreamEnd) (past : StreamPast) (now : Option (List ℕ)) (new : StreamSent) (state : StreamState)
    (old course : Course) (times : FileTimes) (piece : StreamPiece) (others : List StreamPiece) (time counter : ℕ) (moment : ℤ) (tick : ℕ)
    → IsFound past state piece others time counter moment tick → IsCourse past.facts old state → IsWalking past.facts.rules state.least tick times
    → counter < tick_of times.next → course ≡ course_of old.time times old.setup
    → MatchResult result (λ _. HasGone past now new (behind_time state tick)) (GoingFails past now)
    → MatchResult result (λ _. IsReady past now new course piece others counter) (GoingFails past now)
due_out (Ok u) past now new state old course times piece others time counter moment tick found is walking early course_is gone =
    subst (λ (k : Course). IsReady past now new k piece others counter) (sym course_is)
    (ready_behind past now new state old times old.setup piece others time counter moment tick found is is.setup walking early gone)
due_out (Err end) past now new state old course times piece others time counter moment tick found is walking early course_is gone = gone

pub not_due : (setup : Option ℕ) (last tick : ℕ) → setup ≡ Some last → tick < last + SETUP_TICKS → ¬ SetupIsDue setup tick
not_due setup last tick is less due =
    let at : last + SETUP_TICKS ≤ tick = subst (λ (o : Option ℕ). SetupIsDue o tick) is due in
    omega (arith, at, less)
