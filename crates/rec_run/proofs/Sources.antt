-- What one more answer of a source makes of what was taken from it.
use Rattle.std.proofs.Common.{ℕ, ◌+◌, ◌≡◌, List, [], ◌∷◌, ◌++◌, length, map, Option, None, Some, refl, sym, ap, ◌∙◌, arith}
use Rattle.std.proofs.lemmas.List.{append_assoc, append-nil, map-append, length-append}
use Rattle.eth_frame.specs.Frame.{FrameData}
use Rattle.eth_frame.specs.Source.{Left, TimeMark, later_by, GivesFirst, GivesTime, GivesEnding}
use Rattle.rec_lane.specs.Offered.{time_added}
use Rattle.rec_run.specs.Endings.{AreFirst, AreTaken, AreTimesTaken, AreFirstTimes, AreAllTimes, TimesEndAs, marks_from}
use Rattle.rec_run.specs.declared.ending.Ending.{Ending}
use Rattle.rec_run.specs.declared.ending.Ending.TheVariants.{SourceEnd, SourceFault, Memory, CountFull, Stopped}
use Rattle.eth_frame.specs.declared.source.SourceEnding.{SourceEnding}

-- what was taken came first
pub taken_first : (before : Option Left) (frames : List FrameData) (after : Option Left) →
    AreTaken before frames after → AreFirst before frames
taken_first None frames after taken = tt
taken_first (Some l) frames None taken = absurd taken
taken_first (Some l) frames (Some rest) taken = (rest.frames, sym taken.0)

-- one frame more is taken
pub taken_next : (before : Option Left) (frames : List FrameData) (mid : Option Left) (frame : FrameData) (after : Option Left) →
    AreTaken before frames mid → GivesFirst mid (Some frame) after → AreTaken before (frames ++ frame ∷ []) after
taken_next None frames mid frame after taken gives = tt
taken_next (Some l) frames None frame after taken gives = absurd taken
taken_next (Some l) frames (Some m) frame None taken gives = absurd gives
taken_next (Some l) frames (Some m) frame (Some rest) taken gives = (
  taken.0 ∙ ap (λ (x : Left). frames ++ x.frames) gives ∙ sym (append_assoc frames (frame ∷ []) rest.frames),
  taken.1 ∙ ap (λ (x : Left). x.ending) gives,
)

-- ---- time marks

pub marks_push : (n : ℕ) (times : List (List ℕ)) (ts : List ℕ)
    → marks_from n (times ++ ts ∷ []) ≡ marks_from n times ++ marks_from (n + length times) (ts ∷ [])
marks_push n [] ts = ap (λ k. marks_from k (ts ∷ [])) (omega arith)
marks_push n (t ∷ more) ts =
    ap (λ ms. map (λ counter. record { after = n; counter = counter }) t ++ ms) (marks_push (n + 1) more ts)
    ∙ (sym (append_assoc (map (λ counter. record { after = n; counter = counter }) t) (marks_from (n + 1) more)
    (marks_from (n + 1 + length more) (ts ∷ [])))
    ∙ ap (λ k. marks_from n (t ∷ more) ++ marks_from k (ts ∷ [])) (omega arith))

later_twice : (n : ℕ) (marks : List TimeMark) → map (later_by n) (map (later_by 1) marks) ≡ map (later_by (n + 1)) marks
later_twice n [] = refl
later_twice n (m ∷ ms) =
    ap (λ k. let made : TimeMark = record { after = k; counter = m.counter } in made ∷ map (later_by n) (map (later_by 1) ms)) (omega arith)
    ∙ ap (λ ks. later_by (n + 1) m ∷ ks) (later_twice n ms)

marks_added : (n : ℕ) (t : List ℕ) (ts : List (List ℕ)) (counter : ℕ)
    → marks_from n (time_added (t ∷ ts) counter) ≡ marks_from n (t ∷ ts) ++ record { after = n + length ts; counter = counter } ∷ []
marks_added n t [] counter =
    append-nil (map (λ c. record { after = n; counter = c }) (t ++ counter ∷ []))
    ∙ (map-append (λ c. record { after = n; counter = c }) t (counter ∷ [])
    ∙ (ap (λ ms. ms ++ record { after = n; counter = counter } ∷ []) (sym (append-nil (map (λ c. record { after = n; counter = c }) t)))
    ∙ ap (λ k. marks_from n (t ∷ []) ++ record { after = k; counter = counter } ∷ []) (omega arith)))
marks_added n t (u ∷ us) counter =
    ap (λ ms. map (λ c. record { after = n; counter = c }) t ++ ms) (marks_added (n + 1) u us counter)
    ∙ (sym (append_assoc (map (λ c. record { after = n; counter = c }) t) (marks_from (n + 1) (u ∷ us))
    (record { after = n + 1 + length us; counter = counter } ∷ []))
    ∙ ap (λ k. marks_from n (t ∷ u ∷ us) ++ record { after = k; counter = counter } ∷ []) (omega arith))

added_length : (times : List (List ℕ)) (counter : ℕ) → length (time_added times counter) ≡ length times
added_length [] counter = refl
added_length (t ∷ []) counter = refl
added_length (t ∷ u ∷ us) counter = let rest = added_length (u ∷ us) counter in omega (arith, rest)

-- what was taken came first
pub times_first : (before : Option Left) (times : List (List ℕ)) (after : Option Left) → AreTimesTaken before times after → AreFirstTimes before times
times_first None times after taken = tt
times_first (Some l) times None taken = absurd taken
times_first (Some l) times (Some rest) taken = (taken.0, (map (later_by (length times)) rest.times, sym taken.1))

-- where the source is at its end then, that is all
pub times_all : (before : Option Left) (times : List (List ℕ)) (mid : Option Left) (ending : SourceEnding) (after : Option Left)
    → AreTimesTaken before times mid → GivesEnding mid ending after → AreAllTimes before times
times_all None times mid ending after taken gives = tt
times_all (Some l) times None ending after taken gives = absurd taken
times_all (Some l) times (Some m) ending after taken gives = (
  taken.0,
  taken.1
      ∙ (ap (λ (x : Left). marks_from 0 (taken.0 ∷ times) ++ map (later_by (length times)) x.times) gives.0
      ∙ append-nil (marks_from 0 (taken.0 ∷ times))),
)

-- all of them are the first
pub times_begin : (ending : Ending) (before : Option Left) (times : List (List ℕ)) → TimesEndAs ending before times → AreFirstTimes before times
times_begin SourceEnd None times are = tt
times_begin SourceEnd (Some l) times are = (are.0, ([], append-nil (marks_from 0 (are.0 ∷ times)) ∙ sym are.1))
times_begin (SourceFault fault) before times are = are
times_begin Memory before times are = are
times_begin CountFull before times are = are
times_begin Stopped before times are = are

-- after a frame more
pub times_next : (before : Option Left) (times : List (List ℕ)) (mid : Option Left) (frame : FrameData) (after : Option Left)
    → AreTimesTaken before times mid → GivesFirst mid (Some frame) after → AreTimesTaken before (times ++ [] ∷ []) after
times_next None times mid frame after taken gives = tt
times_next (Some l) times None frame after taken gives = absurd taken
times_next (Some l) times (Some m) frame None taken gives = absurd gives
times_next (Some l) times (Some m) frame (Some rest) taken gives =
    let early = taken.0 in
    let n = length times in
    let long : length (times ++ [] ∷ []) ≡ n + 1 = length-append times ([] ∷ []) in (
      early,
      taken.1
          ∙ (ap (λ (x : Left). marks_from 0 (early ∷ times) ++ map (later_by n) x.times) gives
          ∙ (ap (λ ms. marks_from 0 (early ∷ times) ++ ms) (later_twice n rest.times)
          ∙ (ap (λ ms. ms ++ map (later_by (n + 1)) rest.times)
          (sym (marks_push 0 (early ∷ times) [] ∙ append-nil (marks_from 0 (early ∷ times))))
          ∙ ap (λ k. marks_from 0 (early ∷ times ++ [] ∷ []) ++ map (later_by k) rest.times) (sym long)))),
    )

-- after a time mark more
marks_then : (times : List (List ℕ)) (early : List ℕ) (counter : ℕ)
    → (first : List ℕ) × (marks_from 0 (first ∷ time_added times counter)
    ≡ marks_from 0 (early ∷ times) ++ record { after = length times; counter = counter } ∷ [])
marks_then [] early counter = (early ++ counter ∷ [], marks_added 0 early [] counter)
marks_then (t ∷ ts) early counter = (
  early,
  ap (λ ms. map (λ c. record { after = 0; counter = c }) early ++ ms) (marks_added 1 t ts counter)
      ∙ (sym (append_assoc (map (λ c. record { after = 0; counter = c }) early) (marks_from 1 (t ∷ ts))
      (record { after = 1 + length ts; counter = counter } ∷ []))
      ∙ ap (λ k. marks_from 0 (early ∷ t ∷ ts) ++ record { after = k; counter = counter } ∷ []) (omega arith)),
)

pub times_noted : (before : Option Left) (times : List (List ℕ)) (mid : Option Left) (counter : ℕ) (after : Option Left)
    → AreTimesTaken before times mid → GivesTime mid counter after → AreTimesTaken before (time_added times counter) after
times_noted None times mid counter after taken gives = tt
times_noted (Some l) times None counter after taken gives = absurd taken
times_noted (Some l) times (Some m) counter None taken gives = absurd gives
times_noted (Some l) times (Some m) counter (Some rest) taken gives =
    let n = length times in
    let made = marks_then times taken.0 counter in
    let mark : TimeMark = record { after = n; counter = counter } in (
      made.0,
      taken.1
          ∙ (ap (λ (x : Left). marks_from 0 (taken.0 ∷ times) ++ map (later_by n) x.times) gives
          ∙ (ap (λ k. let first : TimeMark = record { after = k; counter = counter } in
          marks_from 0 (taken.0 ∷ times) ++ (first ∷ map (later_by n) rest.times)) (omega arith)
          ∙ (sym (append_assoc (marks_from 0 (taken.0 ∷ times)) (mark ∷ []) (map (later_by n) rest.times))
          ∙ (ap (λ ms. ms ++ map (later_by n) rest.times) (sym made.1)
          ∙ ap (λ k. marks_from 0 (made.0 ∷ time_added times counter) ++ map (later_by k) rest.times) (sym (added_length times counter)))))),
    )

-- a time mark is no frame
pub taken_time : (before : Option Left) (frames : List FrameData) (mid : Option Left) (counter : ℕ) (after : Option Left)
    → AreTaken before frames mid → GivesTime mid counter after → AreTaken before frames after
taken_time None frames mid counter after taken gives = tt
taken_time (Some l) frames None counter after taken gives = absurd taken
taken_time (Some l) frames (Some m) counter None taken gives = absurd gives
taken_time (Some l) frames (Some m) counter (Some rest) taken gives = (
  taken.0 ∙ ap (λ (x : Left). frames ++ x.frames) gives,
  taken.1 ∙ ap (λ (x : Left). x.ending) gives,
)
