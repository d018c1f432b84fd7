-- How far the times of a stream have come, as the code keeps it.
use Rattle.std.specs.Prelude.{ℕ, ◌<◌, ◌^◌, IfSome}
use Rattle.ch11_clock.specs.declared.civil.CivilTime.{CivilTime}
use Rattle.ch11_clock.specs.CivilTime.{IsCivilTime}
use Rattle.ch11_file.specs.declared.times.FileTimes.{FileTimes}

-- what the first time packet says, the time packets that are still to come, and the counter of the
-- last setup record
pub record Course : Type 0 where
  pub time : CivilTime
  pub times : FileTimes
  pub setup : ℕ

abbrev pub course_of : CivilTime → FileTimes → (setup : ℕ) → Course
course_of time times setup = record { time = time; times = times; setup = setup }

-- its counters have 48 bits, and its time is in the calendar
pub record CourseFits (course : Course) : Type 0 where
  pub next : IfSome course.times.next (λ point. point.tick < 2 ^ 48)
  pub setup : course.setup < 2 ^ 48
  pub time : IsCivilTime course.time
