pub mod FileProgramsMore
pub mod RunSteps
pub mod RunsStanding
pub mod MovesListed
pub mod RunBeginning
pub mod FileProgramsRise
pub mod VersionsAdded
pub mod SameInsns
