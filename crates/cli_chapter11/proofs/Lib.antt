pub mod WrittenFiles
pub mod SeenSame
pub mod SetupStreamed
pub mod JoinedRecordings
pub mod RecordsInRuns
pub mod KnownRecordings
