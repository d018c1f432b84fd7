pub mod JobsSoFar
