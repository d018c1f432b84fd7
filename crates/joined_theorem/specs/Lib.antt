pub mod RunMoves
