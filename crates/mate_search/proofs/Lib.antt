mod MateLaws
pub mod HandedLaws
pub mod LeastLaws
mod RaceCrosses
mod RaceLaws
