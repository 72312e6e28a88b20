pub mod CursorState
pub mod StandsFor
