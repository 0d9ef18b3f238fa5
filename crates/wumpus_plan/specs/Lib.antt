-- the lines by which events are told
pub mod Lines
