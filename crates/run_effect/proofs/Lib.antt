pub mod Back
pub mod Lines
pub mod Cursors
pub mod Arms
pub mod AbleLaws
pub mod FlowLaws
pub mod EffectLaws
