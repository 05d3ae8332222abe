pub mod QueueLaws
pub mod StoreLaws
pub mod QuietLaws
pub mod LentParts
