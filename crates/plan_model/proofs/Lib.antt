pub mod Quotients
pub mod WindowLaws
pub mod ActiveLaws
pub mod RefusalLaws
pub mod CoverLaws
pub mod PieceLaws
