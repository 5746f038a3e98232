pub mod LegalLaws
pub mod PassLaws
pub mod PlaceLaws
pub mod RunLaws
