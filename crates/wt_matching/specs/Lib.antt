pub mod Import
pub mod UnfitTexts
