pub mod TypeRules
pub mod RuleTexts
pub mod HostTypes
pub mod Rules
