pub mod RuleLaws
pub mod FilledLaws
