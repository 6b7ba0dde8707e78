mod WordLaws
mod TellingLaws
mod ValueLaws
mod KeyLaws
mod EffectLaws
mod ExpiryLaws
mod StoreLaws
mod RunLaws
mod StatementLaws
mod StepLaws
mod NeverAsks
mod StepAsks
mod LawfulTells
pub mod Worked
