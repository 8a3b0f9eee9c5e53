pub mod NobodyLaws
