pub mod FoldedLaws
