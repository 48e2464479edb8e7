pub mod NoTexts
