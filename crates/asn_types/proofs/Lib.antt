pub mod TextLeaves
