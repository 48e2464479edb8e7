pub mod SetElements
