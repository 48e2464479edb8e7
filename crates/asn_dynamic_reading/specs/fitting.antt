pub mod HeldValue
