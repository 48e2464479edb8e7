pub mod WholeSeconds
