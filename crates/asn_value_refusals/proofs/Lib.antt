mod Characters
mod Excerpts
