mod Levels
mod Paths
mod Printed
