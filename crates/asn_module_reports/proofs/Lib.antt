mod Completing
mod Replying
