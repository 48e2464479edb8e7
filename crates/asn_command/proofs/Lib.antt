mod Delivering
mod Laid
mod Refused
mod TextsOn
mod Wholes
