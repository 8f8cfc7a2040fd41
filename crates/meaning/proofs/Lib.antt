mod Scaled
mod Fields
mod Above
mod Sensed
mod Instants
