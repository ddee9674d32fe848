-- Laws of what the C functions hand back: the values left out are 0, so every promise of the library is kept.
pub mod Shown
pub mod Said
