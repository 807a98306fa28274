mod ModuleTypes
mod OneIndex
mod StillHeld
mod NothingHeld
