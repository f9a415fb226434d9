mod Changed
mod Elements
mod Made
mod Standing
