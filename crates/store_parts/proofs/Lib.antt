mod Gaps
mod Extended
