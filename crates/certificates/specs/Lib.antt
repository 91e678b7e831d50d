pub mod Certificate
pub mod Judging
