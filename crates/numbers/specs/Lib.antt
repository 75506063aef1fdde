pub mod From
