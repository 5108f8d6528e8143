pub mod Border
pub mod Move
pub mod Need
pub mod OperatorRuns
