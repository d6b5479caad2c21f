pub mod GateHistories
