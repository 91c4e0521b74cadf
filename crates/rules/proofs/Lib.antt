pub mod SettlementExample
