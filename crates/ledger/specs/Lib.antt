pub mod Ledger
