-- What the check program prints for a finding.
pub mod Names
pub mod Decimal
pub mod Line
pub mod Length
