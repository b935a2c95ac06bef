pub mod NameHash
pub mod RowPlace
pub mod ScanOrder
pub use Rattle.chains.specs.Reversed
