pub mod Vouchers
pub mod Importing
pub mod Reports
pub mod Exporting
pub mod Laws
pub mod inner
