pub mod Stations
pub mod LastCuts
