pub mod SampleSite
