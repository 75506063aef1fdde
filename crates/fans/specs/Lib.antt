pub mod InZone
