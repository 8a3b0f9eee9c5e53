pub mod RanKeeps
