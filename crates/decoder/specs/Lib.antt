pub mod Opened
