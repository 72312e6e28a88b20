pub mod Forwarding
