pub mod Controls
pub mod Window
pub mod Inbound
pub mod InboundRuns
pub mod Outbound
pub mod OutboundRuns
