pub mod FirstOrigins
