pub mod ReadBack
