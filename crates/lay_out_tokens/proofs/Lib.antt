pub mod StreamParts
mod TokenFeeds
mod Rows
