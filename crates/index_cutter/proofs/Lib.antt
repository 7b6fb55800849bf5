mod Shares
mod Chunking
