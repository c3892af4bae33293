mod Answering
mod Caused
