mod Agreement
mod JudgedLines
mod LastCalls
mod RequestLines
mod Skipping
mod WatchedLines
