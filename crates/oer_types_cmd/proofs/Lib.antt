mod Ends
mod Inputs
mod Meeting
mod Scans
