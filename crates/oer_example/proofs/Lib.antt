mod Components
mod Parts
mod Renewing
mod Values
