mod Base64Complete
mod Base64One
mod Base64Sound
mod Characters
mod HexComplete
mod HexSound
mod Spelling
