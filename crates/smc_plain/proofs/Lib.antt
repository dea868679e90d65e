mod Sections
mod Scanned
mod ObjectTurns
mod StatTurns
mod Spread
mod QueryTurns
mod CommandTurns
