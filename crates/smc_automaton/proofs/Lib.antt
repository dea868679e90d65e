mod LookLaws
mod MoveLaws
mod ObjectLaws
mod SeenLaws
mod StandLaws
mod WordLaws
