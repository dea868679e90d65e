mod PlaceLaws
mod ThingLaws
mod SomeLaws
