mod BenchLaws
mod BoxLaws
mod TakingLaws
