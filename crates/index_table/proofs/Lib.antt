mod NoteFacts
mod NumberFacts
